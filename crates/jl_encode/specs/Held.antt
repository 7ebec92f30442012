-- The texts of a lookup table as the code keeps them; the codes of tables and desks.
use Rattle.std.specs.Prelude.{ℕ, Bool, List, map, refl}
use Rattle.std.specs.Coded.{Coded, code_by, coded×, coded_ℕ, coded_bool, coded_list}
use Rattle.std.specs.declared.vec.Vec.{Vec}
use Rattle.indexmap.specs.IndexSet.{IndexSet}
use Rattle.jl_encode.specs.Desks.{Texts, Desk}

abbrev pub texts_in : {A S : Type 0} → IndexSet (Vec ℕ A) S → List (List ℕ)
texts_in s = map (λ v. v.items) s.keys

abbrev pub texts_coded : Coded Texts
texts_coded =
    code_by
    (ℕ × (List (List ℕ) × (List ℕ × ℕ)))
    (coded× coded_ℕ (coded× (coded_list (coded_list coded_ℕ)) (coded× (coded_list coded_ℕ) coded_ℕ)))
    (λ t. (t.size, (t.held, (t.marks, t.last))))
    (λ p. record { size = p.0; held = p.1.0; marks = p.1.1.0; last = p.1.1.1 })
    (λ _. refl)

abbrev pub desk_coded : Coded Desk
desk_coded =
    code_by
    (Texts × (Texts × (Texts × (ℕ × (ℕ × (ℕ × Bool))))))
    (coded× texts_coded (coded× texts_coded (coded× texts_coded (coded× coded_ℕ (coded× coded_ℕ (coded× coded_ℕ coded_bool))))))
    (λ d. (d.names, (d.prefixes, (d.datatypes, (d.prefix, (d.name, (d.item, d.hidden)))))))
    (λ p. record { names = p.0; prefixes = p.1.0; datatypes = p.1.1.0; prefix = p.1.1.1.0; name = p.1.1.1.1.0; item = p.1.1.1.1.1.0; hidden = p.1.1.1.1.1.1 })
    (λ _. refl)
