-- Ids, terms and demands that follow others.
use Rattle.std.proofs.Common.{◌≡◌, ℕ, ◌+◌, Bool, true, false, List, [], ◌∷◌, ◌++◌, Option, Some, None, refl, ap, sym, ◌∙◌, cond, arith}
use Rattle.jl_base.specs.declared.place.Place.{Place}
use Rattle.jl_rows.specs.declared.row.Table.{Table}
use Rattle.jl_rows.specs.Written.{Ending, Term}
use Rattle.jl_rows.specs.Values.{is_tag}
use Rattle.jl_base.specs.declared.kind.Kind.TheVariants.{BadLangtag, NoEntry}
use Rattle.jl_sym_laws.specs.RelativeIds.{Id, following, Refs, refs_following, incoming, refs_written, refs_after}
use Rattle.jl_sym_laws.specs.Symbols.{SymTerm, term_following, term_written}
use Rattle.jl_sym_laws.specs.Summaries.{Need, Demand, Summary}
use Rattle.jl_sym_laws.specs.Composing.{earlier_need, demanded, later_demands}
use Rattle.jl_sym_laws.specs.SmallSteps.{demand, tail_demands, term_demands}
use Rattle.jl_sym.specs.Asking.{moved}

pub add_zero : (n : ℕ) → n + 0 ≡ n
add_zero n = omega arith

pub following_zero : (a : Id) → following a (Id.After 0) ≡ a
following_zero (Id.Given n) = ap Id.Given (add_zero n)
following_zero (Id.After k) = ap Id.After (add_zero k)

sum_given : (n j k : ℕ) → Id.Given (n + j + k) ≡ Id.Given (n + (j + k))
sum_given n j k = let e : n + j + k ≡ n + (j + k) = omega arith in ap Id.Given e

sum_after : (n j k : ℕ) → Id.After (n + j + k) ≡ Id.After (n + (j + k))
sum_after n j k = let e : n + j + k ≡ n + (j + k) = omega arith in ap Id.After e

pub following_assoc : (a b c : Id) → following (following a b) c ≡ following a (following b c)
following_assoc a b (Id.Given n) = refl
following_assoc a (Id.Given n) (Id.After k) = refl
following_assoc (Id.Given n) (Id.After j) (Id.After k) = sum_given n j k
following_assoc (Id.After n) (Id.After j) (Id.After k) = sum_after n j k

pub refs_zero : (r : Refs) → refs_following r incoming ≡ r
refs_zero r = λ i. record { prefix = following_zero r.prefix i; name = following_zero r.name i }

pub refs_assoc : (a b c : Refs) → refs_following (refs_following a b) c ≡ refs_following a (refs_following b c)
refs_assoc a b c = λ i. record { prefix = following_assoc a.prefix b.prefix c.prefix i; name = following_assoc a.name b.name c.name i }

pub after_following : (a r : Refs) (t : Term) → refs_after t (refs_following a r) ≡ refs_following a (refs_after t r)
after_following a r Term.Unset = refl
after_following a r (Term.Iri i) = refs_assoc a r (refs_written i)
after_following a r (Term.Bnode label) = refl
after_following a r (Term.Literal lex e) = refl
after_following a r (Term.Nested x y z) =
    ap (λ (q : Refs). refs_after z (refs_after y q)) (after_following a r x)
    ∙ ap (refs_after z) (after_following a (refs_after x r) y)
    ∙ after_following a (refs_after y (refs_after x r)) z
after_following a r Term.Default = refl
after_following a r (Term.Refused k) = refl

pub term_moved : (a r : Refs) (t : Term) → term_following a (term_written r t) ≡ term_written (refs_following a r) t
term_moved a r Term.Unset = refl
term_moved a r (Term.Iri i) = ap SymTerm.Iri (sym (refs_assoc a r (refs_written i)))
term_moved a r (Term.Bnode label) = refl
term_moved a r (Term.Literal lex e) = refl
term_moved a r (Term.Nested x y z) =
    let p : term_following a (term_written (refs_after x r) y) ≡ term_written (refs_after x (refs_following a r)) y
    = term_moved a (refs_after x r) y ∙ ap (λ (q : Refs). term_written q y) (sym (after_following a r x)) in
    let q : term_following a (term_written (refs_after y (refs_after x r)) z) ≡ term_written (refs_after y (refs_after x (refs_following a r))) z
    = term_moved a (refs_after y (refs_after x r)) z ∙ ap (λ (q : Refs). term_written q z) (sym (ap (refs_after y) (after_following a r x) ∙ after_following a (refs_after x r) y)) in
    λ i. SymTerm.Nested (term_moved a r x i) (p i) (q i)
term_moved a r Term.Default = refl
term_moved a r (Term.Refused k) = refl

later_on : (a : Summary) (d : Demand) (need : Option Need) (ds es : List Demand) → demanded a.rows d need (ds ++ es) ≡ demanded a.rows d need ds ++ es
later_on a d None ds es = refl
later_on a d (Some need) ds es = refl

pub later_both : (a : Summary) (ds es : List Demand) → later_demands a (ds ++ es) ≡ later_demands a ds ++ later_demands a es
unfolding later_demands
later_both a [] es = refl
later_both a (d ∷ ds) es = ap (demanded a.rows d (earlier_need a d.need)) (later_both a ds es) ∙ later_on a d (earlier_need a d.need) (later_demands a ds) (later_demands a es)

pub moved_both : (rows : ℕ) (ds es : List Demand) → moved rows (ds ++ es) ≡ moved rows ds ++ moved rows es
moved_both rows [] es = refl
moved_both rows (d ∷ ds) es = ap (λ (xs : List Demand). record d { moment = rows } ∷ xs) (moved_both rows ds es)

one_later : (a : Summary) (d : Demand) (need : Need) → d.moment ≡ 0 → record d { moment = a.rows + d.moment; need = need } ∷ [] ≡ record d { moment = a.rows; need = need } ∷ []
one_later a d need e = let same : a.rows + d.moment ≡ a.rows = omega (arith, e) in ap (λ (n : ℕ). record d { moment = n; need = need } ∷ []) same

tag_later : (a : Summary) (place : Place) (b : Bool)
    → later_demands a (cond b [] (demand place BadLangtag Need.Never ∷ [])) ≡ moved a.rows (cond b [] (demand place BadLangtag Need.Never ∷ []))
unfolding later_demands
tag_later a place true = refl
tag_later a place false = one_later a (demand place BadLangtag Need.Never) Need.Never refl

tail_later : (a : Summary) (place : Place) (e : Ending) → later_demands a (tail_demands place e) ≡ moved a.rows (tail_demands place e)
unfolding later_demands
tail_later a place Ending.Simple = refl
tail_later a place (Ending.Lang tag) = tag_later a place (is_tag tag)
tail_later a place (Ending.Typed id) = ap (λ (n : ℕ). record { moment = n; fault = _; need = Need.Filled Table.Datatype (Id.Given id) } ∷ []) (add_zero a.rows)

-- what a term of a second run demands is what it demands after the first one's last ids
pub term_later : (a : Summary) (place : Place) (r : Refs) (t : Term) → later_demands a (term_demands place r t) ≡ moved a.rows (term_demands place (refs_following a.ids r) t)
unfolding later_demands
term_later a place r Term.Unset = ap (λ (n : ℕ). record { moment = n; fault = _; need = Need.Never } ∷ []) (add_zero a.rows)
term_later a place r (Term.Iri i) =
    let w = refs_written i in
    λ j. record { moment = add_zero a.rows j; fault = record { place = place; kind = NoEntry }; need = Need.Filled Table.Prefix (sym (following_assoc a.ids.prefix r.prefix w.prefix) j) }
    ∷ record { moment = add_zero a.rows j; fault = record { place = place; kind = NoEntry }; need = Need.Filled Table.Name (sym (following_assoc a.ids.name r.name w.name) j) } ∷ []
term_later a place r (Term.Bnode label) = refl
term_later a place r (Term.Literal lex e) = tail_later a place e
term_later a place r (Term.Nested x y z) =
    let f = refs_following a.ids r in
    let second : refs_following a.ids (refs_after x r) ≡ refs_after x f = sym (after_following a.ids r x) in
    let third : refs_following a.ids (refs_after y (refs_after x r)) ≡ refs_after y (refs_after x f)
    = sym (ap (refs_after y) (after_following a.ids r x) ∙ after_following a.ids (refs_after x r) y) in
    let b : later_demands a (term_demands place (refs_after x r) y) ≡ moved a.rows (term_demands place (refs_after x f) y)
    = term_later a place (refs_after x r) y ∙ ap (λ (q : Refs). moved a.rows (term_demands place q y)) second in
    let c : later_demands a (term_demands place (refs_after y (refs_after x r)) z) ≡ moved a.rows (term_demands place (refs_after y (refs_after x f)) z)
    = term_later a place (refs_after y (refs_after x r)) z ∙ ap (λ (q : Refs). moved a.rows (term_demands place q z)) third in
    later_both a (term_demands place r x) _
    ∙ ap (λ (ds : List Demand). later_demands a (term_demands place r x) ++ ds) (later_both a (term_demands place (refs_after x r) y) (term_demands place (refs_after y (refs_after x r)) z))
    ∙ (λ i. term_later a place r x i ++ (b i ++ c i))
    ∙ ap (λ (ds : List Demand). moved a.rows (term_demands place f x) ++ ds) (sym (moved_both a.rows (term_demands place (refs_after x f) y) (term_demands place (refs_after y (refs_after x f)) z)))
    ∙ sym (moved_both a.rows (term_demands place f x) _)
term_later a place r Term.Default = refl
term_later a place r (Term.Refused k) = ap (λ (n : ℕ). record { moment = n; fault = _; need = Need.Never } ∷ []) (add_zero a.rows)
