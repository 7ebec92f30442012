-- Where an IRI is split into a prefix and a name: after its last slash or number sign.
use Rattle.std.specs.Prelude.{ℕ, ◌+◌, Bool, ◌==◌, ◌||◌, List, [], ◌∷◌, take, drop, if◌then◌else◌}

-- / and #
abbrev pub is_cut : ℕ → Bool
is_cut b = (b == 47) || (b == 35)

-- how many bytes the prefix has; 0 where there is neither of the two
abbrev pub prefix_len : List ℕ → ℕ
prefix_len [] = 0
prefix_len (b ∷ bs) = if prefix_len bs == 0 then (if is_cut b then 1 else 0) else prefix_len bs + 1

abbrev pub prefix_of : List ℕ → List ℕ
prefix_of text = take (prefix_len text) text

abbrev pub name_of : List ℕ → List ℕ
name_of text = drop (prefix_len text) text
