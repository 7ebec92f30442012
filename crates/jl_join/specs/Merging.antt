-- The items of several files as those of one, and the items of one file as those of several.
use Rattle.std.specs.Prelude.{◌≡◌, ℕ, zero, suc, ◌+◌, ◌-◌, ◌<◌, ◌≤◌, Bool, List, [], ◌∷◌, ◌++◌, length, map, take, if◌then◌else◌}
use Rattle.jl_base.specs.Terms.{Item}
use Rattle.jl_join.specs.Relabelling.{relabelled, widened}

-- an item of file k, in a file of quads or in one of triples
abbrev pub joined_item : Bool → ℕ → Item → Item
joined_item is_quads k item = if is_quads then widened (relabelled k item) else relabelled k item

-- the items of these files, the first of which has number k
unfoldable pub merged_from : Bool → ℕ → List (List Item) → List Item
merged_from is_quads k [] = []
merged_from is_quads k (file ∷ files) = map (joined_item is_quads k) file ++ merged_from is_quads (k + 1) files

-- File by file, as items of one file; files are counted from 1.
abbrev pub merged : Bool → List (List Item) → List Item
merged is_quads files = merged_from is_quads 1 files

-- A part is begun at this place of the items, where none is left to skip, and then at each n-th: it is the n first
-- items from there, or all that are left.
unfoldable pub parts_after : ℕ → ℕ → List Item → List (List Item)
parts_after skip n [] = []
parts_after zero n (item ∷ items) = take n (item ∷ items) ∷ parts_after (n - 1) n items
parts_after (suc skip) n (item ∷ items) = parts_after skip n items

-- The items in lists of n each; the last has 1 to n. Without any item there is no list.
abbrev pub parts : List Item → ℕ → List (List Item)
parts items n = parts_after 0 n items

-- Each has n items, but for the last, which has 1 to n.
abbrev pub AreCut : ℕ → List (List Item) → Type 0
AreCut n [] = Unit {0}
AreCut n (part ∷ []) = (0 < length part) × (length part ≤ n)
AreCut n (part ∷ next ∷ more) = (length part ≡ n) × AreCut n (next ∷ more)
