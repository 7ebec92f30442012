-- The made items.
use Rattle.std.specs.Prelude.{ℕ, ◌+◌, ◌*◌, ◌/◌, ◌%◌, ◌==◌, List, ◌++◌, ◌≡◌, codes, if◌then◌else◌}
use Rattle.std.specs.Fmt.{decimal}
use Rattle.jl_base.specs.Terms.{Tail, Value, Item}

-- a number that looks like chance
abbrev pub mixed : ℕ → ℕ → ℕ
mixed i j = (i * 7919 + j * 104729) % 1000003

abbrev pub numbered : List ℕ → ℕ → List ℕ
numbered text n = text ++ decimal n

abbrev pub node : ℕ → ℕ → List ℕ
node v n = numbered (codes "http://example.org/v") v ++ numbered (codes "/n") n

abbrev pub vocabulary : ℕ → List ℕ
vocabulary v = numbered (codes "http://example.org/v") v ++ codes "/"

abbrev pub namespace : ℕ → Item
namespace i = Item.Namespace (numbered (codes "p") (i / 1000)) (vocabulary (mixed i 0 % 150))

-- the subject of a group
abbrev pub subject_of : ℕ → Value
subject_of group = Value.Iri (node (mixed group 1 % 200) (mixed group 2 % 9000))

-- four items in a row are a group, and have the same one
abbrev pub subject : ℕ → Value
subject i = subject_of (i / 4)

abbrev pub predicate : ℕ → Value
predicate i = Value.Iri (numbered (codes "http://example.org/p/") (mixed i 3 % 40))

-- a number with a datatype
abbrev pub typed : ℕ → Value
typed i = Value.Literal (numbered (codes "") (mixed i 5)) (Tail.Typed (numbered (codes "http://example.org/t/") (mixed i 7 % 40)))

-- a text with a language tag
abbrev pub tagged : ℕ → Value
tagged i = Value.Literal (numbered (codes "text ") (mixed i 5)) (Tail.Lang (codes "en"))

abbrev pub object_by : ℕ → ℕ → Value
object_by kind i =
    if kind == 0 then Value.Iri (node (mixed i 5 % 200) (mixed i 6 % 9000))
    else if kind == 1 then Value.Bnode (numbered (codes "b") (mixed i 6 % 5000))
    else if kind == 2 then typed i else tagged i

abbrev pub object : ℕ → Value
object i = object_by (mixed i 4 % 4) i

-- every thousandth item declares a namespace
abbrev pub made_item : ℕ → Item
made_item i = if i % 1000 == 0 then namespace i else Item.Triple (subject i) (predicate i) (object i)

-- A triple's subject is that of the group.
abbrev pub IsOfGroup : ℕ → Item → Type 0
IsOfGroup group (Item.Triple s p o) = s ≡ subject_of group
IsOfGroup group (Item.Quad s p o g) = Unit {0}
IsOfGroup group (Item.Namespace name iri) = Unit {0}
