-- The made items of a number.
use Rattle.std.specs.Prelude.{ℕ, ◌+◌, ◌*◌, ◌/◌, ◌%◌, ◌==◌, List, ◌++◌, ◌≡◌, Option, Some, None, map, codes, if◌then◌else◌}
use Rattle.std.specs.List.{range_with_len}
use Rattle.std.specs.Fmt.{decimal}
use Rattle.jl_base.specs.Terms.{Tail, Value, Item}

-- a number that looks like chance, of the number of the file, the item's place and what it is for
abbrev pub mixed : ℕ → ℕ → ℕ → ℕ
mixed number i j = (number % 65536 * 31 + i * 7919 + j * 104729) % 1000003

abbrev pub numbered : List ℕ → ℕ → List ℕ
numbered text n = text ++ decimal n

abbrev pub node : ℕ → ℕ → List ℕ
node v n = numbered (codes "http://example.org/v") v ++ numbered (codes "/n") n

abbrev pub vocabulary : ℕ → List ℕ
vocabulary v = numbered (codes "http://example.org/v") v ++ codes "/"

abbrev pub namespace : ℕ → ℕ → Item
namespace number i = Item.Namespace (numbered (codes "p") (i / 1000)) (vocabulary (mixed number i 0 % 150))

-- the subject of a group
abbrev pub subject_of : ℕ → ℕ → Value
subject_of number group = Value.Iri (node (mixed number group 1 % 200) (mixed number group 2 % 9000))

-- four items in a row are a group, and have the same one
abbrev pub subject : ℕ → ℕ → Value
subject number i = subject_of number (i / 4)

abbrev pub predicate : ℕ → ℕ → Value
predicate number i = Value.Iri (numbered (codes "http://example.org/p/") (mixed number i 3 % 40))

-- a number with a datatype
abbrev pub typed : ℕ → ℕ → Value
typed number i = Value.Literal (numbered (codes "") (mixed number i 5)) (Tail.Typed (numbered (codes "http://example.org/t/") (mixed number i 7 % 40)))

-- a text with a language tag
abbrev pub tagged : ℕ → ℕ → Value
tagged number i = Value.Literal (numbered (codes "text ") (mixed number i 5)) (Tail.Lang (codes "en"))

abbrev pub object_by : ℕ → ℕ → ℕ → Value
object_by kind number i =
    if kind == 0 then Value.Iri (node (mixed number i 5 % 200) (mixed number i 6 % 9000))
    else if kind == 1 then Value.Bnode (numbered (codes "b") (mixed number i 6 % 5000))
    else if kind == 2 then typed number i else tagged number i

abbrev pub object : ℕ → ℕ → Value
object number i = object_by (mixed number i 4 % 4) number i

-- every thousandth item declares a namespace
abbrev pub made_item : ℕ → ℕ → Item
made_item number i = if i % 1000 == 0 then namespace number i else Item.Triple (subject number i) (predicate number i) (object number i)

-- the first n items of a number
abbrev pub made : ℕ → ℕ → List Item
made number n = map (made_item number) (range_with_len 0 n)

-- A triple's subject is that of the group.
abbrev pub IsOfGroup : ℕ → ℕ → Item → Type 0
IsOfGroup number group (Item.Triple s p o) = s ≡ subject_of number group
IsOfGroup number group (Item.Quad s p o g) = Unit {0}
IsOfGroup number group (Item.Namespace name iri) = Unit {0}

-- the text of a triple's subject, which is to be an IRI; of another item, any text that is asked for
abbrev pub subject_text : List ℕ → Item → Option (List ℕ)
subject_text wanted (Item.Triple (Value.Iri text) p o) = Some text
subject_text wanted (Item.Triple s p o) = None
subject_text wanted (Item.Quad s p o g) = Some wanted
subject_text wanted (Item.Namespace name iri) = Some wanted

abbrev pub group_text : ℕ → ℕ → List ℕ
group_text number group = node (mixed number group 1 % 200) (mixed number group 2 % 9000)

-- the same, as an equation
abbrev pub HasGroup : ℕ → ℕ → Item → Type 0
HasGroup number group item = subject_text (group_text number group) item ≡ Some (group_text number group)
