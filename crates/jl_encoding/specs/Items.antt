-- The rows of items behind the rows written before them.
use Rattle.std.specs.Prelude.{◌≡◌, ◌==◌, Bool, true, false, IsTrue, List, [], ◌∷◌, ◌++◌, Option, Some, None, Result, Ok}
use Rattle.std.specs.Option.{option_or}
use Rattle.std.specs.List.{AllByRecursion}
use Rattle.jl_base.specs.Results.{◌>>=◌}
use Rattle.jl_base.specs.Terms.{Tail, Value, Item}
use Rattle.jl_base.specs.declared.kind.Kind.{Kind}
use Rattle.jl_rows.specs.Written.{StreamOptions, Row}
use Rattle.jl_rows.specs.History.{History, seen_in}
use Rattle.jl_rows.specs.Values.{Position, is_tag, last_term}
use Rattle.jl_rows.specs.Decoder.{is_triples, is_quads, meaning}
use Rattle.jl_encoding.specs.Slots.{Refusal, State}
use Rattle.jl_encoding.specs.Terms.{put_iri, put_at}

abbrev pub start : History → State
start H = record { entries = []; seen = seen_in H; claims = [] }

-- an item's rows, the newest first: its own row, and before it its entries
unfoldable pub item_rows : StreamOptions → History → Item → Result (List Row) Refusal
item_rows o H (Item.Triple s p ob) = do
  a ← put_at o H Position.Subject s (start H)
  b ← put_at o H Position.Predicate p a.1
  c ← put_at o H Position.Object ob b.1
  Ok (Row.Triple a.0 b.0 c.0 ∷ c.1.entries)
item_rows o H (Item.Quad s p ob g) = do
  a ← put_at o H Position.Subject s (start H)
  b ← put_at o H Position.Predicate p a.1
  c ← put_at o H Position.Object ob b.1
  d ← put_at o H Position.Graph g c.1
  Ok (Row.Quad a.0 b.0 c.0 d.0 ∷ d.1.entries)
item_rows o H (Item.Namespace name iri) = put_iri o H iri (start H) >>= λ i. Ok (Row.Namespace name (Some i.0) ∷ i.1.entries)

-- the history behind items
unfoldable pub with_items : StreamOptions → History → List Item → Result History Refusal
with_items o H [] = Ok H
with_items o H (i ∷ is) = item_rows o H i >>= λ rs. with_items o (rs ++ H) is

-- An item fits the form: triples and namespaces, or quads and namespaces.
abbrev pub Fits : StreamOptions → Item → Type 0
Fits o (Item.Triple s p ob) = IsTrue (is_triples o)
Fits o (Item.Quad s p ob g) = IsTrue (is_quads o)
Fits o (Item.Namespace name iri) = Unit {0}

-- the tags of a term have the shape of a language tag
abbrev pub HasTags : Value → Type 0
HasTags (Value.Iri t) = Unit {0}
HasTags (Value.Bnode t) = Unit {0}
HasTags (Value.Literal lex (Tail.Lang tag)) = IsTrue (is_tag tag)
HasTags (Value.Literal lex tail) = Unit {0}
HasTags (Value.Nested s p ob) = HasTags s × HasTags p × HasTags ob
HasTags Value.Default = Unit {0}

abbrev pub ItemHasTags : Item → Type 0
ItemHasTags (Item.Triple s p ob) = HasTags s × HasTags p × HasTags ob
ItemHasTags (Item.Quad s p ob g) = HasTags s × HasTags p × HasTags ob × HasTags g
ItemHasTags (Item.Namespace name iri) = Unit {0}

-- what a history states, from its first row on, or the first fault of a row
unfoldable pub stated_by : StreamOptions → History → Result (List Item) Kind
stated_by o [] = Ok []
stated_by o (r ∷ H) = stated_by o H >>= λ xs. meaning o r H >>= λ ys. Ok (xs ++ ys)

-- options under the strict profile, or not
abbrev pub under : Bool → StreamOptions → StreamOptions
under strict o = record o { strict = strict }

-- With these options the strict profile refuses no term and no namespace.
pub record AllowsAll (o : StreamOptions) : Type 0 where
  pub generalized : o.generalized ≡ true
  pub star : o.star ≡ true
  pub later : (o.version == 1) ≡ false

-- The rows of items state these items, and no fault: also under the strict profile, where the options allow all.
abbrev pub ItemsAreStated : Type 0
ItemsAreStated = (strict : Bool) (o : StreamOptions) (H K : History) (xs is : List Item) → (strict ≡ true → AllowsAll o) → AllByRecursion (Fits o) is → AllByRecursion ItemHasTags is → stated_by (under strict o) H ≡ Ok xs → with_items o H is ≡ Ok K
    → stated_by (under strict o) K ≡ Ok (xs ++ is)

-- the term of a statement at a position
abbrev pub term_of : Position → Item → Option Value
term_of Position.Subject (Item.Triple s p ob) = Some s
term_of Position.Predicate (Item.Triple s p ob) = Some p
term_of Position.Object (Item.Triple s p ob) = Some ob
term_of Position.Subject (Item.Quad s p ob g) = Some s
term_of Position.Predicate (Item.Quad s p ob g) = Some p
term_of Position.Object (Item.Quad s p ob g) = Some ob
term_of Position.Graph (Item.Quad s p ob g) = Some g
term_of _ _ = None

-- Behind an item's rows a statement's terms are the last ones at their positions; a namespace changes none. So the term
-- that the next statement repeats is the previous statement's.
abbrev pub LastTermsAreTheItems : Type 0
LastTermsAreTheItems = (o : StreamOptions) (H : History) (i : Item) (rs : List Row) (x : Position) → ItemHasTags i → item_rows o H i ≡ Ok rs → last_term x (rs ++ H) ≡ option_or (term_of x i) (last_term x H)
