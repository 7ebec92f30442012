-- A row as small steps, of which each does one thing to a state, and the summary of each.
use Rattle.std.specs.Prelude.{ℕ, ◌==◌, ◌&&◌, List, [], ◌∷◌, ◌++◌, Some, None, is_some, Result, Ok, Err, if◌then◌else◌}
use Rattle.jl_base.specs.Results.{◌>>=◌, refuse_if, some_or}
use Rattle.jl_base.specs.Terms.{Value}
use Rattle.jl_base.specs.declared.kind.Kind.{Kind}
use Rattle.jl_base.specs.declared.kind.Kind.TheVariants.{OptionsDiffer, WrongRow, BadEntry, NoEntry, NoTerm, NoGraph, GraphOpen, BadLangtag, EarlyNamespace}
use Rattle.jl_base.specs.declared.place.Place.{Place}
use Rattle.jl_rows.specs.declared.row.Table.{Table}
use Rattle.jl_rows.specs.Written.{Ids, Ending, Term, StreamOptions, Row}
use Rattle.jl_rows.specs.Values.{Position, is_tag}
use Rattle.jl_rows.specs.Decoder.{is_same, is_graphs, is_wrong_row, read_under}
use Rattle.jl_state.specs.States.{State, entry_of, term_of, slots_in}
use Rattle.jl_state.specs.Steps.{ids_after, text_at, looked, placed, id_after, entry_step}
use Rattle.jl_sym_laws.specs.RelativeIds.{Id, Refs, incoming, refs_following, refs_written, refs_after, entry_written}
use Rattle.jl_sym_laws.specs.Symbols.{term_written}
use Rattle.jl_sym_laws.specs.Summaries.{Kept, Need, Demand, Left, Summary, unit}
use Rattle.jl_sym_laws.specs.Composing.{composed}

pub data Small : Type 0 where
  -- an entry is a whole row
  Entry : Table → ℕ → List ℕ → Small
  -- a term at a position of a statement; an unset one is the last one there
  Places : Position → Term → Small
  -- an IRI whose ids become the last ones
  Reads : Ids → Small
  -- a triple in a file of graphs stands inside one
  IsInGraph : Small
  Opens : Term → Small
  Closes : Small
  Refuses : Kind → Small
  -- the end of a row that is no entry
  Ends : Small

-- the checks of a row whose kind the file may have
abbrev pub smalls_of : StreamOptions → Row → List Small
smalls_of o (Row.Options p) = if is_same o p then Small.Ends ∷ [] else Small.Refuses OptionsDiffer ∷ []
smalls_of o (Row.Entry t id text) = Small.Entry t id text ∷ []
smalls_of o Row.GraphEnd = Small.Closes ∷ Small.Ends ∷ []
smalls_of o (Row.GraphStart g) = Small.Opens g ∷ Small.Ends ∷ []
smalls_of o (Row.Namespace name None) = if o.strict && (o.version == 1) then Small.Refuses EarlyNamespace ∷ [] else Small.Refuses NoTerm ∷ []
smalls_of o (Row.Namespace name (Some i)) = if o.strict && (o.version == 1) then Small.Refuses EarlyNamespace ∷ [] else Small.Reads i ∷ Small.Ends ∷ []
smalls_of o (Row.Triple s p ob) =
    if is_graphs o then Small.IsInGraph ∷ Small.Places Position.Subject s ∷ Small.Places Position.Predicate p ∷ Small.Places Position.Object ob ∷ Small.Ends ∷ []
    else Small.Places Position.Subject s ∷ Small.Places Position.Predicate p ∷ Small.Places Position.Object ob ∷ Small.Ends ∷ []
smalls_of o (Row.Quad s p ob g) =
    Small.Places Position.Subject s ∷ Small.Places Position.Predicate p ∷ Small.Places Position.Object ob ∷ Small.Places Position.Graph g ∷ Small.Ends ∷ []

-- the small steps of a row
abbrev pub smalls : StreamOptions → Row → List Small
smalls o r = if is_wrong_row o r then Small.Refuses WrongRow ∷ [] else smalls_of o (read_under o r)

abbrev pub with_term : Position → Value → Ids → State → State
with_term Position.Subject v ids s = record s { ids = ids; subject = Some v }
with_term Position.Predicate v ids s = record s { ids = ids; predicate = Some v }
with_term Position.Object v ids s = record s { ids = ids; object = Some v }
with_term Position.Graph v ids s = record s { ids = ids; graph = Some v }

-- what a small step does to a state, or its fault: the decoder's own checks
abbrev pub small_step : Small → State → Result State Kind
small_step (Small.Entry t id text) s = entry_step t (id_after id (entry_of s t)) text s
small_step (Small.Places x t) s = placed (slots_in s) s.ids (term_of s x) t >>= λ v. Ok (with_term x v.0 v.1 s)
small_step (Small.Reads i) s = text_at (slots_in s) (ids_after i s.ids) >>= λ _. Ok (record s { ids = ids_after i s.ids })
small_step Small.IsInGraph s = some_or s.open_graph NoGraph >>= λ _. Ok s
small_step (Small.Opens g) s = refuse_if (is_some s.open_graph) GraphOpen >>= λ _. looked (slots_in s) s.ids g >>= λ v. Ok (record s { ids = v.1; open_graph = Some v.0 })
small_step Small.Closes s = some_or s.open_graph NoGraph >>= λ _. Ok (record s { open_graph = None })
small_step (Small.Refuses kind) s = Err kind
small_step Small.Ends s = Ok s

-- a demand of one row, before its end
abbrev pub demand : Place → Kind → Need → Demand
demand place kind need = record { moment = 0; fault = record { place = place; kind = kind }; need = need }

abbrev pub text_demands : Place → Refs → List Demand
text_demands place r = demand place NoEntry (Need.Filled Table.Prefix r.prefix) ∷ demand place NoEntry (Need.Filled Table.Name r.name) ∷ []

abbrev pub tail_demands : Place → Ending → List Demand
tail_demands place Ending.Simple = []
tail_demands place (Ending.Lang tag) = if is_tag tag then [] else demand place BadLangtag Need.Never ∷ []
tail_demands place (Ending.Typed id) = demand place NoEntry (Need.Filled Table.Datatype (Id.Given id)) ∷ []

-- what a term that must be set demands, after these last ids
abbrev pub term_demands : Place → Refs → Term → List Demand
term_demands place r Term.Unset = demand place NoTerm Need.Never ∷ []
term_demands place r (Term.Iri i) = text_demands place (refs_following r (refs_written i))
term_demands place r (Term.Bnode label) = []
term_demands place r (Term.Literal lex e) = tail_demands place e
term_demands place r (Term.Nested s p o) =
    term_demands place r s ++ (term_demands place (refs_after s r) p ++ term_demands place (refs_after p (refs_after s r)) o)
term_demands place r Term.Default = []
term_demands place r (Term.Refused kind) = demand place kind Need.Never ∷ []

abbrev pub with_entry : Table → Id → Summary → Summary
with_entry Table.Name id m = record m { name_entry = id }
with_entry Table.Prefix id m = record m { prefix_entry = id }
with_entry Table.Datatype id m = record m { datatype_entry = id }

abbrev pub with_left : Position → Left → Summary → Summary
with_left Position.Subject l m = record m { subject = l }
with_left Position.Predicate l m = record m { predicate = l }
with_left Position.Object l m = record m { object = l }
with_left Position.Graph l m = record m { graph = l }

-- a term that a row sets: what it demands, the last ids after it, and what it leaves
abbrev pub left_by : Term → Left
left_by t = Left.Set (record { moment = 0; term = term_written incoming t })

abbrev pub of_term : Place → Term → Summary
of_term place t = record unit { demands = term_demands place incoming t; ids = refs_after t incoming }

abbrev pub of_place : Place → Position → Term → Summary
of_place place x Term.Unset = record unit { demands = demand place NoTerm (Need.Has (Kept.LastAt x)) ∷ [] }
of_place place x (Term.Iri i) = with_left x (left_by (Term.Iri i)) (of_term place (Term.Iri i))
of_place place x (Term.Bnode label) = with_left x (left_by (Term.Bnode label)) (of_term place (Term.Bnode label))
of_place place x (Term.Literal lex e) = with_left x (left_by (Term.Literal lex e)) (of_term place (Term.Literal lex e))
of_place place x (Term.Nested s p o) = with_left x (left_by (Term.Nested s p o)) (of_term place (Term.Nested s p o))
of_place place x Term.Default = with_left x (left_by Term.Default) (of_term place Term.Default)
of_place place x (Term.Refused kind) = with_left x (left_by (Term.Refused kind)) (of_term place (Term.Refused kind))

abbrev pub of_entry : Place → Table → Id → List ℕ → Summary
of_entry place t id text = with_entry t id (record unit {
  rows = 1;
  writes = record { moment = 0; table = t; id = id; text = text } ∷ [];
  demands = demand place BadEntry (Need.Fits t id) ∷ [];
})

-- the summary of a small step of the row at a place
abbrev pub of_small : Place → Small → Summary
of_small place (Small.Entry t id text) = of_entry place t (entry_written id) text
of_small place (Small.Places x t) = of_place place x t
of_small place (Small.Reads i) = of_term place (Term.Iri i)
of_small place Small.IsInGraph = record unit { demands = demand place NoGraph (Need.Has Kept.OpenGraph) ∷ [] }
of_small place (Small.Opens g) =
    record (of_term place g) { demands = demand place GraphOpen (Need.Lacks Kept.OpenGraph) ∷ term_demands place incoming g; open_graph = left_by g }
of_small place Small.Closes = record unit { demands = demand place NoGraph (Need.Has Kept.OpenGraph) ∷ []; open_graph = Left.Cleared }
of_small place (Small.Refuses kind) = record unit { demands = demand place kind Need.Never ∷ [] }
of_small place Small.Ends = record unit { rows = 1 }

-- the summary of small steps, one after another
unfoldable pub of_smalls : Place → List Small → Summary
of_smalls place [] = unit
of_smalls place (x ∷ xs) = composed (of_small place x) (of_smalls place xs)
