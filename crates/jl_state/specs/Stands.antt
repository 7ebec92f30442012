-- A state stands for a history: it keeps what the rows so far say.
use Rattle.std.specs.Prelude.{◌≡◌, ℕ, ◌+◌, List, [], ◌∷◌, length, Result, Ok, Err}
use Rattle.jl_base.specs.Terms.{Item}
use Rattle.jl_base.specs.declared.kind.Kind.{Kind}
use Rattle.jl_rows.specs.declared.row.Table.{Table}
use Rattle.jl_rows.specs.Written.{Ids, StreamOptions, Row}
use Rattle.jl_rows.specs.History.{History, slot, entry_id, seen_in, prefix_id, name_id}
use Rattle.jl_rows.specs.Values.{Position, last_term, open_graph}
use Rattle.jl_rows.specs.Decoder.{size_of, meaning}
use Rattle.jl_state.specs.States.{State, table_of, entry_of, term_of, slots_in, opening}
use Rattle.jl_state.specs.Steps.{Stepped, step}

-- the ids of the newest IRI
abbrev pub last_ids : List Ids → Ids
last_ids seen = record { prefix = prefix_id seen; name = name_id seen }

pub record Stands (o : StreamOptions) (s : State) (H : History) : Type 0 where
  pub sizes : (t : Table) → length (table_of s t) ≡ size_of o t + 1
  pub slots : (t : Table) (id : ℕ) → slots_in s t id ≡ slot t id H
  pub entries : (t : Table) → entry_of s t ≡ entry_id t H
  pub ids : s.ids ≡ last_ids (seen_in H)
  pub terms : (x : Position) → term_of s x ≡ last_term x H
  pub graph : s.open_graph ≡ open_graph H

-- What a step answers, against what the definition of the row says: the same fault, or the same items and a state that
-- stands for the history with the row.
abbrev pub Answers : StreamOptions → Row → History → Stepped → Result (List Item) Kind → Type 0
Answers o r H (Ok next) said = (said ≡ Ok next.1) × Stands o next.0 (r ∷ H)
Answers o r H (Err kind) said = said ≡ Err kind

-- From each state that stands for a history, a step follows the definitions.
abbrev pub StepsFollow : Type 0
StepsFollow = (o : StreamOptions) (s : State) (H : History) (r : Row) → Stands o s H → Answers o r H (step o r s) (meaning o r H)

-- the opening state stands for no rows
abbrev pub OpeningStands : Type 0
OpeningStands = (o : StreamOptions) → Stands o (opening o) []
