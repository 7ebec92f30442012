-- A log that was played to its end, with its terms read, is what the summary does.
use Rattle.std.proofs.Common.{◌≡◌, ℕ, ◌<◌, List, Option, Some, None, Ok, Err, refl, ap, sym, subst, ◌∙◌, arith, length}
use Rattle.jl_base.specs.declared.place.Fault.{Fault}
use Rattle.jl_state.specs.States as states
use Rattle.jl_state.specs.declared.known.Known.{Known}
use Rattle.jl_state.specs.declared.state.State.{State}
use Rattle.jl_state.specs.declared.tables.Tables.{Tables}
use Rattle.jl_state.specs.Lawful.{state_seen, maybe_value, HasMaybe}
use Rattle.std.proofs.lemmas.List.{length-map}
use Rattle.jl_base.specs.Spans.{IsInside}
use Rattle.jl_rows.specs.declared.options.Options.{Options}
use Rattle.jl_state.specs.Lawful as states_lawful
use Rattle.jl_state.specs.Extents.{slot_seen}
use Rattle.jl_state.specs.Seen.{tables_seen, AreTables}
use Rattle.jl_sym_laws.specs.RelativeIds.{real}
use Rattle.jl_sym_laws.specs.Summaries as sums
use Rattle.jl_state.specs.Running.{settled}
use Rattle.jl_sym_laws.specs.Acting.{unmet, left_after, state_after, act}
use Rattle.jl_apply.specs.declared.new_terms.NewTerms.{NewTerms}
use Rattle.jl_sym.specs.declared.summary.Left.{Left}
use Rattle.jl_sym.specs.declared.summary.Left.TheVariants as lefts
use Rattle.jl_sym.specs.declared.summary.Summary.{Summary}
use Rattle.jl_sym.specs.Seen.{id_seen, left_seen, summary_seen}
use Rattle.jl_rows.specs.Written.{StreamOptions}
use Rattle.jl_sym_laws.specs.Staying.{IsSettled}
use Rattle.jl_apply.specs.Playing.{IsReadBefore, IsDueBy, KeepsTables}
use Rattle.jl_apply.specs.Applying.{HasNewTerms, Halts, Plays, put_left}
use Rattle.jl_apply.specs.declared.acting.Halt.{Halt}
use Rattle.jl_apply.specs.declared.acting.Halt.TheVariants as halts

left_is : (bytes : List ℕ) (s : states.State) (ws : List sums.Written) (from : ℕ) (l : Left) (old new : Option Known) → IsDueBy from (left_seen bytes l) None
    → IsReadBefore s ws from (left_seen bytes l) (maybe_value bytes new) → left_after s ws (left_seen bytes l) (maybe_value bytes old) ≡ maybe_value bytes (put_left l old new)
left_is bytes s ws from lefts.Incoming old new due read = refl
left_is bytes s ws from lefts.Cleared old new due read = refl
left_is bytes s ws from (lefts.Set moment ids term) old new due read = sym (read due)

pub put_has : (bytes : List ℕ) (l : Left) (old new : Option Known) → HasMaybe bytes old → HasMaybe bytes new → HasMaybe bytes (put_left l old new)
put_has bytes lefts.Incoming old new h k = h
put_has bytes lefts.Cleared old new h k = tt
put_has bytes (lefts.Set moment ids term) old new h k = k

-- the state as the code leaves it
pub record IsPut (m : Summary) (old : State) (x : Tables) (terms : NewTerms) (new : State) : Type 0 where
  pub tables : new.tables ≡ x
  pub name_entry : new.name_entry ≡ real (id_seen m.name_entry) old.name_entry
  pub prefix_entry : new.prefix_entry ≡ real (id_seen m.prefix_entry) old.prefix_entry
  pub datatype_entry : new.datatype_entry ≡ real (id_seen m.datatype_entry) old.datatype_entry
  pub prefix : new.last.prefix ≡ real (id_seen m.ids.prefix) old.last.prefix
  pub name : new.last.name ≡ real (id_seen m.ids.name) old.last.name
  pub subject : new.subject ≡ put_left m.subject old.subject terms.subject
  pub predicate : new.predicate ≡ put_left m.predicate old.predicate terms.predicate
  pub object : new.object ≡ put_left m.object old.object terms.object
  pub graph : new.graph ≡ put_left m.graph old.graph terms.graph
  pub open_graph : new.open_graph ≡ put_left m.open_graph old.open_graph terms.open_graph

pub acts : (bytes : List ℕ) (m : Summary) (old new : State) (x : Tables) (terms : NewTerms) → Plays bytes (state_seen bytes old) (summary_seen bytes m) x (Ok terms) → IsPut m old x terms new
    → act (summary_seen bytes m) (state_seen bytes old) ≡ Ok (state_seen bytes new)
acts bytes m old new x terms p put =
    let s = state_seen bytes old in
    let sum = summary_seen bytes m in
    let from = p.2.0 in
    let due = p.2.1 in
    let read = p.2.2 in
    let states : state_after sum s ≡ state_seen bytes new = λ i. record {
      tables = (p.1 ∙ ap (tables_seen bytes) (sym put.tables)) i;
      name_entry = sym put.name_entry i;
      prefix_entry = sym put.prefix_entry i;
      datatype_entry = sym put.datatype_entry i;
      ids = record { prefix = sym put.prefix i; name = sym put.name i };
      subject = (left_is bytes s sum.writes from m.subject old.subject terms.subject due.subject read.subject ∙ ap (maybe_value bytes) (sym put.subject)) i;
      predicate = (left_is bytes s sum.writes from m.predicate old.predicate terms.predicate due.predicate read.predicate ∙ ap (maybe_value bytes) (sym put.predicate)) i;
      object = (left_is bytes s sum.writes from m.object old.object terms.object due.object read.object ∙ ap (maybe_value bytes) (sym put.object)) i;
      graph = (left_is bytes s sum.writes from m.graph old.graph terms.graph due.graph read.graph ∙ ap (maybe_value bytes) (sym put.graph)) i;
      open_graph = (left_is bytes s sum.writes from m.open_graph old.open_graph terms.open_graph due.open_graph read.open_graph ∙ ap (maybe_value bytes) (sym put.open_graph)) i;
    } in
    ap (λ (f : Option Fault). settled f (state_after sum s)) p.0 ∙ ap Ok states

pub refuses : (bytes : List ℕ) (m : Summary) (old : State) (fault : Fault) → unmet (state_seen bytes old) (summary_seen bytes m).writes (summary_seen bytes m).demands ≡ Some fault
    → act (summary_seen bytes m) (state_seen bytes old) ≡ Err fault
refuses bytes m old fault e = ap (λ (f : Option Fault). settled f (state_after (summary_seen bytes m) (state_seen bytes old))) e

pub plays_err : (bytes : List ℕ) (m : Summary) (old : State) (x : Tables) (halt : Halt) → Plays bytes (state_seen bytes old) (summary_seen bytes m) x (Err halt) → Halts (act (summary_seen bytes m) (state_seen bytes old)) halt
plays_err bytes m old x (halts.Fault fault) p = refuses bytes m old fault p
plays_err bytes m old x halts.NoMemory p = tt

-- the state as it is left is lawful again
pub lawful_after : (o : StreamOptions) (bytes : List ℕ) (m : Summary) (old new : State) (x : Tables) (terms : NewTerms) → states_lawful.IsLawful bytes old → new.options ≡ old.options → IsPut m old x terms new → KeepsTables bytes old.tables x → HasNewTerms bytes terms
    → IsSettled o (state_seen bytes new) → states_lawful.IsLawful bytes new
lawful_after o bytes m old new x terms old_is same put keeps has inside =
    let names : length new.tables.names.items ≡ length old.tables.names.items = ap (λ (t : Tables). length t.names.items) put.tables ∙ keeps.names in
    let prefixes : length new.tables.prefixes.items ≡ length old.tables.prefixes.items = ap (λ (t : Tables). length t.prefixes.items) put.tables ∙ keeps.prefixes in
    let datatypes : length new.tables.datatypes.items ≡ length old.tables.datatypes.items = ap (λ (t : Tables). length t.datatypes.items) put.tables ∙ keeps.datatypes in
    let few = old_is.tables.few in
    let few_prefixes = old_is.prefixes in
    let few_datatypes = old_is.datatypes in
    let name_in : new.name_entry < length new.tables.names.items = subst (λ (n : ℕ). new.name_entry < n) (length-map new.tables.names.items (slot_seen bytes)) inside.name_entry in
    let prefix_in : new.prefix_entry < length new.tables.prefixes.items = subst (λ (n : ℕ). new.prefix_entry < n) (length-map new.tables.prefixes.items (slot_seen bytes)) inside.prefix_entry in
    let datatype_in : new.datatype_entry < length new.tables.datatypes.items = subst (λ (n : ℕ). new.datatype_entry < n) (length-map new.tables.datatypes.items (slot_seen bytes)) inside.datatype_entry in
    let last_in : new.last.name < length new.tables.names.items = subst (λ (n : ℕ). new.last.name < n) (length-map new.tables.names.items (slot_seen bytes)) inside.name in
    record {
      options = subst (λ (o : Options). IsInside bytes o.stream_name) (sym same) old_is.options;
      tables = subst (AreTables bytes) (sym put.tables) keeps.tables;
      prefixes = omega (arith, prefixes, few_prefixes);
      datatypes = omega (arith, datatypes, few_datatypes);
      name_entry = omega (arith, name_in, names, few);
      prefix_entry = omega (arith, prefix_in, prefixes, few_prefixes);
      datatype_entry = omega (arith, datatype_in, datatypes, few_datatypes);
      last = omega (arith, last_in, names, few);
      subject = subst (HasMaybe bytes) (sym put.subject) (put_has bytes m.subject old.subject terms.subject old_is.subject has.subject);
      predicate = subst (HasMaybe bytes) (sym put.predicate) (put_has bytes m.predicate old.predicate terms.predicate old_is.predicate has.predicate);
      object = subst (HasMaybe bytes) (sym put.object) (put_has bytes m.object old.object terms.object old_is.object has.object);
      graph = subst (HasMaybe bytes) (sym put.graph) (put_has bytes m.graph old.graph terms.graph old_is.graph has.graph);
      open_graph = subst (HasMaybe bytes) (sym put.open_graph) (put_has bytes m.open_graph old.open_graph terms.open_graph old_is.open_graph has.open_graph);
    }
