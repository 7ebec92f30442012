-- A composed summary acts as its first part and then its second.
use Rattle.std.proofs.Common.{◌≡◌, List, ◌++◌, map, Option, Some, None, Result, refl, ap, ◌∙◌}
use Rattle.std.specs.Option.{option_or}
use Rattle.jl_base.specs.Results.{◌>>=◌}
use Rattle.jl_base.specs.Terms.{Value}
use Rattle.jl_base.specs.declared.place.Fault.{Fault}
use Rattle.jl_state.specs.States.{Tables, State, slots_of_tables}
use Rattle.jl_sym_laws.specs.Symbols.{sym_value, term_following}
use Rattle.jl_sym_laws.specs.Summaries.{Written, Left, Summary}
use Rattle.jl_state.specs.Running.{settled}
use Rattle.jl_sym_laws.specs.Acting.{slots_at, unmet, left_after, state_after, act}
use Rattle.jl_sym_laws.specs.Composing.{later_write, later_demands, left_following, composed, AreBefore, IsLeftWithin, Timed}
use Rattle.jl_sym_laws.specs.Laws.{Composes}
use Rattle.jl_sym_laws.proofs.Ids.{real_following, real_ids_following, value_following}
use Rattle.jl_sym_laws.proofs.Logs.{tables_later, tables_earlier}
use Rattle.jl_sym_laws.proofs.Later.{unmet_later, unmet_earlier, unmet_both}

module _ (a : Summary) (s : State) (vs : List Written) (h : AreBefore a.rows a.writes) where
  -- what the first run leaves, seen after both
  left_kept : (l : Left) (before : Option Value) → IsLeftWithin a.rows l → left_after s (a.writes ++ map (later_write a) vs) l before ≡ left_after s a.writes l before
  left_kept Left.Incoming before w = refl
  left_kept Left.Cleared before w = refl
  left_kept (Left.Set x) before w = ap (λ (y : Tables). Some (sym_value (slots_of_tables y) s.ids x.term)) (tables_earlier a s vs x.moment w)

  pub left_is : (first l : Left) (before : Option Value) → IsLeftWithin a.rows first
      → left_after s (a.writes ++ map (later_write a) vs) (left_following a first l) before ≡ left_after (state_after a s) vs l (left_after s a.writes first before)
  left_is first Left.Incoming before w = left_kept first before w
  left_is first Left.Cleared before w = refl
  left_is first (Left.Set x) before w =
      ap (λ (y : Tables). Some (sym_value (slots_of_tables y) s.ids (term_following a.ids x.term))) (tables_later a s vs x.moment h)
      ∙ ap Some (value_following (slots_at (state_after a s) vs x.moment) s.ids a.ids x.term)

pub state_is : (a b : Summary) (s : State) → Timed a → state_after (composed a b) s ≡ state_after b (state_after a s)
state_is a b s h = λ i. record {
  tables = tables_later a s b.writes b.rows h.writes i;
  name_entry = real_following a.name_entry b.name_entry s.name_entry i;
  prefix_entry = real_following a.prefix_entry b.prefix_entry s.prefix_entry i;
  datatype_entry = real_following a.datatype_entry b.datatype_entry s.datatype_entry i;
  ids = real_ids_following a.ids b.ids s.ids i;
  subject = left_is a s b.writes h.writes a.subject b.subject s.subject h.subject i;
  predicate = left_is a s b.writes h.writes a.predicate b.predicate s.predicate h.predicate i;
  object = left_is a s b.writes h.writes a.object b.object s.object h.object i;
  graph = left_is a s b.writes h.writes a.graph b.graph s.graph h.graph i;
  open_graph = left_is a s b.writes h.writes a.open_graph b.open_graph s.open_graph h.open_graph i;
}

bound : (u : Option Fault) (v : Option Fault) (x y : State) (f : State → Result State Fault) → settled v y ≡ f x → settled (option_or u v) y ≡ (settled u x >>= f)
bound None v x y f e = e
bound (Some fault) v x y f e = refl

pub composes : Composes
composes a b s h =
    let first = unmet s a.writes a.demands in
    let second = unmet (state_after a s) b.writes b.demands in
    let faults : unmet s (composed a b).writes (composed a b).demands ≡ option_or first second
    = unmet_both s (composed a b).writes a.demands (later_demands a b.demands)
    ∙ ap (λ (f : Option Fault). option_or f (unmet s (composed a b).writes (later_demands a b.demands))) (unmet_earlier a s b.writes h.writes a.demands h.demands)
    ∙ ap (option_or first) (unmet_later a s b.writes h.writes b.demands) in
    ap (λ (f : Option Fault). settled f (state_after (composed a b) s)) faults
    ∙ bound first second (state_after a s) (state_after (composed a b) s) (λ t. act b t) (ap (settled second) (state_is a b s h))
