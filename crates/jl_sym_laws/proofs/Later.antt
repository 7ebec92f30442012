-- What the second of two runs needs, asked of the state before both.
use Rattle.std.proofs.Common.{◌≡◌, ℕ, ◌+◌, ◌≤◌, Bool, true, false, not, List, [], ◌∷◌, ◌++◌, map, length, Option, Some, None, is_some, refl, ap, sym, ◌∙◌, cond, nat_lt}
use Rattle.std.specs.Option.{option_or}
use Rattle.jl_base.specs.Results.{answered}
use Rattle.jl_base.specs.Terms.{Value}
use Rattle.jl_base.specs.declared.place.Fault.{Fault}
use Rattle.jl_rows.specs.declared.row.Table.{Table}
use Rattle.jl_rows.specs.Values.{Position}
use Rattle.jl_state.specs.States.{Tables, State, table_of, entry_of, slots_of_tables}
use Rattle.jl_sym_laws.specs.RelativeIds.{real, following}
use Rattle.jl_sym_laws.specs.Summaries.{Written, Kept, Need, Demand, Left, Summary, entry_in, last_in, left_in}
use Rattle.jl_sym_laws.specs.Acting.{slots_at, text_in, last_id, kept_of, meets, unmet, left_after, state_after}
use Rattle.jl_sym_laws.specs.Composing.{later_write, has_left, lacks_left, earlier_need, demanded, later_demands, AreBefore, AreWithin}
use Rattle.jl_sym_laws.proofs.Ids.{real_following}
use Rattle.jl_sym_laws.proofs.Logs.{entries_are, tables_later, tables_earlier, played_length}

last_is : (a : Summary) (s : State) (t : Table) → last_id (state_after a s).ids t ≡ real (last_in a.ids t) (last_id s.ids t)
last_is a s Table.Name = refl
last_is a s Table.Prefix = refl
last_is a s Table.Datatype = refl

pub kept_is : (a : Summary) (s : State) (x : Kept) → kept_of (state_after a s) x ≡ left_after s a.writes (left_in a x) (kept_of s x)
kept_is a s (Kept.LastAt Position.Subject) = refl
kept_is a s (Kept.LastAt Position.Predicate) = refl
kept_is a s (Kept.LastAt Position.Object) = refl
kept_is a s (Kept.LastAt Position.Graph) = refl
kept_is a s Kept.OpenGraph = refl

-- a need that may be met already
abbrev pub meets_perhaps : State → List Written → ℕ → Option Need → Bool
meets_perhaps s ws k None = true
meets_perhaps s ws k (Some need) = meets s ws k need

has_is : (s : State) (ws vs : List Written) (k : ℕ) (x : Kept) (l : Left) → meets_perhaps s ws k (has_left x l) ≡ is_some (left_after s vs l (kept_of s x))
has_is s ws vs k x Left.Incoming = refl
has_is s ws vs k x Left.Cleared = refl
has_is s ws vs k x (Left.Set h) = refl

lacks_is : (s : State) (ws vs : List Written) (k : ℕ) (x : Kept) (l : Left) → meets_perhaps s ws k (lacks_left x l) ≡ not (is_some (left_after s vs l (kept_of s x)))
lacks_is s ws vs k x Left.Incoming = refl
lacks_is s ws vs k x Left.Cleared = refl
lacks_is s ws vs k x (Left.Set h) = refl

module _ (a : Summary) (s : State) (vs : List Written) (h : AreBefore a.rows a.writes) where
  abbrev pub both : List Written
  both = a.writes ++ map (later_write a) vs

  need_later : (k : ℕ) (need : Need) → meets_perhaps s both (a.rows + k) (earlier_need a need) ≡ meets (state_after a s) vs k need
  need_later k (Need.Fits t id) =
      ap (λ (n : ℕ). nat_lt n (length (table_of s t))) (real_following (entry_in a t) id (entry_of s t) ∙ ap (λ (e : Table → ℕ). real id (e t)) (sym (entries_are a s)))
      ∙ ap (λ (n : ℕ). nat_lt (real id (entry_of (state_after a s) t)) n) (sym (played_length (entry_of s) a.rows s.tables a.writes t))
  need_later k (Need.Filled t id) =
      ap (λ (x : Tables). is_some (answered (text_in (slots_of_tables x) t (real (following (last_in a.ids t) id) (last_id s.ids t))))) (tables_later a s vs k h)
      ∙ ap (λ (n : ℕ). is_some (answered (text_in (slots_at (state_after a s) vs k) t n))) (real_following (last_in a.ids t) id (last_id s.ids t) ∙ ap (real id) (sym (last_is a s t)))
  need_later k (Need.Has x) = has_is s both a.writes (a.rows + k) x (left_in a x) ∙ ap is_some (sym (kept_is a s x))
  need_later k (Need.Lacks x) = lacks_is s both a.writes (a.rows + k) x (left_in a x) ∙ ap (λ (v : Option Value). not (is_some v)) (sym (kept_is a s x))
  need_later k Need.Never = refl

  unmet_demanded : (d : Demand) (need : Option Need) (ds : List Demand)
      → unmet s both (demanded a.rows d need ds) ≡ cond (meets_perhaps s both (a.rows + d.moment) need) (unmet s both ds) (Some d.fault)
  unfolding unmet
  unmet_demanded d None ds = refl
  unmet_demanded d (Some need) ds = refl

  pub unmet_later : (ds : List Demand) → unmet s both (later_demands a ds) ≡ unmet (state_after a s) vs ds
  unfolding unmet later_demands
  unmet_later [] = refl
  unmet_later (d ∷ ds) =
      unmet_demanded d (earlier_need a d.need) (later_demands a ds)
      ∙ ap (λ (b : Bool). cond b (unmet s both (later_demands a ds)) (Some d.fault)) (need_later d.moment d.need)
      ∙ ap (λ (f : Option Fault). cond (meets (state_after a s) vs d.moment d.need) f (Some d.fault)) (unmet_later ds)

  -- the first run's needs are not touched by the second
  need_earlier : (k : ℕ) (need : Need) → k ≤ a.rows → meets s both k need ≡ meets s a.writes k need
  need_earlier k (Need.Fits t id) p = refl
  need_earlier k (Need.Filled t id) p = ap (λ (x : Tables). is_some (answered (text_in (slots_of_tables x) t (real id (last_id s.ids t))))) (tables_earlier a s vs k p)
  need_earlier k (Need.Has x) p = refl
  need_earlier k (Need.Lacks x) p = refl
  need_earlier k Need.Never p = refl

  pub unmet_earlier : (ds : List Demand) → AreWithin a.rows ds → unmet s both ds ≡ unmet s a.writes ds
  unfolding unmet
  unmet_earlier [] w = refl
  unmet_earlier (d ∷ ds) w =
      ap (λ (b : Bool). cond b (unmet s both ds) (Some d.fault)) (need_earlier d.moment d.need w.0)
      ∙ ap (λ (f : Option Fault). cond (meets s a.writes d.moment d.need) f (Some d.fault)) (unmet_earlier ds w.1)

both_go : (f g h : Option Fault) (fault : Fault) (b : Bool) → f ≡ option_or g h → cond b f (Some fault) ≡ option_or (cond b g (Some fault)) h
both_go f g h fault true e = e
both_go f g h fault false e = refl

pub unmet_both : (s : State) (ws : List Written) (ds es : List Demand) → unmet s ws (ds ++ es) ≡ option_or (unmet s ws ds) (unmet s ws es)
unfolding unmet
unmet_both s ws [] es = refl
unmet_both s ws (d ∷ ds) es = both_go (unmet s ws (ds ++ es)) (unmet s ws ds) (unmet s ws es) d.fault (meets s ws d.moment d.need) (unmet_both s ws ds es)
