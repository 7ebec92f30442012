-- A compacted summary acts as the whole one.
use Rattle.std.proofs.Common.{◌≡◌, Bool, true, false, ◌&&◌, List, [], ◌∷◌, ◌++◌, refl, ap, sym, ◌∙◌, cond}
use Rattle.std.proofs.lemmas.Bool.{and_parts}
use Rattle.jl_state.specs.States.{State}
use Rattle.jl_sym_laws.specs.Summaries.{Written, Demand, Summary}
use Rattle.jl_sym_laws.specs.Acting.{act}
use Rattle.jl_sym_laws.specs.Compacting.{is_unseen, was_filled, moments, was_asked, kept_writes, kept_demands, CompactingKeeps}
use Rattle.jl_sym_laws.proofs.Drops.{drops_write, drops_demand}

one_by_one : {A : Type 0} (xs : List A) (x : A) (ys : List A) → (xs ++ (x ∷ [])) ++ ys ≡ xs ++ (x ∷ ys)
one_by_one [] x ys = refl
one_by_one (z ∷ zs) x ys = ap (λ l. z ∷ l) (one_by_one zs x ys)

module _ (m : Summary) (s : State) where
  abbrev pub with_writes : List Written → Summary
  with_writes ws = record m { writes = ws }

  abbrev pub with_demands : List Demand → Summary
  with_demands ds = record m { demands = ds }

  write_by : (us : List Written) (w : Written) (ws : List Written) (b : Bool) → (was_filled w us && is_unseen w ws (moments m)) ≡ b
      → act (with_writes (us ++ kept_writes (moments m) us ws)) s ≡ act (with_writes (us ++ ws)) s
      → act (with_writes ((us ++ (w ∷ [])) ++ kept_writes (moments m) (us ++ (w ∷ [])) ws)) s ≡ act (with_writes ((us ++ (w ∷ [])) ++ ws)) s
      → act (with_writes (us ++ cond b (kept_writes (moments m) us ws) (w ∷ kept_writes (moments m) (us ++ (w ∷ [])) ws))) s ≡ act (with_writes (us ++ (w ∷ ws))) s
  write_by us w ws true e dropped kept =
      let parts = and_parts (was_filled w us) (is_unseen w ws (moments m)) e in
      dropped ∙ sym (drops_write m us w ws s parts.0 parts.1)
  write_by us w ws false e dropped kept =
      ap (λ (l : List Written). act (with_writes l) s) (sym (one_by_one us w (kept_writes (moments m) (us ++ (w ∷ [])) ws)))
      ∙ kept ∙ ap (λ (l : List Written). act (with_writes l) s) (one_by_one us w ws)

  writes_kept : (us ws : List Written) → act (with_writes (us ++ kept_writes (moments m) us ws)) s ≡ act (with_writes (us ++ ws)) s
  unfolding kept_writes
  writes_kept us [] = refl
  writes_kept us (w ∷ ws) = write_by us w ws (was_filled w us && is_unseen w ws (moments m)) refl (writes_kept us ws) (writes_kept (us ++ (w ∷ [])) ws)

  demand_by : (ds : List Demand) (d : Demand) (es : List Demand) (b : Bool) → was_asked d ds ≡ b
      → act (with_demands (ds ++ kept_demands ds es)) s ≡ act (with_demands (ds ++ es)) s
      → act (with_demands ((ds ++ (d ∷ [])) ++ kept_demands (ds ++ (d ∷ [])) es)) s ≡ act (with_demands ((ds ++ (d ∷ [])) ++ es)) s
      → act (with_demands (ds ++ cond b (kept_demands ds es) (d ∷ kept_demands (ds ++ (d ∷ [])) es))) s ≡ act (with_demands (ds ++ (d ∷ es))) s
  demand_by ds d es true e dropped kept = dropped ∙ sym (drops_demand m ds d es s e)
  demand_by ds d es false e dropped kept =
      ap (λ (l : List Demand). act (with_demands l) s) (sym (one_by_one ds d (kept_demands (ds ++ (d ∷ [])) es)))
      ∙ kept ∙ ap (λ (l : List Demand). act (with_demands l) s) (one_by_one ds d es)

  demands_kept : (ds es : List Demand) → act (with_demands (ds ++ kept_demands ds es)) s ≡ act (with_demands (ds ++ es)) s
  unfolding kept_demands
  demands_kept ds [] = refl
  demands_kept ds (d ∷ es) = demand_by ds d es (was_asked d ds) refl (demands_kept ds es) (demands_kept (ds ++ (d ∷ [])) es)

pub compacting_keeps : CompactingKeeps
compacting_keeps m s = writes_kept (record m { demands = kept_demands [] m.demands }) s [] m.writes ∙ demands_kept m s [] m.demands
