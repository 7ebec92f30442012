-- Moments that a mark can be, and what is left of a summary whose lists alone changed.
use Rattle.std.proofs.Common.{◌≡◌, ℕ, ◌≤◌, List, [], ◌∷◌, ◌++◌, Result, Ok, Err, OnOk, OnErr, ap, sym, subst, ◌∙◌, arith}
use Rattle.jl_rows.specs.Written.{StreamOptions}
use Rattle.jl_state.specs.States.{State}
use Rattle.jl_sym_laws.specs.Acting.{act}
use Rattle.jl_sym_laws.specs.Compacting.{moments_of, moments}
use Rattle.jl_sym_laws.specs.Composing.{AreBefore, IsLeftWithin, Timed}
use Rattle.jl_sym_laws.specs.Cutting.{cut, fitted, IsMade, Sized}
use Rattle.jl_sym_laws.specs.Summaries as sums
use Rattle.jl_sym_laws.proofs.Compaction.{compacting_keeps}
use Rattle.jl_sym_laws.proofs.Cuts.{cut_keeps}
use Rattle.jl_sym_laws.proofs.Made.{fitted_is_made}
use Rattle.jl_sym.specs.declared.summary.Summary.{Summary}
use Rattle.jl_sym.specs.Held.{AreTexts, HasLeft}
use Rattle.jl_sym.specs.Lawful.{IsLawful}
use Rattle.jl_sym.specs.Seen.{summary_seen}
use Rattle.jl_compact.specs.Marks.{AreUpTo}
use Rattle.jl_compact.specs.Parts.{KeepsLefts}

up_to_both : (n : ℕ) (xs ys : List ℕ) → AreUpTo n xs → AreUpTo n ys → AreUpTo n (xs ++ ys)
up_to_both n [] ys h k = k
up_to_both n (x ∷ xs) ys h k = (h.0, up_to_both n xs ys h.1 k)

up_to_left : (n rows : ℕ) (l : sums.Left) → rows ≤ n → IsLeftWithin rows l → AreUpTo n (moments_of l)
up_to_left n rows sums.Left.Incoming small h = tt
up_to_left n rows sums.Left.Cleared small h = tt
up_to_left n rows (sums.Left.Set x) small h = (omega (arith, small, h), tt)

pub up_to_moments : (n : ℕ) (m : sums.Summary) → m.rows ≤ n → Timed m → AreUpTo n (moments m)
up_to_moments n m small t = (
  small,
  up_to_both n (moments_of m.subject) _ (up_to_left n m.rows m.subject small t.subject)
      (up_to_both n (moments_of m.predicate) _ (up_to_left n m.rows m.predicate small t.predicate)
      (up_to_both n (moments_of m.object) _ (up_to_left n m.rows m.object small t.object)
      (up_to_both n (moments_of m.graph) _ (up_to_left n m.rows m.graph small t.graph) (up_to_left n m.rows m.open_graph small t.open_graph)))),
)

pub before_top : (rows n : ℕ) (ws : List sums.Written) → rows ≤ n → AreBefore rows ws → AreBefore n ws
before_top rows n [] small h = tt
before_top rows n (w ∷ ws) small h = let early = h.0 in (omega (arith, small, early), before_top rows n ws small h.1)

pub fitted_acts : (o : StreamOptions) (m : sums.Summary) (s : State) → IsMade m → Sized o s → act (fitted o m) s ≡ act m s
fitted_acts o m s made sized = compacting_keeps (cut o m) s ∙ cut_keeps o m s made sized

fitted_lawful : (o : StreamOptions) (bytes : List ℕ) (old new : Summary) → summary_seen bytes new ≡ fitted o (summary_seen bytes old) → AreTexts bytes new.writes.items → KeepsLefts old new → IsLawful o bytes old → IsLawful o bytes new
fitted_lawful o bytes old new same texts lefts lawful = record {
  made = subst IsMade (sym same) (fitted_is_made o (summary_seen bytes old) lawful.made);
  settles = λ s t before e. lawful.settles s t before (sym (ap (λ (m : sums.Summary). act m s) same ∙ fitted_acts o (summary_seen bytes old) s lawful.made before.sized) ∙ e);
  held = record {
    writes = texts;
    subject = subst (HasLeft bytes) (sym lefts.subject) lawful.held.subject;
    predicate = subst (HasLeft bytes) (sym lefts.predicate) lawful.held.predicate;
    object = subst (HasLeft bytes) (sym lefts.object) lawful.held.object;
    graph = subst (HasLeft bytes) (sym lefts.graph) lawful.held.graph;
    open_graph = subst (HasLeft bytes) (sym lefts.open_graph) lawful.held.open_graph;
  };
}

-- also where it wasn't changed
pub shrunk_lawful : {A E : Type 0} (o : StreamOptions) (bytes : List ℕ) (old new : Summary) (r : Result A E) → OnOk r (summary_seen bytes new ≡ fitted o (summary_seen bytes old)) → OnOk r (AreTexts bytes new.writes.items) → OnOk r (KeepsLefts old new)
    → OnErr r (new ≡ old) → IsLawful o bytes old → IsLawful o bytes new
shrunk_lawful o bytes old new (Ok a) same texts lefts unchanged lawful = fitted_lawful o bytes old new same texts lefts lawful
shrunk_lawful o bytes old new (Err e) same texts lefts unchanged lawful = subst (IsLawful o bytes) (sym unchanged) lawful
