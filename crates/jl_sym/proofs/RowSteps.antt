-- Rows as small steps.
use Rattle.std.proofs.Common.{◌≡◌, ℕ, ◌==◌, ◌&&◌, Bool, Some, true, false, List, [], ◌∷◌, refl, ap, sym, ◌∙◌, cond}
use Rattle.jl_base.specs.declared.kind.Kind.TheVariants.{WrongRow, EarlyNamespace}
use Rattle.jl_rows.specs.Written.{Ids, StreamOptions, Term, Row}
use Rattle.jl_rows.specs.Values.{Position}
use Rattle.jl_rows.specs.Decoder.{is_graphs, is_wrong_row, row_guarded, read_under}
use Rattle.jl_state.specs.States.{State}
use Rattle.jl_state.specs.Steps.{step}
use Rattle.jl_state.specs.Positions.{under}
use Rattle.jl_sym_laws.specs.SmallSteps.{Small, smalls_of}
use Rattle.jl_state.specs.Running.{state_of}
use Rattle.jl_sym_laws.proofs.RowLaws.{all_steps, step_is, three}
use Rattle.jl_sym.specs.Checked.{checked}
use Rattle.jl_sym.specs.RowSteps.{three_on, inside_on, four_on, start_on, end_on, namespace_on}

-- a row of its kind, as it is checked
module _ (o : StreamOptions) (r : Row) (right : is_wrong_row o r ≡ false) where
  pub steps_as : (q : Row) → read_under o r ≡ q → (t : State) → all_steps (smalls_of o q) t ≡ state_of (step o r t)
  steps_as q e t =
      ap (λ (x : Row). all_steps (smalls_of o x) t) (sym e)
      ∙ ap (λ b. all_steps (cond b (Small.Refuses WrongRow ∷ []) (smalls_of o (read_under o r))) t) (sym right)
      ∙ step_is o r t

by_triple : (b : Bool) (o : StreamOptions) (x y z : Term) → cond b (row_guarded o (Row.Triple x y z)) (Row.Triple x y z) ≡ Row.Triple (under b o Position.Subject x) (under b o Position.Predicate y) (under b o Position.Object z)
by_triple true o x y z = refl
by_triple false o x y z = refl

by_quad : (b : Bool) (o : StreamOptions) (x y z w : Term)
    → cond b (row_guarded o (Row.Quad x y z w)) (Row.Quad x y z w) ≡ Row.Quad (under b o Position.Subject x) (under b o Position.Predicate y) (under b o Position.Object z) (under b o Position.Graph w)
by_quad true o x y z w = refl
by_quad false o x y z w = refl

by_start : (b : Bool) (o : StreamOptions) (g : Term) → cond b (row_guarded o (Row.GraphStart g)) (Row.GraphStart g) ≡ Row.GraphStart (under b o Position.Graph g)
by_start true o g = refl
by_start false o g = refl

-- a row without terms
pub by_same : (b : Bool) (o : StreamOptions) (r : Row) → row_guarded o r ≡ r → cond b (row_guarded o r) r ≡ r
by_same true o r e = e
by_same false o r e = refl

pub triple_is : (o : StreamOptions) (x y z : Term) → is_wrong_row o (Row.Triple x y z) ≡ false → is_graphs o ≡ false → (t : State) → three_on o x y z t ≡ state_of (step o (Row.Triple x y z) t)
unfolding all_steps
triple_is o x y z right graphs t =
    let list = three (checked o Position.Subject x) (checked o Position.Predicate y) (checked o Position.Object z) in
    ap (λ b. all_steps (cond b (Small.IsInGraph ∷ list) list) t) (sym graphs) ∙ steps_as o (Row.Triple x y z) right _ (by_triple o.strict o x y z) t

pub triple_inside_is : (o : StreamOptions) (x y z : Term) → is_wrong_row o (Row.Triple x y z) ≡ false → is_graphs o ≡ true → (t : State) → inside_on o x y z t ≡ state_of (step o (Row.Triple x y z) t)
unfolding all_steps
triple_inside_is o x y z right graphs t =
    let list = three (checked o Position.Subject x) (checked o Position.Predicate y) (checked o Position.Object z) in
    ap (λ b. all_steps (cond b (Small.IsInGraph ∷ list) list) t) (sym graphs) ∙ steps_as o (Row.Triple x y z) right _ (by_triple o.strict o x y z) t

pub quad_is : (o : StreamOptions) (x y z w : Term) → is_wrong_row o (Row.Quad x y z w) ≡ false → (t : State) → four_on o x y z w t ≡ state_of (step o (Row.Quad x y z w) t)
unfolding all_steps
quad_is o x y z w right t = steps_as o (Row.Quad x y z w) right _ (by_quad o.strict o x y z w) t

pub start_is : (o : StreamOptions) (g : Term) → is_wrong_row o (Row.GraphStart g) ≡ false → (t : State) → start_on o g t ≡ state_of (step o (Row.GraphStart g) t)
unfolding all_steps
start_is o g right t = steps_as o (Row.GraphStart g) right _ (by_start o.strict o g) t

pub end_is : (o : StreamOptions) → is_wrong_row o Row.GraphEnd ≡ false → (t : State) → end_on t ≡ state_of (step o Row.GraphEnd t)
unfolding all_steps
end_is o right t = steps_as o Row.GraphEnd right _ (by_same o.strict o Row.GraphEnd refl) t

abbrev pub is_early : StreamOptions → Bool
is_early o = o.strict && (o.version == 1)

and_right : (b c : Bool) → c ≡ false → (b && c) ≡ false
and_right true c e = e
and_right false c e = refl

pub late_version : (o : StreamOptions) → (o.version == 1) ≡ false → is_early o ≡ false
late_version o e = and_right o.strict (o.version == 1) e

pub late_profile : (o : StreamOptions) → o.strict ≡ false → is_early o ≡ false
late_profile o e = ap (λ b. b && (o.version == 1)) e

pub namespace_is : (o : StreamOptions) (name : List ℕ) (i : Ids) → is_early o ≡ false → (t : State) → namespace_on i t ≡ state_of (step o (Row.Namespace name (Some i)) t)
unfolding all_steps
namespace_is o name i late t =
    ap (λ b. all_steps (cond b (Small.Refuses EarlyNamespace ∷ []) (Small.Reads i ∷ Small.Ends ∷ [])) t) (sym late)
    ∙ steps_as o (Row.Namespace name (Some i)) refl _ (by_same o.strict o (Row.Namespace name (Some i)) refl) t
