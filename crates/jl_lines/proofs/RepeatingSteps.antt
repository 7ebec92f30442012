-- What a step leaves of the last terms: rows are read under what the file is held to.
use Rattle.std.proofs.Common.{◌≡◌, Bool, true, false, cond, List, [], Ok, ap}
use Rattle.jl_base.specs.Results.{refuse_if}
use Rattle.jl_base.specs.Terms.{Item}
use Rattle.jl_base.specs.declared.kind.Kind.TheVariants.{WrongRow}
use Rattle.jl_rows.specs.Written.{StreamOptions, Row}
use Rattle.jl_rows.specs.Values.{Position}
use Rattle.jl_rows.specs.Decoder.{guarded, is_wrong_row, read_under, row_guarded}
use Rattle.jl_rows.proofs.Binding.{bound}
use Rattle.jl_state.specs.States.{State}
use Rattle.jl_state.specs.Steps.{row_step, step}
use Rattle.jl_lines.specs.Kept.{RepeatsSubject, RepeatsPredicate, RepeatsObject}
use Rattle.jl_lines.proofs.Repeating.{Left, row_subject, row_predicate, row_object, row_nothing}

-- a row that repeats a term repeats it however it is read
module _ (o : StreamOptions) where
  subject_guarded : (r : Row) → RepeatsSubject r → RepeatsSubject (row_guarded o r)
  subject_guarded (Row.Options p) k = tt
  subject_guarded (Row.Entry u id text) k = tt
  subject_guarded Row.GraphEnd k = tt
  subject_guarded (Row.GraphStart g) k = tt
  subject_guarded (Row.Namespace name i) k = tt
  subject_guarded (Row.Triple s p ob) k = ap (guarded o Position.Subject) k
  subject_guarded (Row.Quad s p ob g) k = ap (guarded o Position.Subject) k

  predicate_guarded : (r : Row) → RepeatsPredicate r → RepeatsPredicate (row_guarded o r)
  predicate_guarded (Row.Options p) k = tt
  predicate_guarded (Row.Entry u id text) k = tt
  predicate_guarded Row.GraphEnd k = tt
  predicate_guarded (Row.GraphStart g) k = tt
  predicate_guarded (Row.Namespace name i) k = tt
  predicate_guarded (Row.Triple s p ob) k = ap (guarded o Position.Predicate) k
  predicate_guarded (Row.Quad s p ob g) k = ap (guarded o Position.Predicate) k

  object_guarded : (r : Row) → RepeatsObject r → RepeatsObject (row_guarded o r)
  object_guarded (Row.Options p) k = tt
  object_guarded (Row.Entry u id text) k = tt
  object_guarded Row.GraphEnd k = tt
  object_guarded (Row.GraphStart g) k = tt
  object_guarded (Row.Namespace name i) k = tt
  object_guarded (Row.Triple s p ob) k = ap (guarded o Position.Object) k
  object_guarded (Row.Quad s p ob g) k = ap (guarded o Position.Object) k

-- what holds of a row and of the row with each term at its position holds of the row as it is read
read_so : (P : Row → Type 0) (b : Bool) (x y : Row) → P x → P y → P (cond b x y)
read_so P true x y p q = p
read_so P false x y p q = q

-- the same of a step
module _ (o : StreamOptions) (r : Row) (t t' : State) where
  taken : (items : List Item) → step o r t ≡ Ok (t', items) → row_step o (read_under o r) t ≡ Ok (t', items)
  taken items e = let b = bound {B = State × List Item} (refuse_if (is_wrong_row o r) WrongRow) (λ _. row_step o (read_under o r) t) (t', items) e in b.then

  pub step_subject : (items : List Item) → RepeatsSubject r → step o r t ≡ Ok (t', items) → t'.subject ≡ t.subject
  step_subject items k e = row_subject o (read_under o r) t t' items (read_so RepeatsSubject o.strict (row_guarded o r) r (subject_guarded o r k) k) (taken items e)

  pub step_predicate : (items : List Item) → RepeatsPredicate r → step o r t ≡ Ok (t', items) → t'.predicate ≡ t.predicate
  step_predicate items k e = row_predicate o (read_under o r) t t' items (read_so RepeatsPredicate o.strict (row_guarded o r) r (predicate_guarded o r k) k) (taken items e)

  pub step_object : (items : List Item) → RepeatsObject r → step o r t ≡ Ok (t', items) → t'.object ≡ t.object
  step_object items k e = row_object o (read_under o r) t t' items (read_so RepeatsObject o.strict (row_guarded o r) r (object_guarded o r k) k) (taken items e)

  -- a row that states nothing leaves all three
  pub step_nothing : step o r t ≡ Ok (t', []) → Left t t'
  step_nothing e = row_nothing o (read_under o r) t t' (taken [] e)
