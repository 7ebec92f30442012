-- What a survey comes to, from row to row and from frame to frame.
use Rattle.std.proofs.Common.{◌≡◌, ℕ, ◌+◌, List, [], Option, Some, None, Result, Ok, Err, OnOk, refl, ap, sym, ◌∙◌, subst}
use Rattle.jl_base.specs.Results.{Reading, joined, with_front}
use Rattle.jl_base.specs.declared.kind.Kind.{Kind}
use Rattle.jl_base.specs.declared.place.Fault.{Fault}
use Rattle.jl_rows.specs.declared.options.Options.{Options}
use Rattle.jl_rows.specs.Files.{Placed, fault_at, placed_on, rows}
use Rattle.jl_rows.specs.Written.{Row}
use Rattle.jl_rows.proofs.FileLaws.{rows_next, rows_done, rows_broken, row_at}
use Rattle.jl_survey.specs.declared.numbers.Survey.{Survey}
use Rattle.jl_survey.specs.Surveys.{Surveyed}
use Rattle.jl_survey.specs.Counting.{outlook, ComesOn, HaveAllPassed, IsOver, KeepsOptions}
use Rattle.jl_survey.proofs.CountLaws.{fault_left}

-- what comes to the same comes on alike
pub comes_alike : (a b c : Result Surveyed Fault) (r : Result (Unit {0}) Fault) → a ≡ b → ComesOn b c r → ComesOn a c r
comes_alike a b c (Ok x) e said = e ∙ said
comes_alike a b c (Err fault) e said = e ∙ said

pub on_ok : {P Q : Type 0} (r : Result (Unit {0}) Fault) → (P → Q) → OnOk r P → OnOk r Q
on_ok (Ok x) f p = f p
on_ok (Err fault) f p = tt

-- the rows of a frame, one after another
module _ (s : Surveyed) (size : ℕ) (bodies : List (List ℕ)) (B : Reading Placed Fault) (n before : ℕ) (rest : List ℕ) where
  pub at_next_row : (left : List ℕ) (row : Row) → rows rest ≡ with_front row (rows left)
      → outlook s size bodies (joined (placed_on n before (rows rest)) B) ≡ outlook s size bodies (with_front (row_at n before row) (joined (placed_on n (before + 1) (rows left)) B))
  at_next_row left row said = ap (outlook s size bodies) (rows_next n before rest B left row said)

  pub at_last_row : rows rest ≡ record { items = []; fault = None } → outlook s size bodies (joined (placed_on n before (rows rest)) B) ≡ outlook s size bodies B
  at_last_row said = ap (outlook s size bodies) (rows_done n before rest B said)

  pub at_bad_row : (k : Kind) → rows rest ≡ record { items = []; fault = Some k } → outlook s size bodies (joined (placed_on n before (rows rest)) B) ≡ Err (fault_at n (before + 1) k)
  at_bad_row k said = ap (outlook s size bodies) (rows_broken n before rest B k said) ∙ fault_left s size bodies (fault_at n (before + 1) k)

-- options that were met stay
pub keeps_as : (bytes : List ℕ) (s t : Survey) → t.options ≡ s.options → KeepsOptions bytes s t
keeps_as bytes s t same = record { kept = λ o e. same ∙ e; passed = λ none. subst (HaveAllPassed bytes) (sym (same ∙ none)) tt }

keeps_new : (bytes : List ℕ) (s t u : Survey) (o : Option Options) → t.options ≡ o → KeepsOptions bytes s t → KeepsOptions bytes t u → s.options ≡ None → HaveAllPassed bytes u.options
keeps_new bytes s t u None e first second none = second.passed e
keeps_new bytes s t u (Some o) e first second none = subst (HaveAllPassed bytes) (e ∙ sym (second.kept o e)) (first.passed none)

pub keeps_then : (bytes : List ℕ) (s t u : Survey) → KeepsOptions bytes s t → KeepsOptions bytes t u → KeepsOptions bytes s u
keeps_then bytes s t u first second = record { kept = λ o e. second.kept o (first.kept o e); passed = keeps_new bytes s t u t.options refl first second }

over_by : (bytes kept : List ℕ) (s t : Survey) (o : Option Options) → s.options ≡ o → IsOver bytes kept s → KeepsOptions bytes s t → IsOver bytes kept t
over_by bytes kept s t None e over keeps none = over e
over_by bytes kept s t (Some o) e over keeps none = absurd (let never = sym (keeps.kept o e) ∙ none in cc)

pub over_then : (bytes kept : List ℕ) (s t : Survey) → IsOver bytes kept s → KeepsOptions bytes s t → IsOver bytes kept t
over_then bytes kept s t = over_by bytes kept s t s.options refl
