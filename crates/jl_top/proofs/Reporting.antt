-- The ways in which a report is not written.
use Rattle.std.proofs.Common.{◌≡◌, ℕ, [], ◌∷◌, Option, Some, None, Err, refl, sym, subst, arith}
use Rattle.jl_base.specs.Sinks.{Held}
use Rattle.jl_base.specs.Parts.{WasGiven}
use Rattle.jl_base.specs.declared.place.Fault.{Fault}
use Rattle.jl_base.proofs.SinkLemmas.{Adds-nil}
use Rattle.jl_base.proofs.PartLemmas.{WasGiven-first}
use Rattle.jl_text.specs.declared.notice.Notice.TheVariants as notice
use Rattle.jl_top.specs.Goals.{Goal, unreported}
use Rattle.jl_top.specs.Running.{Meets}

given_nothing : (h : Option Held) → WasGiven h h []
given_nothing None = tt
given_nothing (Some held) = refl

-- for want of memory
pub no_report : {T : Type 0} (goal : Goal) (h : Option Held) (f : ℕ) → Meets {T = T} goal h h f f (Err notice.NoMemory)
no_report goal h f = record { given = []; gives = given_nothing h; front = tt; later = omega arith; cause = refl }

-- for a fault
pub faulty : {T : Type 0} (goal : Goal) (fault : Fault) (h : Option Held) (f : ℕ) → goal ≡ unreported fault → Meets {T = T} goal h h f f (Err (notice.Malformed 1 fault))
faulty {T} goal fault h f is = subst (λ (g : Goal). Meets {T = T} g h h f f (Err (notice.Malformed 1 fault))) (sym is)
    (record { given = [] ∷ []; gives = WasGiven-first h h [] (Adds-nil h); front = ([], refl); later = omega arith; cause = (refl, refl, refl) })
