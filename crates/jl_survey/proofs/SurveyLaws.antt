-- What a survey that was told, or refused, says of the file's fault and its numbers.
use Rattle.std.proofs.Common.{◌≡◌, ℕ, List, Option, Some, None, Ok, Err, refl}
use Rattle.jl_base.specs.declared.place.Fault.{Fault}
use Rattle.jl_survey.specs.Surveys.{Surveyed, unless, wire_fault, surveyed, survey}

unless_told : (fault : Option Fault) (numbers s : Surveyed) → unless fault numbers ≡ Ok s → (fault ≡ None) × (numbers ≡ s)
unless_told None numbers s e = (refl, cc)
unless_told (Some fault) numbers s e = cc

unless_refused : (fault : Option Fault) (numbers : Surveyed) (found : Fault) → unless fault numbers ≡ Err found → fault ≡ Some found
unless_refused None numbers found e = cc
unless_refused (Some fault) numbers found e = cc

pub told : (file : List ℕ) (s : Surveyed) → survey file ≡ Ok s → (wire_fault file ≡ None) × (surveyed file ≡ s)
unfolding survey
told file s e = unless_told (wire_fault file) (surveyed file) s e

pub refused : (file : List ℕ) (fault : Fault) → survey file ≡ Err fault → wire_fault file ≡ Some fault
unfolding survey
refused file fault e = unless_refused (wire_fault file) (surveyed file) fault e
