-- The files of a job.
use Rattle.std.proofs.Common.{◌≡◌, ℕ, ◌≤◌, List, [], ◌∷◌, length, Some, arith}
use Rattle.std.specs.List.{slice_get}
use Rattle.jl_base.specs.SourceLists.{total}
use Rattle.jl_top.specs.Goals.{first}

-- the first file is no longer than all of them
pub first_within : (files : List (List ℕ)) (file : List ℕ) → slice_get files 0 ≡ Some file → length file ≤ total files
first_within [] file at = absurd (cc)
first_within (f ∷ files) file at = let same : f ≡ file = cc in rw (← same) (omega arith)

pub first_is : (files : List (List ℕ)) (file : List ℕ) → slice_get files 0 ≡ Some file → file ≡ first files
first_is [] file at = absurd (cc)
first_is (f ∷ files) file at = cc
