-- How far a worker, or several of them, have come with the runs that they drew.
use Rattle.std.specs.Prelude.{◌≡◌, ℕ, ◌-◌, ◌<◌, ◌≤◌, ◌⊎◌, ◌==◌, if◌then◌else◌, List, [], ◌∷◌, length, Option, Some, None, All, Contains, slice_index_or}
use Rattle.jl_base.specs.declared.place.Fault.{Fault}
use Rattle.atomic_table.specs.Seated.{TableId}
use Rattle.jl_claim.specs.Standing.{new_seat}
use Rattle.jl_drive.specs.declared.piece.Piece.{Piece}
use Rattle.jl_drive.specs.declared.jobs.Job.{Job}
use Rattle.jl_drive.specs.declared.jobs.Done.{Done}
use Rattle.jl_drive.specs.declared.gather.Gathered.{Gathered}
use Rattle.jl_drive.specs.Pieces.{Skipped, IsPiece, IsOf, runs_of}

-- of each element and its place
abbrev pub AtEach : {X : Type 0} → (ℕ → X → Type 0) → List X → Type 0
AtEach {X} P xs = (i : ℕ) (d : X) → i < length xs → P i (slice_index_or xs i d)

-- of a run that was drawn there is a piece, or a lower one was seen to be faulty, or a run before it has a fault
abbrev pub Accounted : {M : Type 0} → (ℕ → Type 0) → ℕ → List (Piece M) → ℕ → Type 0
Accounted fine seen ps k = Contains (runs_of ps) k ⊎ ((seen < k) ⊎ Skipped fine k)

abbrev pub IsFaulty : (ℕ → Fault → Type 0) → ℕ → Type 0
IsFaulty faulty k = (f : Fault) × faulty k f

-- what was drawn and lowered, and the pieces that were made
pub record IsWorked {M : Type 0} (makes : ℕ → M → Type 0) (fine : ℕ → Type 0) (faulty : ℕ → Fault → Type 0) (n : ℕ) (ds ls : List ℕ) (seen : ℕ) (ps : List (Piece M)) : Type 0 where
  pub drawn : All (λ k. k < n → Accounted fine seen ps k) ds
  pub lowered : All (IsFaulty faulty) ls
  pub each : All (IsPiece makes fine faulty) ps
  pub within : All (λ p. p.run < n) ps

-- a worker's own pieces
abbrev pub IsMine : {O M : Type 0} → (O → ℕ → Type 0) → ℕ → O → Piece M → Type 0
IsMine knows number own p = (p.worker ≡ number) × knows own p.run

-- the room of the seat that a worker is given: the first one keeps what the others have left
abbrev pub room_of : ℕ → ℕ → ℕ
room_of workers number = if number == 0 then 64 - workers else 0

pub record IsJob {O : Type 0} (Fits : O → Type 0) (n workers : ℕ) (at : TableId) (job : Job O) : Type 0 where
  pub seat : job.seat ≡ new_seat at n (room_of workers job.number)
  pub fits : Fits job.own

pub record IsDone {O M : Type 0} (Fits : O → Type 0) (knows : O → ℕ → Type 0) (makes : ℕ → M → Type 0) (fine : ℕ → Type 0) (faulty : ℕ → Fault → Type 0) (n workers : ℕ) (at : TableId) (d : Done O M) : Type 0 where
  pub board : d.seat.board ≡ at
  pub bound : d.seat.bound ≡ n
  pub seats : d.seat.seats ≡ 1
  pub room : d.seat.room ≡ room_of workers d.number
  pub beyond : (x : ℕ) × (n ≤ x) × Contains d.seat.drawn x
  pub worked : IsWorked makes fine faulty n d.seat.drawn d.seat.lowered d.seat.seen d.pieces.items
  pub mine : All (IsMine knows d.number d.own) d.pieces.items
  pub fits : Fits d.own

abbrev pub lowered_by : ℕ → Option Fault → List ℕ
lowered_by run None = []
lowered_by run (Some f) = run ∷ []

-- so many workers together
pub record IsGathered {O M : Type 0} (Fits : O → Type 0) (knows : O → ℕ → Type 0) (makes : ℕ → M → Type 0) (fine : ℕ → Type 0) (faulty : ℕ → Fault → Type 0) (n workers : ℕ) (at : TableId) (count : ℕ) (all : Gathered O M) : Type 0 where
  pub board : all.seat.board ≡ at
  pub bound : all.seat.bound ≡ n
  pub seats : all.seat.seats ≡ count
  pub room : all.seat.room ≡ 64 - workers
  pub beyond : (x : ℕ) × (n ≤ x) × Contains all.seat.drawn x
  pub worked : IsWorked makes fine faulty n all.seat.drawn all.seat.lowered all.seat.seen all.pieces.items
  pub owns : length all.owns.items ≡ count
  pub fits : All Fits all.owns.items
  pub of : All (IsOf knows all.owns.items) all.pieces.items
