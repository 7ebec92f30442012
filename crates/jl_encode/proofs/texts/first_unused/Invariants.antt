use Rattle.std.proofs.Common.{◌≡◌, ◌-◌, not, find, slice_get}
use Rattle.jl_encoding.specs.Slots.{numbers_from}
use Rattle.jl_encode.specs.Desks.{is_mark}
use Rattle.jl_encode.proofs.texts.first_unused.Given as goal

abbrev pub invariant-loop-k : goal.invariant-loop-k
invariant-loop-k l =
    find (λ j. not (is_mark l.item (slice_get l.marks j))) (numbers_from l.from (l.to - l.from))
    ≡ find (λ j. not (is_mark l.item (slice_get l.marks j))) (numbers_from l.k (l.to - l.k))
