use Rattle.std.proofs.Common.{◌≡◌, ◌<◌, ◌^◌, drop}
use Rattle.jl_words.specs.Numbers as spec
use Rattle.jl_words.proofs.number.number.Given as goal

abbrev pub invariant-loop-byte : goal.invariant-loop-byte
invariant-loop-byte l =
    record {
      rest : spec.small_after l.number (drop l.byte-index l.text) ≡ spec.small_after 0 l.text;
      small : l.number < 2 ^ 64;
    }
