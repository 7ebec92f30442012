use Rattle.std.proofs.Common.{◌≡◌, ◌+◌, ◌++◌, length, [], refl, sym, ◌∙◌, ap, append_assoc, append-nil, arith, length-append, List, ℕ}
use Rattle.jl_base.proofs.SourceLemmas.{Reads-append}
use Rattle.jl_base.proofs.space.Space.fill.Goals as goal

-- the last piece was read past the limit, and stands there
pub returns-then-limit-count : goal.returns-then-limit-count
returns-then-limit-count g c =
    let sofar = c.pieces.invariant in
    let piece = c.read.ensures in
    let got = c.in_ok-got.ensures in
    let all = sofar.done ++ got.bytes in
    let size : length all ≡ c.pieces.count + c.in_ok-got.got = omega (arith, length-append sofar.done got.bytes, got.count, sofar.count) in
    record {
      bytes = all;
      reads = Reads-append _ _ _ _ _ sofar.reads got.reads;
      kept = all;
      lost = [];
      split = sym (append-nil all);
      appended = got.appended ∙ ap (λ (x : List ℕ). x ++ got.bytes) (c.reserve.ensures ∙ sofar.appended) ∙ append_assoc c.args.self.now sofar.done got.bytes;
      whole = tt;
      ended = tt;
      too_long = (λ _. omega (arith, size, c.if-limit-count.true, sofar.within), λ _. refl);
      failed = λ told. (cc);
      steady = tt;
      steady_at_limit = λ told. got.steady ∙ sofar.steady;
      steady_without_memory = λ told. got.steady ∙ sofar.steady;
    }
