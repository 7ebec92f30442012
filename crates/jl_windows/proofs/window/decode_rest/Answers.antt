use Rattle.std.proofs.Common.{refl}
use Rattle.jl_windows.proofs.window.decode_rest.Goals as goal

pub windows-init : goal.windows-init
windows-init g c = record { going = c.requires.going; kept = c.requires.kept; few = c.requires.few; goes = λ writing strict before limit size k b. b }

pub returns-in-Err : goal.returns-in-Err
returns-in-Err g c writing strict before limit size k b =
    c.in-Err.ensures.comes writing strict before limit size k (c.windows.invariant.goes writing strict before limit size k b)

pub returns-then-last : goal.returns-then-last
returns-then-last g c writing strict before limit size k b =
    let came = rw c.if-last.true at (c.in-Ok.ensures.comes writing strict before limit size k (c.windows.invariant.goes writing strict before limit size k b)) in
    rw c.given.ensures came

pub windows-preserved : goal.windows-preserved
windows-preserved g c =
    let said = rw c.if-last.false at c.in-Ok.ensures in
    record {
      going = said.going refl;
      kept = said.kept;
      few = said.few;
      goes = λ writing strict before limit size k b. said.comes writing strict before limit size k (c.windows.invariant.goes writing strict before limit size k b);
    }

pub windows-smaller : goal.windows-smaller
windows-smaller g c = let said = rw c.if-last.false at c.in-Ok.ensures in said.comes_on refl
