use Rattle.std.proofs.Common.{◌≡◌, ℕ, ◌+◌, ◌≤◌, refl, sym, ◌∙◌, arith}
use Rattle.jl_base.specs.Limits.{most_bytes}
use Rattle.jl_scan.specs.Fields.{seen}
use Rattle.jl_scan.proofs.FieldLemmas.{through_few}
use Rattle.jl_wave.proofs.WaveLemmas.{is_field, dead_now, reached_fault, reached_state, bench_dead, bench_there}
use Rattle.jl_wave.proofs.going.reach.Goals as goal

pub returns-then-is_dead-clause-there : goal.returns-then-is_dead-clause-there
returns-then-is_dead-clause-there g c =
    let w = g.F.Scanned.field in
    let scan = c.args.scan.now in
    dead_now w (is_field w scan.file scan.lo scan.field c.requires.file) (seen w c.args.from.now) scan.runs c.args.run c.args.bench.now.dead (sym c.if-is_dead.ensures) c.requires.bench.dead

pub reach-requires-clause-room : goal.reach-requires-clause-room
reach-requires-clause-room g c =
    let w = g.F.Scanned.field in
    let scan = c.args.scan.now in
    let few = through_few w c.args.run (is_field w scan.file scan.lo scan.field c.requires.file) in
    let none = c.requires.steps in
    let small : most_bytes ≡ 1073741824 = refl in
    omega (arith, few, none, small)

pub returns-in_err-fault-clause-steps : goal.returns-in_err-fault-clause-steps
returns-in_err-fault-clause-steps g c =
    let w = g.F.Scanned.field in
    let scan = c.args.scan.now in
    let few = through_few w c.args.run (is_field w scan.file scan.lo scan.field c.requires.file) in
    let none = c.requires.steps in
    let within = c.reach.ensures.within in
    omega (arith, few, none, within)

pub returns-then-is_some-clause-there : goal.returns-then-is_some-clause-there
returns-then-is_some-clause-there g c =
    let w = g.F.Scanned.field in
    let scan = c.args.scan.now in
    let is = is_field w scan.file scan.lo scan.field c.requires.file in
    let B = c.in_ok-go_back.ensures.bench in
    let here = c.in_ok-go_back.ensures.here in
    reached_fault w is (seen w c.args.from.now) scan.runs c.reach.new.pass.known c.go_back.new.bench.at c.args.run c.go_back.new.bench.state c.reach.new.state c.in_ok-fault.fault here.0 (sym c.if-is_some.ensures) (B.state here.1).1 c.in_ok-fault.ensures.reaches

pub returns-then-is_some-clause-bench : goal.returns-then-is_some-clause-bench
returns-then-is_some-clause-bench g c =
    let w = g.F.Scanned.field in
    let scan = c.args.scan.now in
    let B = c.in_ok-go_back.ensures.bench in
    bench_dead w (seen w c.args.from.now) scan.runs scan.cells _ c.args.run (c.reach.ensures.cells ∙ B.pass) B.within refl c.requires.within (returns-then-is_some-clause-there g c)

pub returns-then-is_some-clause-steps : goal.returns-then-is_some-clause-steps
returns-then-is_some-clause-steps g c =
    let w = g.F.Scanned.field in
    let scan = c.args.scan.now in
    let few = through_few w c.args.run (is_field w scan.file scan.lo scan.field c.requires.file) in
    let none = c.requires.steps in
    let within = c.reach.ensures.within in
    omega (arith, few, none, within)

pub returns-clause-bench : goal.returns-clause-bench
returns-clause-bench g c =
    let w = g.F.Scanned.field in
    let scan = c.args.scan.now in
    let is = is_field w scan.file scan.lo scan.field c.requires.file in
    let start = seen w c.args.from.now in
    let B = c.in_ok-go_back.ensures.bench in
    let here = c.in_ok-go_back.ensures.here in
    let there = reached_state w is start scan.runs c.reach.new.pass.known c.go_back.new.bench.at c.args.run c.go_back.new.bench.state c.reach.new.state c.in_ok-fault.fault here.0 (sym c.if-is_some.ensures) (B.state here.1).1 c.in_ok-fault.ensures.reaches in
    bench_there w start scan.runs scan.cells _ c.args.run c.reach.new.state (c.reach.ensures.cells ∙ B.pass) refl refl here.1 c.requires.within there.0 there.1

pub returns-clause-steps : goal.returns-clause-steps
returns-clause-steps g c =
    let w = g.F.Scanned.field in
    let scan = c.args.scan.now in
    let few = through_few w c.args.run (is_field w scan.file scan.lo scan.field c.requires.file) in
    let none = c.requires.steps in
    let within = c.reach.ensures.within in
    omega (arith, few, none, within)
