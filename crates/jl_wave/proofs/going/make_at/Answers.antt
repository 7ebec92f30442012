use Rattle.std.proofs.Common.{◌≡◌, ℕ, ◌+◌, ◌≤◌, ◌^◌, List, Ok, refl, ap, sym, subst, ◌∙◌, arith}
use Rattle.jl_sym_laws.proofs.Staying.{rows_settle}
use Rattle.jl_scan.specs.Fields.{Field, after, seen}
use Rattle.jl_scan.proofs.FieldLemmas.{few_on_tape}
use Rattle.jl_wave.specs.Tapes.{Ends, stated}
use Rattle.jl_wave.proofs.WaveLemmas.{is_field, bench_after, ends_after, led, made_of}
use Rattle.jl_wave.proofs.going.make_at.Goals as goal

pub make-requires-clause-few : goal.make-requires-clause-few
make-requires-clause-few g c =
    let w = g.F.Scanned.field in
    let scan = c.args.scan.now in
    let few = few_on_tape w (is_field w scan.file scan.lo scan.field c.requires.file) c.args.run c.args.bench.now.tape c.args.fault c.requires.holds in
    let small : 2 ^ 30 ≡ 1073741824 = refl in
    omega (arith, few, small)

pub returns-clause-bench : goal.returns-clause-bench
returns-clause-bench g c =
    let w = g.F.Scanned.field in
    let scan = c.args.scan.now in
    let bench = c.args.bench.now in
    let start = seen w c.args._from.now in
    let same : c.bytes-bytes.result.now ≡ w.bytes = c.bytes-bytes.ensures.all ∙ sym (ap (λ (x : Field). x.bytes) scan.field) in
    let here = c.requires.bench.state c.requires.there.1 in
    let came = subst (λ (k : ℕ). after w 0 k start ≡ Ok (seen w bench.state)) c.requires.there.0 here.1 in
    let ends = subst (λ (b : List ℕ). Ends b bench.state c.make.new.state bench.tape c.args.fault c.in_ok-made.fault) same c.in_ok-made.ensures.ends in
    let on = led w rows_settle c.args.run bench.state c.make.new.state bench.tape c.args.fault c.in_ok-made.fault here.0 c.requires.holds ends in
    bench_after w (is_field w scan.file scan.lo scan.field c.requires.file) start c.args.run bench.state c.make.new.state came scan.runs scan.cells _ c.in_ok-made.fault c.requires.bench.pass refl refl c.dead_after-bench.ensures c.requires.within on

pub returns-clause-made : goal.returns-clause-made
returns-clause-made g c =
    let w = g.F.Scanned.field in
    let scan = c.args.scan.now in
    let bench = c.args.bench.now in
    let start = seen w c.args._from.now in
    let makes = g.M.Making.makes c.args.maker.now in
    let same : c.bytes-bytes.result.now ≡ w.bytes = c.bytes-bytes.ensures.all ∙ sym (ap (λ (x : Field). x.bytes) scan.field) in
    let here = c.requires.bench.state c.requires.there.1 in
    let came = subst (λ (k : ℕ). after w 0 k start ≡ Ok (seen w bench.state)) c.requires.there.0 here.1 in
    let made = subst (λ (b : List ℕ). makes (stated b bench.state bench.tape c.args.fault) c.in_ok-made.made) same c.in_ok-made.ensures.made in
    (seen w bench.state, came, made_of w c.args.run bench.state bench.tape c.args.fault makes c.in_ok-made.made here.0 c.requires.holds made)

pub returns-clause-ends : goal.returns-clause-ends
returns-clause-ends g c =
    let w = g.F.Scanned.field in
    let scan = c.args.scan.now in
    let bench = c.args.bench.now in
    let start = seen w c.args._from.now in
    let same : c.bytes-bytes.result.now ≡ w.bytes = c.bytes-bytes.ensures.all ∙ sym (ap (λ (x : Field). x.bytes) scan.field) in
    let here = c.requires.bench.state c.requires.there.1 in
    let came = subst (λ (k : ℕ). after w 0 k start ≡ Ok (seen w bench.state)) c.requires.there.0 here.1 in
    let ends = subst (λ (b : List ℕ). Ends b bench.state c.make.new.state bench.tape c.args.fault c.in_ok-made.fault) same c.in_ok-made.ensures.ends in
    let on = led w rows_settle c.args.run bench.state c.make.new.state bench.tape c.args.fault c.in_ok-made.fault here.0 c.requires.holds ends in
    ends_after w (is_field w scan.file scan.lo scan.field c.requires.file) start c.args.run bench.state c.make.new.state came c.in_ok-made.fault on
