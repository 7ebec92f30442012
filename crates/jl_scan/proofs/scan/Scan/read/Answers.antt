use Rattle.std.proofs.Common.{◌≡◌, ℕ, ◌+◌, List, sym, subst}
use Rattle.jl_tape.specs.Runs.{run_rows}
use Rattle.jl_tape.specs.Tapes.{HasRows, reading_of}
use Rattle.jl_scan.specs.Fields.{Field, HoldsRun}
use Rattle.jl_scan.specs.Files.{field_of}
use Rattle.jl_scan.proofs.FieldLemmas.{field_is, holds_run}
use Rattle.jl_scan.proofs.scan.Scan.read.Goals as goal

pub read_run-requires-clause-run : goal.read_run-requires-clause-run
read_run-requires-clause-run g c =
    let file = c.args.self.now.file in
    (c.planned_runs.ensures file.frames.now file.plan.now (c.args.self.now.lo + c.args.k) c.run-run.result c.requires.file.cover c.run-run.ensures).within

pub returns : goal.returns
returns g c = record {
  holds =
      let self = c.args.self.now in
      let file = self.file in
      let run = c.run-run.result in
      let same = c.bytes.ensures.all in
      let tape = c.read_run.new.tape in
      let fault = c.in_ok-fault.fault in
      let has = subst (λ (bytes : List ℕ). HasRows bytes tape) same c.read_run.ensures.has in
      let read = subst (λ (bytes : List ℕ). reading_of bytes tape fault ≡ run_rows bytes file.frames.now run) same c.in_ok-fault.ensures.read in
      let holds = holds_run (field_of file self.lo) (field_is file self.lo c.requires.file) c.args.k run tape fault c.run-run.ensures has read c.read_run.ensures.few in
      subst (λ (w : Field). HoldsRun w c.args.k tape fault) (sym self.field) holds;
}
