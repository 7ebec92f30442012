use Rattle.std.proofs.Common.{◌≡◌, ◌≤◌, ap, arith, length, Some}
use Rattle.jl_base.proofs.SourceListLemmas.{length-ReadsEach}
use Rattle.jl_words.specs.Jobs.{job_of, files_of}
use Rattle.jl_words.specs.Table.{line_of}
use Rattle.jl_top.proofs.run.run.Goals as goal

pub write_goal-requires-clause-many : goal.write_goal-requires-clause-many
write_goal-requires-clause-many g c =
    let gathered = c.in_ok-files.ensures in
    let asks : job_of c.args.words.now ≡ Some c.in-Some.job = cc in
    let many : (line_of c.in-Some.job.command).least ≤ length (files_of c.args.words.now (job_of c.args.words.now)) = rw asks c.in-Some.ensures.number.0 in
    let read = (length-ReadsEach _ _ _ _ gathered.each).1 in
    omega (arith, many, c.requires, read, ap length gathered.cause.0)
