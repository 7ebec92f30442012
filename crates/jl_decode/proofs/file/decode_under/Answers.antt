use Rattle.jl_frames.proofs.Stretches.{index_laid}
use Rattle.jl_rows.specs.Files.{all_rows}
use Rattle.jl_decode.proofs.Endings.{opening_comes}
use Rattle.jl_decode.proofs.file.decode_under.Goals as goal

pub decode_frames-requires-clause-file : goal.decode_frames-requires-clause-file
decode_frames-requires-clause-file g c κs within = record {
  passed = c.requires.passed;
  short = c.requires.short;
  laid = index_laid c.args.space.now c.args.frames.now c.requires.indexed;
  cover = c.in-Ok.ensures.cover;
}

pub returns : goal.returns
returns g c =
    let begun = c.in-Ok-opening.ensures in
    let exact = rw c.bytes.ensures.all at begun.exact in
    let same = opening_comes c.args.space.now c.in-Ok-opening.decoding c.args.options.now c.args.writing (all_rows c.args.space.now) begun.options exact begun.empty begun.none begun.writing in
    rw same at c.decode_frames.ensures
