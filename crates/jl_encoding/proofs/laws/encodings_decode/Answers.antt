use Rattle.jl_encoding.proofs.EncodingLaws.{encodings_decoded, frames_are_short}
use Rattle.jl_encoding.proofs.laws.encodings_decode.Goals as goal

pub returns-clause-decode : goal.returns-clause-decode
returns-clause-decode c = encodings_decoded

pub returns-clause-short : goal.returns-clause-short
returns-clause-short c = frames_are_short
