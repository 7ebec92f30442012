use Rattle.std.proofs.Common.{◌≡◌, ◌+◌}
use Rattle.jl_encoding.specs.declared.form.Form.TheVariants.{Triples}
use Rattle.jl_encode.specs.Answers.{next_number}
use Rattle.jl_encode.specs.Encoders.{progress}
use Rattle.jl_base.specs.Items.{item_of}
use Rattle.encode_made.specs.Made.{IsOfGroup}
use Rattle.encode_made.proofs.add_all.Given as goal

abbrev pub invariant-loop-i : goal.invariant-loop-i
invariant-loop-i g l = ((progress l.encoder).form ≡ Triples) × (next_number (progress l.encoder) ≡ l.i + 1) × IsOfGroup l.made.group (item_of l.made.item)
