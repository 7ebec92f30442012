use Rattle.jl_rows.proofs.Carrying.{grows_then}
use Rattle.jl_state.specs.Extents.{text_in}
use Rattle.jl_state.specs.KnownTerms.{tail_value}
use Rattle.jl_state.specs.Texts.{tail_text}
use Rattle.jl_state.proofs.Carrying.{literal_carried, two_after}
use Rattle.jl_state.proofs.carry.carry_literal.Goals as goal

pub returns-in_err-tail-clause-grows : goal.returns-in_err-tail-clause-grows
returns-in_err-tail-clause-grows c = grows_then c.args.into.now c.carried.new.into c.carry_tail.new.into c.carried.ensures.grows c.carry_tail.ensures.grows

pub returns-clause-carries : goal.returns-clause-carries
returns-clause-carries c =
    literal_carried c.args.from.now c.carried.new.into c.carry_tail.new.into c.carry_tail.ensures.grows c.args.lex c.in_ok-lex.lex c.args.tail c.in_ok-tail.tail c.in_ok-lex.ensures.carries c.in_ok-tail.ensures.carries

pub returns-clause-grows : goal.returns-clause-grows
returns-clause-grows c = grows_then c.args.into.now c.carried.new.into c.carry_tail.new.into c.carried.ensures.grows c.carry_tail.ensures.grows

pub returns-clause-after : goal.returns-clause-after
returns-clause-after c = two_after c.args.into.now c.carried.new.into c.carry_tail.new.into (text_in c.args.from.now c.args.lex) (tail_text (tail_value c.args.from.now c.args.tail)) c.in_ok-lex.ensures.after c.in_ok-tail.ensures.after
