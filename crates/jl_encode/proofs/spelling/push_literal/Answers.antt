use Rattle.jl_base.specs.Items.{tail_of}
use Rattle.jl_encode.specs.Stated.{ending_stated}
use Rattle.jl_encode.proofs.ShortLemmas.{lex_short, tag_short}
use Rattle.jl_encode.proofs.spelling.push_literal.Goals as goal

pub push_typed_literal-requires : goal.push_typed_literal-requires
push_typed_literal-requires c = lex_short c.args.lex.now (ending_stated (tail_of c.args.tail.now) c.args.said.now) c.requires

pub push_tagged_literal-requires-clause-lex : goal.push_tagged_literal-requires-clause-lex
push_tagged_literal-requires-clause-lex c = lex_short c.args.lex.now (ending_stated (tail_of c.args.tail.now) c.args.said.now) c.requires

pub push_tagged_literal-requires-clause-tag : goal.push_tagged_literal-requires-clause-tag
push_tagged_literal-requires-clause-tag c =
    let short = rw (c.in-Lang-Texts.is-0, c.in-Lang-Texts.is-1) at c.requires in
    rw c.bytes.ensures (tag_short c.args.lex.now c.in-Lang-Texts.tag short)

pub push_simple_literal-requires : goal.push_simple_literal-requires
push_simple_literal-requires c = lex_short c.args.lex.now (ending_stated (tail_of c.args.tail.now) c.args.said.now) c.requires
