use Rattle.std.proofs.Common.{length, refl}
use Rattle.jl_compact.specs.Parts.{writes_seen}
use Rattle.jl_compact.proofs.Forward.{front_goes, front_stays, front_first, front_last}
use Rattle.jl_compact.proofs.Lists.{texts_more, texts_after, no_texts, empty_is}
use Rattle.jl_compact.proofs.writes.keep.Goals as goal

pub by_write-init : goal.by_write-init
by_write-init c = (
  no_texts c.args.bytes.now c.args.kept.now.items c.requires.none,
  c.requires.texts,
  front_first c.args.bytes.now (length c.args.filled.now) c.args.moments.now (writes_seen c.args.bytes.now c.args.writes.now) c.args.kept.now.items c.args.filled.now c.args.flags.now c.requires.none c.requires.room c.requires.flags refl c.requires.fresh,
)

pub by_write-preserved-then-goes : goal.by_write-preserved-then-goes
by_write-preserved-then-goes c = (
  c.by_write.invariant.0,
  texts_after c.args.bytes.now c.in-Some.write.now c.in-Some.later.now c.by_write.rest.now c.in-Some.ensures.cases.0 c.by_write.invariant.1,
  front_goes c.args.bytes.now (length c.args.filled.now) c.args.moments.now (writes_seen c.args.bytes.now c.args.writes.now) c.by_write.kept.items c.in-Some.write.now c.in-Some.later.now c.by_write.rest.now c.by_write.filled
      c.in-Some-split_first.flag.now c.in-Some-split_first.more.now c.by_write.unseen.now c.address-at.result c.in-Some.ensures.cases.0 c.in-Some-split_first.ensures.cases.0 c.address-at.ensures.exact c.by_write.invariant.2 c.if-goes.true,
)

pub by_write-preserved : goal.by_write-preserved
by_write-preserved c = (
  texts_more c.args.bytes.now c.by_write.kept.items c.push.new.self.items c.in-Some.write.now c.in-Some.later.now c.by_write.rest.now c.in-Some.ensures.cases.0 c.in_ok-push.ensures.items c.by_write.invariant.0 c.by_write.invariant.1,
  texts_after c.args.bytes.now c.in-Some.write.now c.in-Some.later.now c.by_write.rest.now c.in-Some.ensures.cases.0 c.by_write.invariant.1,
  front_stays c.args.bytes.now (length c.args.filled.now) c.args.moments.now (writes_seen c.args.bytes.now c.args.writes.now) c.by_write.kept.items c.push.new.self.items c.in-Some.write.now c.in-Some.later.now c.by_write.rest.now c.by_write.filled
      c.in-Some-split_first.flag.now c.in-Some-split_first.more.now c.by_write.unseen.now c.address-at.result c.in-Some.ensures.cases.0 c.in-Some-split_first.ensures.cases.0 c.address-at.ensures.exact c.in_ok-push.ensures.items c.by_write.invariant.2 c.if-goes.false,
)

pub returns-clause-exact : goal.returns-clause-exact
returns-clause-exact c =
    front_last c.args.bytes.now (length c.args.filled.now) c.args.moments.now (writes_seen c.args.bytes.now c.args.writes.now) c.by_write.kept.items c.by_write.rest.now c.by_write.filled c.by_write.unseen.now (empty_is c.by_write.rest.now c.in_default.ensures.cases) c.by_write.invariant.2
