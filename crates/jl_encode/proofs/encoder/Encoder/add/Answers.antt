use Rattle.std.proofs.Common.{refl}
use Rattle.jl_base.specs.Items.{item_of}
use Rattle.jl_encode.specs.Answers.{ends_frame}
use Rattle.jl_encode.specs.Encoders.{progress}
use Rattle.jl_encode.specs.Putting.{put_item}
use Rattle.jl_encode.proofs.Adding.{refused, hands_whole, hands_front, number_follows}
use Rattle.jl_encode.proofs.encoder.Encoder.add.Goals as goal

pub returns-in-Err-TooWide-clause-adds : goal.returns-in-Err-TooWide-clause-adds
returns-in-Err-TooWide-clause-adds g c is stands proper =
    let number = c.item-number.ensures in
    let wide = rw c.in-Err-TooWide.field-0-is at c.in-Err-TooWide.ensures.puts in
    rw number (refused (progress c.args.self.now) is (item_of c.args.item.now) stands wide, refl)

pub returns-in-Err-TooWide-clause-wide : goal.returns-in-Err-TooWide-clause-wide
returns-in-Err-TooWide-clause-wide g c =
    let number = c.item-number.ensures in
    let wide = rw c.in-Err-TooWide.field-0-is at c.in-Err-TooWide.ensures.puts in
    record { number = number; cause = wide; wide = λ is stands. rw number (refused (progress c.args.self.now) is (item_of c.args.item.now) stands wide) }

pub returns-in_default-clause-adds : goal.returns-in_default-clause-adds
returns-in_default-clause-adds g c is stands proper =
    let e = progress c.args.self.now in
    let i = item_of c.args.item.now in
    let e1 = progress c.put.new.self in
    hands_front e is i stands e1.body e1.desk c.requires.fits proper (put_item i e.lasts e.desk) refl c.in-Ok.ensures.puts e1 _ _ _ (ends_frame e1) c.in-Ok.ensures.kept refl c.in_default.ensures.hands

pub returns-clause-adds : goal.returns-clause-adds
returns-clause-adds g c is stands proper =
    let e = progress c.args.self.now in
    let i = item_of c.args.item.now in
    let e1 = progress c.put.new.self in
    hands_whole e is i stands e1.body e1.desk c.requires.fits proper (put_item i e.lasts e.desk) refl c.in-Ok.ensures.puts e1 (progress c.hand.new.self) _ _ c.in-Ok-hand.field-0 (ends_frame e1) c.in-Ok.ensures.kept refl c.in-Ok-hand.ensures.hands c.in-Ok-hand.ensures.counts

pub returns-clause-number : goal.returns-clause-number
returns-clause-number g c =
    let e1 = progress c.put.new.self in
    number_follows (progress c.args.self.now) e1 (progress c.hand.new.self) (item_of c.args.item.now) e1.body (ends_frame e1) c.in-Ok.ensures.puts c.in-Ok-hand.ensures.counts
