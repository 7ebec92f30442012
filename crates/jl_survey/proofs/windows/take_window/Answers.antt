use Rattle.std.proofs.Common.{◌≡◌, Bool, true, List, ℕ, subst}
use Rattle.jl_frames.specs.Feeding.{HasWindow}
use Rattle.jl_survey.specs.Counting.{HaveAllPassed}
use Rattle.jl_survey.specs.Windowed.{lies_in}
use Rattle.jl_survey.proofs.WindowedLaws.{refused, seen_there, over_there, passed_there, passed_new, comes_ok, comes_err, comes_none, room_next}
use Rattle.jl_survey.proofs.windows.take_window.Goals as goal

pub returns-in-Err-clause-comes : goal.returns-in-Err-clause-comes
returns-in-Err-clause-comes g c before limit so_far =
    rw c.why_unread.ensures (refused before (g.S.Source.told c.args.source.now) (g.S.Source.told c.window.new.source) limit c.args.left.now c.window.new.left c.args.feed.now c.window.new.self c.args.kept.now c.args.kept.now c.args.survey.now c.cut.new.self c.window.new.space so_far c.in-Err.fault c.in-Err.ensures)

pub returns-in-Err-more-clause-comes : goal.returns-in-Err-more-clause-comes
returns-in-Err-more-clause-comes g c before limit so_far =
    let fed = c.in-Ok.ensures in
    let w = c.in-Ok.window in
    let new = c.window.new.space in
    let has = subst (λ (old : List ℕ). HasWindow c.args.feed.now c.window.new.self (g.S.Source.told c.args.source.now) (g.S.Source.told c.window.new.source) c.args.left.now c.window.new.left fed.taken old new w) c.cut.ensures fed.cause in
    let is = c.is_some-had.ensures in
    let there = lies_in c.is_some-had.result c.args.kept.now new in
    let same = seen_there c.is_some-had.result c.args.kept.now new c.args.survey.now is in
    let over = over_there c.is_some-had.result c.args.kept.now new c.args.survey.now is in
    comes_err before (g.S.Source.told c.args.source.now) (g.S.Source.told c.window.new.source) limit c.args.left.now c.window.new.left c.args.feed.now c.window.new.self c.args.kept.now there new c.args.survey.now w so_far fed.taken has same fed.reads over c.args.kept.now c.in-Err-more.fault (λ size bodies B. c.in-Err-more.ensures.comes there size bodies B over)

pub keep_options-requires : goal.keep_options-requires
keep_options-requires g c none = passed_new c.is_some-had.result c.window.new.space c.args.survey.now.options c.more.new.self.options c.is_some-had.ensures none c.in_default.ensures.options.passed

pub returns-in-Ok-keep_options-clause-comes : goal.returns-in-Ok-keep_options-clause-comes
returns-in-Ok-keep_options-clause-comes g c before limit so_far =
    let fed = c.in-Ok.ensures in
    let w = c.in-Ok.window in
    let new = c.window.new.space in
    let has = subst (λ (old : List ℕ). HasWindow c.args.feed.now c.window.new.self (g.S.Source.told c.args.source.now) (g.S.Source.told c.window.new.source) c.args.left.now c.window.new.left fed.taken old new w) c.cut.ensures fed.cause in
    let is = c.is_some-had.ensures in
    let there = lies_in c.is_some-had.result c.args.kept.now new in
    let same = seen_there c.is_some-had.result c.args.kept.now new c.args.survey.now is in
    let over = over_there c.is_some-had.result c.args.kept.now new c.args.survey.now is in
    let passed = passed_there c.is_some-had.result c.args.kept.now new c.args.survey.now c.more.new.self is so_far.passed c.in_default.ensures.options.kept c.in_default.ensures.options.passed in
    comes_ok before (g.S.Source.told c.args.source.now) (g.S.Source.told c.window.new.source) limit c.args.left.now c.window.new.left c.args.feed.now c.window.new.self c.args.kept.now there new c.args.survey.now w so_far fed.taken has same fed.reads over c.more.new.self c.keep_options.new.survey c.keep_options.new.kept (λ size bodies B. c.in_default.ensures.comes there size bodies B over) c.in-Ok-keep_options.ensures.seen
    (c.in-Ok-keep_options.ensures.passed (λ (had : c.is_some-had.result ≡ true). subst (λ (b : Bool). HaveAllPassed (lies_in b c.args.kept.now new) c.more.new.self.options) had passed))

pub returns-in-Ok-keep_options-clause-few : goal.returns-in-Ok-keep_options-clause-few
returns-in-Ok-keep_options-clause-few g c goes =
    let fed = c.in-Ok.ensures in
    let w = c.in-Ok.window in
    let new = c.window.new.space in
    room_next c.args.feed.now c.window.new.self (g.S.Source.told c.args.source.now) (g.S.Source.told c.window.new.source) c.args.left.now c.window.new.left fed.taken c.cut.new.self new w c.args.survey.now c.more.new.self c.keep_options.new.survey fed.cause c.requires.few c.in_default.ensures.few c.keep_options.ensures.few

pub returns-clause-comes : goal.returns-clause-comes
returns-clause-comes g c before limit so_far =
    let fed = c.in-Ok.ensures in
    let w = c.in-Ok.window in
    let new = c.window.new.space in
    let has = subst (λ (old : List ℕ). HasWindow c.args.feed.now c.window.new.self (g.S.Source.told c.args.source.now) (g.S.Source.told c.window.new.source) c.args.left.now c.window.new.left fed.taken old new w) c.cut.ensures fed.cause in
    let is = c.is_some-had.ensures in
    let there = lies_in c.is_some-had.result c.args.kept.now new in
    let same = seen_there c.is_some-had.result c.args.kept.now new c.args.survey.now is in
    let over = over_there c.is_some-had.result c.args.kept.now new c.args.survey.now is in
    comes_none before (g.S.Source.told c.args.source.now) (g.S.Source.told c.window.new.source) limit c.args.left.now c.window.new.left c.args.feed.now c.window.new.self c.args.kept.now there new c.args.survey.now w so_far fed.taken has same fed.reads over c.keep_options.new.kept
