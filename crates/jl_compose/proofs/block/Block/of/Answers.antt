use Rattle.std.proofs.Common.{refl}
use Rattle.std.proofs.lemmas.Result.{IfOk-weaker}
use Rattle.jl_rows.specs.Seen.{options_seen}
use Rattle.jl_compose.specs.Turns.{seen_act}
use Rattle.jl_compose.proofs.Leaves.{single_acts}
use Rattle.jl_compose.proofs.block.Block.of.Goals as goal

pub returns-then-is_bounded-clause-acts : goal.returns-then-is_bounded-clause-acts
returns-then-is_bounded-clause-acts c =
    let bytes = c.args.bytes.now in
    let m = c.args.summary in
    IfOk-weaker c.one.result _ _ (λ b e. single_acts (options_seen bytes c.args.options.now) bytes b.leaves.items m (seen_act bytes m) e (λ s now. refl)) c.one.ensures

pub returns-clause-acts : goal.returns-clause-acts
returns-clause-acts c =
    let bytes = c.args.bytes.now in
    IfOk-weaker c.one-2.result _ _
    (λ b e. single_acts (options_seen bytes c.args.options.now) bytes b.leaves.items c.compact.new.summary (seen_act bytes c.args.summary) e (λ s now. c.in_ok-compact.ensures.acts s now.sized)) c.one-2.ensures
