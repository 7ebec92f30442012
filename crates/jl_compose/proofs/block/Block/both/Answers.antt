use Rattle.std.proofs.Common.{◌≡◌, ◌+◌, ◌*◌, ◌≤◌, ◌++◌, List, refl, ap, subst, ◌∙◌}
use Rattle.std.proofs.lemmas.Result.{IfOk-weaker}
use Rattle.jl_rows.specs.Seen.{options_seen}
use Rattle.jl_sym_laws.specs.Sizes.{all_slots}
use Rattle.jl_sym.specs.declared.summary.Summary.{Summary}
use Rattle.jl_compose.specs.Blocks.{all_writes, all_demands, seen_all}
use Rattle.jl_compose.specs.Turns.{ActsInTurn, seen_act}
use Rattle.jl_compose.proofs.Leaves.{joined_acts, joined_lawful, joined_bounded, joined_rows, single_turns}
use Rattle.jl_compose.proofs.block.Block.both.Goals as goal

pub returns-then-is_bounded-clause-acts : goal.returns-then-is_bounded-clause-acts
returns-then-is_bounded-clause-acts c =
    let bytes = c.args.bytes.now in
    IfOk-weaker c.joined.result _ _
    (λ b e. joined_acts (options_seen bytes c.args.options.now) bytes c.args.first.now.leaves.items c.args.second.now.leaves.items b.leaves.items (e ∙ λ i. c.deref-then-is_bounded.ensures.value i ++ c.deref-then-is_bounded-2.ensures.value i)) c.joined.ensures

pub returns-then-is_bounded-clause-lawful : goal.returns-then-is_bounded-clause-lawful
returns-then-is_bounded-clause-lawful c =
    let bytes = c.args.bytes.now in
    IfOk-weaker c.joined.result _ _
    (λ b e. joined_lawful (options_seen bytes c.args.options.now) bytes c.args.first.now.leaves.items c.args.second.now.leaves.items b.leaves.items (e ∙ λ i. c.deref-then-is_bounded.ensures.value i ++ c.deref-then-is_bounded-2.ensures.value i) c.requires.first c.requires.second) c.joined.ensures

pub returns-then-is_bounded-clause-bounded : goal.returns-then-is_bounded-clause-bounded
returns-then-is_bounded-clause-bounded c =
    let bytes = c.args.bytes.now in
    let o = options_seen bytes c.args.options.now in
    let writes : c.size_of-a.result.writes + c.size_of-b.result.writes ≡ all_writes c.args.first.now.leaves.items + all_writes c.args.second.now.leaves.items
    = λ i. (c.size_of-a.ensures.writes ∙ ap all_writes c.deref.ensures.value) i + (c.size_of-b.ensures.writes ∙ ap all_writes c.deref-2.ensures.value) i in
    let demands : c.size_of-a.result.demands + c.size_of-b.result.demands ≡ all_demands c.args.first.now.leaves.items + all_demands c.args.second.now.leaves.items
    = λ i. (c.size_of-a.ensures.demands ∙ ap all_demands c.deref.ensures.value) i + (c.size_of-b.ensures.demands ∙ ap all_demands c.deref-2.ensures.value) i in
    let fits = c.if-is_bounded.ensures.0 refl in
    IfOk-weaker c.joined.result _ _
    (λ b e. joined_bounded o bytes c.args.first.now.leaves.items c.args.second.now.leaves.items b.leaves.items (e ∙ λ i. c.deref-then-is_bounded.ensures.value i ++ c.deref-then-is_bounded-2.ensures.value i)
    (subst (λ n. n ≤ 1024 * all_slots o) writes fits.0, subst (λ n. n ≤ 256 * all_slots o + 8) demands fits.1)) c.joined.ensures

pub returns-then-is_bounded-clause-rows : goal.returns-then-is_bounded-clause-rows
returns-then-is_bounded-clause-rows c =
    let bytes = c.args.bytes.now in
    IfOk-weaker c.joined.result _ _
    (λ b e. joined_rows (options_seen bytes c.args.options.now) bytes c.args.first.now.leaves.items c.args.second.now.leaves.items b.leaves.items (e ∙ λ i. c.deref-then-is_bounded.ensures.value i ++ c.deref-then-is_bounded-2.ensures.value i)) c.joined.ensures

pub returns-clause-acts : goal.returns-clause-acts
returns-clause-acts c =
    let bytes = c.args.bytes.now in
    let o = options_seen bytes c.args.options.now in
    let m = c.in_ok-whole.whole in
    let ms = c.args.first.now.leaves.items in
    let ns = c.args.second.now.leaves.items in
    let turns : ActsInTurn o (seen_all bytes ms) (seen_all bytes ns) (seen_act bytes m)
    = subst (λ (l : List Summary). ActsInTurn o (seen_all bytes ms) (seen_all bytes l) (seen_act bytes m)) c.deref-4.ensures.value
    (subst (λ (l : List Summary). ActsInTurn o (seen_all bytes l) (seen_all bytes c.deref-4.result.now) (seen_act bytes m)) c.deref-3.ensures.value c.in_ok-whole.ensures.acts) in
    IfOk-weaker c.one.result _ _ (λ b e. single_turns o bytes ms ns b.leaves.items m e turns) c.one.ensures
