use Rattle.std.proofs.Common.{ℕ, List, subst}
use Rattle.jl_rows.specs.Seen.{options_seen}
use Rattle.jl_compose.specs.Blocks.{seen_all, AreLawful, IsBounded}
use Rattle.jl_compose.specs.Turns.{ActsInTurn}
use Rattle.jl_scan.specs.Files.{field_of}
use Rattle.jl_scan.proofs.FieldLemmas.{field_is, sums_both, few_rows}
use Rattle.jl_scan.proofs.summing.of_both.Goals as goal

pub both-requires-clause-few : goal.both-requires-clause-few
both-requires-clause-few c =
    let lo = c.requires.sums.0 in
    let left = c.requires.sums.1 in
    let right = c.requires.sums.2 in
    few_rows (field_of c.args.file.now lo) (field_is c.args.file.now lo c.requires.file) c.args._runs.0 c.args._runs.1 c.args._runs.2 c.args.a.now.leaves.items c.args.b.now.leaves.items left.few right.few

pub returns : goal.returns
returns c = record {
  sums = λ lo left right.
      let w = field_of c.args.file.now lo in
      let is = field_is c.args.file.now lo c.requires.file in
      let same = c.bytes.ensures.all in
      let o = c.args.file.now.options.now in
      let ms = c.args.a.now.leaves.items in
      let ns = c.args.b.now.leaves.items in
      let ks = c.in_ok-block.block.leaves.items in
      let turn = subst (λ (bytes : List ℕ). ActsInTurn (options_seen bytes o) (seen_all bytes ms) (seen_all bytes ns) (seen_all bytes ks)) same c.in_ok-block.ensures.acts in
      let lawful = subst (λ (bytes : List ℕ). AreLawful (options_seen bytes o) bytes ks) same c.in_ok-block.ensures.lawful in
      let bounded = subst (λ (bytes : List ℕ). IsBounded (options_seen bytes o) ks) same c.in_ok-block.ensures.bounded in
      let keeps = c.leaves.ensures.settle w.options w.bytes ms left.lawful in
      sums_both w is c.args._runs.0 c.args._runs.1 c.args._runs.2 ms ns ks c.both_sum.ensures.sums keeps left right turn lawful bounded c.in_ok-block.ensures.rows;
}
