use Rattle.std.proofs.Common.{ℕ, List, sym, subst}
use Rattle.jl_rows.specs.Seen.{options_seen}
use Rattle.jl_tape.specs.Tapes.{HasRows, reading_of}
use Rattle.jl_compose.specs.Blocks.{seen_all, AreLawful, IsBounded}
use Rattle.jl_compose.specs.Turns.{seen_act, ActsAlike}
use Rattle.jl_sym.specs.Seen.{summary_seen}
use Rattle.jl_sym.specs.Sums.{SumsOn}
use Rattle.jl_scan.specs.Files.{field_of}
use Rattle.jl_scan.proofs.FieldLemmas.{few_on_tape, field_is, sums_tape}
use Rattle.jl_scan.proofs.summing.of_tape.Goals as goal

pub summarise_tape-requires-clause-rows : goal.summarise_tape-requires-clause-rows
summarise_tape-requires-clause-rows c = subst (λ (bytes : List ℕ). HasRows bytes c.args.tape.now) (sym c.bytes-bytes.ensures.all) c.requires.run.2.has

pub summarise_tape-requires-clause-few : goal.summarise_tape-requires-clause-few
summarise_tape-requires-clause-few c =
    let lo = c.requires.run.0 in
    few_on_tape (field_of c.args.file.now lo) (field_is c.args.file.now lo c.requires.file) c.requires.run.1 c.args.tape.now c.args.fault c.requires.run.2

pub returns : goal.returns
returns c = record {
  sums = λ lo k within holds.
      let w = field_of c.args.file.now lo in
      let is = field_is c.args.file.now lo c.requires.file in
      let same = c.bytes-bytes.ensures.all in
      let o = c.args.file.now.options.now in
      let tape = c.args.tape.now in
      let fault = c.args.fault in
      let m = c.in_ok-summary.summary in
      let ms = c.in_ok-block.block.leaves.items in
      let on = subst (λ (bytes : List ℕ). SumsOn (options_seen bytes o) (reading_of bytes tape fault) (summary_seen bytes m)) same c.in_ok-summary.ensures.acts in
      let acts = c.sums_lead.ensures.sums w.options (reading_of w.bytes tape fault) (summary_seen w.bytes m) on in
      let alike = subst (λ (bytes : List ℕ). ActsAlike (options_seen bytes o) (seen_all bytes ms) (seen_act bytes m)) same c.in_ok-block.ensures.acts in
      let lawful = subst (λ (bytes : List ℕ). AreLawful (options_seen bytes o) bytes ms) same c.in_ok-block.ensures.lawful in
      let bounded = subst (λ (bytes : List ℕ). IsBounded (options_seen bytes o) ms) same c.in_ok-block.ensures.bounded in
      sums_tape w is k tape fault m ms holds within acts alike lawful bounded c.in_ok-block.ensures.rows c.in_ok-summary.ensures.rows;
}
