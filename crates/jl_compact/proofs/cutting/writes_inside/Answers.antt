use Rattle.std.proofs.Common.{ℕ, sym, ◌∙◌, ap}
use Rattle.jl_rows.specs.Seen.{options_seen}
use Rattle.jl_sym_laws.specs.Cutting.{is_id_in}
use Rattle.jl_sym.specs.Seen.{id_seen}
use Rattle.jl_compact.proofs.Inside.{cutting_start, cutting_stays, cutting_goes, cutting_end}
use Rattle.jl_compact.proofs.Lists.{empty_is}
use Rattle.jl_compact.proofs.cutting.writes_inside.Goals as goal

pub by_write-init : goal.by_write-init
by_write-init c = cutting_start c.args.bytes.now (options_seen c.args.bytes.now c.args.options.now) c.args.writes.now c.new-inside.result.items c.new-inside.ensures.items c.requires.texts

pub by_write-preserved-then-not-is_in : goal.by_write-preserved-then-not-is_in
by_write-preserved-then-not-is_in c =
    let is = c.is_in.ensures ∙ ap (λ (n : ℕ). is_id_in n (id_seen c.in-Some.write.now.id)) (c.size_of.ensures c.args.bytes.now) in
    cutting_goes c.args.bytes.now (options_seen c.args.bytes.now c.args.options.now) c.args.writes.now c.by_write.inside.items c.in-Some.write.now c.in-Some.later.now c.by_write.rest.now
    c.in-Some.ensures.cases.0 (sym is ∙ c.if-not-is_in.true) c.by_write.invariant

pub by_write-preserved : goal.by_write-preserved
by_write-preserved c =
    let is = c.is_in.ensures ∙ ap (λ (n : ℕ). is_id_in n (id_seen c.in-Some.write.now.id)) (c.size_of.ensures c.args.bytes.now) in
    cutting_stays c.args.bytes.now (options_seen c.args.bytes.now c.args.options.now) c.args.writes.now c.by_write.inside.items c.push.new.self.items c.in-Some.write.now c.in-Some.later.now c.by_write.rest.now
    c.in-Some.ensures.cases.0 c.in_ok-push.ensures.items (sym is ∙ c.if-not-is_in.false) c.by_write.invariant

pub returns-clause-exact : goal.returns-clause-exact
returns-clause-exact c = cutting_end c.args.bytes.now (options_seen c.args.bytes.now c.args.options.now) c.args.writes.now c.by_write.inside.items c.by_write.rest.now (empty_is c.by_write.rest.now c.in_default.ensures.cases) c.by_write.invariant
