use Rattle.std.proofs.Common.{◌≡◌, ◌∙◌, false, sym, ap, subst}
use Rattle.std.proofs.lemmas.Bool.{eq-eqb, ne_eqb}
use Rattle.jl_base.specs.Spans.{text_of}
use Rattle.jl_rows.specs.declared.row.Row as code
use Rattle.jl_rows.specs.declared.row.Row.TheVariants as codes
use Rattle.jl_rows.specs.Decoder.{is_wrong_row}
use Rattle.jl_rows.specs.Seen.{row_seen, position_seen}
use Rattle.jl_state.specs.Steps.{step}
use Rattle.jl_state.specs.Running.{state_of}
use Rattle.jl_sym_laws.specs.SmallSteps.{Small, small_step}
use Rattle.jl_sym.specs.Asking.{Grows}
use Rattle.jl_sym.specs.Checked.{options_of}
use Rattle.jl_sym.specs.RowSteps.{three_on, inside_on, four_on, start_on, end_on}
use Rattle.jl_sym.specs.Seen.{growing_seen}
use Rattle.jl_sym.proofs.EntryLemmas.{entry_is}
use Rattle.jl_sym.proofs.GrowLemmas.{grows_ext}
use Rattle.jl_sym.proofs.RowSteps.{triple_is, triple_inside_is, quad_is, start_is, end_is}
use Rattle.jl_sym.proofs.growing.Growing.row.Goals as goal

pub returns-then-here-eq-GRAPHS-clause-grows : goal.returns-then-here-eq-GRAPHS-clause-grows
returns-then-here-eq-GRAPHS-clause-grows c =
    let here = c.args.here.now in
    let o = options_of here in
    let bytes = here.bytes.now in
    let m0 = growing_seen bytes c.args.self.now in
    let m1 = growing_seen bytes c.triple_inside.new.self in
    let right : is_wrong_row o (row_seen bytes c.args.row.now) ≡ false = sym c.if-is_wrong_row.ensures in
    subst (λ (r : code.Row). Grows o here.place.now (λ s. state_of (step o (row_seen bytes r) s)) m0 m1 c.triple_inside.result) (sym c.in-Triple.is)
    (grows_ext o here.place.now (inside_on o (position_seen bytes c.in-Triple.t.s) (position_seen bytes c.in-Triple.t.p) (position_seen bytes c.in-Triple.t.o)) (λ s. state_of (step o (row_seen bytes (codes.Triple c.in-Triple.t)) s)) m0 m1 c.triple_inside.result
    (triple_inside_is o (position_seen bytes c.in-Triple.t.s) (position_seen bytes c.in-Triple.t.p) (position_seen bytes c.in-Triple.t.o) (ap (λ (r : code.Row). is_wrong_row o (row_seen bytes r)) (sym c.in-Triple.is) ∙ right) (eq-eqb here.options.now.physical 3 c.if-here-eq-GRAPHS.true)) c.triple_inside.ensures.grows)

pub returns-else-here-eq-GRAPHS-clause-grows : goal.returns-else-here-eq-GRAPHS-clause-grows
returns-else-here-eq-GRAPHS-clause-grows c =
    let here = c.args.here.now in
    let o = options_of here in
    let bytes = here.bytes.now in
    let m0 = growing_seen bytes c.args.self.now in
    let m1 = growing_seen bytes c.triple.new.self in
    let right : is_wrong_row o (row_seen bytes c.args.row.now) ≡ false = sym c.if-is_wrong_row.ensures in
    subst (λ (r : code.Row). Grows o here.place.now (λ s. state_of (step o (row_seen bytes r) s)) m0 m1 c.triple.result) (sym c.in-Triple.is)
    (grows_ext o here.place.now (three_on o (position_seen bytes c.in-Triple.t.s) (position_seen bytes c.in-Triple.t.p) (position_seen bytes c.in-Triple.t.o)) (λ s. state_of (step o (row_seen bytes (codes.Triple c.in-Triple.t)) s)) m0 m1 c.triple.result
    (triple_is o (position_seen bytes c.in-Triple.t.s) (position_seen bytes c.in-Triple.t.p) (position_seen bytes c.in-Triple.t.o) (ap (λ (r : code.Row). is_wrong_row o (row_seen bytes r)) (sym c.in-Triple.is) ∙ right) (ne_eqb here.options.now.physical 3 c.if-here-eq-GRAPHS.false)) c.triple.ensures.grows)

pub returns-in-Quad-clause-grows : goal.returns-in-Quad-clause-grows
returns-in-Quad-clause-grows c =
    let here = c.args.here.now in
    let o = options_of here in
    let bytes = here.bytes.now in
    let m0 = growing_seen bytes c.args.self.now in
    let m1 = growing_seen bytes c.quad.new.self in
    let right : is_wrong_row o (row_seen bytes c.args.row.now) ≡ false = sym c.if-is_wrong_row.ensures in
    subst (λ (r : code.Row). Grows o here.place.now (λ s. state_of (step o (row_seen bytes r) s)) m0 m1 c.quad.result) (sym c.in-Quad.is)
    (grows_ext o here.place.now (four_on o (position_seen bytes c.in-Quad.t.s) (position_seen bytes c.in-Quad.t.p) (position_seen bytes c.in-Quad.t.o) (position_seen bytes c.in-Quad.t.g)) (λ s. state_of (step o (row_seen bytes (codes.Quad c.in-Quad.t)) s)) m0 m1 c.quad.result
    (quad_is o (position_seen bytes c.in-Quad.t.s) (position_seen bytes c.in-Quad.t.p) (position_seen bytes c.in-Quad.t.o) (position_seen bytes c.in-Quad.t.g) (ap (λ (r : code.Row). is_wrong_row o (row_seen bytes r)) (sym c.in-Quad.is) ∙ right)) c.quad.ensures.grows)

pub returns-in-GraphStart-clause-grows : goal.returns-in-GraphStart-clause-grows
returns-in-GraphStart-clause-grows c =
    let here = c.args.here.now in
    let o = options_of here in
    let bytes = here.bytes.now in
    let m0 = growing_seen bytes c.args.self.now in
    let m1 = growing_seen bytes c.graph_start.new.self in
    let right : is_wrong_row o (row_seen bytes c.args.row.now) ≡ false = sym c.if-is_wrong_row.ensures in
    subst (λ (r : code.Row). Grows o here.place.now (λ s. state_of (step o (row_seen bytes r) s)) m0 m1 c.graph_start.result) (sym c.in-GraphStart.is)
    (grows_ext o here.place.now (start_on o (position_seen bytes c.in-GraphStart.g)) (λ s. state_of (step o (row_seen bytes (codes.GraphStart c.in-GraphStart.g)) s)) m0 m1 c.graph_start.result
    (start_is o (position_seen bytes c.in-GraphStart.g) (ap (λ (r : code.Row). is_wrong_row o (row_seen bytes r)) (sym c.in-GraphStart.is) ∙ right)) c.graph_start.ensures.grows)

pub returns-in-GraphEnd-clause-grows : goal.returns-in-GraphEnd-clause-grows
returns-in-GraphEnd-clause-grows c =
    let here = c.args.here.now in
    let o = options_of here in
    let bytes = here.bytes.now in
    let m0 = growing_seen bytes c.args.self.now in
    let m1 = growing_seen bytes c.graph_end.new.self in
    let right : is_wrong_row o (row_seen bytes c.args.row.now) ≡ false = sym c.if-is_wrong_row.ensures in
    subst (λ (r : code.Row). Grows o here.place.now (λ s. state_of (step o (row_seen bytes r) s)) m0 m1 c.graph_end.result) (sym c.in-GraphEnd.is)
    (grows_ext o here.place.now (end_on) (λ s. state_of (step o (row_seen bytes (codes.GraphEnd)) s)) m0 m1 c.graph_end.result
    (end_is o (ap (λ (r : code.Row). is_wrong_row o (row_seen bytes r)) (sym c.in-GraphEnd.is) ∙ right)) c.graph_end.ensures.grows)

pub returns-in-Namespace-clause-grows : goal.returns-in-Namespace-clause-grows
returns-in-Namespace-clause-grows c =
    let bytes = c.args.here.now.bytes.now in
    rw c.in-Namespace.is (c.namespace.ensures.grows (text_of bytes c.in-Namespace.name))

pub returns-in-Entry-clause-grows : goal.returns-in-Entry-clause-grows
returns-in-Entry-clause-grows c =
    let here = c.args.here.now in
    let o = options_of here in
    let bytes = here.bytes.now in
    let text = text_of bytes c.in-Entry.text in
    grows_ext o here.place.now (small_step (Small.Entry c.in-Entry.table c.in-Entry.id text)) (λ s. state_of (step o (row_seen bytes c.args.row.now) s)) (growing_seen bytes c.args.self.now) (growing_seen bytes c.entry.new.self) c.entry.result
    (λ t. entry_is o c.in-Entry.table c.in-Entry.id text t ∙ ap (λ (r : code.Row). state_of (step o (row_seen bytes r) t)) (sym c.in-Entry.is)) c.entry.ensures.grows
