use Rattle.std.proofs.Common.{◌≡◌, List, ℕ, ◌+◌, ◌*◌, ◌/◌, ◌^◌, ◌<◌, ◌++◌, ◌∙◌, ap, arith, length, refl}
use Rattle.jl_state.specs.Extents.{text_in}
use Rattle.jl_state.proofs.Carrying.{text_carried}
use Rattle.jl_state.proofs.extent.Extent.carried.Goals as goal

pub returns-clause-carries : goal.returns-clause-carries
returns-clause-carries c =
    let from = c.args.from.now in
    let into = c.args.into.now in
    let text : c.text.result.now ≡ text_in from c.args.self = c.text.ensures.all ∙ c.span.ensures.text from in
    let here : length c.bytes-at.result.now ≡ length into = ap length c.bytes-at.ensures.all in
    let small : length into < 2 ^ 30 = omega (arith, here, c.if-at.false) in
    text_carried from into c.append.new.self c.args.self (record { at = length c.bytes-at.result.now + c.args.self.at / 2 ^ 30 * 2 ^ 30; len = c.args.self.len }) (c.in_ok-append.ensures.ok ∙ ap (λ (x : List ℕ). into ++ x) text) c.requires small
    (ap (λ (n : ℕ). n + c.args.self.at / 2 ^ 30 * 2 ^ 30) here) refl

pub returns-clause-after : goal.returns-clause-after
returns-clause-after c = c.in_ok-append.ensures.ok ∙ ap (λ (x : List ℕ). c.args.into.now ++ x) (c.text.ensures.all ∙ c.span.ensures.text c.args.from.now)
