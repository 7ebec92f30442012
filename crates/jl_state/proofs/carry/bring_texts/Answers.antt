use Rattle.std.proofs.Common.{◌≡◌, List, ℕ, ◌++◌, ◌∙◌, ap}
use Rattle.jl_rows.specs.Seen.{options_seen}
use Rattle.jl_state.specs.Lawful.{state_seen}
use Rattle.jl_state.specs.Texts.{texts_of}
use Rattle.jl_state.proofs.carry.bring_texts.Goals as goal

pub returns-clause-carries : goal.returns-clause-carries
returns-clause-carries c =
    let here : c.append.new.self ≡ c.carry.new.into = c.in_ok-append.ensures.ok ∙ ap (λ (x : List ℕ). x ++ c.bytes.result.now) c.cut-2.ensures ∙ c.bytes.ensures.all in
    rw here c.in_ok-carried.ensures.carries

pub returns-clause-alone : goal.returns-clause-alone
returns-clause-alone c =
    let here : c.append.new.self ≡ c.carry.new.into = c.in_ok-append.ensures.ok ∙ ap (λ (x : List ℕ). x ++ c.bytes.result.now) c.cut-2.ensures ∙ c.bytes.ensures.all in
    here ∙ c.in_ok-carried.ensures.after ∙ ap (λ (x : List ℕ). x ++ texts_of (options_seen c.args.space.now c.args.state.now.options) (state_seen c.args.space.now c.args.state.now)) c.cut.ensures
