use Rattle.std.proofs.Common.{arith}
use Rattle.jl_encode.proofs.HeldLemmas.{pushed, entered_last, entered_within}
use Rattle.jl_encode.proofs.texts.enter.Goals as goal

pub returns-then-k-len : goal.returns-then-k-len
returns-then-k-len c =
    let ks = c.args.held.now.keys in
    let v = c.in_ok-text.text in
    let is = c.in_ok-text.ensures.items in
    let put = pushed (λ v. v.items) ks c.insert_full.new.self.keys v c.args.text.now is c.requires c.in_ok-insert_full.ensures.keys in
    let len = c.len-len.ensures.len in
    entered_within (λ v. v.items) ks c.insert_full.new.self.keys c.swap_remove_index.new.self.keys v c.args.text.now c.args.k c.swap_remove_index.result is put (omega (arith, len, c.if-k-len.true)) c.swap_remove_index.ensures.key c.swap_remove_index.ensures.keys

pub returns-else-k-len : goal.returns-else-k-len
returns-else-k-len c =
    let ks = c.args.held.now.keys in
    let v = c.in_ok-text.text in
    let is = c.in_ok-text.ensures.items in
    let put = pushed (λ v. v.items) ks c.insert_full.new.self.keys v c.args.text.now is c.requires c.in_ok-insert_full.ensures.keys in
    let len = c.len-len.ensures.len in
    entered_last (λ v. v.items) ks c.insert_full.new.self.keys v c.args.text.now c.args.k is put (omega (arith, len, c.if-k-len.false))
