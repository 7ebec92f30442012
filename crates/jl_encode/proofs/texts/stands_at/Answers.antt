use Rattle.std.proofs.Common.{◌≡◌, ◌∙◌, ◌+◌, ◌<◌, length, slice_get, slice_index_or, Some, refl, sym, ap, arith}
use Rattle.std.proofs.lemmas.Option.{slice_get_read}
use Rattle.std.proofs.lemmas.Slice.Eq.{bytes_eq-Decides}
use Rattle.jl_encode.proofs.GuessLemmas.{guessed}
use Rattle.jl_encode.proofs.texts.stands_at.Goals as goal

pub returns-clause-place : goal.returns-clause-place
returns-clause-place c told =
    let keys = c.args.held.now.keys in
    let v = c.index-as_slice-k.result in
    let len = c.len.ensures.len in
    let within : c.args.k < length keys = omega (arith, len, c.if-k-len.false) in
    let at : slice_get keys c.args.k ≡ Some v = slice_get_read keys (length keys) c.args.k v refl within (c.index-as_slice-k.is ∙ ap (λ l. slice_index_or l c.args.k v) c.as_slice.ensures.keys) in
    let same : v.items ≡ c.args.text.now = sym c.as_slice-2.ensures.value ∙ (bytes_eq-Decides c.as_slice-2.result.now c.args.text.now).0 (sym c.eq.ensures ∙ told) in
    let sum : 0 + c.args.k ≡ c.args.k = omega arith in
    guessed (λ v. v.items) 0 c.args.text.now keys c.args.k v c.as_slice.ensures.unique at same ∙ ap Some sum
