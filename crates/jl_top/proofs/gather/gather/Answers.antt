use Rattle.std.proofs.Common.{◌≡◌, ◌<◌, ◌≤◌, ◌++◌, ◌∷◌, [], List, ℕ, length, refl, ap, ◌∙◌, arith, subst, inl, inr, Err}
use Rattle.std.proofs.lemmas.Bool.{cases_lt}
use Rattle.jl_base.specs.SourceLists.{total}
use Rattle.jl_base.proofs.SourceListLemmas.{total-append}
use Rattle.jl_base.proofs.ReadingLemmas.{ReadFirst, read_none, read_more, read_last, rose_next, steady_next, length_kept}
use Rattle.jl_base.proofs.FillLemmas.{filled_new, filled_within}
use Rattle.jl_top.proofs.gather.gather.Goals as goal

pub loop-i-init : goal.loop-i-init
loop-i-init g c =
    record {
      first = subst (λ (read : List (List ℕ)). ReadFirst g.S.Source.told 0 c.args.sources.now.items c.args.sources.now.items read) (let e : [] ≡ c.new-spaces.result = cc in e) (read_none g.S.Source.told c.args.sources.now.items);
      used = omega (arith, ap total c.new-spaces.ensures);
    }

pub returns-in-Err-ReadFault : goal.returns-in-Err-ReadFault
returns-in-Err-ReadFault g c =
    let inv = c.loop-i.invariant in
    let below : c.loop-i.i < length c.loop-i.sources.items = omega (arith, length_kept _ _ _ _ _ inv.first, c.args.sources.now.ok.0) in
    let fill = c.fill.ensures in
    let last = read_last _ _ _ _ _ inv.first _ c.fill.new.source below c.index_mut.ensures.value fill.bytes fill.reads in
    let is = c.in-Err-ReadFault.is ∙ ap Err c.in-Err-ReadFault.field-0-is in
    let within : length fill.bytes ≤ c.loop-i.left = elim (cases_lt c.loop-i.left (length fill.bytes)) [ inl more ↦ absurd (let too_long = fill.too_long.1 more in (cc)) | inr within ↦ within ] in
    record {
      read = last.0;
      each = last.1;
      cause = (c.loop-i.i, refl, rose_next _ _ _ _ _ inv.first _ c.fill.new.source below c.index_mut.ensures.value (fill.failed is), omega (arith, last.2));
    }

pub returns-in-Err-TooLong : goal.returns-in-Err-TooLong
returns-in-Err-TooLong g c =
    let inv = c.loop-i.invariant in
    let below : c.loop-i.i < length c.loop-i.sources.items = omega (arith, length_kept _ _ _ _ _ inv.first, c.args.sources.now.ok.0) in
    let fill = c.fill.ensures in
    let last = read_last _ _ _ _ _ inv.first _ c.fill.new.source below c.index_mut.ensures.value fill.bytes fill.reads in
    let is = c.in-Err-TooLong.is ∙ ap Err c.in-Err-TooLong.field-0-is in
    let more = fill.too_long.0 is in
    let steady = steady_next _ _ _ _ _ inv.first _ c.fill.new.source below c.index_mut.ensures.value (fill.steady_at_limit is) in
    record { read = last.0; each = last.1; cause = (omega (arith, more, last.2), steady) }

pub returns-in-Err-NoMemory : goal.returns-in-Err-NoMemory
returns-in-Err-NoMemory g c =
    let inv = c.loop-i.invariant in
    let below : c.loop-i.i < length c.loop-i.sources.items = omega (arith, length_kept _ _ _ _ _ inv.first, c.args.sources.now.ok.0) in
    let fill = c.fill.ensures in
    let last = read_last _ _ _ _ _ inv.first _ c.fill.new.source below c.index_mut.ensures.value fill.bytes fill.reads in
    let is = c.in-Err-NoMemory.is ∙ ap Err c.in-Err-NoMemory.field-0-is in
    let within : length fill.bytes ≤ c.loop-i.left = elim (cases_lt c.loop-i.left (length fill.bytes)) [ inl more ↦ absurd (let too_long = fill.too_long.1 more in (cc)) | inr within ↦ within ] in
    let steady = steady_next _ _ _ _ _ inv.first _ c.fill.new.source below c.index_mut.ensures.value (fill.steady_without_memory is) in
    record { read = last.0; each = last.1; cause = (omega (arith, last.2), steady) }

pub returns-in_default : goal.returns-in_default
returns-in_default g c =
    let inv = c.loop-i.invariant in
    let below : c.loop-i.i < length c.loop-i.sources.items = omega (arith, length_kept _ _ _ _ _ inv.first, c.args.sources.now.ok.0) in
    let fill = c.in-Ok.ensures in
    let last = read_last _ _ _ _ _ inv.first _ c.fill.new.source below c.index_mut.ensures.value fill.bytes fill.reads in
    let steady = steady_next _ _ _ _ _ inv.first _ c.fill.new.source below c.index_mut.ensures.value fill.steady in
    record { read = last.0; each = last.1; cause = (omega (arith, last.2, filled_within _ _ _ _ _ _ fill), steady) }

pub loop-i-preserved : goal.loop-i-preserved
loop-i-preserved g c =
    let inv = c.loop-i.invariant in
    let below : c.loop-i.i < length c.loop-i.sources.items = omega (arith, length_kept _ _ _ _ _ inv.first, c.args.sources.now.ok.0) in
    let fill = c.in-Ok.ensures in
    let space : c.fill.new.self ≡ fill.bytes = filled_new _ _ _ _ _ _ fill ∙ ap (λ (old : List ℕ). old ++ fill.bytes) c.new-space.ensures in
    let pushed : c.push.new.self ≡ c.loop-i.spaces ++ fill.bytes ∷ [] = c.in-Ok-push.ensures.ok ∙ ap (λ (bytes : List ℕ). c.loop-i.spaces ++ bytes ∷ []) space in
    let more = read_more _ _ _ _ _ inv.first _ c.fill.new.source below c.index_mut.ensures.value fill.bytes fill.reads fill.ended fill.steady in
    record {
      first = rw pushed more;
      used = omega (arith, ap total pushed, total-append c.loop-i.spaces (fill.bytes ∷ []), filled_within _ _ _ _ _ _ fill, ap length (c.bytes.ensures.all ∙ space));
    }
