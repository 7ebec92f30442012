use Rattle.std.proofs.Common.{ℕ, List, ◌++◌, ap, sym, ◌∙◌, append-nil}
use Rattle.jl_rows.specs.Written.{Row}
use Rattle.jl_spell.specs.Fields.{Bytes, field_of}
use Rattle.jl_spell.specs.Rows.{row_of}
use Rattle.jl_encode.proofs.TextLemmas.{put_new_seen}
use Rattle.jl_encode.proofs.texts.Texts.put_new.Goals as goal

pub returns : goal.returns
returns c =
    let found = rw c.deref.ensures.value at c.in-Some.ensures.exact in
    put_new_seen c.args.item c.args.table c.args.text.now c.args.self.now _ c.in-Some.k c.id_behind.result c.args.out.now.items c.push_entry.new.out.items _ _
    c.self.view_is found c.if-text-gt-MOST_BYTES.false (c.in_ok-push_entry.ensures ∙ ap (λ (xs : List ℕ). c.args.out.now.items ++ xs) (sym (append-nil (field_of 1 (Bytes (row_of (Row.Entry c.args.table c.id_behind.result c.args.text.now))))))) c.id_behind.ensures c.in_ok-enter.ensures c.mark.ensures
