-- A text is put in step with the definition.
use Rattle.std.proofs.Common.{◌≡◌, ℕ, ◌+◌, ◌^◌, ◌<◌, ◌≤◌, Bool, true, false, not, List, [], ◌∷◌, ◌++◌, length, find, Option, Some, None, Ok, nat_lt, if◌then◌else◌, refl, ap, sym, ◌∙◌, arith, append-nil, length-append}
use Rattle.jl_encoding.specs.Limits.{most_item_bytes}
use Rattle.std.proofs.lemmas.Bool.{ltb-true}
use Rattle.jl_base.specs.Results.{◌>>=◌, some_or}
use Rattle.jl_rows.specs.declared.row.Table.{Table}
use Rattle.jl_rows.specs.declared.message.Message.{Message}
use Rattle.jl_rows.specs.Written.{StreamOptions, Row}
use Rattle.jl_rows.specs.History.{History, is_table, entry_id, ids_written, after_it, last_above_0, prefix_id, name_id}
use Rattle.jl_rows.specs.Decoder.{size_of}
use Rattle.jl_spell.specs.Fields.{Bytes, field_of, front_of}
use Rattle.jl_spell.specs.Messages.{message_of, unless_0, unless_empty}
use Rattle.jl_spell.specs.Rows.{row_of, entry_number, number, bytes}
use Rattle.jl_spell.specs.Frames.{body_of}
use Rattle.jl_spell.proofs.Writing.{entry_length}
use Rattle.jl_encoding.specs.Slots.{Full, State, in_turn, holder, is_claimed, unless_given, entry_written, with_claim, with_entry, used_or_new, put_text}
use Rattle.jl_encoding.proofs.SlotLaws.{table_is}
use Rattle.jl_encode.specs.Desks.{Texts, Desk, place, used, next_place, entered, entry_bytes, in_new, in_place, texts_of, with_texts}
use Rattle.jl_encode.specs.Putting.{on_desk, put_text as put_plain}
use Rattle.jl_encode.proofs.Places.{shifted}
use Rattle.jl_encode.proofs.TableSteps.{TableStands, holder_is, next_is, found_stands, new_stands, found_apart, new_apart}
use Rattle.jl_encode.proofs.Along.{Stands, entry_text, Along, Grows, body_behind}

-- a field is at least as long as what it holds
field_longer : (n : ℕ) (t : List ℕ) → length t ≤ length (field_of n (Bytes t))
unfolding field_of
field_longer n t = omega (arith, length-append (front_of n (length t)) t)

unless_empty_longer : (n : ℕ) (t : List ℕ) → length t ≤ length (unless_empty n t)
unless_empty_longer n [] = omega arith
unless_empty_longer n (b ∷ bs) = field_longer n (b ∷ bs)

entry_longer : (t : Table) (id : ℕ) (text : List ℕ) → length text ≤ length (body_of (Row.Entry t id text ∷ []))
unfolding row_of
entry_longer t id text =
    let message = message_of Message.Entry (number id ∷ bytes text ∷ []) in
    let parts = entry_length id text (length (unless_0 1 id)) (length (unless_empty 2 text)) refl refl in
    let whole = append-nil (field_of 1 (Bytes (field_of (entry_number t) (Bytes message)))) in
    omega (arith, unless_empty_longer 2 text, parts, field_longer (entry_number t) message, field_longer 1 (field_of (entry_number t) (Bytes message)), ap length whole)

texts_put : (t : Table) (T : Texts) (D : Desk) → texts_of t (with_texts t T D) ≡ T
texts_put Table.Name T D = refl
texts_put Table.Prefix T D = refl
texts_put Table.Datatype T D = refl

texts_other : (t u : Table) (T : Texts) (D : Desk) → is_table t u ≡ false → texts_of u (with_texts t T D) ≡ texts_of u D
texts_other Table.Name Table.Name T D h = cc
texts_other Table.Name Table.Prefix T D h = refl
texts_other Table.Name Table.Datatype T D h = refl
texts_other Table.Prefix Table.Name T D h = refl
texts_other Table.Prefix Table.Prefix T D h = cc
texts_other Table.Prefix Table.Datatype T D h = refl
texts_other Table.Datatype Table.Name T D h = refl
texts_other Table.Datatype Table.Prefix T D h = refl
texts_other Table.Datatype Table.Datatype T D h = cc

item_kept : (t : Table) (T : Texts) (D : Desk) → (with_texts t T D).item ≡ D.item
item_kept Table.Name T D = refl
item_kept Table.Prefix T D = refl
item_kept Table.Datatype T D = refl

prefix_kept : (t : Table) (T : Texts) (D : Desk) → (with_texts t T D).prefix ≡ D.prefix
prefix_kept Table.Name T D = refl
prefix_kept Table.Prefix T D = refl
prefix_kept Table.Datatype T D = refl

name_kept : (t : Table) (T : Texts) (D : Desk) → (with_texts t T D).name ≡ D.name
name_kept Table.Name T D = refl
name_kept Table.Prefix T D = refl
name_kept Table.Datatype T D = refl

is_apart : (t u : Table) → is_table u t ≡ false → is_table t u ≡ false
is_apart Table.Name Table.Name h = h
is_apart Table.Prefix Table.Prefix h = h
is_apart Table.Datatype Table.Datatype h = h
is_apart t u h = refl

-- with one table changed, and the others as they were
put_stands : (o : StreamOptions) (H : History) (t : Table) (T : Texts) (st st' : State) (D : Desk) → Stands o H st D → st'.seen ≡ st.seen → TableStands o (st'.entries ++ H) st'.claims t D.item T
    → ((u : Table) → is_table t u ≡ false → is_table u t ≡ false → TableStands o (st'.entries ++ H) st'.claims u D.item (texts_of u D)) → Stands o H st' (with_texts t T D)
put_stands o H t T st st' D stands seen this others =
    record {
      tables = each;
      prefix = prefix_kept t T D ∙ stands.prefix ∙ ap prefix_id (sym seen);
      name = name_kept t T D ∙ stands.name ∙ ap name_id (sym seen);
    }
  where
    Here : Table → ℕ → Texts → Type 0
    Here u item U = TableStands o (st'.entries ++ H) st'.claims u item U

    each : (u : Table) → TableStands o (st'.entries ++ H) st'.claims u (with_texts t T D).item (texts_of u (with_texts t T D))
    each u = by_table (is_table u t) refl
      where
        by_table : (b : Bool) → is_table u t ≡ b → TableStands o (st'.entries ++ H) st'.claims u (with_texts t T D).item (texts_of u (with_texts t T D))
        by_table true same =
            let e = item_kept t T D in
            let is = table_is u t same in
            let texts : texts_of u (with_texts t T D) ≡ T = ap (λ (v : Table). texts_of v (with_texts t T D)) is ∙ texts_put t T D in
            rw (e, texts, is) this
        by_table false other =
            let e = item_kept t T D in
            let texts = texts_other t u T D (is_apart t u other) in
            rw (e, texts) (others u (is_apart t u other) other)

entry_same : (t : Table) (n : ℕ) (T : Texts) (K : History) → T.last ≡ entry_id t K → unless_given (T.last + 1) n ≡ entry_written t n K
entry_same t n T K e =
    let next : T.last + 1 ≡ last_above_0 (ids_written t K) + (after_it (ids_written t K) + 1) = omega (arith, e) in
    ap (λ (m : ℕ). unless_given m n) next

pub text_grows : (o : StreamOptions) (H : History) (t : Table) (x : List ℕ) (st : State) → Grows st (put_text o H t x st)
unfolding put_text
text_grows o H t x st = by_holder (holder o t x (st.entries ++ H))
  where
    longer : (n : ℕ) → length (entry_text st) ≤ length (entry_text (with_entry H t n x st))
    longer n =
        let r = Row.Entry t (entry_written t n (st.entries ++ H)) x in
        let both = ap length (body_behind r st.entries) in
        omega (arith, both, length-append (entry_text st) (body_of (r ∷ [])))

    by_slot : (f : Option ℕ) → Grows {A = ℕ} st (some_or f Full >>= λ n. Ok (n, with_claim t n x (with_entry H t n x st)))
    by_slot (Some n) = longer n
    by_slot None = tt

    by_holder : (held : Option ℕ) → Grows st (used_or_new o H t x st held)
    by_holder (Some n) = omega arith
    by_holder None = by_slot (find (λ n. not (is_claimed t n st.claims)) (in_turn (size_of o t) (entry_id t (st.entries ++ H))))

pub text_along : (o : StreamOptions) (H : History) (t : Table) (x : List ℕ) (st : State) (D : Desk) → Stands o H st D → Along o H st (put_plain t x D) (put_text o H t x st)
unfolding put_text
text_along o H t x st D stands = by_place (place x T) refl
  where
    T : Texts
    T = texts_of t D

    K : History
    K = st.entries ++ H

    S : TableStands o K st.claims t D.item T
    S = stands.tables t

    held_is : holder o t x K ≡ shifted (place x T)
    held_is = holder_is o t x D.item T K st.claims S

    found : (k : ℕ) → place x T ≡ Some k → Along o H st (on_desk t D (in_place D.item t x T (Some k))) (used_or_new o H t x st (Some (k + 1)))
    found k e = record {
      answer = refl;
      stands = put_stands o H t (used D.item k T) st (with_claim t (k + 1) x st) D stands refl (found_stands o t x D.item T K st.claims S k e) (λ u apart other. found_apart o K st.claims t u (k + 1) x D.item (texts_of u D) apart (stands.tables u));
      bytes = sym (append-nil (entry_text st));
    }

    grown : (k : ℕ) → entry_text (with_entry H t (k + 1) x st) ≡ entry_text st ++ entry_bytes t x k T
    grown k =
        let A = S.agrees in
        body_behind (Row.Entry t (entry_written t (k + 1) K) x) st.entries ∙ ap (λ (id : ℕ). entry_text st ++ body_of (Row.Entry t id x ∷ [])) (sym (entry_same t (k + 1) T K A.last))

    new : (k : ℕ) → next_place D.item T ≡ Some k → (b : Bool) → nat_lt most_item_bytes (length x) ≡ b
        → Along {A = ℕ} o H st (on_desk t D (if b then None else Some (record { id = k + 1; bytes = entry_bytes t x k T; texts = used D.item k (entered x k T) }))) (Ok (k + 1, with_claim t (k + 1) x (with_entry H t (k + 1) x st)))
    new k e true h =
        let long : most_item_bytes < length x = ltb-true most_item_bytes (length x) h in
        let all = ap length (grown k) in
        omega (arith, long, all, length-append (entry_text st) (entry_bytes t x k T), entry_longer t (unless_given (T.last + 1) (k + 1)) x)
    new k e false h =
        let some : 0 < k + 1 = omega arith in
        record {
          answer = refl;
          stands = put_stands o H t (used D.item k (entered x k T)) st (with_claim t (k + 1) x (with_entry H t (k + 1) x st)) D stands refl (new_stands o t x D.item T K st.claims S k some e) (λ u apart other. new_apart o K st.claims t u (k + 1) x D.item (texts_of u D) some apart other (stands.tables u));
          bytes = grown k;
        }

    by_next : (next : Option ℕ) → next_place D.item T ≡ next → Along {A = ℕ} o H st (on_desk t D (in_new D.item t x T next)) (some_or (shifted next) Full >>= λ n. Ok (n, with_claim t n x (with_entry H t n x st)))
    by_next None e = tt
    by_next (Some k) e = new k e (nat_lt most_item_bytes (length x)) refl

    by_place : (at : Option ℕ) → place x T ≡ at → Along o H st (on_desk t D (in_place D.item t x T at)) (used_or_new o H t x st (holder o t x K))
    by_place (Some k) e = let h : holder o t x K ≡ Some (k + 1) = held_is ∙ ap shifted e in rw h (found k e)
    by_place None e =
        let h : holder o t x K ≡ None = held_is ∙ ap shifted e in
        let n = next_is o t x D.item T K st.claims S in
        rw (h, n) (by_next (next_place D.item T) refl)
