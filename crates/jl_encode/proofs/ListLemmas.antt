-- A list of items, added one by one.
use Rattle.std.proofs.Common.{◌≡◌, ◌⊎◌, inl, inr, ℕ, ◌+◌, ◌≤◌, ◌^◌, Bool, true, false, List, [], ◌∷◌, ◌++◌, length, map, Option, Some, None, Result, Ok, Err, if◌then◌else◌, refl, ap, sym, ◌∙◌, subst, arith, append_assoc, append-nil}
use Rattle.std.specs.List.{AllByRecursion}
use Rattle.jl_base.specs.Results.{◌>>=◌}
use Rattle.jl_base.specs.Terms.{Item}
use Rattle.jl_base.specs.Items.{item_of, items_of}
use Rattle.jl_base.specs.declared.term.Item as code
use Rattle.jl_base.specs.Sinks.{Held, Adds}
use Rattle.jl_base.proofs.SinkLemmas.{Adds-nil, Adds-append}
use Rattle.jl_rows.specs.Written.{StreamOptions, Row}
use Rattle.jl_rows.specs.History.{History}
use Rattle.jl_rows.specs.Decoder.{decode}
use Rattle.jl_rows.proofs.Binding.{bound}
use Rattle.jl_spell.specs.Frames.{body_of, frames_of}
use Rattle.jl_encoding.specs.declared.form.Form.{Form}
use Rattle.jl_encoding.specs.Slots.{Refusal}
use Rattle.jl_encoding.specs.Items.{Fits, item_rows}
use Rattle.jl_encoding.specs.Proper.{IsProperItem}
use Rattle.jl_encoding.specs.Wide.{is_too_wide, where_answered, wide_from}
use Rattle.jl_encoding.specs.Encoding.{options_of, first_row, each_item, rows_of, file_of, encoding, wide}
use Rattle.jl_encoding.specs.Handed.{ended, last_frame, handed_of, handed}
use Rattle.jl_encoding.proofs.HandedLaws.{front_is_handed}
use Rattle.jl_encoding.proofs.EncodingLaws.{encodings_decoded}
use Rattle.jl_encode.specs.declared.stop.Stop.{Stop}
use Rattle.jl_encode.specs.declared.stop.Stop.TheVariants as stop
use Rattle.jl_encode.specs.Answers.{Progress, Stands, AddsItem, Finishes, GivesFront, Grows, Lacks, next_number}
use Rattle.jl_encode.specs.Lists.{IsFar, GivesEnded, GivesSome, IsFile, Encodes}

-- the first item that is too wide stays the first one
wide_stays : (o : StreamOptions) (H : History) (n m : ℕ) (is js : List Item) → wide_from o H n is ≡ Some m → wide_from o H n (is ++ js) ≡ Some m
unfolding wide_from
wide_stays o H n m [] js e = absurd (cc)
wide_stays o H n m (i ∷ is) js e = by_test (is_too_wide o H i) (item_rows o H i) e (λ rs h. wide_stays o (rs ++ H) (n + 1) m is js h)
  where
    by_test : (b : Bool) (r : Result (List Row) Refusal) → (if b then Some n else where_answered r (λ rs. wide_from o (rs ++ H) (n + 1) is)) ≡ Some m
        → ((rs : List Row) → wide_from o (rs ++ H) (n + 1) is ≡ Some m → wide_from o (rs ++ H) (n + 1) (is ++ js) ≡ Some m)
        → (if b then Some n else where_answered r (λ rs. wide_from o (rs ++ H) (n + 1) (is ++ js))) ≡ Some m
    by_test true r e rest = e
    by_test false (Ok rs) e rest = rest rs e
    by_test false (Err f) e rest = absurd (cc)

-- what was handed is a prefix of the file
record Whole (form : Form) (per : ℕ) (is : List Item) (bytes : List ℕ) : Type 0 where
  last : List ℕ
  are : encoding form per is ≡ Ok (bytes ++ last)

whole : (form : Form) (per : ℕ) (is : List Item) (bytes : List ℕ) → handed form per is ≡ Ok bytes → Whole form per is bytes
unfolding handed encoding
whole form per is bytes e =
    let rows = bound (rows_of form is) (λ (rss : List (List Row)). Ok (handed_of form per rss)) bytes e in
    let same : handed_of form per rows.value ≡ bytes = let h = rows.then in cc in
    let last = frames_of (map body_of (last_frame form per rows.value)) in
    record {
      last = last;
      are =
          ap (λ (r : Result (List (List Row)) Refusal). r >>= λ (rss : List (List Row)). Ok (file_of form per rss)) rows.was
          ∙ ap Ok (front_is_handed form per rows.value ∙ ap (λ (xs : List ℕ). xs ++ last) same);
    }

none_handed : (form : Form) (per : ℕ) → handed form per [] ≡ Ok []
unfolding handed each_item ended
none_handed form per = refl

pub far_none : (e : Progress) (held : Option Held) → Stands e [] → IsFar e.form e.per e [] held held
far_none e held stands = record { stands = stands; form_is = refl; per_is = refl; bytes = []; are = none_handed e.form e.per; adds = Adds-nil held }

module _ (form : Form) (per : ℕ) (e : Progress) (done : List Item) (first held : Option Held) (far : IsFar form per e done first held) where
  -- the bytes of a form and a number are those of the encoder's
  handed_by : (js : List Item) → handed form per js ≡ handed e.form e.per js
  handed_by js = ap (λ (f : Form). handed f per js) (sym far.form_is) ∙ ap (λ (p : ℕ). handed e.form p js) (sym far.per_is)

  encoding_by : (js : List Item) → encoding form per js ≡ encoding e.form e.per js
  encoding_by js = ap (λ (f : Form). encoding f per js) (sym far.form_is) ∙ ap (λ (p : ℕ). encoding e.form p js) (sym far.per_is)

  same_before : (before : List ℕ) → handed e.form e.per done ≡ Ok before → before ≡ far.bytes
  same_before before was = let a : ◌≡◌ {A = Result (List ℕ) Refusal} (Ok before) (Ok far.bytes) = sym was ∙ sym (handed_by done) ∙ far.are in cc

  module _ (i : Item) where
    -- with one item more
    more : (bytes : List ℕ) → Grows e done i bytes → handed form per (done ++ i ∷ []) ≡ Ok (far.bytes ++ bytes)
    more bytes grows = handed_by (done ++ i ∷ []) ∙ grows.becomes ∙ ap (λ (xs : List ℕ). Ok (xs ++ bytes)) (same_before grows.before grows.was)

    pub far_next : (e' : Progress) (held' : Option Held) (u : Unit {0}) → e'.form ≡ e.form → e'.per ≡ e.per → AddsItem e e' done i held held' (Ok u) → IsFar form per e' (done ++ i ∷ []) first held'
    far_next e' held' u form_is per_is adds =
        let bytes = adds.1.0 in
        record {
          stands = adds.0;
          form_is = form_is ∙ far.form_is;
          per_is = per_is ∙ far.per_is;
          bytes = far.bytes ++ bytes;
          are = more bytes adds.1.1;
          adds = Adds-append first held held' far.bytes bytes far.adds adds.1.2;
        }

    abbrev nothing_more : (rest : List Item) (held' : Option Held) → held' ≡ held → GivesEnded form per (done ++ i ∷ rest) first held'
    nothing_more rest held' same = record { done = done; rest = i ∷ rest; split = refl; bytes = far.bytes; are = far.are; adds = subst (λ (h : Option Held). Adds first h far.bytes) (sym same) far.adds }

    front_more : (rest : List Item) (held' : Option Held) (bytes : List ℕ) → Grows e done i bytes → GivesFront bytes held held' → GivesSome form per (done ++ i ∷ rest) first held'
    front_more rest held' bytes grows front =
        let all = whole form per (done ++ i ∷ []) (far.bytes ++ bytes) (more bytes grows) in
        record {
          done = done ++ i ∷ [];
          rest = rest;
          split = sym (append_assoc done (i ∷ []) rest);
          file = (far.bytes ++ bytes) ++ all.last;
          are = all.are;
          front = record {
            given = far.bytes ++ front.given;
            rest = front.rest ++ all.last;
            split = ap (λ (xs : List ℕ). (far.bytes ++ xs) ++ all.last) front.split ∙ simp append_assoc;
            adds = Adds-append first held held' far.bytes front.given far.adds front.adds;
          };
        }

    pub far_stopped : (rest : List Item) (e' : Progress) (held' : Option Held) (why : Stop) → AddsItem e e' done i held held' (Err why) → Encodes form per (done ++ i ∷ rest) first held' (Err why)
    far_stopped rest e' held' stop.WriteFault adds = front_more rest held' adds.1.0 adds.1.1 adds.1.2
    far_stopped rest e' held' (stop.TooWide n) adds =
        let here : wide form (done ++ i ∷ []) ≡ Some n = ap (λ (f : Form). wide f (done ++ i ∷ [])) (sym far.form_is) ∙ adds.0.0 in
        let stays = wide_stays (options_of form) (first_row form ∷ []) 1 n (done ++ i ∷ []) rest here in
        (subst (λ (js : List Item). wide form js ≡ Some n) (append_assoc done (i ∷ []) rest) stays, (nothing_more rest held' adds.1, adds.0.1))
    far_stopped rest e' held' stop.Spent adds = absurd adds
    far_stopped rest e' held' stop.NoMemory adds = nothing_more rest held' adds

  -- the last frame
  last_front : (bytes : List ℕ) → Lacks e done bytes → encoding form per done ≡ Ok (far.bytes ++ bytes)
  last_front bytes lacks = encoding_by done ∙ lacks.whole ∙ ap (λ (xs : List ℕ). Ok (xs ++ bytes)) (same_before lacks.before lacks.was)

  decoded : (file : List ℕ) → encoding form per done ≡ Ok file → IsFile form per done file
  decoded file are =
      let found = encodings_decoded e.form e.per done far.stands.fit far.stands.proper far.stands.narrow in
      let a : ◌≡◌ {A = Result (List ℕ) Refusal} (Ok found.0) (Ok file) = sym found.1 ∙ sym (encoding_by done) ∙ are in
      let same : found.0 ≡ file = cc in
      record { is_file = are; decodes = λ strict. subst (λ (bytes : List ℕ). decode strict bytes ≡ record { items = done; fault = None }) same (found.2 strict) }

  pub far_finished : (held' : Option Held) (result : Result (Unit {0}) Stop) → Finishes e done held held' result → Encodes form per done first held' result
  far_finished held' (Ok u) finishes = (far.bytes ++ finishes.0, decoded (far.bytes ++ finishes.0) (last_front finishes.0 finishes.1), Adds-append first held held' far.bytes finishes.0 far.adds finishes.2)
  far_finished held' (Err stop.WriteFault) finishes =
      let bytes = finishes.0 in
      let front = finishes.2 in
      record {
        done = done;
        rest = [];
        split = sym (append-nil done);
        file = far.bytes ++ bytes;
        are = last_front bytes finishes.1;
        front = record {
          given = far.bytes ++ front.given;
          rest = front.rest;
          split = ap (λ (xs : List ℕ). far.bytes ++ xs) front.split ∙ sym (append_assoc far.bytes front.given front.rest);
          adds = Adds-append first held held' far.bytes front.given far.adds front.adds;
        };
      }
  far_finished held' (Err (stop.TooWide n)) finishes = absurd finishes
  far_finished held' (Err stop.Spent) finishes = absurd finishes
  far_finished held' (Err stop.NoMemory) finishes = absurd finishes

-- no sink failed where all went well
pub steady_there : {A : Type 0} (u : Unit {0}) → (◌≡◌ {A = Result (Unit {0}) Stop} (Ok u) (Err stop.WriteFault) ⊎ A) → A
steady_there u (inl e) = absurd (cc)
steady_there u (inr a) = a

-- How far the loop over the items has come: these are done, and the rest is still to be added.
pub record AreAdded (e0 e : Progress) (all rest : List code.Item) (held held' : Option Held) (faults faults' : ℕ) : Type 0 where
  pub done : List Item
  pub split : items_of all ≡ done ++ items_of rest
  pub fit : AllByRecursion (Fits (options_of e.form)) (items_of rest)
  pub number : next_number e + length rest ≤ 2 ^ 62 + 1
  pub form_is : e.form ≡ e0.form
  pub per_is : e.per ≡ e0.per
  pub steady : faults' ≡ faults
  pub alive : e.spent ≡ false
  pub proper : AllByRecursion IsProperItem (items_of all) → AllByRecursion IsProperItem (items_of rest)
  pub far : Stands e0 [] → AllByRecursion IsProperItem (items_of all) → IsFar e0.form e0.per e done held held'

pub added_none : (e : Progress) (all : List code.Item) (held : Option Held) (faults : ℕ) → AllByRecursion (Fits (options_of e.form)) (items_of all) → next_number e + length all ≤ 2 ^ 62 + 1 → e.spent ≡ false → AreAdded e e all all held held faults faults
added_none e all held faults fit few alive = record {
  done = [];
  split = refl;
  fit = fit;
  number = few;
  form_is = refl;
  per_is = refl;
  steady = refl;
  alive = alive;
  proper = λ h. h;
  far = λ stands _. far_none e held stands;
}

module _ (e0 e : Progress) (all : List code.Item) (i : code.Item) (rest : List code.Item) (first held : Option Held) (f0 f : ℕ) (added : AreAdded e0 e all (i ∷ rest) first held f0 f) where
  -- one item more was added
  pub added_next : (e' : Progress) (held' : Option Held) (f' : ℕ) (u : Unit {0}) → e'.form ≡ e.form → e'.per ≡ e.per → next_number e' ≡ next_number e + 1 → f' ≡ f → e'.spent ≡ false
      → ((is : List Item) → Stands e is → IsProperItem (item_of i) → AddsItem e e' is (item_of i) held held' (Ok u)) → AreAdded e0 e' all rest first held' f0 f'
  added_next e' held' f' u form_is per_is number steady alive adds = record {
    done = added.done ++ item_of i ∷ [];
    split = added.split ∙ sym (append_assoc added.done (item_of i ∷ []) (items_of rest));
    fit = subst (λ (form : Form). AllByRecursion (Fits (options_of form)) (items_of rest)) (sym form_is) added.fit.1;
    number = let before = added.number in omega (arith, before, number);
    form_is = form_is ∙ added.form_is;
    per_is = per_is ∙ added.per_is;
    steady = steady ∙ added.steady;
    alive = alive;
    proper = λ h. (added.proper h).1;
    far = λ stands h. let so = added.far stands h in far_next e0.form e0.per e added.done first held so (item_of i) e' held' u form_is per_is (adds added.done so.stands (added.proper h).0);
  }

  -- one wasn't
  pub added_stopped : (e' : Progress) (held' : Option Held) (why : Stop) → ((is : List Item) → Stands e is → IsProperItem (item_of i) → AddsItem e e' is (item_of i) held held' (Err why))
      → Stands e0 [] → AllByRecursion IsProperItem (items_of all) → Encodes e0.form e0.per (items_of all) first held' (Err why)
  added_stopped e' held' why adds stands h =
      let so = added.far stands h in
      subst (λ (is : List Item). Encodes e0.form e0.per is first held' (Err why)) (sym added.split)
      (far_stopped e0.form e0.per e added.done first held so (item_of i) (items_of rest) e' held' why (adds added.done so.stands (added.proper h).0))

-- without an encoder nothing was given
pub never_begun : (form : Form) (per : ℕ) (is : List Item) (held : Option Held) → Encodes form per is held held (Err stop.NoMemory)
never_begun form per is held = record { done = []; rest = is; split = refl; bytes = []; are = none_handed form per; adds = Adds-nil held }
