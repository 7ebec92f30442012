-- The writes of two runs, one after the other, at each moment.
use Rattle.std.proofs.Common.{◌≡◌, ℕ, ◌+◌, ◌<◌, ◌≤◌, Bool, true, false, List, [], ◌∷◌, ◌++◌, map, length, Some, refl, ap, sym, ◌∙◌, cond, arith, nat_lt, lt-ltb, le-ltb, inl, inr}
use Rattle.std.proofs.lemmas.Bool.{cases_lt}
use Rattle.std.proofs.lemmas.List.{length-set}
use Rattle.jl_rows.specs.declared.row.Table.{Table}
use Rattle.jl_state.specs.States.{Tables, State, table_in, entry_of}
use Rattle.jl_sym_laws.specs.RelativeIds.{real, following}
use Rattle.jl_sym_laws.specs.Summaries.{Written, Summary, entry_in}
use Rattle.jl_sym_laws.specs.Acting.{filled_in, put, played, tables_at, state_after}
use Rattle.jl_sym_laws.specs.Composing.{later_write, AreBefore}
use Rattle.jl_sym_laws.proofs.Ids.{real_following}

pub played_both : (last : Table → ℕ) (k : ℕ) (x : Tables) (ws vs : List Written) → played last k x (ws ++ vs) ≡ played last k (played last k x ws) vs
unfolding played
played_both last k x [] vs = refl
played_both last k x (w ∷ ws) vs = played_both last k (put last k x w) ws vs

put_before : (last : Table → ℕ) (k n : ℕ) (x : Tables) (w : Written) → w.moment < k → w.moment < n → put last k x w ≡ put last n x w
put_before last k n x w p q = rw (lt-ltb w.moment k p, lt-ltb w.moment n q) refl

-- once all writes are before a moment, none is added
pub played_before : (last : Table → ℕ) (rows k n : ℕ) (x : Tables) (ws : List Written) → rows ≤ k → rows ≤ n → AreBefore rows ws → played last k x ws ≡ played last n x ws
unfolding played
played_before last rows k n x [] p q h = refl
played_before last rows k n x (w ∷ ws) p q h =
    let early = h.0 in
    let in_k : w.moment < k = omega (arith, early, p) in
    let in_n : w.moment < n = omega (arith, early, q) in
    ap (λ (y : Tables). played last k y ws) (put_before last k n x w in_k in_n) ∙ played_before last rows k n (put last n x w) ws p q h.1

shifted : (n j k : ℕ) → nat_lt (n + j) (n + k) ≡ nat_lt j k
shifted n j k = elim (cases_lt j k) [
  | inl below ↦ let sum : n + j < n + k = omega (arith, below) in lt-ltb _ _ sum ∙ sym (lt-ltb _ _ below)
  | inr above ↦ let sum : n + k ≤ n + j = omega (arith, above) in le-ltb _ _ sum ∙ sym (le-ltb _ _ above)
]

abbrev pub entry_after : Summary → (Table → ℕ) → Table → ℕ
entry_after a last t = real (entry_in a t) (last t)

put_later : (a : Summary) (last : Table → ℕ) (k : ℕ) (x : Tables) (w : Written) → put last (a.rows + k) x (later_write a w) ≡ put (entry_after a last) k x w
put_later a last k x w =
    ap (λ (b : Bool). cond b (filled_in x w.table (real (following (entry_in a w.table) w.id) (last w.table)) w.text) x) (shifted a.rows w.moment k)
    ∙ ap (λ (n : ℕ). cond (nat_lt w.moment k) (filled_in x w.table n w.text) x) (real_following (entry_in a w.table) w.id (last w.table))

pub played_later : (a : Summary) (last : Table → ℕ) (k : ℕ) (x : Tables) (ws : List Written) → played last (a.rows + k) x (map (later_write a) ws) ≡ played (entry_after a last) k x ws
unfolding played
played_later a last k x [] = refl
played_later a last k x (w ∷ ws) =
    ap (λ (y : Tables). played last (a.rows + k) y (map (later_write a) ws)) (put_later a last k x w) ∙ played_later a last k (put (entry_after a last) k x w) ws

-- up to the second run's first row, none of its writes is seen
pub played_not : (a : Summary) (last : Table → ℕ) (k : ℕ) (x : Tables) (ws : List Written) → k ≤ a.rows → played last k x (map (later_write a) ws) ≡ x
unfolding played
played_not a last k x [] h = refl
played_not a last k x (w ∷ ws) h =
    let late : k ≤ a.rows + w.moment = omega (arith, h) in
    let same : put last k x (later_write a w) ≡ x = ap (λ (b : Bool). cond b (filled_in x w.table (real (following (entry_in a w.table) w.id) (last w.table)) w.text) x) (le-ltb _ _ late) in
    ap (λ (y : Tables). played last k y (map (later_write a) ws)) same ∙ played_not a last k x ws h

entry_is : (a : Summary) (s : State) (t : Table) → entry_of (state_after a s) t ≡ entry_after a (entry_of s) t
entry_is a s Table.Name = refl
entry_is a s Table.Prefix = refl
entry_is a s Table.Datatype = refl

pub entries_are : (a : Summary) (s : State) → entry_of (state_after a s) ≡ entry_after a (entry_of s)
entries_are a s = λ i t. entry_is a s t i

-- what the second run sees, and what the first run sees
pub tables_later : (a : Summary) (s : State) (vs : List Written) (k : ℕ) → AreBefore a.rows a.writes
    → tables_at s (a.writes ++ map (later_write a) vs) (a.rows + k) ≡ tables_at (state_after a s) vs k
tables_later a s vs k h =
    let enough : a.rows ≤ a.rows + k = omega arith in
    let whole : a.rows ≤ a.rows = omega arith in
    played_both (entry_of s) (a.rows + k) s.tables a.writes (map (later_write a) vs)
    ∙ ap (λ (x : Tables). played (entry_of s) (a.rows + k) x (map (later_write a) vs)) (played_before (entry_of s) a.rows (a.rows + k) a.rows s.tables a.writes enough whole h)
    ∙ played_later a (entry_of s) k (tables_at s a.writes a.rows) vs
    ∙ ap (λ (e : Table → ℕ). played e k (tables_at s a.writes a.rows) vs) (sym (entries_are a s))

pub tables_earlier : (a : Summary) (s : State) (vs : List Written) (k : ℕ) → k ≤ a.rows → tables_at s (a.writes ++ map (later_write a) vs) k ≡ tables_at s a.writes k
tables_earlier a s vs k h = played_both (entry_of s) k s.tables a.writes (map (later_write a) vs) ∙ played_not a (entry_of s) k (tables_at s a.writes k) vs h

-- no write changes the size of a table
filled_length : (x : Tables) (u t : Table) (id : ℕ) (text : List ℕ) → length (table_in (filled_in x u id text) t) ≡ length (table_in x t)
filled_length x Table.Name Table.Name id text = length-set x.names id (Some text)
filled_length x Table.Prefix Table.Prefix id text = length-set x.prefixes id (Some text)
filled_length x Table.Datatype Table.Datatype id text = length-set x.datatypes id (Some text)
filled_length x Table.Name Table.Prefix id text = refl
filled_length x Table.Name Table.Datatype id text = refl
filled_length x Table.Prefix Table.Name id text = refl
filled_length x Table.Prefix Table.Datatype id text = refl
filled_length x Table.Datatype Table.Name id text = refl
filled_length x Table.Datatype Table.Prefix id text = refl

pub put_length : (b : Bool) (x : Tables) (u t : Table) (id : ℕ) (text : List ℕ) → length (table_in (cond b (filled_in x u id text) x) t) ≡ length (table_in x t)
put_length true x u t id text = filled_length x u t id text
put_length false x u t id text = refl

pub played_length : (last : Table → ℕ) (k : ℕ) (x : Tables) (ws : List Written) (t : Table) → length (table_in (played last k x ws) t) ≡ length (table_in x t)
unfolding played
played_length last k x [] t = refl
played_length last k x (w ∷ ws) t = played_length last k (put last k x w) ws t ∙ put_length (nat_lt w.moment k) x w.table t (real w.id (last w.table)) w.text
