-- How many items some rows state, and how many rows some frames have: no more than bytes.
use Rattle.std.proofs.Common.{◌≡◌, ◌&&◌, ◌==◌, ℕ, zero, suc, ◌+◌, ◌-◌, ◌≤◌, not, is_some, List, [], ◌∷◌, length, map, take, drop, slice_range, Option, Some, None, Result, Ok, Err, refl, ap, length-append, arith}
use Rattle.jl_base.specs.Results.{◌>>=◌, Reading, followed, led, refuse_if, some_or, with_front}
use Rattle.jl_base.specs.Spans.{text_of}
use Rattle.jl_base.specs.Terms.{Item}
use Rattle.jl_base.specs.declared.kind.Kind.{Kind}
use Rattle.jl_base.specs.declared.kind.Kind.TheVariants.{OptionsDiffer, WrongRow, NoTerm, NoGraph, GraphOpen, EarlyNamespace}
use Rattle.jl_base.specs.declared.place.Fault.{Fault}
use Rattle.jl_base.specs.declared.place.Place.{Place}
use Rattle.jl_base.specs.declared.place.Span.{Span}
use Rattle.jl_wire.specs.Fields.{Field, field, fields, fields_after}
use Rattle.jl_rows.specs.Written.{Ids, Row, StreamOptions, Term}
use Rattle.jl_rows.specs.Decoder.{is_same, is_wrong_row, read_under, stated}
use Rattle.jl_rows.specs.Files.{Placed, frame_rows, in_front, placed, rows, rows_among, rows_then, said_in_frame}
use Rattle.jl_frames.specs.Index.{Index, AreLaid, behind, end_of, last_end}
use Rattle.jl_frames.specs.Stretches.{between}
use Rattle.jl_state.specs.States.{State, entry_of, slots_in}
use Rattle.jl_state.specs.Steps.{Stepped, entry_step, graph_for, id_after, ids_after, looked, row_step, step, text_at}
use Rattle.jl_state.specs.Steps as steps
use Rattle.jl_state.specs.Running.{run, run_on, stepped}
use Rattle.jl_tape.specs.Runs.{no_rows}

-- how many items a step states
abbrev stated_by : Stepped → ℕ
stated_by (Ok next) = length next.1
stated_by (Err k) = 0

bind_few : {A : Type 0} (x : Result A Kind) (f : A → Stepped) → ((a : A) → stated_by (f a) ≤ 1) → stated_by (x >>= f) ≤ 1
bind_few (Ok a) f go = go a
bind_few (Err k) f go = omega arith

triple_few : (o : StreamOptions) (s p ob : Term) (t : State) → stated_by (steps.triple_step o s p ob t) ≤ 1
triple_few o s p ob t =
    bind_few (graph_for o t)
    (λ g. steps.placed (slots_in t) t.ids t.subject s >>= λ a. steps.placed (slots_in t) a.1 t.predicate p >>= λ b. steps.placed (slots_in t) b.1 t.object ob >>= λ c. Ok (record t { ids = c.1; subject = Some a.0; predicate = Some b.0; object = Some c.0 }, stated g a.0 b.0 c.0 ∷ []))
    (λ g.
    bind_few (steps.placed (slots_in t) t.ids t.subject s)
    (λ a. steps.placed (slots_in t) a.1 t.predicate p >>= λ b. steps.placed (slots_in t) b.1 t.object ob >>= λ c. Ok (record t { ids = c.1; subject = Some a.0; predicate = Some b.0; object = Some c.0 }, stated g a.0 b.0 c.0 ∷ []))
    (λ a.
    bind_few (steps.placed (slots_in t) a.1 t.predicate p)
    (λ b. steps.placed (slots_in t) b.1 t.object ob >>= λ c. Ok (record t { ids = c.1; subject = Some a.0; predicate = Some b.0; object = Some c.0 }, stated g a.0 b.0 c.0 ∷ []))
    (λ b.
    bind_few (steps.placed (slots_in t) b.1 t.object ob)
    (λ c. Ok (record t { ids = c.1; subject = Some a.0; predicate = Some b.0; object = Some c.0 }, stated g a.0 b.0 c.0 ∷ []))
    (λ c. omega arith))))

quad_few : (s p ob g : Term) (t : State) → stated_by (steps.quad_step s p ob g t) ≤ 1
quad_few s p ob g t =
    bind_few (steps.placed (slots_in t) t.ids t.subject s)
    (λ a. steps.placed (slots_in t) a.1 t.predicate p >>= λ b. steps.placed (slots_in t) b.1 t.object ob >>= λ c. steps.placed (slots_in t) c.1 t.graph g >>= λ d. Ok (record t { ids = d.1; subject = Some a.0; predicate = Some b.0; object = Some c.0; graph = Some d.0 }, Item.Quad a.0 b.0 c.0 d.0 ∷ []))
    (λ a.
    bind_few (steps.placed (slots_in t) a.1 t.predicate p)
    (λ b. steps.placed (slots_in t) b.1 t.object ob >>= λ c. steps.placed (slots_in t) c.1 t.graph g >>= λ d. Ok (record t { ids = d.1; subject = Some a.0; predicate = Some b.0; object = Some c.0; graph = Some d.0 }, Item.Quad a.0 b.0 c.0 d.0 ∷ []))
    (λ b.
    bind_few (steps.placed (slots_in t) b.1 t.object ob)
    (λ c. steps.placed (slots_in t) c.1 t.graph g >>= λ d. Ok (record t { ids = d.1; subject = Some a.0; predicate = Some b.0; object = Some c.0; graph = Some d.0 }, Item.Quad a.0 b.0 c.0 d.0 ∷ []))
    (λ c.
    bind_few (steps.placed (slots_in t) c.1 t.graph g)
    (λ d. Ok (record t { ids = d.1; subject = Some a.0; predicate = Some b.0; object = Some c.0; graph = Some d.0 }, Item.Quad a.0 b.0 c.0 d.0 ∷ []))
    (λ d. omega arith))))

namespace_few : (o : StreamOptions) (name : List ℕ) (i : Option Ids) (t : State) → stated_by (steps.namespace_step o name i t) ≤ 1
namespace_few o name i t =
    bind_few (refuse_if (o.strict && (o.version == 1)) EarlyNamespace)
    (λ _. some_or i NoTerm >>= λ ids. text_at (slots_in t) (ids_after ids t.ids) >>= λ iri. Ok (record t { ids = ids_after ids t.ids }, Item.Namespace name iri ∷ []))
    (λ _.
    bind_few (some_or i NoTerm)
    (λ ids. text_at (slots_in t) (ids_after ids t.ids) >>= λ iri. Ok (record t { ids = ids_after ids t.ids }, Item.Namespace name iri ∷ []))
    (λ ids.
    bind_few (text_at (slots_in t) (ids_after ids t.ids))
    (λ iri. Ok (record t { ids = ids_after ids t.ids }, Item.Namespace name iri ∷ []))
    (λ iri. omega arith)))

start_few : (g : Term) (t : State) → stated_by (steps.graph_start_step g t) ≤ 1
start_few g t =
    bind_few (refuse_if (is_some t.open_graph) GraphOpen)
    (λ _. looked (slots_in t) t.ids g >>= λ v. Ok (record t { ids = v.1; open_graph = Some v.0 }, []))
    (λ _. bind_few (looked (slots_in t) t.ids g) (λ v. Ok (record t { ids = v.1; open_graph = Some v.0 }, [])) (λ v. omega arith))

row_few : (o : StreamOptions) (r : Row) (t : State) → stated_by (row_step o r t) ≤ 1
row_few o (Row.Options p) t = bind_few (refuse_if (not (is_same o p)) OptionsDiffer) (λ _. Ok (t, [])) (λ _. omega arith)
row_few o (Row.Entry u id text) t = bind_few (entry_step u (id_after id (entry_of t u)) text t) (λ n. Ok (n, [])) (λ n. omega arith)
row_few o Row.GraphEnd t = bind_few (some_or t.open_graph NoGraph) (λ _. Ok (record t { open_graph = None }, [])) (λ _. omega arith)
row_few o (Row.GraphStart g) t = start_few g t
row_few o (Row.Namespace name i) t = namespace_few o name i t
row_few o (Row.Triple s p ob) t = triple_few o s p ob t
row_few o (Row.Quad s p ob g) t = quad_few s p ob g t

-- a row states one item at most
step_few : (o : StreamOptions) (r : Row) (t : State) → stated_by (step o r t) ≤ 1
step_few o r t = bind_few (refuse_if (is_wrong_row o r) WrongRow) (λ _. row_step o (read_under o r) t) (λ _. row_few o (read_under o r) t)

stepped_few : (place : Place) (x : Stepped) (f : State → Reading Item Fault) (n : ℕ) → stated_by x ≤ 1 → ((u : State) → length (f u).items ≤ n) → length (stepped place x f).items ≤ suc n
stepped_few place (Ok next) f n one go = omega (arith, length-append next.1 (f next.0).items, one, go next.0)
stepped_few place (Err k) f n one go = omega arith

rows_few : (o : StreamOptions) (s : State) (xs : List Placed) (fault : Option Fault) → length (run o s xs fault).items ≤ length xs
unfolding run
rows_few o s [] fault = omega arith
rows_few o s (r ∷ rs) fault = stepped_few r.place (step o r.row s) (λ t. run o t rs fault) (length rs) (step_few o r.row s) (λ u. rows_few o u rs fault)

-- so rows state no more items than they are
pub run_few : (o : StreamOptions) (s : State) (R : Reading Placed Fault) → length (run_on o s R).items ≤ length R.items
run_few o s R = rows_few o s R.items R.fault

-- a message has no more fields than bytes
led_fields : (x : Result Field Kind) (rest : Field → Reading Field Kind) (n : ℕ) → ((f : Field) → length (rest f).items ≤ n) → length (led x (λ f. with_front f (rest f))).items ≤ suc n
led_fields (Ok f) rest n go = omega (arith, go f)
led_fields (Err k) rest n go = omega arith

fields_few : (skip : ℕ) (bytes : List ℕ) → length (fields_after skip bytes).items ≤ length bytes
unfolding fields_after
fields_few skip [] = omega arith
fields_few (suc skip) (b ∷ bytes) = omega (arith, fields_few skip bytes)
fields_few zero (b ∷ bytes) = led_fields (field (b ∷ bytes)) (λ f. fields_after (f.size - 1) bytes) (length bytes) (λ f. fields_few (f.size - 1) bytes)

-- nor a frame more rows than fields
led_rows : (x : Result (Option Row) Kind) (R : Reading Row Kind) (n : ℕ) → length R.items ≤ n → length (led x (λ r. in_front r R)).items ≤ suc n
led_rows (Ok None) R n few = omega (arith, few)
led_rows (Ok (Some r)) R n few = omega (arith, few)
led_rows (Err k) R n few = omega arith

among_few : (fs : List Field) (fault : Option Kind) → length (rows_among fs fault).items ≤ length fs
unfolding rows_among
among_few [] fault = omega arith
among_few (f ∷ fs) fault = led_rows (said_in_frame f.number f.content) (rows_among fs fault) (length fs) (among_few fs fault)

placed_all : (frame before : ℕ) (rs : List Row) (fault : Option Kind) → length (placed frame before rs fault).items ≡ length rs
unfolding placed
placed_all frame before [] fault = refl
placed_all frame before (r ∷ rs) fault = ap suc (placed_all frame (before + 1) rs fault)

frame_few : (n : ℕ) (body : List ℕ) → length (frame_rows n body).items ≤ length body
unfolding rows
frame_few n body =
    omega (arith, placed_all n 0 (rows body).items (rows body).fault, among_few (fields body).items (fields body).fault, fields_few 0 body)

joined_few : {A E : Type 0} (xs : List A) (fault : Option E) (R : Reading A E) → length (followed xs fault R).items ≤ length xs + length R.items
joined_few xs None R = omega (arith, length-append xs R.items)
joined_few xs (Some e) R = omega arith

take_few : {A : Type 0} (n : ℕ) (xs : List A) → length (take n xs) ≤ n
take_few zero xs = omega arith
take_few (suc n) [] = omega arith
take_few (suc n) (x ∷ xs) = omega (arith, take_few n xs)

text_few : (bytes : List ℕ) (body : Span) → length (text_of bytes body) ≤ body.len
text_few bytes body = omega (arith, take_few (body.at + body.len - body.at) (drop body.at bytes))

-- the rows of the first k of some frames
first_few : (bytes : List ℕ) (n at last : ℕ) (bodies : List Span) (k : ℕ) → AreLaid at bodies last → at + length (rows_then n (map (text_of bytes) (take k bodies)) no_rows).items ≤ last_end at (take k bodies)
first_few bytes n at last bodies zero laid = omega arith
first_few bytes n at last [] (suc k) laid = omega arith
first_few bytes n at last (b ∷ bodies) (suc k) laid =
    let rest = rows_then (n + 1) (map (text_of bytes) (take k bodies)) no_rows in
    omega (arith, laid.0, first_few bytes (n + 1) (end_of b) last bodies k laid.1, frame_few n (text_of bytes b), text_few bytes b, joined_few (frame_rows n (text_of bytes b)).items (frame_rows n (text_of bytes b)).fault rest)

take_none : (m : ℕ) → ◌≡◌ {A = List Span} (take m []) []
take_none zero = refl
take_none (suc m) = refl

range_few : (bytes : List ℕ) (n at last : ℕ) (bodies : List Span) (i k : ℕ) → AreLaid at bodies last → i ≤ k → last_end at (take i bodies) + length (rows_then n (map (text_of bytes) (slice_range bodies i k)) no_rows).items ≤ last_end at (take k bodies)
range_few bytes n at last bodies zero k laid le =
    let all : k - 0 ≡ k = omega arith in
    let same = ap (λ (m : ℕ). length (rows_then n (map (text_of bytes) (take m bodies)) no_rows).items) all in
    omega (arith, same, first_few bytes n at last bodies k laid)
range_few bytes n at last [] (suc i) zero laid le = absurd (omega (arith, le))
range_few bytes n at last (b ∷ bodies) (suc i) zero laid le = absurd (omega (arith, le))
range_few bytes n at last [] (suc i) (suc k) laid le =
    let none = take_none (suc k - suc i) in
    omega (arith, ap (λ (xs : List Span). length (rows_then n (map (text_of bytes) xs) no_rows).items) none)
range_few bytes n at last (b ∷ bodies) (suc i) (suc k) laid le =
    let size : suc k - suc i ≡ k - i = omega arith in
    let same = ap (λ (m : ℕ). length (rows_then n (map (text_of bytes) (take m (drop i bodies))) no_rows).items) size in
    omega (arith, same, range_few bytes n (end_of b) last bodies i k laid.1 (omega (arith, le)))

-- The rows of frames from one to another are no more than their bytes.
pub between_few : (bytes : List ℕ) (index : Index) (last i k : ℕ) → AreLaid index.lo index.bodies last → i ≤ k → behind index i + length (between bytes index i k no_rows).items ≤ behind index k
between_few bytes index last i k laid le = range_few bytes (index.first + i) index.lo last index.bodies i k laid le
