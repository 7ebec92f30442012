-- What summaries of rows keep, however they are composed, cut and compacted.
use Rattle.std.proofs.Common.{◌≡◌, ℕ, ◌+◌, ◌<◌, ◌≤◌, ◌==◌, Bool, true, false, ◌&&◌, List, [], ◌∷◌, ◌++◌, map, Option, Some, None, refl, subst, sym, ◌∙◌, cond, arith}
use Rattle.std.proofs.lemmas.Bool.{eqb-false}
use Rattle.jl_base.specs.declared.place.Place.{Place}
use Rattle.jl_base.specs.declared.place.Fault.{Fault}
use Rattle.jl_rows.specs.declared.row.Table.{Table}
use Rattle.jl_rows.specs.Written.{Ending, Term, StreamOptions}
use Rattle.jl_rows.specs.Files.{Placed}
use Rattle.jl_rows.specs.Values.{Position, is_tag}
use Rattle.jl_rows.specs.Decoder.{size_of}
use Rattle.jl_sym_laws.specs.RelativeIds.{Id, following, Refs, incoming, refs_written, refs_after, entry_written}
use Rattle.jl_sym_laws.specs.Summaries.{Written, Kept, Need, Demand, Left, Summary, entry_in, left_in, unit}
use Rattle.jl_sym_laws.specs.Composing.{later_write, has_left, lacks_left, earlier_need, demanded, later_demands, composed, AreBefore, AreWithin, Timed}
use Rattle.jl_sym_laws.specs.SmallSteps.{Small, smalls, tail_demands, term_demands, with_left, left_by, of_term, of_place, of_entry, of_small, of_smalls}
use Rattle.jl_sym_laws.specs.Runs.{of_row, extended, never, ended, Leads}
use Rattle.jl_sym_laws.specs.Compacting.{is_unseen, was_filled, moments, was_asked, kept_writes, kept_demands, compacted}
use Rattle.jl_sym_laws.specs.Cutting.{IsNext, IsMadeReference, IsMadeNeed, AreMadeWrites, AreMadeDemands, IsMade, MadeStays, ReadingsMade, is_id_in, is_need_in, cut_writes, cut_demands, cut, FittedSummarises, FittedIsSmall, FittedIsMade}
use Rattle.jl_sym_laws.proofs.Times.{stays_timed}
use Rattle.jl_sym_laws.proofs.SmallLaws.{small_timed, term_within, unit_timed}
use Rattle.jl_sym_laws.proofs.RunLaws.{never_timed}
use Rattle.jl_sym_laws.proofs.Compaction.{compacting_keeps}
use Rattle.jl_sym_laws.proofs.Fitting.{compacted_fits}
use Rattle.jl_sym_laws.proofs.Cuts.{cut_keeps, cut_is_in, stands_sized}

next_following : (a id : Id) → IsNext id → IsNext (following a id)
next_following a (Id.Given n) h = h
next_following (Id.Given n) (Id.After k) h = omega (arith, h)
next_following (Id.After j) (Id.After k) h = omega (arith, h)

prefix_following : (a id : Id) → IsMadeReference Table.Prefix a → IsMadeReference Table.Prefix id → IsMadeReference Table.Prefix (following a id)
prefix_following a (Id.Given n) p h = h
prefix_following (Id.Given n) (Id.After k) p h = omega (arith, p, h)
prefix_following (Id.After j) (Id.After k) p h = omega (arith, p, h)

above_zero : (n : ℕ) → (n == 0) ≡ false → 0 < n
above_zero n e = let not_zero : n ≡ 0 → ⊥ = eqb-false n 0 e in omega (arith, not_zero)

next_written : (b : Bool) (n : ℕ) → (n == 0) ≡ b → IsNext (cond b (Id.After 1) (Id.Given n))
next_written true n e = omega arith
next_written false n e = above_zero n e

prefix_written : (b : Bool) (n : ℕ) → (n == 0) ≡ b → IsMadeReference Table.Prefix (cond b (Id.After 0) (Id.Given n))
prefix_written true n e = omega arith
prefix_written false n e = above_zero n e

-- lists, one after the other
writes_from : (j n : ℕ) (ws : List Written) → j ≤ n → AreMadeWrites n ws → AreMadeWrites j ws
writes_from j n [] le h = tt
writes_from j n (w ∷ ws) le h = let first = h.0 in let later : j ≤ w.moment = omega (arith, first, le) in (later, h.1, h.2)

demands_from : (j n : ℕ) (ds : List Demand) → j ≤ n → AreMadeDemands n ds → AreMadeDemands j ds
demands_from j n [] le h = tt
demands_from j n (d ∷ ds) le h = let first = h.0 in let later : j ≤ d.moment = omega (arith, first, le) in (later, h.1, h.2)

writes_both : (n k : ℕ) (ws vs : List Written) → n ≤ k → AreMadeWrites n ws → AreBefore k ws → AreMadeWrites k vs → AreMadeWrites n (ws ++ vs)
writes_both n k [] vs le h before v = writes_from n k vs le v
writes_both n k (w ∷ ws) vs le h before v = let early = before.0 in let within : w.moment ≤ k = omega (arith, early) in (h.0, h.1, writes_both w.moment k ws vs within h.2 before.1 v)

demands_both : (n k : ℕ) (ds es : List Demand) → n ≤ k → AreMadeDemands n ds → AreWithin k ds → AreMadeDemands k es → AreMadeDemands n (ds ++ es)
demands_both n k [] es le h within v = demands_from n k es le v
demands_both n k (d ∷ ds) es le h within v = (h.0, h.1, demands_both d.moment k ds es within.0 h.2 within.1 v)

-- the second of two runs
later_writes : (a : Summary) (n j : ℕ) (ws : List Written) → n ≤ a.rows + j → AreMadeWrites j ws → AreMadeWrites n (map (later_write a) ws)
later_writes a n j [] le h = tt
later_writes a n j (w ∷ ws) le h =
    let first = h.0 in
    let later : n ≤ a.rows + w.moment = omega (arith, first, le) in
    let whole : a.rows + w.moment ≤ a.rows + w.moment = omega arith in
    (later, next_following (entry_in a w.table) w.id h.1, later_writes a (a.rows + w.moment) w.moment ws whole h.2)

abbrev pub IsMadePerhaps : Option Need → Type 0
IsMadePerhaps None = Unit {0}
IsMadePerhaps (Some need) = IsMadeNeed need

has_made : (x : Kept) (l : Left) → IsMadePerhaps (has_left x l)
has_made x Left.Incoming = tt
has_made x Left.Cleared = tt
has_made x (Left.Set h) = tt

lacks_made : (l : Left) → IsMadePerhaps (lacks_left Kept.OpenGraph l)
lacks_made Left.Incoming = tt
lacks_made Left.Cleared = tt
lacks_made (Left.Set h) = tt

need_made : (a : Summary) (need : Need) → IsMadeReference Table.Prefix a.ids.prefix → IsMadeNeed need → IsMadePerhaps (earlier_need a need)
need_made a (Need.Fits t id) p h = next_following (entry_in a t) id h
need_made a (Need.Filled Table.Name id) p h = next_following a.ids.name id h
need_made a (Need.Filled Table.Prefix (Id.Given n)) p h = h
need_made a (Need.Filled Table.Prefix (Id.After k)) p h = prefix_following a.ids.prefix (Id.After k) p h
need_made a (Need.Filled Table.Datatype (Id.Given n)) p h = tt
need_made a (Need.Filled Table.Datatype (Id.After k)) p h = absurd h
need_made a (Need.Has x) p h = has_made x (left_in a x)
need_made a (Need.Lacks (Kept.LastAt x)) p h = absurd h
need_made a (Need.Lacks Kept.OpenGraph) p h = lacks_made a.open_graph
need_made a Need.Never p h = tt

demanded_made : (rows n : ℕ) (d : Demand) (need : Option Need) (ds : List Demand) → n ≤ rows + d.moment → IsMadePerhaps need → AreMadeDemands (rows + d.moment) ds → AreMadeDemands n (demanded rows d need ds)
demanded_made rows n d None ds le h rest = demands_from n (rows + d.moment) ds le rest
demanded_made rows n d (Some need) ds le h rest = (le, h, rest)

later_made : (a : Summary) (n j : ℕ) (ds : List Demand) → IsMadeReference Table.Prefix a.ids.prefix → n ≤ a.rows + j → AreMadeDemands j ds → AreMadeDemands n (later_demands a ds)
unfolding later_demands
later_made a n j [] p le h = tt
later_made a n j (d ∷ ds) p le h =
    let first = h.0 in
    let later : n ≤ a.rows + d.moment = omega (arith, first, le) in
    let whole : a.rows + d.moment ≤ a.rows + d.moment = omega arith in
    demanded_made a.rows n d (earlier_need a d.need) (later_demands a ds) later (need_made a d.need p h.1) (later_made a (a.rows + d.moment) d.moment ds p whole h.2)

pub made_stays : MadeStays
made_stays a b h k =
    let start : 0 ≤ a.rows = omega arith in
    let seam : a.rows ≤ a.rows + 0 = omega arith in
    record {
      timed = stays_timed a b h.timed k.timed;
      writes = writes_both 0 a.rows a.writes (map (later_write a) b.writes) start h.writes h.timed.writes (later_writes a a.rows 0 b.writes seam k.writes);
      demands = demands_both 0 a.rows a.demands (later_demands a b.demands) start h.demands h.timed.demands (later_made a a.rows 0 b.demands h.prefix seam k.demands);
      prefix = prefix_following a.ids.prefix b.ids.prefix h.prefix k.prefix;
    }

-- small steps
from_start : 0 ≤ 0
from_start = omega arith

made_incoming : IsMadeReference Table.Prefix incoming.prefix
made_incoming = from_start

refs_made : (r : Refs) (t : Term) → IsMadeReference Table.Prefix r.prefix → IsMadeReference Table.Prefix (refs_after t r).prefix
refs_made r Term.Unset p = p
refs_made r (Term.Iri i) p = prefix_following r.prefix (refs_written i).prefix p (prefix_written (i.prefix == 0) i.prefix refl)
refs_made r (Term.Bnode label) p = p
refs_made r (Term.Literal lex e) p = p
refs_made r (Term.Nested x y z) p = refs_made (refs_after y (refs_after x r)) z (refs_made (refs_after x r) y (refs_made r x p))
refs_made r Term.Default p = p
refs_made r (Term.Refused k) p = p

tag_made : (d : Demand) (b : Bool) → 0 ≤ d.moment → IsMadeNeed d.need → AreMadeDemands 0 (cond b [] (d ∷ []))
tag_made d true le h = tt
tag_made d false le h = (le, h, tt)

tail_made : (place : Place) (e : Ending) → AreMadeDemands 0 (tail_demands place e)
tail_made place Ending.Simple = tt
tail_made place (Ending.Lang tag) = tag_made _ (is_tag tag) from_start tt
tail_made place (Ending.Typed id) = (from_start, tt, tt)

term_made : (place : Place) (r : Refs) (t : Term) → IsMadeReference Table.Prefix r.prefix → AreMadeDemands 0 (term_demands place r t)
term_made place r Term.Unset p = (from_start, tt, tt)
term_made place r (Term.Iri i) p =
    (from_start, refs_made r (Term.Iri i) p, (from_start, next_following r.name (refs_written i).name (next_written (i.name == 0) i.name refl), tt))
term_made place r (Term.Bnode label) p = tt
term_made place r (Term.Literal lex e) p = tail_made place e
term_made place r (Term.Nested x y z) p =
    let second = refs_after x r in
    let third = refs_after y second in
    demands_both 0 0 (term_demands place r x) _ from_start (term_made place r x p) (term_within 0 place r x)
    (demands_both 0 0 (term_demands place second y) (term_demands place third z) from_start (term_made place second y (refs_made r x p)) (term_within 0 place second y)
    (term_made place third z (refs_made second y (refs_made r x p))))
term_made place r Term.Default p = tt
term_made place r (Term.Refused k) p = (from_start, tt, tt)

set_made : (place : Place) (x : Position) (t : Term) → Timed (with_left x (left_by t) (of_term place t)) → IsMade (with_left x (left_by t) (of_term place t))
set_made place Position.Subject t h = record { timed = h; writes = tt; demands = term_made place incoming t made_incoming; prefix = refs_made incoming t made_incoming }
set_made place Position.Predicate t h = record { timed = h; writes = tt; demands = term_made place incoming t made_incoming; prefix = refs_made incoming t made_incoming }
set_made place Position.Object t h = record { timed = h; writes = tt; demands = term_made place incoming t made_incoming; prefix = refs_made incoming t made_incoming }
set_made place Position.Graph t h = record { timed = h; writes = tt; demands = term_made place incoming t made_incoming; prefix = refs_made incoming t made_incoming }

place_made : (place : Place) (x : Position) (t : Term) → Timed (of_place place x t) → IsMade (of_place place x t)
place_made place x Term.Unset h = record { timed = h; writes = tt; demands = (from_start, tt, tt); prefix = made_incoming }
place_made place x (Term.Iri i) h = set_made place x (Term.Iri i) h
place_made place x (Term.Bnode label) h = set_made place x (Term.Bnode label) h
place_made place x (Term.Literal lex e) h = set_made place x (Term.Literal lex e) h
place_made place x (Term.Nested a b c) h = set_made place x (Term.Nested a b c) h
place_made place x Term.Default h = set_made place x Term.Default h
place_made place x (Term.Refused k) h = set_made place x (Term.Refused k) h

entry_made : (place : Place) (t : Table) (id : Id) (text : List ℕ) → Timed (of_entry place t id text) → IsNext id → IsMade (of_entry place t id text)
entry_made place Table.Name id text h next = record { timed = h; writes = (from_start, next, tt); demands = (from_start, next, tt); prefix = made_incoming }
entry_made place Table.Prefix id text h next = record { timed = h; writes = (from_start, next, tt); demands = (from_start, next, tt); prefix = made_incoming }
entry_made place Table.Datatype id text h next = record { timed = h; writes = (from_start, next, tt); demands = (from_start, next, tt); prefix = made_incoming }

small_made : (place : Place) (x : Small) → IsMade (of_small place x)
small_made place (Small.Entry t id text) = entry_made place t (entry_written id) text (small_timed place (Small.Entry t id text)) (next_written (id == 0) id refl)
small_made place (Small.Places x t) = place_made place x t (small_timed place (Small.Places x t))
small_made place (Small.Reads i) =
    record { timed = small_timed place (Small.Reads i); writes = tt; demands = term_made place incoming (Term.Iri i) made_incoming; prefix = refs_made incoming (Term.Iri i) made_incoming }
small_made place Small.IsInGraph = record { timed = small_timed place Small.IsInGraph; writes = tt; demands = (from_start, tt, tt); prefix = made_incoming }
small_made place (Small.Opens g) =
    record { timed = small_timed place (Small.Opens g); writes = tt; demands = (from_start, tt, term_made place incoming g made_incoming); prefix = refs_made incoming g made_incoming }
small_made place Small.Closes = record { timed = small_timed place Small.Closes; writes = tt; demands = (from_start, tt, tt); prefix = made_incoming }
small_made place (Small.Refuses kind) = record { timed = small_timed place (Small.Refuses kind); writes = tt; demands = (from_start, tt, tt); prefix = made_incoming }
small_made place Small.Ends = record { timed = small_timed place Small.Ends; writes = tt; demands = tt; prefix = made_incoming }

unit_made : IsMade unit
unit_made = record { timed = unit_timed; writes = tt; demands = tt; prefix = made_incoming }

-- rows and readings
smalls_made : (place : Place) (xs : List Small) → IsMade (of_smalls place xs)
unfolding of_smalls
smalls_made place [] = unit_made
smalls_made place (x ∷ xs) = made_stays (of_small place x) (of_smalls place xs) (small_made place x) (smalls_made place xs)

extended_made : (o : StreamOptions) (m : Summary) (rs : List Placed) → IsMade m → IsMade (extended o m rs)
unfolding extended
extended_made o m [] h = h
extended_made o m (r ∷ rs) h = extended_made o (composed m (of_row o r)) rs (made_stays m (of_row o r) h (smalls_made r.place (smalls o r.row)))

ended_made : (m : Summary) (fault : Option Fault) → IsMade m → IsMade (ended m fault)
ended_made m None h = h
ended_made m (Some fault) h = made_stays m (never fault) h (record { timed = never_timed fault; writes = tt; demands = (from_start, tt, tt); prefix = made_incoming })

pub readings_made : ReadingsMade
readings_made o R = ended_made (extended o unit R.items) R.fault (extended_made o unit R.items unit_made)

-- parts of lists
write_kept : (n : ℕ) (w : Written) (rest kept : List Written) (b : Bool) → n ≤ w.moment → IsNext w.id → AreMadeWrites w.moment rest → AreMadeWrites w.moment kept → AreMadeWrites n (cond b rest (w ∷ kept))
write_kept n w rest kept true le next h k = writes_from n w.moment rest le h
write_kept n w rest kept false le next h k = (le, next, k)

write_early : (rows : ℕ) (w : Written) (rest kept : List Written) (b : Bool) → w.moment < rows → AreBefore rows rest → AreBefore rows kept → AreBefore rows (cond b rest (w ∷ kept))
write_early rows w rest kept true le h k = h
write_early rows w rest kept false le h k = (le, k)

demand_kept : (n : ℕ) (d : Demand) (rest kept : List Demand) (b : Bool) → n ≤ d.moment → IsMadeNeed d.need → AreMadeDemands d.moment rest → AreMadeDemands d.moment kept → AreMadeDemands n (cond b rest (d ∷ kept))
demand_kept n d rest kept true le next h k = demands_from n d.moment rest le h
demand_kept n d rest kept false le next h k = (le, next, k)

demand_early : (rows : ℕ) (d : Demand) (rest kept : List Demand) (b : Bool) → d.moment ≤ rows → AreWithin rows rest → AreWithin rows kept → AreWithin rows (cond b rest (d ∷ kept))
demand_early rows d rest kept true le h k = h
demand_early rows d rest kept false le h k = (le, k)

kept_writes_made : (ks : List ℕ) (n : ℕ) (us ws : List Written) → AreMadeWrites n ws → AreMadeWrites n (kept_writes ks us ws)
unfolding kept_writes
kept_writes_made ks n us [] h = tt
kept_writes_made ks n us (w ∷ ws) h =
    write_kept n w (kept_writes ks us ws) (kept_writes ks (us ++ (w ∷ [])) ws) (was_filled w us && is_unseen w ws ks) h.0 h.1 (kept_writes_made ks w.moment us ws h.2) (kept_writes_made ks w.moment (us ++ (w ∷ [])) ws h.2)

kept_writes_early : (ks : List ℕ) (rows : ℕ) (us ws : List Written) → AreBefore rows ws → AreBefore rows (kept_writes ks us ws)
unfolding kept_writes
kept_writes_early ks rows us [] h = tt
kept_writes_early ks rows us (w ∷ ws) h =
    write_early rows w (kept_writes ks us ws) (kept_writes ks (us ++ (w ∷ [])) ws) (was_filled w us && is_unseen w ws ks) h.0 (kept_writes_early ks rows us ws h.1) (kept_writes_early ks rows (us ++ (w ∷ [])) ws h.1)

kept_demands_made : (n : ℕ) (ds es : List Demand) → AreMadeDemands n es → AreMadeDemands n (kept_demands ds es)
unfolding kept_demands
kept_demands_made n ds [] h = tt
kept_demands_made n ds (d ∷ es) h =
    demand_kept n d (kept_demands ds es) (kept_demands (ds ++ (d ∷ [])) es) (was_asked d ds) h.0 h.1 (kept_demands_made d.moment ds es h.2) (kept_demands_made d.moment (ds ++ (d ∷ [])) es h.2)

kept_demands_early : (rows : ℕ) (ds es : List Demand) → AreWithin rows es → AreWithin rows (kept_demands ds es)
unfolding kept_demands
kept_demands_early rows ds [] h = tt
kept_demands_early rows ds (d ∷ es) h =
    demand_early rows d (kept_demands ds es) (kept_demands (ds ++ (d ∷ [])) es) (was_asked d ds) h.0 (kept_demands_early rows ds es h.1) (kept_demands_early rows (ds ++ (d ∷ [])) es h.1)

write_cut : (n : ℕ) (w : Written) (ws : List Written) (b : Bool) → n ≤ w.moment → IsNext w.id → AreMadeWrites w.moment ws → AreMadeWrites n (cond b (w ∷ ws) ws)
write_cut n w ws true le next h = (le, next, h)
write_cut n w ws false le next h = writes_from n w.moment ws le h

cut_writes_made : (o : StreamOptions) (n : ℕ) (ws : List Written) → AreMadeWrites n ws → AreMadeWrites n (cut_writes o ws)
unfolding cut_writes
cut_writes_made o n [] h = tt
cut_writes_made o n (w ∷ ws) h = write_cut n w (cut_writes o ws) (is_id_in (size_of o w.table) w.id) h.0 h.1 (cut_writes_made o w.moment ws h.2)

write_cut_early : (rows : ℕ) (w : Written) (ws : List Written) (b : Bool) → w.moment < rows → AreBefore rows ws → AreBefore rows (cond b (w ∷ ws) ws)
write_cut_early rows w ws true le h = (le, h)
write_cut_early rows w ws false le h = h

cut_writes_early : (o : StreamOptions) (rows : ℕ) (ws : List Written) → AreBefore rows ws → AreBefore rows (cut_writes o ws)
unfolding cut_writes
cut_writes_early o rows [] h = tt
cut_writes_early o rows (w ∷ ws) h = write_cut_early rows w (cut_writes o ws) (is_id_in (size_of o w.table) w.id) h.0 (cut_writes_early o rows ws h.1)

demand_cut : (n : ℕ) (d : Demand) (ds : List Demand) (b : Bool) → n ≤ d.moment → IsMadeNeed d.need → AreMadeDemands d.moment ds → AreMadeDemands n (cond b (d ∷ ds) (record d { need = Need.Never } ∷ []))
demand_cut n d ds true le next h = (le, next, h)
demand_cut n d ds false le next h = (le, tt, tt)

cut_demands_made : (o : StreamOptions) (n : ℕ) (ds : List Demand) → AreMadeDemands n ds → AreMadeDemands n (cut_demands o ds)
unfolding cut_demands
cut_demands_made o n [] h = tt
cut_demands_made o n (d ∷ ds) h = demand_cut n d (cut_demands o ds) (is_need_in o d.need) h.0 h.1 (cut_demands_made o d.moment ds h.2)

demand_cut_early : (rows : ℕ) (d : Demand) (ds : List Demand) (b : Bool) → d.moment ≤ rows → AreWithin rows ds → AreWithin rows (cond b (d ∷ ds) (record d { need = Need.Never } ∷ []))
demand_cut_early rows d ds true le h = (le, h)
demand_cut_early rows d ds false le h = (le, tt)

cut_demands_early : (o : StreamOptions) (rows : ℕ) (ds : List Demand) → AreWithin rows ds → AreWithin rows (cut_demands o ds)
unfolding cut_demands
cut_demands_early o rows [] h = tt
cut_demands_early o rows (d ∷ ds) h = demand_cut_early rows d (cut_demands o ds) (is_need_in o d.need) h.0 (cut_demands_early o rows ds h.1)

cut_made : (o : StreamOptions) (m : Summary) → IsMade m → IsMade (cut o m)
cut_made o m h = record {
  timed = record {
    writes = cut_writes_early o m.rows m.writes h.timed.writes;
    demands = cut_demands_early o m.rows m.demands h.timed.demands;
    subject = h.timed.subject;
    predicate = h.timed.predicate;
    object = h.timed.object;
    graph = h.timed.graph;
    open_graph = h.timed.open_graph;
  };
  writes = cut_writes_made o 0 m.writes h.writes;
  demands = cut_demands_made o 0 m.demands h.demands;
  prefix = h.prefix;
}

compacted_made : (m : Summary) → IsMade m → IsMade (compacted m)
compacted_made m h = record {
  timed = record {
    writes = kept_writes_early (moments m) m.rows [] m.writes h.timed.writes;
    demands = kept_demands_early m.rows [] m.demands h.timed.demands;
    subject = h.timed.subject;
    predicate = h.timed.predicate;
    object = h.timed.object;
    graph = h.timed.graph;
    open_graph = h.timed.open_graph;
  };
  writes = kept_writes_made (moments m) 0 [] m.writes h.writes;
  demands = kept_demands_made 0 [] m.demands h.demands;
  prefix = h.prefix;
}

pub fitted_is_made : FittedIsMade
fitted_is_made o m h = compacted_made (cut o m) (cut_made o m h)

pub fitted_is_small : FittedIsSmall
fitted_is_small o m h = let inside = cut_is_in o m h in compacted_fits o (cut o m) inside.0 inside.1

pub fitted_summarises : FittedSummarises
fitted_summarises o R m made h H s stands = subst (Leads o H R) (sym (compacting_keeps (cut o m) s ∙ cut_keeps o m s made (stands_sized o s H stands))) (h H s stands)
