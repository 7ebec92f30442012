-- The size of a compacted summary.
use Rattle.std.proofs.Common.{◌≡◌, ℕ, ◌+◌, ◌*◌, ◌≤◌, Bool, true, false, ◌&&◌, ◌||◌, not, List, [], ◌∷◌, ◌++◌, length, refl, ap, subst, sym, ◌∙◌, cond, arith, nat_le, inl, inr, eq-eqb, length-append}
use Rattle.std.proofs.lemmas.Bool.{le-leb, and_from, or_cases, or_left, or_right, false≢true, true≢false}
use Rattle.jl_rows.specs.declared.row.Table.{Table}
use Rattle.jl_rows.specs.History.{is_table}
use Rattle.jl_rows.specs.Written.{StreamOptions}
use Rattle.jl_rows.specs.Values.{Position}
use Rattle.jl_rows.specs.Decoder.{size_of}
use Rattle.jl_sym_laws.specs.RelativeIds.{Id}
use Rattle.jl_sym_laws.specs.Summaries.{Written, Kept, Need, Demand, Left, Summary}
use Rattle.jl_sym_laws.specs.Compacting.{same_id, is_unseen, was_filled, moments_of, moments, same_need, was_asked, kept_writes, kept_demands}
use Rattle.jl_sym_laws.specs.Sizes.{IsIdIn, IsNeedIn, AreWritesIn, AreDemandsIn, all_slots, CompactedFits}
use Rattle.jl_sym_laws.proofs.Sameness.{need_is}
use Rattle.jl_sym_laws.proofs.Counting.{one, each_id, length-each_id, many, hits, AllHit, length-le-total, total-le, hit_left, hit_right, hit_id}
use Rattle.jl_sym_laws.proofs.Bounds.{Address, goes_at, Rises, writes_at}

id_again : (i : Id) → same_id i i ≡ true
id_again (Id.Given n) = eq-eqb n n refl
id_again (Id.After n) = eq-eqb n n refl

table_again : (t : Table) → is_table t t ≡ true
table_again Table.Name = refl
table_again Table.Prefix = refl
table_again Table.Datatype = refl

-- the addresses of a table, and of all
abbrev pub addresses_of : Table → ℕ → List Address
addresses_of t size = each_id (λ n. (t, Id.Given n)) size ++ each_id (λ n. (t, Id.After n)) size

abbrev pub addresses : StreamOptions → List Address
addresses o = addresses_of Table.Name o.names ++ (addresses_of Table.Prefix o.prefixes ++ addresses_of Table.Datatype o.datatypes)

length_of : (t : Table) (size : ℕ) → length (addresses_of t size) ≡ size + size
length_of t size =
    let both = length-append {A = Address} (each_id (λ n. (t, Id.Given n)) size) (each_id (λ n. (t, Id.After n)) size) in
    let given = length-each_id {A = Address} (λ n. (t, Id.Given n)) size in
    let after = length-each_id {A = Address} (λ n. (t, Id.After n)) size in
    omega (arith, both, given, after)

length-addresses : (o : StreamOptions) → length (addresses o) ≡ 2 * all_slots o
length-addresses o =
    let all = length-append (addresses_of Table.Name o.names) (addresses_of Table.Prefix o.prefixes ++ addresses_of Table.Datatype o.datatypes) in
    let rest = length-append (addresses_of Table.Prefix o.prefixes) (addresses_of Table.Datatype o.datatypes) in
    let a = length_of Table.Name o.names in
    let b = length_of Table.Prefix o.prefixes in
    let c = length_of Table.Datatype o.datatypes in
    omega (arith, all, rest, a, b, c)

goes_there : (t : Table) (i : Id) (w : Written) → w.table ≡ t → w.id ≡ i → goes_at (t, i) w ≡ true
goes_there t i w e k = rw (e, k) (and_from _ _ (table_again t) (id_again i))

hit_of : (t : Table) (size : ℕ) (i : Id) (w : Written) → w.table ≡ t → w.id ≡ i → IsIdIn size i → 1 ≤ hits goes_at (addresses_of t size) w
hit_of t size (Id.Given n) w e k h =
    hit_left goes_at (each_id (λ n. (t, Id.Given n)) size) (each_id (λ n. (t, Id.After n)) size) w (hit_id goes_at (λ n. (t, Id.Given n)) size n w (goes_there t (Id.Given n) w e k) h.0 h.1)
hit_of t size (Id.After n) w e k h =
    hit_right goes_at (each_id (λ n. (t, Id.Given n)) size) (each_id (λ n. (t, Id.After n)) size) w (hit_id goes_at (λ n. (t, Id.After n)) size n w (goes_there t (Id.After n) w e k) h.0 h.1)

hit_table : (o : StreamOptions) (t : Table) (w : Written) → w.table ≡ t → IsIdIn (size_of o t) w.id → 1 ≤ hits goes_at (addresses o) w
hit_table o Table.Name w e h = hit_left goes_at (addresses_of Table.Name o.names) _ w (hit_of Table.Name o.names w.id w e refl h)
hit_table o Table.Prefix w e h =
    hit_right goes_at (addresses_of Table.Name o.names) _ w (hit_left goes_at (addresses_of Table.Prefix o.prefixes) (addresses_of Table.Datatype o.datatypes) w (hit_of Table.Prefix o.prefixes w.id w e refl h))
hit_table o Table.Datatype w e h =
    hit_right goes_at (addresses_of Table.Name o.names) _ w (hit_right goes_at (addresses_of Table.Prefix o.prefixes) (addresses_of Table.Datatype o.datatypes) w (hit_of Table.Datatype o.datatypes w.id w e refl h))

write_hit_by : (o : StreamOptions) (w : Written) (rest kept : List Written) (b : Bool) → 1 ≤ hits goes_at (addresses o) w → AllHit goes_at (addresses o) rest → AllHit goes_at (addresses o) kept
    → AllHit goes_at (addresses o) (cond b rest (w ∷ kept))
unfolding AllHit
write_hit_by o w rest kept true first h k = h
write_hit_by o w rest kept false first h k = (first, k)

writes_hit : (o : StreamOptions) (ks : List ℕ) (n : ℕ) (us ws : List Written) → AreWritesIn o n ws → AllHit goes_at (addresses o) (kept_writes ks us ws)
unfolding AllHit kept_writes
writes_hit o ks n us [] h = tt
writes_hit o ks n us (w ∷ ws) h =
    write_hit_by o w (kept_writes ks us ws) (kept_writes ks (us ++ (w ∷ [])) ws) (was_filled w us && is_unseen w ws ks) (hit_table o w.table w refl h.1)
    (writes_hit o ks w.moment us ws h.2) (writes_hit o ks w.moment (us ++ (w ∷ [])) ws h.2)

writes_rise : (o : StreamOptions) (n : ℕ) (ws : List Written) → AreWritesIn o n ws → Rises n ws
writes_rise o n [] h = tt
writes_rise o n (w ∷ ws) h = (h.0, writes_rise o w.moment ws h.2)

moments_one : (l : Left) → length (moments_of l) ≤ 1
moments_one Left.Incoming = omega arith
moments_one Left.Cleared = omega arith
moments_one (Left.Set h) = omega arith

moments_six : (m : Summary) → length (moments m) ≤ 6
moments_six m =
    let a = moments_one m.subject in
    let b = moments_one m.predicate in
    let c = moments_one m.object in
    let d = moments_one m.graph in
    let e = moments_one m.open_graph in
    let x = length-append (moments_of m.graph) (moments_of m.open_graph) in
    let y = length-append (moments_of m.object) (moments_of m.graph ++ moments_of m.open_graph) in
    let z = length-append (moments_of m.predicate) (moments_of m.object ++ (moments_of m.graph ++ moments_of m.open_graph)) in
    let all = length-append (moments_of m.subject) (moments_of m.predicate ++ (moments_of m.object ++ (moments_of m.graph ++ moments_of m.open_graph))) in
    omega (arith, a, b, c, d, e, x, y, z, all)

writes_fit : (o : StreamOptions) (m : Summary) → AreWritesIn o 0 m.writes → length (kept_writes (moments m) [] m.writes) ≤ 14 * all_slots o
writes_fit o m h =
    let all = length-le-total goes_at (addresses o) (kept_writes (moments m) [] m.writes) (writes_hit o (moments m) 0 [] m.writes h) in
    let each = total-le goes_at (addresses o) (kept_writes (moments m) [] m.writes) 7 (λ a. writes_at a (moments m) m.writes (writes_rise o 0 m.writes h) (moments_six m)) in
    let size = length-addresses o in
    omega (arith, all, each, size)

-- demands
abbrev pub asks : Need → Demand → Bool
asks n d = same_need n d.need

unfoldable pub any_asks : Need → List Demand → Bool
any_asks n [] = false
any_asks n (d ∷ ds) = asks n d || any_asks n ds

abbrev pub Until : ℕ → List Demand → Type 0
Until n [] = Unit {0}
Until n (d ∷ ds) = (d.moment ≤ n) × Until n ds

until_later : (n k : ℕ) (ds : List Demand) → n ≤ k → Until n ds → Until k ds
until_later n k [] le h = tt
until_later n k (d ∷ ds) le h = let first = h.0 in let within : d.moment ≤ k = omega (arith, first, le) in (within, until_later n k ds le h.1)

until_push : (n : ℕ) (ds : List Demand) (d : Demand) → d.moment ≤ n → Until n ds → Until n (ds ++ (d ∷ []))
until_push n [] d le h = (le, tt)
until_push n (e ∷ es) d le h = (h.0, until_push n es d le h.1)

module _ (o : StreamOptions) (n : Need) where
  asks_same : (d e : Demand) → asks n e ≡ true → asks n d ≡ true → same_need e.need d.need ≡ true
  asks_same d e p q = subst (λ (x : Need). same_need x d.need ≡ true) (need_is n e.need p) q

  asks_push : (ds : List Demand) (d : Demand) → asks n d ≡ true → any_asks n (ds ++ (d ∷ [])) ≡ true
  unfolding any_asks
  asks_push [] d h = or_left (asks n d) false h
  asks_push (e ∷ es) d h = or_right (asks n e) (any_asks n (es ++ (d ∷ []))) (asks_push es d h)

  asks_stay : (ds : List Demand) (d : Demand) → any_asks n ds ≡ true → any_asks n (ds ++ (d ∷ [])) ≡ true
  unfolding any_asks
  asks_stay [] d h = absurd (false≢true h)
  asks_stay (e ∷ es) d h = elim (or_cases (asks n e) (any_asks n es) h) [
    | inl x ↦ or_left (asks n e) (any_asks n (es ++ (d ∷ []))) x
    | inr x ↦ or_right (asks n e) (any_asks n (es ++ (d ∷ []))) (asks_stay es d x)
  ]

  asked_at : (d : Demand) (ds : List Demand) → asks n d ≡ true → Until d.moment ds → any_asks n ds ≡ true → was_asked d ds ≡ true
  unfolding any_asks was_asked
  asked_at d [] h until any = absurd (false≢true any)
  asked_at d (e ∷ es) h until any = elim (or_cases (asks n e) (any_asks n es) any) [
    | inl x ↦ or_left (same_need e.need d.need && nat_le e.moment d.moment) (was_asked d es) (and_from _ _ (asks_same d e x h) (le-leb e.moment d.moment until.0))
    | inr x ↦ or_right (same_need e.need d.need && nat_le e.moment d.moment) (was_asked d es) (asked_at d es h until.1 x)
  ]

  falls : (x y : Bool) → (x ≡ true → y ≡ true) → one (not y) ≤ one (not x)
  falls true y h = rw (h refl) (omega arith)
  falls false true h = omega arith
  falls false false h = omega arith

  not_any : (x y : Bool) → y ≡ false → (x ≡ true → y ≡ true) → x ≡ false
  not_any true y e h = absurd (true≢false (sym (h refl) ∙ e))
  not_any false y e h = refl

  asked_here : (ds : List Demand) (d : Demand) (kept : List Demand) (c : Bool) → asks n d ≡ c → was_asked d ds ≡ false → Until d.moment ds
      → many asks n kept ≤ one (not (any_asks n (ds ++ (d ∷ [])))) → one c + many asks n kept ≤ one (not (any_asks n ds))
  asked_here ds d kept false e new until h = let less = falls (any_asks n ds) (any_asks n (ds ++ (d ∷ []))) (asks_stay ds d) in omega (arith, h, less)
  asked_here ds d kept true e new until h =
      let none : one (not (any_asks n (ds ++ (d ∷ [])))) ≡ 0 = ap (λ (b : Bool). one (not b)) (asks_push ds d e) in
      let first : one (not (any_asks n ds)) ≡ 1 = ap (λ (b : Bool). one (not b)) (not_any (any_asks n ds) (was_asked d ds) new (asked_at d ds e until)) in
      omega (arith, h, none, first)

  stay_by : (ds : List Demand) (d : Demand) (rest kept : List Demand) (b : Bool) → was_asked d ds ≡ b → Until d.moment ds
      → many asks n rest ≤ one (not (any_asks n ds)) → many asks n kept ≤ one (not (any_asks n (ds ++ (d ∷ [])))) → many asks n (cond b rest (d ∷ kept)) ≤ one (not (any_asks n ds))
  unfolding many
  stay_by ds d rest kept true e until h k = h
  stay_by ds d rest kept false e until h k = asked_here ds d kept (asks n d) refl e until k

  stays : (k : ℕ) (ds es : List Demand) → Until k ds → AreDemandsIn o k es → many asks n (kept_demands ds es) ≤ one (not (any_asks n ds))
  unfolding kept_demands many
  stays k ds [] until h = omega arith
  stays k ds (d ∷ es) until h =
      let whole : d.moment ≤ d.moment = omega arith in
      let so_far = until_later k d.moment ds h.0 until in
      stay_by ds d (kept_demands ds es) (kept_demands (ds ++ (d ∷ [])) es) (was_asked d ds) refl so_far (stays d.moment ds es so_far h.2) (stays d.moment (ds ++ (d ∷ [])) es (until_push d.moment ds d whole so_far) h.2)

  one_at_most : (b : Bool) → one b ≤ 1
  one_at_most true = omega arith
  one_at_most false = omega arith

  demands_of : (es : List Demand) → AreDemandsIn o 0 es → many asks n (kept_demands [] es) ≤ 1
  demands_of es h = let all = stays 0 [] es tt h in let most = one_at_most (not (any_asks n [])) in omega (arith, all, most)

-- the needs that there are
abbrev pub fits_of : Table → ℕ → List Need
fits_of t size = each_id (λ n. Need.Fits t (Id.Given n)) size ++ each_id (λ n. Need.Fits t (Id.After n)) size

abbrev pub filled_of : Table → ℕ → List Need
filled_of t size = each_id (λ n. Need.Filled t (Id.Given n)) size

abbrev pub others : List Need
others =
    Need.Filled Table.Prefix (Id.After 0) ∷ Need.Has (Kept.LastAt Position.Subject) ∷ Need.Has (Kept.LastAt Position.Predicate) ∷ Need.Has (Kept.LastAt Position.Object)
    ∷ Need.Has (Kept.LastAt Position.Graph) ∷ Need.Has Kept.OpenGraph ∷ Need.Lacks Kept.OpenGraph ∷ Need.Never ∷ []

abbrev pub names_next : StreamOptions → List Need
names_next o = each_id (λ n. Need.Filled Table.Name (Id.After n)) o.names

abbrev pub filled_all : StreamOptions → List Need
filled_all o = filled_of Table.Name o.names ++ (filled_of Table.Prefix o.prefixes ++ (filled_of Table.Datatype o.datatypes ++ (names_next o ++ others)))

abbrev pub needs : StreamOptions → List Need
needs o = fits_of Table.Name o.names ++ (fits_of Table.Prefix o.prefixes ++ (fits_of Table.Datatype o.datatypes ++ filled_all o))

length_fits : (t : Table) (size : ℕ) → length (fits_of t size) ≡ size + size
length_fits t size =
    let both = length-append (each_id (λ n. Need.Fits t (Id.Given n)) size) (each_id (λ n. Need.Fits t (Id.After n)) size) in
    let given = length-each_id (λ n. Need.Fits t (Id.Given n)) size in
    let after = length-each_id (λ n. Need.Fits t (Id.After n)) size in
    omega (arith, both, given, after)

length_filled : (o : StreamOptions) → length (filled_all o) ≡ all_slots o + o.names + 8
length_filled o =
    let a = length-each_id (λ n. Need.Filled Table.Name (Id.Given n)) o.names in
    let b = length-each_id (λ n. Need.Filled Table.Prefix (Id.Given n)) o.prefixes in
    let c = length-each_id (λ n. Need.Filled Table.Datatype (Id.Given n)) o.datatypes in
    let d = length-each_id (λ n. Need.Filled Table.Name (Id.After n)) o.names in
    let x = length-append (names_next o) others in
    let y = length-append (filled_of Table.Datatype o.datatypes) (names_next o ++ others) in
    let z = length-append (filled_of Table.Prefix o.prefixes) (filled_of Table.Datatype o.datatypes ++ (names_next o ++ others)) in
    let all = length-append (filled_of Table.Name o.names) (filled_of Table.Prefix o.prefixes ++ (filled_of Table.Datatype o.datatypes ++ (names_next o ++ others))) in
    omega (arith, a, b, c, d, x, y, z, all)

length-needs : (o : StreamOptions) → length (needs o) ≤ 4 * all_slots o + 8
length-needs o =
    let a = length_fits Table.Name o.names in
    let b = length_fits Table.Prefix o.prefixes in
    let c = length_fits Table.Datatype o.datatypes in
    let d = length_filled o in
    let y = length-append (fits_of Table.Datatype o.datatypes) (filled_all o) in
    let z = length-append (fits_of Table.Prefix o.prefixes) (fits_of Table.Datatype o.datatypes ++ filled_all o) in
    let all = length-append (fits_of Table.Name o.names) (fits_of Table.Prefix o.prefixes ++ (fits_of Table.Datatype o.datatypes ++ filled_all o)) in
    omega (arith, a, b, c, d, y, z, all)

module _ (o : StreamOptions) (d : Demand) where
  asks_fits : (t : Table) (i : Id) → d.need ≡ Need.Fits t i → asks (Need.Fits t i) d ≡ true
  asks_fits t i e = rw e (and_from _ _ (table_again t) (id_again i))

  asks_filled : (t : Table) (i : Id) → d.need ≡ Need.Filled t i → asks (Need.Filled t i) d ≡ true
  asks_filled t i e = rw e (and_from _ _ (table_again t) (id_again i))

  fits_hit : (t : Table) (size : ℕ) (i : Id) → d.need ≡ Need.Fits t i → IsIdIn size i → 1 ≤ hits asks (fits_of t size) d
  fits_hit t size (Id.Given n) e h =
      hit_left asks (each_id (λ n. Need.Fits t (Id.Given n)) size) (each_id (λ n. Need.Fits t (Id.After n)) size) d (hit_id asks (λ n. Need.Fits t (Id.Given n)) size n d (asks_fits t (Id.Given n) e) h.0 h.1)
  fits_hit t size (Id.After n) e h =
      hit_right asks (each_id (λ n. Need.Fits t (Id.Given n)) size) (each_id (λ n. Need.Fits t (Id.After n)) size) d (hit_id asks (λ n. Need.Fits t (Id.After n)) size n d (asks_fits t (Id.After n) e) h.0 h.1)

  filled_hit : (t : Table) (size n : ℕ) → d.need ≡ Need.Filled t (Id.Given n) → IsIdIn size (Id.Given n) → 1 ≤ hits asks (filled_of t size) d
  filled_hit t size n e h = hit_id asks (λ n. Need.Filled t (Id.Given n)) size n d (asks_filled t (Id.Given n) e) h.0 h.1

  -- where each part of the list of needs begins
  in_prefix_fits : 1 ≤ hits asks (fits_of Table.Prefix o.prefixes ++ (fits_of Table.Datatype o.datatypes ++ filled_all o)) d → 1 ≤ hits asks (needs o) d
  in_prefix_fits h = hit_right asks (fits_of Table.Name o.names) _ d h

  in_datatype_fits : 1 ≤ hits asks (fits_of Table.Datatype o.datatypes ++ filled_all o) d → 1 ≤ hits asks (needs o) d
  in_datatype_fits h = in_prefix_fits (hit_right asks (fits_of Table.Prefix o.prefixes) _ d h)

  in_filled : 1 ≤ hits asks (filled_all o) d → 1 ≤ hits asks (needs o) d
  in_filled h = in_datatype_fits (hit_right asks (fits_of Table.Datatype o.datatypes) (filled_all o) d h)

  in_prefixes : 1 ≤ hits asks (filled_of Table.Prefix o.prefixes ++ (filled_of Table.Datatype o.datatypes ++ (names_next o ++ others))) d → 1 ≤ hits asks (needs o) d
  in_prefixes h = in_filled (hit_right asks (filled_of Table.Name o.names) _ d h)

  in_datatypes : 1 ≤ hits asks (filled_of Table.Datatype o.datatypes ++ (names_next o ++ others)) d → 1 ≤ hits asks (needs o) d
  in_datatypes h = in_prefixes (hit_right asks (filled_of Table.Prefix o.prefixes) _ d h)

  in_next : 1 ≤ hits asks (names_next o ++ others) d → 1 ≤ hits asks (needs o) d
  in_next h = in_datatypes (hit_right asks (filled_of Table.Datatype o.datatypes) (names_next o ++ others) d h)

  in_others : 1 ≤ hits asks others d → 1 ≤ hits asks (needs o) d
  in_others h = in_next (hit_right asks (names_next o) others d h)

  need_hit : (need : Need) → d.need ≡ need → IsNeedIn o need → 1 ≤ hits asks (needs o) d
  unfolding hits
  need_hit (Need.Fits Table.Name i) e h = hit_left asks (fits_of Table.Name o.names) _ d (fits_hit Table.Name o.names i e h)
  need_hit (Need.Fits Table.Prefix i) e h = in_prefix_fits (hit_left asks (fits_of Table.Prefix o.prefixes) _ d (fits_hit Table.Prefix o.prefixes i e h))
  need_hit (Need.Fits Table.Datatype i) e h = in_datatype_fits (hit_left asks (fits_of Table.Datatype o.datatypes) (filled_all o) d (fits_hit Table.Datatype o.datatypes i e h))
  need_hit (Need.Filled Table.Name (Id.Given n)) e h = in_filled (hit_left asks (filled_of Table.Name o.names) _ d (filled_hit Table.Name o.names n e h))
  need_hit (Need.Filled Table.Name (Id.After n)) e h =
      in_next (hit_left asks (names_next o) others d (hit_id asks (λ n. Need.Filled Table.Name (Id.After n)) o.names n d (asks_filled Table.Name (Id.After n) e) h.0 h.1))
  need_hit (Need.Filled Table.Prefix (Id.Given n)) e h = in_prefixes (hit_left asks (filled_of Table.Prefix o.prefixes) _ d (filled_hit Table.Prefix o.prefixes n e h))
  need_hit (Need.Filled Table.Prefix (Id.After k)) e h =
      let none : k ≡ 0 = omega (arith, h) in
      in_others (rw (e ∙ ap (λ (k : ℕ). Need.Filled Table.Prefix (Id.After k)) none) (omega arith))
  need_hit (Need.Filled Table.Datatype (Id.Given n)) e h = in_datatypes (hit_left asks (filled_of Table.Datatype o.datatypes) (names_next o ++ others) d (filled_hit Table.Datatype o.datatypes n e h))
  need_hit (Need.Filled Table.Datatype (Id.After k)) e h = absurd h
  need_hit (Need.Has (Kept.LastAt Position.Subject)) e h = in_others (rw e (omega arith))
  need_hit (Need.Has (Kept.LastAt Position.Predicate)) e h = in_others (rw e (omega arith))
  need_hit (Need.Has (Kept.LastAt Position.Object)) e h = in_others (rw e (omega arith))
  need_hit (Need.Has (Kept.LastAt Position.Graph)) e h = in_others (rw e (omega arith))
  need_hit (Need.Has Kept.OpenGraph) e h = in_others (rw e (omega arith))
  need_hit (Need.Lacks (Kept.LastAt x)) e h = absurd h
  need_hit (Need.Lacks Kept.OpenGraph) e h = in_others (rw e (omega arith))
  need_hit Need.Never e h = in_others (rw e (omega arith))

demand_hit_by : (o : StreamOptions) (d : Demand) (rest kept : List Demand) (b : Bool) → 1 ≤ hits asks (needs o) d → AllHit asks (needs o) rest → AllHit asks (needs o) kept
    → AllHit asks (needs o) (cond b rest (d ∷ kept))
unfolding AllHit
demand_hit_by o d rest kept true first h k = h
demand_hit_by o d rest kept false first h k = (first, k)

demands_hit : (o : StreamOptions) (n : ℕ) (ds es : List Demand) → AreDemandsIn o n es → AllHit asks (needs o) (kept_demands ds es)
unfolding AllHit kept_demands
demands_hit o n ds [] h = tt
demands_hit o n ds (d ∷ es) h =
    demand_hit_by o d (kept_demands ds es) (kept_demands (ds ++ (d ∷ [])) es) (was_asked d ds) (need_hit o d d.need refl h.1) (demands_hit o d.moment ds es h.2) (demands_hit o d.moment (ds ++ (d ∷ [])) es h.2)

demands_fit : (o : StreamOptions) (es : List Demand) → AreDemandsIn o 0 es → length (kept_demands [] es) ≤ 4 * all_slots o + 8
demands_fit o es h =
    let all = length-le-total asks (needs o) (kept_demands [] es) (demands_hit o 0 [] es h) in
    let each = total-le asks (needs o) (kept_demands [] es) 1 (λ n. demands_of o n es h) in
    let size = length-needs o in
    omega (arith, all, each, size)

pub compacted_fits : CompactedFits
compacted_fits o m h k = (writes_fit o m h, demands_fit o m.demands k)
