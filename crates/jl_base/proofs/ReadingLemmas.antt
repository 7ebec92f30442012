-- Sources that are read one after another, in order.
use Rattle.std.proofs.Common.{◌≡◌, ℕ, ◌+◌, ◌<◌, ◌≤◌, List, [], ◌∷◌, ◌++◌, length, get_or, refl, sym, ◌∙◌, ap, append-nil, append_assoc, length-append, subst, arith}
use Rattle.std.proofs.lemmas.List.{get_or_at, set_at}
use Rattle.std.specs.List.{slice_set}
use Rattle.std.specs.Io.KnownBytes.{IsAtEnd}
use Rattle.jl_base.specs.Causes.{Rose}
use Rattle.jl_base.specs.Sources.{Told, Reads}
use Rattle.jl_base.specs.SourceLists.{ReadsEach, EndsEach, RoseAt, SteadyEach, total}
use Rattle.jl_base.proofs.SourceListLemmas.{nothing_each, ReadsEach-none, ReadsEach-append, EndsEach-append, SteadyEach-none, SteadyEach-append, total-append, total-nothing_each, length-ReadsEach, RoseAt-behind}

-- The first n sources were read to their ends without a fault, and those behind them are as they were.
pub record ReadFirst {S : Type 0} (told : S → Told) (n : ℕ) (old new : List S) (reads : List (List ℕ)) : Type 0 where
  pub befores : List S
  pub afters : List S
  pub rest : List S
  pub initial : old ≡ befores ++ rest
  pub current : new ≡ afters ++ rest
  pub count : length afters ≡ n
  pub each : ReadsEach told befores afters reads
  pub ends : EndsEach told afters
  pub steady : SteadyEach told befores afters

-- nothing was read yet
pub read_none : {S : Type 0} (told : S → Told) (sources : List S) → ReadFirst told 0 sources sources []
read_none told sources = record {
  befores = [];
  afters = [];
  rest = sources;
  initial = refl;
  current = refl;
  count = refl;
  each = tt;
  ends = tt;
  steady = tt;
}

empty_list : {S : Type 0} (rest : List S) → length rest ≡ 0 → rest ≡ []
empty_list [] none = refl
empty_list (r ∷ rest) none = absurd (omega arith)

-- the source with n before it, and those behind it
record Next {S : Type 0} (rest : List S) (s : S) : Type 0 where
  more : List S
  is : rest ≡ s ∷ more

next_in : {S : Type 0} (afters rest : List S) (n : ℕ) (s : S) → length afters ≡ n → n < length (afters ++ rest) → s ≡ get_or (afters ++ rest) n s → Next rest s
next_in afters [] n s count below at = absurd (omega (arith, length-append afters []))
next_in {S} afters (r ∷ rest) n s count below at = record {
  more = rest;
  is = ap (λ (x : S). x ∷ rest) (sym (at ∙ get_or_at afters r rest s n count));
}

module _ {S : Type 0} (told : S → Told) (n : ℕ) (old new : List S) (reads : List (List ℕ)) (first : ReadFirst told n old new reads) where
  pub length_kept : length new ≡ length old
  length_kept =
      let same = (length-ReadsEach told first.befores first.afters reads first.each).0 in
      omega (arith, same, ap length first.initial, ap length first.current, length-append first.befores first.rest, length-append first.afters first.rest)

  -- all of them, where there are no more than n
  pub read_all : length new ≤ n → ReadsEach told old new reads × EndsEach told new
  read_all no_more =
      let none = empty_list first.rest (omega (arith, ap length first.current, length-append first.afters first.rest)) in
      let before : old ≡ first.befores = first.initial ∙ ap (λ (rest : List S). first.befores ++ rest) none ∙ append-nil first.befores in
      let after : new ≡ first.afters = first.current ∙ ap (λ (rest : List S). first.afters ++ rest) none ∙ append-nil first.afters in (
        subst (λ (sources : List S). ReadsEach told sources new reads) (sym before)
            (subst (λ (sources : List S). ReadsEach told first.befores sources reads) (sym after) first.each),
        subst (λ (sources : List S). EndsEach told sources) (sym after) first.ends,
      )

  -- no source had a fault so far
  pub steady_all : SteadyEach told old new
  steady_all =
      subst (λ (sources : List S). SteadyEach told sources new) (sym first.initial)
      (subst (λ (sources : List S). SteadyEach told (first.befores ++ first.rest) sources) (sym first.current)
      (SteadyEach-append told first.befores first.afters first.rest first.rest first.steady (SteadyEach-none told first.rest)))

module _ {S : Type 0} (told : S → Told) (n : ℕ) (old new : List S) (reads : List (List ℕ)) (first : ReadFirst told n old new reads) (s t : S) (below : n < length new) (at : s ≡ get_or new n s) where
  next_one : Next first.rest s
  next_one = next_in first.afters first.rest n s first.count (omega (arith, ap length first.current)) (at ∙ ap (λ (sources : List S). get_or sources n s) first.current)

  before_it : old ≡ first.befores ++ s ∷ next_one.more
  before_it = first.initial ∙ ap (λ (rest : List S). first.befores ++ rest) next_one.is

  after_it : slice_set new n t ≡ first.afters ++ t ∷ next_one.more
  after_it =
      ap (λ (sources : List S). slice_set sources n t) (first.current ∙ ap (λ (rest : List S). first.afters ++ rest) next_one.is)
      ∙ set_at first.afters s next_one.more t n first.count

  -- the next one was read to its end too, without a fault
  pub read_more : (bytes : List ℕ) → Reads (told s) (told t) bytes → IsAtEnd (told t).left → (told t).faults ≡ (told s).faults → ReadFirst told (n + 1) old (slice_set new n t) (reads ++ bytes ∷ [])
  read_more bytes read end steady = record {
    befores = first.befores ++ s ∷ [];
    afters = first.afters ++ t ∷ [];
    rest = next_one.more;
    initial = before_it ∙ sym (append_assoc first.befores (s ∷ []) next_one.more);
    current = after_it ∙ sym (append_assoc first.afters (t ∷ []) next_one.more);
    count = length-append first.afters (t ∷ []) ∙ ap (λ (k : ℕ). k + 1) first.count;
    each = ReadsEach-append told first.befores first.afters (s ∷ []) (t ∷ []) reads (bytes ∷ []) first.each (read, tt);
    ends = EndsEach-append told first.afters (t ∷ []) first.ends (end, tt);
    steady = SteadyEach-append told first.befores first.afters (s ∷ []) (t ∷ []) first.steady (steady, tt);
  }

  -- the next one was read, and none behind it
  pub read_last : (bytes : List ℕ) → Reads (told s) (told t) bytes → (all : List (List ℕ)) × ReadsEach told old (slice_set new n t) all × (total all ≡ total reads + length bytes)
  read_last bytes read =
      let more = next_one.more in
      let each = ReadsEach-append told first.befores first.afters (s ∷ more) (t ∷ more) reads (bytes ∷ nothing_each more) first.each (read, ReadsEach-none told more) in (
        reads ++ bytes ∷ nothing_each more,
        subst (λ (sources : List S). ReadsEach told sources (slice_set new n t) (reads ++ bytes ∷ nothing_each more)) (sym before_it)
            (subst (λ (sources : List S). ReadsEach told (first.befores ++ s ∷ more) sources (reads ++ bytes ∷ nothing_each more)) (sym after_it) each),
        omega (arith, total-append reads (bytes ∷ nothing_each more), total-nothing_each more),
      )

  -- nor had the next one a fault
  pub steady_next : (told t).faults ≡ (told s).faults → SteadyEach told old (slice_set new n t)
  steady_next steady =
      let more = next_one.more in
      subst (λ (sources : List S). SteadyEach told sources (slice_set new n t)) (sym before_it)
      (subst (λ (sources : List S). SteadyEach told (first.befores ++ s ∷ more) sources) (sym after_it)
      (SteadyEach-append told first.befores first.afters (s ∷ more) (t ∷ more) first.steady (steady, SteadyEach-none told more)))

  -- its count of faults rose
  pub rose_next : Rose (told s).faults (told t).faults → RoseAt told old (slice_set new n t) n
  rose_next rose =
      let more = next_one.more in
      let same = (length-ReadsEach told first.befores first.afters reads first.each).0 in
      let here = RoseAt-behind told first.befores first.afters s t more more same rose in
      subst (λ (sources : List S). RoseAt told sources (slice_set new n t) n) (sym before_it)
      (subst (λ (sources : List S). RoseAt told (first.befores ++ s ∷ more) sources n) (sym after_it)
      (subst (λ (k : ℕ). RoseAt told (first.befores ++ s ∷ more) (first.afters ++ t ∷ more) k) (sym same ∙ first.count) here))
