-- A file of which the index is at hand, as one window.
use Rattle.std.proofs.Common.{◌≡◌, ℕ, ◌+◌, ◌-◌, ◌≤◌, List, [], ◌∷◌, ◌++◌, length, map, slice_range, Option, Some, None, Result, Ok, Err, refl, sym, ◌∙◌, ap, arith, append-nil, add-zero}
use Rattle.std.proofs.lemmas.List.{take_all}
use Rattle.jl_base.specs.Results.{Reading, joined, led, with_front}
use Rattle.jl_base.specs.Spans.{text_of}
use Rattle.jl_base.specs.declared.kind.Kind.{Kind}
use Rattle.jl_base.specs.declared.place.Fault.{Fault}
use Rattle.jl_rows.specs.Decoder.{Head, head_of}
use Rattle.jl_rows.specs.Files.{Placed, all_rows, body, frames, frames_after, frame_rows, rows_from, rows_then}
use Rattle.jl_rows.specs.Written.{StreamOptions}
use Rattle.jl_frames.specs.Index.{Index, IsIndex, from, last_end}
use Rattle.jl_frames.proofs.IndexLemmas.{ends_within}
use Rattle.jl_frames.proofs.Stretches.{whole_between}
use Rattle.jl_wire.proofs.Ranges.{length-range}
use Rattle.jl_survey.specs.declared.numbers.Survey.{Survey}
use Rattle.jl_survey.specs.Surveys.{Surveyed, fault_under, survey, unless}
use Rattle.jl_survey.specs.Counting.{BeginsAll, ended, fault_from, outlook, size_of, survey_seen}
use Rattle.jl_survey.proofs.CountLaws.{nothing_left}
use Rattle.jl_survey.proofs.WindowLaws.{frames_first}

-- what follows the last frame is its fault, or nothing
abbrev nothing : Reading Placed Fault
nothing = record { items = []; fault = None }

pub ended_by : (tail : Option Fault) → ended tail nothing ≡ record { items = []; fault = tail }
ended_by None = refl
ended_by (Some fault) = refl

-- bytes with no frame and no fault are none
front_is : (b : ℕ) (bytes : List ℕ) (said : Result (List ℕ × ℕ) Kind) → led said (λ f. with_front f.0 (frames_after (f.1 - 1) bytes)) ≡ record { items = []; fault = None } → ⊥
front_is b bytes (Ok f) e = let never = ap (λ (R : Reading (List ℕ) Kind). length R.items) e in cc
front_is b bytes (Err k) e = let never = ap (λ (R : Reading (List ℕ) Kind). R.fault) e in cc

pub none_left : (bytes : List ℕ) → frames bytes ≡ record { items = []; fault = None } → length bytes ≡ 0
unfolding frames_after
none_left [] e = refl
none_left (b ∷ bytes) e = absurd (front_is b bytes (body (b ∷ bytes)) e)

-- the frames of a file without a fault take all of its bytes
pub whole_size : (file : List ℕ) (index : Index) → IsIndex file index → (frames file).fault ≡ None → size_of index ≡ length file
whole_size file index is sound =
    let last = last_end 0 index.bodies in
    let inside : last ≤ length file = ends_within file 0 index.bodies last (omega arith) is.places in
    let end : last_end index.lo index.bodies ≡ last = ap (λ (at : ℕ). last_end at index.bodies) is.lo in
    let rest : frames (from file last) ≡ record { items = []; fault = None } = is.rest ∙ ap (λ (f : Option Kind). let R : Reading (List ℕ) Kind = record { items = []; fault = f } in R) sound in
    let none = none_left (from file last) rest in
    let left = length-range file last (length file) inside (omega arith) in
    omega (arith, none, left, inside, end, is.lo)

-- rows before a fault end in one
fault_after : (R B : Reading Placed Fault) → (B.fault ≡ None → ⊥) → (joined R B).fault ≡ None → ⊥
fault_after R B some e = by_fault R.fault e
  where
    by_fault : (f : Option Fault) → (joined (record { items = R.items; fault = f }) B).fault ≡ None → ⊥
    by_fault None none = some none
    by_fault (Some fault) none = cc

rows_broken : (n : ℕ) (bodies : List (List ℕ)) (k : Kind) → (rows_from n bodies (Some k)).fault ≡ None → ⊥
unfolding rows_from
rows_broken n [] k e = cc
rows_broken n (b ∷ bodies) k e = fault_after (frame_rows n b) (rows_from (n + 1) bodies (Some k)) (rows_broken (n + 1) bodies k) e

pub frames_sound : (n : ℕ) (bodies : List (List ℕ)) (fault : Option Kind) → (rows_from n bodies fault).fault ≡ None → fault ≡ None
frames_sound n bodies None e = refl
frames_sound n bodies (Some k) e = absurd (rows_broken n bodies k e)

-- the numbers up to a fault don't matter
under_fault : (h : Head) (fault : Fault) (x y : Surveyed) → unless (fault_under h (Some fault)) x ≡ unless (fault_under h (Some fault)) y
under_fault Head.Nothing fault x y = refl
under_fault (Head.First o place) fault x y = refl
under_fault (Head.Bad bad) fault x y = refl

from_fault : (o : Option StreamOptions) (items : List Placed) (fault : Fault) (x y : Surveyed)
    → unless (fault_from o (record { items = items; fault = Some fault })) x ≡ unless (fault_from o (record { items = items; fault = Some fault })) y
from_fault None items fault x y = under_fault (head_of items (Some fault)) fault x y
from_fault (Some o) items fault x y = refl

-- how many bytes there are matters only where there is no fault
pub sizes_alike : (s : Surveyed) (n m : ℕ) (bodies : List (List ℕ)) (items : List Placed) (fault : Option Fault) → (fault ≡ None → n ≡ m)
    → outlook s n bodies (record { items = items; fault = fault }) ≡ outlook s m bodies (record { items = items; fault = fault })
sizes_alike s n m bodies items None same = ap (λ (size : ℕ). outlook s size bodies (record { items = items; fault = None })) (same refl)
sizes_alike s n m bodies items (Some fault) same = from_fault s.options items fault _ _

-- what the one window comes to is what the file comes to
module _ (file : List ℕ) (index : Index) (is : IsIndex file index) (s : Surveyed) where
  abbrev texts : List (List ℕ)
  texts = map (text_of file) index.bodies

  bodies_are : map (text_of file) (slice_range index.bodies 0 (length index.bodies)) ++ [] ≡ (frames file).items
  bodies_are = append-nil _ ∙ ap (map (text_of file)) (take_all (length index.bodies - 0) index.bodies (omega arith)) ∙ is.bodies

  pub whole_outlook : outlook s (size_of index + 0) (texts ++ []) (rows_then index.first texts (ended index.tail nothing)) ≡ outlook s (length file) (frames file).items (all_rows file)
  whole_outlook =
      let size : (all_rows file).fault ≡ None → size_of index + 0 ≡ length file = λ sound. add-zero (size_of index) ∙ whole_size file index is (frames_sound 1 (frames file).items (frames file).fault sound) in
      ap (λ (B : Reading Placed Fault). outlook s (size_of index + 0) (texts ++ []) (rows_then index.first texts B)) (ended_by index.tail)
      ∙ frames_first file index s (size_of index + 0) [] (record { items = []; fault = index.tail })
      ∙ ap (outlook s (size_of index + 0) (map (text_of file) (slice_range index.bodies 0 (length index.bodies)) ++ [])) (whole_between file index is)
      ∙ ap (λ (bodies : List (List ℕ)). outlook s (size_of index + 0) bodies (all_rows file)) bodies_are
      ∙ sizes_alike s (size_of index + 0) (length file) (frames file).items (all_rows file).items (all_rows file).fault size

-- a survey of one window is the file's
module _ (file : List ℕ) (index : Index) (is : IsIndex file index) (s s' : Survey) (begins : BeginsAll s) where
  begun : outlook (survey_seen file s) (size_of index + 0) (map (text_of file) index.bodies ++ []) (rows_then index.first (map (text_of file) index.bodies) (ended index.tail nothing)) ≡ survey file
  begun = whole_outlook file index is (survey_seen file s) ∙ begins file file

  pub whole_ok : outlook (survey_seen file s) (size_of index + 0) (map (text_of file) index.bodies ++ []) (rows_then index.first (map (text_of file) index.bodies) (ended index.tail nothing)) ≡ outlook (survey_seen file s') 0 [] nothing
      → survey file ≡ Ok (survey_seen file s')
  whole_ok comes = sym begun ∙ comes ∙ nothing_left (survey_seen file s')

  pub whole_err : (fault : Fault) → outlook (survey_seen file s) (size_of index + 0) (map (text_of file) index.bodies ++ []) (rows_then index.first (map (text_of file) index.bodies) (ended index.tail nothing)) ≡ Err fault
      → survey file ≡ Err fault
  whole_err fault comes = sym begun ∙ comes
