-- A state whose texts were carried from some bytes into others. What is said of them holds of all bytes that begin with
-- those, so that more may follow.
use Rattle.std.specs.Prelude.{◌≡◌, ℕ, List, map, Option}
use Rattle.jl_rows.specs.Carries.{Grows}
use Rattle.jl_rows.specs.Seen.{options_seen}
use Rattle.jl_state.specs.declared.extent.Extent.{Extent}
use Rattle.jl_state.specs.declared.known.Known.{Known}
use Rattle.jl_state.specs.declared.known.KnownTail.{KnownTail}
use Rattle.jl_state.specs.declared.state.State.{State}
use Rattle.jl_state.specs.Extents.{text_in, mark_of, slot_seen, IsFilled, IsHeld, IsSound, AreSound}
use Rattle.jl_state.specs.KnownTerms.{known_value, tail_value, HasKnown, HasTail}
use Rattle.jl_state.specs.Lawful.{maybe_value, state_seen, HasMaybe, IsLawful}

-- a text with its mark
abbrev pub CarriesText : List ℕ → List ℕ → Extent → Extent → Type 0
CarriesText from into e e' = (bytes : List ℕ) → Grows into bytes → (text_in bytes e' ≡ text_in from e) × IsHeld bytes e' × (mark_of e' ≡ mark_of e) × (e'.len ≡ e.len)

-- a slot, filled or not
abbrev pub CarriesSlot : List ℕ → List ℕ → Extent → Extent → Type 0
CarriesSlot from into e e' = (bytes : List ℕ) → Grows into bytes → (slot_seen bytes e' ≡ slot_seen from e) × (IsFilled e' → IsSound bytes e')

abbrev pub CarriesSlots : List ℕ → List ℕ → List Extent → List Extent → Type 0
CarriesSlots from into es es' = (bytes : List ℕ) → Grows into bytes → (map (slot_seen bytes) es' ≡ map (slot_seen from) es) × AreSound bytes es'

abbrev pub CarriesTail : List ℕ → List ℕ → KnownTail → KnownTail → Type 0
CarriesTail from into t t' = (bytes : List ℕ) → Grows into bytes → (tail_value bytes t' ≡ tail_value from t) × HasTail bytes t'

abbrev pub CarriesTerm : List ℕ → List ℕ → Known → Known → Type 0
CarriesTerm from into k k' = (bytes : List ℕ) → Grows into bytes → (known_value bytes k' ≡ known_value from k) × HasKnown bytes k'

abbrev pub CarriesMaybe : List ℕ → List ℕ → Option Known → Option Known → Type 0
CarriesMaybe from into k k' = (bytes : List ℕ) → Grows into bytes → (maybe_value bytes k' ≡ maybe_value from k) × HasMaybe bytes k'

-- A state that means over some bytes what another one means over others.
pub record MeansTheSame (from : List ℕ) (s : State) (bytes : List ℕ) (s' : State) : Type 0 where
  pub seen : state_seen bytes s' ≡ state_seen from s
  pub options : options_seen bytes s'.options ≡ options_seen from s.options
  pub lawful : IsLawful bytes s'

abbrev pub CarriesState : List ℕ → List ℕ → State → State → Type 0
CarriesState from into s s' = (bytes : List ℕ) → Grows into bytes → MeansTheSame from s bytes s'
