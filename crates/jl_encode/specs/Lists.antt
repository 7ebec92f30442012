-- What a sink is given of a list of items.
use Rattle.std.specs.Prelude.{◌≡◌, ℕ, ◌+◌, Bool, List, ◌++◌, length, Option, Some, None, Result, Ok, Err}
use Rattle.jl_base.specs.Terms.{Item}
use Rattle.jl_base.specs.Sinks.{Held, Adds}
use Rattle.jl_rows.specs.Decoder.{decode}
use Rattle.jl_encoding.specs.declared.form.Form.{Form}
use Rattle.jl_encoding.specs.Encoding.{encoding, wide}
use Rattle.jl_encoding.specs.Handed.{handed}
use Rattle.jl_encode.specs.declared.stop.Stop.{Stop}
use Rattle.jl_encode.specs.declared.stop.Stop.TheVariants as stop
use Rattle.jl_encode.specs.Answers.{Progress, Stands, GivesFront}

-- An encoder stands for these items, and a sink was given the frames that they ended.
pub record IsFar (form : Form) (per : ℕ) (e : Progress) (is : List Item) (held held' : Option Held) : Type 0 where
  pub stands : Stands e is
  pub form_is : e.form ≡ form
  pub per_is : e.per ≡ per
  pub bytes : List ℕ
  pub are : handed form per is ≡ Ok bytes
  pub adds : Adds held held' bytes

-- The first items of these were added, and the frames that they ended were given.
pub record GivesEnded (form : Form) (per : ℕ) (is : List Item) (held held' : Option Held) : Type 0 where
  pub done : List Item
  pub rest : List Item
  pub split : is ≡ done ++ rest
  pub bytes : List ℕ
  pub are : handed form per done ≡ Ok bytes
  pub adds : Adds held held' bytes

-- A prefix of the file of the first items of these was given.
pub record GivesSome (form : Form) (per : ℕ) (is : List Item) (held held' : Option Held) : Type 0 where
  pub done : List Item
  pub rest : List Item
  pub split : is ≡ done ++ rest
  pub file : List ℕ
  pub are : encoding form per done ≡ Ok file
  pub front : GivesFront file held held'

-- the file of these items, which is decoded to them without a fault, under the strict profile or not
pub record IsFile (form : Form) (per : ℕ) (is : List Item) (file : List ℕ) : Type 0 where
  pub is_file : encoding form per is ≡ Ok file
  pub decodes : (strict : Bool) → decode strict file ≡ record { items = is; fault = None }

-- What a sink was given of the file of these items: all of it at Ok. An item is too wide only where the definition says so,
-- and then the frames that the items before it ended were given.
abbrev pub Encodes : Form → ℕ → List Item → Option Held → Option Held → Result (Unit {0}) Stop → Type 0
Encodes form per is held held' (Ok _) = (file : List ℕ) × IsFile form per is file × Adds held held' file
Encodes form per is held held' (Err (stop.TooWide n)) = (wide form is ≡ Some n) × ((given : GivesEnded form per is held held') × (n ≡ length given.done + 1))
Encodes form per is held held' (Err stop.WriteFault) = GivesSome form per is held held'
Encodes form per is held held' (Err stop.NoMemory) = GivesEnded form per is held held'
Encodes form per is held held' (Err stop.Spent) = ⊥

-- The same before the last frame is written.
abbrev pub AddsAll : Form → ℕ → Progress → List Item → Option Held → Option Held → Result (Unit {0}) Stop → Type 0
AddsAll form per e is held held' (Ok _) = IsFar form per e is held held'
AddsAll form per e is held held' (Err stop) = Encodes form per is held held' (Err stop)
