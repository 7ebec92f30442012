-- A file that is read window by window: which bytes a window takes, and which frames it has.
use Rattle.std.specs.Prelude.{◌≡◌, ℕ, zero, suc, ◌+◌, ◌-◌, ◌≤◌, ◌||◌, Bool, true, false, List, [], ◌∷◌, ◌++◌, length, take, drop, max, Option, Some, None, Result, Ok, Err, nat_lt, if◌then◌else◌}
use Rattle.jl_base.specs.Results.{Reading, joined}
use Rattle.jl_base.specs.declared.kind.Kind.{Kind}
use Rattle.jl_base.specs.declared.kind.Kind.TheVariants.{Truncated}
use Rattle.jl_wire.specs.Varint.{varint}
use Rattle.jl_rows.specs.Files.{body, frames, most_body}

-- what is left after a body, or all where there is none
abbrev pub left_by : List ℕ → Result (List ℕ × ℕ) Kind → (List ℕ × ℕ → List ℕ) → List ℕ
left_by bytes (Ok f) go = go f
left_by bytes (Err k) go = bytes

-- what is left after the whole frames in front
unfoldable pub rest_after : ℕ → List ℕ → List ℕ
rest_after skip [] = []
rest_after (suc skip) (b ∷ bytes) = rest_after skip bytes
rest_after zero (b ∷ bytes) = left_by (b ∷ bytes) (body (b ∷ bytes)) (λ f. rest_after (f.1 - 1) bytes)

abbrev pub rest : List ℕ → List ℕ
rest bytes = rest_after 0 bytes

-- how many bytes the first frame takes with its length, where that length is whole and one that a frame may have
abbrev pub size_by : Result (ℕ × ℕ) Kind → ℕ
size_by (Ok len) = if nat_lt most_body len.0 then 0 else len.1 + len.0
size_by (Err k) = 0

abbrev pub first_size : List ℕ → ℕ
first_size bytes = size_by (varint bytes)

-- how many bytes a window is to have: its size, or its first frame where that is longer
abbrev pub wanted : ℕ → List ℕ → ℕ
wanted size bytes = max size (first_size bytes)

abbrev pub window : ℕ → List ℕ → List ℕ
window size bytes = take (wanted size bytes) bytes

-- bytes are missing to the window
abbrev pub is_short : ℕ → List ℕ → Bool
is_short size bytes = nat_lt (length bytes) (wanted size bytes)

-- a fault that no further bytes make good: any but that of bytes that end too early
abbrev pub lasts : Kind → Bool
lasts Truncated = false
lasts _ = true

abbrev pub is_lasting : Option Kind → Bool
is_lasting None = false
is_lasting (Some k) = lasts k

-- the window is the last one
abbrev pub is_last : ℕ → List ℕ → Bool
is_last size bytes = is_short size bytes || is_lasting (frames (window size bytes)).fault

abbrev pub kept_if : Bool → Option Kind → Option Kind
kept_if true fault = fault
kept_if false fault = None

-- its frames; only the last window has the fault of what stands after them
abbrev pub framed : ℕ → List ℕ → Reading (List ℕ) Kind
framed size bytes = record { items = (frames (window size bytes)).items; fault = kept_if (is_last size bytes) (frames (window size bytes)).fault }

-- what is left for the windows after it
abbrev pub after_window : ℕ → List ℕ → List ℕ
after_window size bytes = rest (window size bytes) ++ drop (wanted size bytes) bytes

unfoldable pub windows_within : ℕ → ℕ → List ℕ → List (Reading (List ℕ) Kind)
windows_within zero size bytes = []
windows_within (suc room) size bytes = framed size bytes ∷ (if is_last size bytes then [] else windows_within room size (after_window size bytes))

-- the windows of a file
abbrev pub windows : ℕ → List ℕ → List (Reading (List ℕ) Kind)
windows size bytes = windows_within (length bytes + 1) size bytes

abbrev pub all_joined : {A E : Type 0} → List (Reading A E) → Reading A E
all_joined [] = record { items = []; fault = None }
all_joined (R ∷ Rs) = joined R (all_joined Rs)

-- The windows' frames, joined, are the file's, and the fault of the last one's tail is the file's.
abbrev pub WindowsJoin : Type 0
WindowsJoin = (size : ℕ) (file : List ℕ) → 16 ≤ size → all_joined (windows size file) ≡ frames file
