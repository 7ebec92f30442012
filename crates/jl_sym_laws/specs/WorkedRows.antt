-- Worked rows: runs of rows, the states before them, and what their summaries give.
use Rattle.std.specs.Prelude.{◌≡◌, ℕ, ◌+◌, List, [], ◌∷◌, ◌++◌, false, Some, None, Ok, Err}
use Rattle.jl_base.specs.Terms.{Tail, Value}
use Rattle.jl_base.specs.declared.kind.Kind.TheVariants.{NoTerm, WrongRow, BadEntry, NoEntry, NoGraph}
use Rattle.jl_rows.specs.declared.row.Table.{Table}
use Rattle.jl_rows.specs.Written.{Ending, Term, StreamOptions, Row}
use Rattle.jl_rows.specs.Files.{Placed, place_at, fault_at}
use Rattle.jl_state.specs.States.{Filling, State, opening}
use Rattle.jl_sym_laws.specs.Summaries.{Summary}
use Rattle.jl_sym_laws.specs.Acting.{act}
use Rattle.jl_sym_laws.specs.Composing.{composed}
use Rattle.jl_sym_laws.specs.Runs.{of_reading}

-- options of a physical type, with tables of eight names, two prefixes and two datatypes
abbrev pub options : ℕ → StreamOptions
options physical = record { stream_name = []; physical = physical; generalized = false; star = false; names = 8; prefixes = 2; datatypes = 2; logical = 0; version = 1; strict = false }

-- a frame's rows, of which so many stood before
unfoldable pub rows_at : ℕ → ℕ → List Row → List Placed
rows_at frame before [] = []
rows_at frame before (r ∷ rs) = record { place = place_at frame (before + 1); row = r } ∷ rows_at frame (before + 1) rs

-- the summary of one frame's rows, in a file of a physical type
abbrev pub frame : ℕ → ℕ → List Row → Summary
frame physical number rows = of_reading (options physical) (record { items = rows_at number 0 rows; fault = None })

abbrev pub name : ℕ → List ℕ → Row
name id text = Row.Entry Table.Name id text

abbrev pub prefix : ℕ → List ℕ → Row
prefix id text = Row.Entry Table.Prefix id text

abbrev pub iri : ℕ → ℕ → Term
iri prefix name = Term.Iri (record { prefix = prefix; name = name })

abbrev pub plain : List ℕ → Term
plain lex = Term.Literal lex Ending.Simple

abbrev pub start : State
start = opening (options 1)

-- the opening state, but for these names and this last entry
abbrev pub with_names : Filling → ℕ → State
with_names names last = record start { tables = record start.tables { names = names }; name_entry = last }

-- texts
abbrev pub a : List ℕ
a = 97 ∷ []

abbrev pub b : List ℕ
b = 98 ∷ []

abbrev pub u : List ℕ
u = 117 ∷ []

abbrev pub v : List ℕ
v = 118 ∷ []

abbrev pub x : List ℕ
x = 120 ∷ []

abbrev pub y : List ℕ
y = 121 ∷ []

abbrev pub z : List ℕ
z = 122 ∷ []

-- three entries in frame 2: the next id, 3, and the one after it
abbrev pub three : Summary
three = frame 1 2 (name 0 x ∷ name 3 y ∷ name 0 z ∷ [])

-- from the opening state the first one gets id 1
abbrev pub ThreeAtOpening : Type 0
ThreeAtOpening = act three start ≡ Ok (with_names (None ∷ Some x ∷ None ∷ Some y ∷ Some z ∷ None ∷ None ∷ None ∷ None ∷ []) 4)

-- after an entry of id 2 it gets id 3, which the second one takes from it
abbrev pub ThreeAfterTwo : Type 0
ThreeAfterTwo =
    act three (with_names (None ∷ None ∷ Some a ∷ None ∷ None ∷ None ∷ None ∷ None ∷ None ∷ []) 2)
    ≡ Ok (with_names (None ∷ None ∷ Some a ∷ Some y ∷ Some z ∷ None ∷ None ∷ None ∷ None ∷ []) 4)

-- after one of id 8 it has no slot
abbrev pub ThreeAfterEight : Type 0
ThreeAfterEight = act three (with_names (None ∷ None ∷ None ∷ None ∷ None ∷ None ∷ None ∷ None ∷ Some a ∷ []) 8) ≡ Err (fault_at 2 1 BadEntry)

-- the entry of id 2 in the summary of a frame before
abbrev pub ImpliedIdsAcrossRuns : Type 0
ImpliedIdsAcrossRuns =
    act (composed (frame 1 1 (name 2 a ∷ [])) three) start ≡ Ok (with_names (None ∷ None ∷ Some a ∷ Some y ∷ Some z ∷ None ∷ None ∷ None ∷ None ∷ []) 4)

-- a statement that repeats all its terms, and then one that a file of triples doesn't have
abbrev pub repeats : Summary
repeats = composed (frame 1 1 (Row.Triple Term.Unset Term.Unset Term.Unset ∷ [])) (frame 1 2 (Row.Quad Term.Unset Term.Unset Term.Unset Term.Unset ∷ []))

abbrev pub NothingToRepeat : Type 0
NothingToRepeat = act repeats start ≡ Err (fault_at 1 1 NoTerm)

abbrev pub WrongRowAfter : Type 0
WrongRowAfter = act repeats (record start { subject = Some (Value.Bnode a); predicate = Some (Value.Iri a); object = Some (Value.Iri b) }) ≡ Err (fault_at 2 1 WrongRow)

-- A term keeps the text of the row that set it: a slot is written again in frame 2, and frame 3 repeats subject and
-- predicate.
abbrev pub RepeatedTermKeepsItsText : Type 0
RepeatedTermKeepsItsText =
    act (composed (composed (frame 1 1 (name 0 a ∷ name 0 b ∷ Row.Triple (iri 0 1) (iri 0 2) (plain x) ∷ [])) (frame 1 2 (name 1 z ∷ []))) (frame 1 3 (Row.Triple Term.Unset Term.Unset (plain y) ∷ []))) start
    ≡ Ok (record (with_names (None ∷ Some z ∷ Some b ∷ None ∷ None ∷ None ∷ None ∷ None ∷ None ∷ []) 1) {
      ids = record { prefix = 0; name = 2 };
      subject = Some (Value.Iri a);
      predicate = Some (Value.Iri b);
      object = Some (Value.Literal y Tail.Simple);
    })

-- An IRI without a prefix id has the last one's, and its text as it is by then: in frame 3 the subject.
abbrev pub PreviousPrefixAfterRewrite : Type 0
PreviousPrefixAfterRewrite =
    act (composed (frame 1 1 (prefix 0 u ∷ name 0 a ∷ Row.Triple (iri 1 1) (iri 0 1) (iri 0 1) ∷ [])) (composed (frame 1 2 (prefix 1 v ∷ [])) (frame 1 3 (Row.Triple (iri 0 1) Term.Unset Term.Unset ∷ [])))) start
    ≡ Ok (record start {
      tables = record start.tables { names = None ∷ Some a ∷ None ∷ None ∷ None ∷ None ∷ None ∷ None ∷ None ∷ []; prefixes = None ∷ Some v ∷ None ∷ [] };
      name_entry = 1;
      prefix_entry = 1;
      ids = record { prefix = 1; name = 1 };
      subject = Some (Value.Iri (v ++ a));
      predicate = Some (Value.Iri (u ++ a));
      object = Some (Value.Iri (u ++ a));
    })

-- a triple after the end of its graph, each row in a frame of its own
abbrev pub TripleAfterGraphEnd : Type 0
TripleAfterGraphEnd =
    act (composed (composed (frame 3 1 (name 0 a ∷ Row.GraphStart (iri 0 1) ∷ [])) (frame 3 2 (Row.Triple (iri 0 1) (iri 0 1) (iri 0 1) ∷ [])))
    (composed (frame 3 3 (Row.GraphEnd ∷ [])) (frame 3 4 (Row.Triple Term.Unset Term.Unset Term.Unset ∷ [])))) (opening (options 3))
    ≡ Err (fault_at 4 1 NoGraph)

-- names that count on inside a triple term, of which the second was never written
abbrev pub NestedTermWithoutEntry : Type 0
NestedTermWithoutEntry =
    act (composed (frame 1 1 (name 0 a ∷ [])) (frame 1 2 (Row.Triple (Term.Nested (iri 0 0) (iri 0 1) (iri 0 0)) (iri 0 1) (iri 0 1) ∷ []))) start ≡ Err (fault_at 2 1 NoEntry)
