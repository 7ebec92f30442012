-- Ids of a run of rows before which it isn't known what stands: known ones, and those that count on from an unknown one.
use Rattle.std.specs.Prelude.{ℕ, ◌+◌, ◌==◌, if◌then◌else◌}
use Rattle.jl_rows.specs.Written.{Ids, Term}

-- An id: the number itself, or so many after the incoming last one. After 0 is that last one itself.
pub data Id : Type 0 where
  Given : ℕ → Id
  After : ℕ → Id

-- the number, once the incoming last id is known
abbrev pub real : Id → ℕ → ℕ
real (Id.Given n) last = n
real (Id.After k) last = last + k

-- an id that counts on from another one's, which in its turn counts on from an unknown one
abbrev pub following : Id → Id → Id
following first (Id.Given n) = Id.Given n
following (Id.Given n) (Id.After k) = Id.Given (n + k)
following (Id.After j) (Id.After k) = Id.After (j + k)

-- an IRI by such ids; also the last ids after it
pub record Refs : Type 0 where
  pub prefix : Id
  pub name : Id

abbrev pub real_ids : Refs → Ids → Ids
real_ids r last = record { prefix = real r.prefix last.prefix; name = real r.name last.name }

abbrev pub refs_following : Refs → Refs → Refs
refs_following first r = record { prefix = following first.prefix r.prefix; name = following first.name r.name }

-- the incoming last ids
abbrev pub incoming : Refs
incoming = record { prefix = Id.After 0; name = Id.After 0 }

-- an IRI as it is written, by the rule for 0: the prefix is the last one's again, and the name the next
abbrev pub refs_written : Ids → Refs
refs_written i = record {
  prefix = if i.prefix == 0 then Id.After 0 else Id.Given i.prefix;
  name = if i.name == 0 then Id.After 1 else Id.Given i.name;
}

-- the last ids once a term was read after others
abbrev pub refs_after : Term → Refs → Refs
refs_after Term.Unset r = r
refs_after (Term.Iri i) r = refs_following r (refs_written i)
refs_after (Term.Bnode label) r = r
refs_after (Term.Literal lex e) r = r
refs_after (Term.Nested s p o) r = refs_after o (refs_after p (refs_after s r))
refs_after Term.Default r = r
refs_after (Term.Refused k) r = r

-- the id of an entry, by the rule for 0
abbrev pub entry_written : ℕ → Id
entry_written n = if n == 0 then Id.After 1 else Id.Given n
