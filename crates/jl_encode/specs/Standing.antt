-- What the desk and the last terms are to the rows written before an item.
use Rattle.std.specs.Prelude.{◌≡◌, ℕ, ◌+◌, ◌<◌, ◌≤◌, false, length, Some, slice_get}
use Rattle.jl_rows.specs.declared.row.Table.{Table}
use Rattle.jl_rows.specs.Written.{StreamOptions}
use Rattle.jl_rows.specs.History.{History, entry_id, slot, seen_in, prefix_id, name_id}
use Rattle.jl_rows.specs.Values.{Position, last_term}
use Rattle.jl_rows.specs.Decoder.{size_of}
use Rattle.jl_encode.specs.Desks.{Texts, Desk, texts_of}
use Rattle.jl_encode.specs.Putting.{Lasts}

-- A lookup table as the rows have it. Its slots are filled from the first on, and only then written anew. Each mark is
-- below a number: no item from that one on used a slot.
pub record TableAgrees (o : StreamOptions) (H : History) (t : Table) (below : ℕ) (T : Texts) : Type 0 where
  pub size : T.size ≡ size_of o t
  pub slots : (k : ℕ) → slot t (k + 1) H ≡ slice_get T.held k
  pub last : T.last ≡ entry_id t H
  pub held_fit : length T.held ≤ T.size
  pub last_fits : T.last ≤ T.size
  pub filling : length T.held < T.size → T.last ≡ length T.held
  pub marked : length T.marks ≡ T.size
  pub older : (k mark : ℕ) → slice_get T.marks k ≡ Some mark → mark < below

pub record Agrees (o : StreamOptions) (H : History) (D : Desk) (L : Lasts) : Type 0 where
  pub tables : (t : Table) → TableAgrees o H t D.item (texts_of t D)
  pub prefix : D.prefix ≡ prefix_id (seen_in H)
  pub name : D.name ≡ name_id (seen_in H)
  pub hidden : D.hidden ≡ false
  pub item : 0 < D.item
  pub subject : L.subject ≡ last_term Position.Subject H
  pub predicate : L.predicate ≡ last_term Position.Predicate H
  pub object : L.object ≡ last_term Position.Object H
  pub graph : L.graph ≡ last_term Position.Graph H
