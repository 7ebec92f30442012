-- How a seat stands at its board.
use Rattle.std.specs.Prelude.{ℕ, ◌+◌, min, List, [], ◌++◌, refl}
use Rattle.std.specs.Coded.{Coded, code_by, coded×, coded_ℕ, coded_list}
use Rattle.atomic_table.specs.Seated.{TableId, table_id_coded}
use Rattle.jl_claim.specs.declared.view.View.{View}

-- The board, and its bound. The numbers that the seat drew and those that it lowered, in their order. The last number that
-- it saw as the least. How many seats are joined in it, and how many more may be split from it.
pub record Standing : Type 0 where
  pub board : TableId
  pub bound : ℕ
  pub drawn : List ℕ
  pub lowered : List ℕ
  pub seen : ℕ
  pub seats : ℕ
  pub room : ℕ

-- the same, from what the board's rule knows of the seat
abbrev pub standing : TableId → View → Standing
standing board v = record { board = board; bound = v.bound; drawn = v.drawn; lowered = v.lowered; seen = v.seen; seats = v.seats; room = v.room }

-- a seat that drew nothing yet, of a board of this bound, with room for so many more
abbrev pub new_seat : TableId → ℕ → ℕ → Standing
new_seat board bound room = record { board = board; bound = bound; drawn = []; lowered = []; seen = bound; seats = 1; room = room }

-- a seat that took in another of its board
abbrev pub joined : Standing → Standing → Standing
joined s t = record s { drawn = s.drawn ++ t.drawn; lowered = s.lowered ++ t.lowered; seen = min s.seen t.seen; seats = s.seats + t.seats; room = s.room + t.room }

abbrev pub standing_coded : Coded Standing
standing_coded =
    code_by
    (TableId × (ℕ × (List ℕ × (List ℕ × (ℕ × (ℕ × ℕ))))))
    (coded× table_id_coded (coded× coded_ℕ (coded× (coded_list coded_ℕ) (coded× (coded_list coded_ℕ) (coded× coded_ℕ (coded× coded_ℕ coded_ℕ))))))
    (λ s. (s.board, (s.bound, (s.drawn, (s.lowered, (s.seen, (s.seats, s.room)))))))
    (λ p. record { board = p.0; bound = p.1.0; drawn = p.1.1.0; lowered = p.1.1.1.0; seen = p.1.1.1.1.0; seats = p.1.1.1.1.1.0; room = p.1.1.1.1.1.1 })
    (λ _. refl)
