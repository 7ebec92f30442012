use Rattle.std.proofs.Common.{ap, sym, ◌≡◌, length, ◌∙◌, ◌++◌, take, drop, List, ℕ, arith, take-append-drop}
use Rattle.std.proofs.lemmas.List.{drop-drop, length-take-le}
use Rattle.jl_io.proofs.mem_source.MemSourceSource.read.Goals as goal

-- the piece is the first bytes that were left
pub returns-clause-read : goal.returns-clause-read
returns-clause-read c =
    let at = c.args.self.now.at in
    let bytes = c.args.self.now.bytes.items in
    let count = c.copy_piece-count.result in
    let buf = c.copy_piece-count.new.buf in
    let size : length (take count buf) ≡ count = length-take-le count buf (omega arith) in
    let copied = c.copy_piece-count.ensures.copied ∙ ap (λ (all : List ℕ). take count (drop at all)) c.deref.ensures.value in
    record {
      consumed = sym (take-append-drop count (drop at bytes)) ∙ ap (λ (front : List ℕ). front ++ drop count (drop at bytes)) (sym copied)
          ∙ ap (λ (rest : List ℕ). take count buf ++ rest) (drop-drop count at bytes);
      count = omega arith;
      later = omega arith;
    }
