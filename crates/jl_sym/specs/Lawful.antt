-- What a summary keeps of itself, whatever it was made from.
use Rattle.std.specs.Prelude.{ℕ, List}
use Rattle.jl_rows.specs.Written.{StreamOptions}
use Rattle.jl_sym_laws.specs.Cutting.{IsMade}
use Rattle.jl_sym_laws.specs.Staying.{Settles}
use Rattle.jl_sym.specs.declared.summary.Summary.{Summary}
use Rattle.jl_sym.specs.Held.{HasSummary}
use Rattle.jl_sym.specs.Seen.{summary_seen}

pub record IsLawful (o : StreamOptions) (bytes : List ℕ) (m : Summary) : Type 0 where
  pub made : IsMade (summary_seen bytes m)
  pub settles : Settles o (summary_seen bytes m)
  pub held : HasSummary bytes m
