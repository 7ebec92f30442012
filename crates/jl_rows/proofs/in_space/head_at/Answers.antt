use Rattle.jl_rows.proofs.in_space.head_at.Goals as goal

pub returns-clause-exact : goal.returns-clause-exact
returns-clause-exact c B = rw c.bytes.ensures.all at (c.head_in.ensures.exact B)
