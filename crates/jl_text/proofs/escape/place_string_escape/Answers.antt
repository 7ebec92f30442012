use Rattle.jl_text.proofs.EscapeLemmas.{letter_of_string, unicode_of_string}
use Rattle.jl_text.proofs.escape.place_string_escape.Goals as goal

pub returns-then-letter-eq0-clause-placed : goal.returns-then-letter-eq0-clause-placed
returns-then-letter-eq0-clause-placed c =
    rw (unicode_of_string c.args.b c.ranges.b.fits c.requires.escaped c.if-letter-eq0.true) c.place_unicode_escape.ensures.placed

pub returns-clause-placed : goal.returns-clause-placed
returns-clause-placed c =
    rw (letter_of_string c.args.b c.ranges.b.fits c.requires.escaped c.if-letter-eq0.false) c.place_pair.ensures.placed
