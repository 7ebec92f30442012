use Rattle.std.proofs.Common.{◌≡◌, map, take, string_bytes}
use Rattle.jellyp.proofs.texts.Given as goal

abbrev pub invariant-loop-argument : goal.invariant-loop-argument
invariant-loop-argument l = l.texts.items ≡ map string_bytes (take l.argument-index l.arguments)
