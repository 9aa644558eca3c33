use Rattle.std.proofs.Common.{◌≡◌, take}
use Rattle.history_commands.proofs.fetch.copied.Given as goal

-- those so far
abbrev pub invariant-loop-made : goal.invariant-loop-made
invariant-loop-made l = l.all ≡ take l.made-index l.piece
