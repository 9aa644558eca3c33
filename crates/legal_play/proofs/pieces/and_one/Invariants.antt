use Rattle.std.proofs.Common.{◌≡◌, take}
use Rattle.legal_play.proofs.pieces.and_one.Given as goal

abbrev pub invariant-loop-made : goal.invariant-loop-made
invariant-loop-made l = l.more ≡ take l.made-index l.piece
