use Rattle.std.proofs.Common.{◌≡◌, [], replicate}
use Rattle.legal_play.proofs.pieces.no_pieces.Given as goal

abbrev pub invariant-loop-actor : goal.invariant-loop-actor
invariant-loop-actor l = l.pieces ≡ replicate l.actor []
