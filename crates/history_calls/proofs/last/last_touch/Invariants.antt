use Rattle.std.proofs.Common.{◌≡◌, None, drop, fold}
use Rattle.history_calls.specs.Found.{touches, telling}
use Rattle.history_calls.proofs.last.last_touch.Given as goal

-- the events so far and those that are left tell it
abbrev pub invariant-loop-made : goal.invariant-loop-made
invariant-loop-made l = fold (telling (touches l.key)) l.last (drop l.made-index l.piece) ≡ fold (telling (touches l.key)) None l.piece
