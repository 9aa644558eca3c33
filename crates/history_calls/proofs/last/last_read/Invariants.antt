use Rattle.std.proofs.Common.{◌≡◌, None, drop, fold}
use Rattle.history_calls.specs.Found.{reads, telling}
use Rattle.history_calls.proofs.last.last_read.Given as goal

-- the events so far and those that are left tell it
abbrev pub invariant-loop-made : goal.invariant-loop-made
invariant-loop-made l = fold (telling (reads l.place)) l.last (drop l.made-index l.piece) ≡ fold (telling (reads l.place)) None l.piece
