use Rattle.std.proofs.Common.{◌≡◌, None, drop, fold}
use Rattle.history_calls.specs.Found.{stores, telling}
use Rattle.history_calls.proofs.last.last_store.Given as goal

-- the events so far and those that are left tell it
abbrev pub invariant-loop-made : goal.invariant-loop-made
invariant-loop-made l = fold (telling (stores l.word)) l.last (drop l.made-index l.piece) ≡ fold (telling (stores l.word)) None l.piece
