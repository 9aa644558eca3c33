use Rattle.std.proofs.Common.{◌≡◌, None, drop, fold}
use Rattle.history_turns.specs.Noted.{placing}
use Rattle.gic_check.proofs.seen.place_by.Given as goal

-- the events so far and those that are left tell it
abbrev pub invariant-loop-made : goal.invariant-loop-made
invariant-loop-made l = fold (λ place happened. placing place happened.event) l.place (drop l.made-index l.piece) ≡ fold (λ place happened. placing place happened.event) None l.piece
