use Rattle.std.proofs.Common.{◌≡◌, false, drop, fold}
use Rattle.trace_told.specs.LegalLists.GicHistory.History.{midway_after}
use Rattle.gic_check.proofs.signal.is_midway.Given as goal

-- the events so far and those that are left tell it
abbrev pub invariant-loop-made : goal.invariant-loop-made
invariant-loop-made l =
    fold (λ before happened. midway_after before happened.event) l.midway (drop l.made-index l.piece) ≡ fold (λ before happened. midway_after before happened.event) false l.piece
