use Rattle.std.proofs.Common.{◌≡◌, drop, find}
use Rattle.floor_histories.specs.Histories.{is_of}
use Rattle.history_check.proofs.standing.entry_of.Given as goal

abbrev pub invariant-loop-one : goal.invariant-loop-one
invariant-loop-one l = find (is_of l.key) (drop l.one-index l.standing) ≡ find (is_of l.key) l.standing
