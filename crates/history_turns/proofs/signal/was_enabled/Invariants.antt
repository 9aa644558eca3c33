use Rattle.std.proofs.Common.{◌≡◌, take}
use Rattle.history_turns.specs.Signalled.{is_enabled_by}
use Rattle.history_turns.specs.HistoryCalls.Found.{last_found, reads}
use Rattle.history_turns.proofs.SignalLemmas.{ctlr}
use Rattle.history_turns.proofs.signal.was_enabled.Given as goal

-- the last one so far
abbrev pub invariant-loop-made : goal.invariant-loop-made
invariant-loop-made l = l.enabled ≡ is_enabled_by (last_found (reads ctlr) (take l.made-index l.piece))
