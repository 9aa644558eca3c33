use Rattle.std.proofs.Common.{◌≡◌, ◌&&◌, ◌||◌, false, drop, fold}
use Rattle.legal_play.specs.Calls.{is_beside}
use Rattle.legal_play.specs.HistoryPlay.HistoryCalls.Found.{reads}
use Rattle.trace_told.proofs.fetch.has_read.Given as goal

-- the events so far and those that are left tell it
abbrev pub invariant-loop-made : goal.invariant-loop-made
invariant-loop-made l =
    fold (λ has happened. is_beside l.vcpu happened.event && (has || reads l.place happened.event)) l.has (drop l.made-index l.piece)
    ≡ fold (λ has happened. is_beside l.vcpu happened.event && (has || reads l.place happened.event)) false l.piece
