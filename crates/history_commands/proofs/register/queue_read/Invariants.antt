use Rattle.std.proofs.Common.{◌≡◌, None, drop, fold}
use Rattle.history_commands.specs.GicCall.declared.event.Place.TheVariants.{Queue as QueuePlace}
use Rattle.history_commands.specs.HistoryCalls.Found.{reads, telling}
use Rattle.history_commands.proofs.register.queue_read.Given as goal

-- the events so far and those that are left tell it
abbrev pub invariant-loop-made : goal.invariant-loop-made
invariant-loop-made l = fold (telling (reads QueuePlace)) l.last (drop l.made-index l.piece) ≡ fold (telling (reads QueuePlace)) None l.piece
