use Rattle.std.proofs.Common.{◌≡◌, ◌-◌}
use Rattle.floor_calls.specs.Calls.{queue_places, Cbaser}
use Rattle.ideal_guest.specs.Ideal.{word_at, after_commands, after_queued}
use Rattle.ideal_guest.specs.Sound.{IsSound}
use Rattle.ideal_guest.proofs.guest.IdealGuest.run_queue.Given as goal

-- the commands that are left lead to where all lead from the start
abbrev pub invariant-loop-place : goal.invariant-loop-place
invariant-loop-place l =
    record {
      sound : IsSound l.self;
      shape : l.self.shape ≡ l.fn.self.shape;
      places : l.places ≡ queue_places (word_at l.fn.self Cbaser);
      left : after_commands (l.places - l._place) l.self ≡ after_queued l.fn.self;
    }
