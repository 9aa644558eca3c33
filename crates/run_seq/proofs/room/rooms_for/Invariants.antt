-- A list for each of the first steps that shows list registers.
use Rattle.std.proofs.Common.{◌≡◌, ◌+◌, All, length, drop}
use Rattle.law_one_thread_is_eager.specs.PePlace.Place.{IsRoom}
use Rattle.run_seq.specs.Room.{shown_among}
use Rattle.run_seq.proofs.room.rooms_for.Given as goal

abbrev pub invariant-loop-step : goal.invariant-loop-step
invariant-loop-step l =
    record {
      each : All IsRoom l.rooms.items;
      count : length l.rooms.items + shown_among (drop l.step-index l.steps) ≡ shown_among l.steps;
    }
