-- The first steps are done, and there is room for the answers of the others.
use Rattle.std.proofs.Common.{◌≡◌, ◌≤◌, length, take, drop, vec_capacity}
use Rattle.law_one_thread_is_eager.specs.PortSeq.Ports.{told_all}
use Rattle.run_seq.specs.Agenda.{agenda_on}
use Rattle.run_seq.specs.Room.{RoomsFor}
use Rattle.run_seq.proofs.RunLemmas.{RunsSoFar}
use Rattle.run_seq.proofs.scheduled.run_from.Given as goal

abbrev pub invariant-loop-step : goal.invariant-loop-step
invariant-loop-step g l =
    record {
      runs : RunsSoFar (agenda_on (told_all l.fn.port) l.start l.steps) l.machine (told_all l.port) l.answers.items (take l.step-index l.steps) (drop l.step-index l.steps);
      rooms : RoomsFor (drop l.step-index l.steps) l.rooms.items;
      answered : length l.answers.items ≡ l.step-index;
      room : length l.steps ≤ vec_capacity l.answers;
    }
