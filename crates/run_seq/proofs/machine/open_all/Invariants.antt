-- The first guests have their vCPUs.
use Rattle.law_one_thread_is_eager.specs.PortSeq.Ports.{told_all}
use Rattle.run_seq.specs.Agenda.{states_in}
use Rattle.run_seq.specs.Opened.{AreOpened}
use Rattle.run_seq.specs.Run.{SamePorts}
use Rattle.run_seq.proofs.machine.open_all.Given as goal

abbrev pub invariant-loop-guest : goal.invariant-loop-guest
invariant-loop-guest l =
    SamePorts (told_all l.initial.port) (told_all l.port)
    × AreOpened (states_in (told_all l.initial.port)) l.lrs (told_all l.port) l.guests.items l.guest
