-- The first PEs are as they are to be.
use Rattle.law_one_thread_is_eager.specs.PortSeq.Ports.{told_all}
use Rattle.std.proofs.Common.{[]}
use Rattle.run_seq.specs.Agenda.{agenda_on}
use Rattle.run_seq.proofs.OpenLemmas.{OpensSoFar}
use Rattle.run_seq.proofs.machine.Machine.opening.Given as goal

abbrev pub invariant-loop-pe : goal.invariant-loop-pe
invariant-loop-pe g l = OpensSoFar (agenda_on (told_all l.fn.port) l.start []) l.machine (told_all l.port) l.resident-items l.pe
