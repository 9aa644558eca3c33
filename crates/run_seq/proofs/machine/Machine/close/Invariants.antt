-- The first PEs are empty.
use Rattle.std.proofs.Common.{◌≡◌, length}
use Rattle.law_one_thread_is_eager.specs.PortSeq.Ports.{told_all}
use Rattle.run_seq.proofs.CloseLemmas.{ClosesSoFar}
use Rattle.run_seq.proofs.machine.Machine.close.Given as goal

abbrev pub invariant-loop-pe : goal.invariant-loop-pe
invariant-loop-pe g l = ClosesSoFar l.initial.self l.self (told_all l.initial.port) (told_all l.port) l.pe × (l.pe-end ≡ length l.initial.self.pes)
