-- The step, once its PEs are noted.
use Rattle.law_one_thread_is_eager.specs.PortSeq.Ports.{told_all}
use Rattle.run_seq.proofs.PlaceLemmas.{does_step}
use Rattle.run_seq.proofs.machine.Machine.step.Goals as goal

pub returns : goal.returns
returns g c = does_step c.args.self.now c.act-answer.new.self (told_all c.args.port.now) (told_all c.act-answer.new.port) c.args.step.now c.act-answer.result c.move_pes.new.pes c.act-answer.ensures c.move_pes.ensures.value
