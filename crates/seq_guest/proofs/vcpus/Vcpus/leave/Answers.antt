-- And the kicks are answered.
use Rattle.port_seq.specs.Ports.{told}
use Rattle.seq_guest.proofs.GuestLemmas.{goes_then}
use Rattle.seq_guest.proofs.vcpus.Vcpus.leave.Goals as goal

pub returns-clause-goes_on : goal.returns-clause-goes_on
returns-clause-goes_on g c =
    goes_then (told c.args.port.now) (told c.leave_one.new.port) (told c.answer_kicks.new.port) c.args.self.now c.leave_one.new.self c.answer_kicks.new.self c.leave_one.ensures.goes_on c.answer_kicks.ensures.goes_on
