-- Others leave for a while, it does the operation, they come back, and the kicks are answered.
use Rattle.port_seq.specs.Ports.{told}
use Rattle.seq_guest.proofs.OperateLemmas.{operates}
use Rattle.seq_guest.proofs.vcpus.Vcpus.operate.Goals as goal

pub returns-clause-operates : goal.returns-clause-operates
returns-clause-operates g c =
    operates (told c.args.port.now) (told c.make_way.new.port) (told c.operate_one-answer.new.port) (told c.come_back.new.port) (told c.answer_kicks.new.port) c.args.self.now c.make_way.new.self c.operate_one-answer.new.self c.come_back.new.self c.answer_kicks.new.self c.args.vcpu c.args.op.now c.operate_one-answer.result
    c.make_way.ensures.way c.operate_one-answer.ensures.goes_on c.come_back.ensures.goes_on c.answer_kicks.ensures.goes_on
