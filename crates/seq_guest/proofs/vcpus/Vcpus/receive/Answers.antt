-- A device does an operation, and the kicks are answered.
use Rattle.std.proofs.Common.{◌+◌, None, ap}
use Rattle.guest_end.specs.Words.{GuestShape}
use Rattle.guest_end.specs.Calls.{Device}
use Rattle.port_seq.specs.Ports.{told}
use Rattle.seq_guest.proofs.DeviceLemmas.{received}
use Rattle.seq_guest.proofs.GuestLemmas.{goes_from}
use Rattle.seq_guest.proofs.vcpus.Vcpus.receive.Goals as goal

pub answer_kicks-requires : goal.answer_kicks-requires
answer_kicks-requires g c = (received (told c.args.port.now) (told c.set_actor.new.self) (told c.device_op.new.port) c.args.self.now c.shape.result.vcpus c.args.device c.args.op.now (ap (λ (shape : GuestShape). shape.vcpus) c.shape.ensures) c.requires.there c.requires.at c.set_actor.ensures c.device_op.ensures).at

pub returns-clause-goes_on : goal.returns-clause-goes_on
returns-clause-goes_on g c =
    goes_from ((told c.args.port.now).guest.shape.vcpus + c.args.device) (Device c.args.op.now) None (told c.args.port.now) (told c.device_op.new.port) (told c.answer_kicks.new.port) c.args.self.now c.args.self.now c.answer_kicks.new.self
    (received (told c.args.port.now) (told c.set_actor.new.self) (told c.device_op.new.port) c.args.self.now c.shape.result.vcpus c.args.device c.args.op.now (ap (λ (shape : GuestShape). shape.vcpus) c.shape.ensures) c.requires.there c.requires.at c.set_actor.ensures c.device_op.ensures) c.answer_kicks.ensures.goes_on
