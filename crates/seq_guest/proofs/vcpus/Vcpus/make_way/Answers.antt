-- Others leave for a while, or nothing happens.
use Rattle.std.proofs.Common.{sym, ◌∙◌}
use Rattle.port_seq.specs.Ports.{told}
use Rattle.seq_guest.proofs.OperateLemmas.{way_free, way_made}
use Rattle.seq_guest.proofs.vcpus.Vcpus.make_way.Goals as goal

pub returns-then-is_of_registers-clause-way : goal.returns-then-is_of_registers-clause-way
returns-then-is_of_registers-clause-way c =
    way_made (told c.args.port.now) (told c.step_aside.new.port) c.args.self.now c.step_aside.new.self c.args.vcpu c.args.op.now (sym c.is_of_registers.ensures ∙ c.if-is_of_registers.true) c.step_aside.ensures.goes_on c.step_aside.ensures.spots

pub returns-else-is_of_registers-clause-way : goal.returns-else-is_of_registers-clause-way
returns-else-is_of_registers-clause-way c = way_free (told c.args.port.now) c.args.self.now c.args.vcpu c.args.op.now (sym c.is_of_registers.ensures ∙ c.if-is_of_registers.false) c.requires
