use Rattle.std.proofs.Common.{sym, ap, ◌∙◌}
use Rattle.history_turns.specs.Registers.{pending_address}
use Rattle.history_turns.proofs.RiseSteps.{bit_decided}
use Rattle.history_turns.proofs.rise.is_bit_read.Goals as goal

pub returns-in-Some : goal.returns-in-Some
returns-in-Some c = λ is_on vcpu.
    bit_decided c.args.shape.now c.args.piece.now is_on vcpu c.pending_address-address.result.0 (pending_address c.args.pendbaser c.args.id).0 c.in-Some.part c.was_read.result (ap (λ p. p.0) c.pending_address-address.ensures.value)
    (sym c.split.ensures.value ∙ c.in-Some.is) c.was_read.ensures
