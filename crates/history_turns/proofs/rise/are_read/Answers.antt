use Rattle.std.proofs.Common.{sym, ◌∙◌}
use Rattle.history_turns.proofs.RiseSteps.{unread, zero_read, bits_read}
use Rattle.history_turns.proofs.rise.are_read.Goals as goal

pub returns-then-not-was_read : goal.returns-then-not-was_read
returns-then-not-was_read c = unread c.args.shape.now c.args.piece.now c.args.is_on c.args.vcpu c.if-is_on.false c.was_read.result c.if-not-was_read.true c.was_read.ensures

pub returns-then-has_bit : goal.returns-then-has_bit
returns-then-has_bit c =
    zero_read c.args.shape.now c.args.piece.now c.args.is_on c.args.vcpu c.if-is_on.false c.was_read.result c.if-not-was_read.false c.was_read.ensures c.word_at-pendbaser.result c.word_at-pendbaser.ensures (sym c.has_bit.ensures ∙ c.if-has_bit.true) c.has_bit.result c.if-has_bit.true

pub returns-else-has_bit : goal.returns-else-has_bit
returns-else-has_bit c =
    bits_read c.args.shape.now c.args.piece.now c.args.is_on c.args.vcpu c.if-is_on.false c.was_read.result c.if-not-was_read.false c.was_read.ensures c.word_at-pendbaser.result c.word_at-pendbaser.ensures (sym c.has_bit.ensures ∙ c.if-has_bit.false)
    c.are_bits_read.result (c.are_bits_read.ensures c.args.is_on c.args.vcpu)
