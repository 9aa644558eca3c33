use Rattle.std.proofs.Common.{◌&&◌, ◌+◌, sym, ap, ◌∙◌}
use Rattle.history_turns.specs.Calls.{is_in_table}
use Rattle.history_turns.specs.Risen.{rising_by}
use Rattle.history_turns.proofs.rise.is_pended.Goals as goal

pub returns-then-is_touched : goal.returns-then-is_touched
returns-then-is_touched c = λ is_on.
    c.is_in_table.ensures is_on c.args.vcpu c.word_at-pendbaser.ensures
    ∙ sym (ap (λ b. b && is_in_table c.args.shape.now (rising_by is_on c.args.vcpu c.args.piece.now) c.args.vcpu (8192 + c.args.number)) (sym c.is_touched.ensures ∙ c.if-is_touched.true))
