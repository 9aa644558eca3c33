use Rattle.std.proofs.Common.{◌||◌, not, cond, sym, ap, ◌∙◌}
use Rattle.history_turns.specs.Calls.{is_in_table}
use Rattle.history_turns.specs.Noted.{seen_at}
use Rattle.history_turns.specs.Risen.{rising_by}
use Rattle.history_turns.proofs.rise.is_settled.Goals as goal

pub returns-then-not-is_in_table : goal.returns-then-not-is_in_table
returns-then-not-is_in_table c = λ is_on.
    let seen = seen_at c.args.noted.now c.args.number in
    let bit = is_in_table c.args.shape.now (rising_by is_on c.args.vcpu c.args.piece.now) c.args.vcpu _ in
    ap not c.if-not-is_in_table.true
    ∙ sym
    (ap (λ b. cond b seen.is_own (not bit || seen.is_other)) (sym c.is_touched.ensures ∙ c.if-is_touched.false)
    ∙ ap (λ b. not b || seen.is_other) (sym (c.is_in_table.ensures is_on c.args.vcpu c.word_at-pendbaser.ensures) ∙ c.if-not-is_in_table.true))

pub returns-else-not-is_in_table : goal.returns-else-not-is_in_table
returns-else-not-is_in_table c = λ is_on.
    let seen = seen_at c.args.noted.now c.args.number in
    let bit = is_in_table c.args.shape.now (rising_by is_on c.args.vcpu c.args.piece.now) c.args.vcpu _ in
    ap (λ s. s.is_other) c.seen_at-seen.ensures
    ∙ sym
    (ap (λ b. cond b seen.is_own (not bit || seen.is_other)) (sym c.is_touched.ensures ∙ c.if-is_touched.false)
    ∙ ap (λ b. not b || seen.is_other) (sym (c.is_in_table.ensures is_on c.args.vcpu c.word_at-pendbaser.ensures) ∙ c.if-not-is_in_table.false))
