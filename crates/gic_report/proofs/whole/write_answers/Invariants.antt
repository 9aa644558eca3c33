use Rattle.std.proofs.Common.{◌≡◌, ◌++◌, ◌+◌, drop, string_bytes}
use Rattle.gic_report.specs.Text.{answer_lines}
use Rattle.gic_report.proofs.whole.write_answers.Given as goal

-- the lines so far and those of the other steps are those of all
abbrev pub invariant-loop-answer : goal.invariant-loop-answer
invariant-loop-answer l =
    record {
      counted : l.step ≡ l.fn.done + l.answer-index;
      told : string_bytes l.text ++ answer_lines (l.step + 1) (drop l.answer-index l.answer-items) ≡ string_bytes l.fn.text ++ answer_lines (l.fn.done + 1) l.answer-items;
    }
