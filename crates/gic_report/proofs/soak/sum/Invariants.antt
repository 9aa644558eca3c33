use Rattle.std.proofs.Common.{◌≡◌, ◌+◌, ◌%◌, ◌^◌, drop}
use Rattle.gic_report.specs.Soak.{weight_from}
use Rattle.gic_report.proofs.soak.sum.Given as goal

-- the sum so far and that of the other steps are that of all
abbrev pub invariant-loop-answer : goal.invariant-loop-answer
invariant-loop-answer l =
    record {
      counted : l.step ≡ l.answer-index;
      told : (l.sum + weight_from (l.step + 1) (drop l.answer-index l.answers)) % 2 ^ 64 ≡ weight_from 1 l.answers % 2 ^ 64;
    }
