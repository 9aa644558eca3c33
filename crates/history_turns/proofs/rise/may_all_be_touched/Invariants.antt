use Rattle.std.proofs.Common.{◌≡◌, ℕ, ◌<◌, true}
use Rattle.history_turns.specs.Risen.{may_be_touched}
use Rattle.history_turns.proofs.rise.may_all_be_touched.Given as goal

-- those so far may
abbrev pub invariant-loop-number : goal.invariant-loop-number
invariant-loop-number l =
    record {
      end : l.number-end ≡ l.shape.lpis;
      so_far : (n : ℕ) → n < l.number → may_be_touched l.shape l.noted l.piece n ≡ true;
    }
