use Rattle.std.proofs.Common.{◌≡◌, ℕ, ◌<◌, true}
use Rattle.history_turns.specs.Risen.{is_settled}
use Rattle.history_turns.proofs.rise.are_settled.Given as goal

-- those so far were
abbrev pub invariant-loop-number : goal.invariant-loop-number
invariant-loop-number l =
    record {
      end : l.number-end ≡ l.shape.lpis;
      so_far : (n : ℕ) → n < l.number → is_settled l.shape l.is_on l.vcpu l.noted l.piece n ≡ true;
    }
