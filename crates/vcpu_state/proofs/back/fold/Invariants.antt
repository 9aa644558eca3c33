use Rattle.std.proofs.Common.{◌≡◌, ℕ, ◌<◌, None, length, get_or}
use Rattle.vcpu_state.specs.Fold.{back_at}
use Rattle.vcpu_state.proofs.back.fold.Given as goal

-- each place so far has what comes back from its list register
abbrev pub invariant-loop-place : goal.invariant-loop-place
invariant-loop-place l =
    record {
      long : length l.slot-items ≡ 16;
      filled : (k : ℕ) → k < l.place → get_or l.slot-items k None ≡ back_at l.regs l.held k;
    }
