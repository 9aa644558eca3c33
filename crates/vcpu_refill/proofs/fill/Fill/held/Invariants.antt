use Rattle.std.proofs.Common.{◌≡◌, ℕ, ◌<◌, None, length, get_or}
use Rattle.std.specs.Option.{option_map}
use Rattle.vcpu_refill.specs.Plan.{held_as}
use Rattle.vcpu_refill.proofs.fill.Fill.held.Given as goal

-- each place so far has what is held there
abbrev pub invariant-loop-place : goal.invariant-loop-place
invariant-loop-place l =
    record {
      long : length l.slot-items ≡ 16;
      filled : (k : ℕ) → k < l.place → get_or l.slot-items k None ≡ option_map held_as (get_or l.self.choice k None);
    }
