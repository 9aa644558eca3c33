use Rattle.std.proofs.Common.{◌≡◌, ℕ, ◌<◌, None, length, get_or}
use Rattle.vcpu_refill.specs.Plan.{word_of}
use Rattle.vcpu_refill.proofs.fill.Fill.words.Given as goal

-- each place so far has the word of its list register
abbrev pub invariant-loop-place : goal.invariant-loop-place
invariant-loop-place l =
    record {
      long : length l.slot-items ≡ 16;
      filled : (k : ℕ) → k < l.place → get_or l.slot-items k 0 ≡ word_of (get_or l.self.choice k None);
    }
