use Rattle.std.proofs.Common.{◌≡◌, ℕ, ◌<◌, None, length, get_or}
use Rattle.std.specs.Option.{option_map}
use Rattle.gic_host.specs.Link.{linked_choice}
use Rattle.gic_host.proofs.link.linked_places.Given as goal

-- each place so far has its link
abbrev pub invariant-loop-place : goal.invariant-loop-place
invariant-loop-place l =
    record {
      whole : length l.places ≡ 16;
      long : length l.slot-items ≡ 16;
      filled : (k : ℕ) → k < l.place → get_or l.slot-items k None ≡ option_map (linked_choice l.links l.vcpu) (get_or l.places k None);
    }
