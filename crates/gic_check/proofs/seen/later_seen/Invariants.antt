use Rattle.std.proofs.Common.{◌≡◌, map}
use Rattle.std.specs.List.{range_with_len}
use Rattle.gic_check.specs.Notes.{later_seen}
use Rattle.gic_check.proofs.seen.later_seen.Given as goal

abbrev pub invariant-loop-number : goal.invariant-loop-number
invariant-loop-number l = l.all ≡ map (later_seen l.state l.vcpu l.place l.noted) (range_with_len 0 l.number)
