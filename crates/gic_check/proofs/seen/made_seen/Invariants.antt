use Rattle.std.proofs.Common.{◌≡◌, map}
use Rattle.std.specs.List.{range_with_len}
use Rattle.gic_check.specs.Notes.{made_seen}
use Rattle.gic_check.proofs.seen.made_seen.Given as goal

abbrev pub invariant-loop-number : goal.invariant-loop-number
invariant-loop-number l = l.all ≡ map (made_seen l.place l.event l.noted) (range_with_len 0 l.number)
