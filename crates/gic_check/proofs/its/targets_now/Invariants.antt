use Rattle.std.proofs.Common.{◌≡◌, ◌+◌, map}
use Rattle.std.specs.List.{range_with_len}
use Rattle.trace_told.specs.Histories.{targets_in}
use Rattle.gic_check.proofs.its.targets_now.Given as goal

abbrev pub invariant-loop-number : goal.invariant-loop-number
invariant-loop-number l = l.all ≡ map (λ number. targets_in l.state (8192 + number)) (range_with_len 0 l.number)
