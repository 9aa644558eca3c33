use Rattle.std.proofs.Common.{◌≡◌, List, [], replicate}
use Rattle.floor_histories.specs.Histories.{Standing}
use Rattle.history_check.proofs.state.none_standing.Given as goal

abbrev pub invariant-loop-vcpu : goal.invariant-loop-vcpu
invariant-loop-vcpu l = l.at ≡ replicate {A = List Standing} l.vcpu []
