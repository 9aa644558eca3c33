use Rattle.std.proofs.Common.{◌≡◌, ◌==◌, ◌&&◌, not, filter, take}
use Rattle.history_check.specs.Words.{is_same_key}
use Rattle.history_play.proofs.leaving.without.Given as goal

abbrev pub invariant-loop-one : goal.invariant-loop-one
invariant-loop-one l = l.rest ≡ filter (λ pair. not (pair.0 == l.vcpu && is_same_key pair.1 l.key)) (take l.one-index l.leaving)
