use Rattle.std.proofs.Common.{◌≡◌, ◌==◌, ◌&&◌, not, filter}
use Rattle.std.specs.List.{range_with_len}
use Rattle.legal_steps.specs.Histories.{doing_of, has_named}
use Rattle.legal_play.proofs.passed.named_actors.Given as goal

abbrev pub invariant-loop-actor : goal.invariant-loop-actor
invariant-loop-actor l = l.actors ≡ filter (λ actor. not (actor == l.vcpu) && has_named l.shape (doing_of l.track actor)) (range_with_len 0 l.actor)
