use Rattle.std.proofs.Common.{ℕ, Bool, ◌==◌, ◌&&◌, not, sym, ◌∙◌, arith}
use Rattle.floor_histories.specs.Histories.{actor_count, doing_of, has_named, is_to_come}
use Rattle.history_check.proofs.ExcuseLemmas.{none_more, any_found}
use Rattle.history_check.proofs.coming.is_awaited.Goals as goal

pub returns-then-is_others : goal.returns-then-is_others
returns-then-is_others c =
    let comes : ℕ → Bool = λ actor. not (actor == c.args.vcpu) && (has_named c.args.shape.now (doing_of c.args.track.now actor) && is_to_come actor c.args.key c.args.later.now) in
    sym (any_found comes (actor_count c.args.shape.now) c.loop-actor.actor (omega (arith, c.loop-actor-test.true)) (sym c.is_others.ensures ∙ c.if-is_others.true))

pub loop-actor-preserved : goal.loop-actor-preserved
loop-actor-preserved c =
    let comes : ℕ → Bool = λ actor. not (actor == c.args.vcpu) && (has_named c.args.shape.now (doing_of c.args.track.now actor) && is_to_come actor c.args.key c.args.later.now) in
    none_more comes c.loop-actor.actor c.loop-actor.invariant (sym c.is_others.ensures ∙ c.if-is_others.false)
