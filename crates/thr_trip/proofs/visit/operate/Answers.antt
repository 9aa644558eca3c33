-- One more operation, or none.
use Rattle.std.proofs.Common.{Some, List, Option, ℕ, sym, ap, subst, ◌∙◌}
use Rattle.std.specs.Prelude.{slice_get}
use Rattle.std.proofs.lemmas.Option.{slice_get-get_or}
use Rattle.thr_trip.specs.Operate.{Operates}
use Rattle.thr_trip.proofs.VisitLemmas.{operates_more}
use Rattle.thr_trip.proofs.visit.operate.Goals as goal

pub loop-preserved : goal.loop-preserved
loop-preserved g c =
    let first = g.P.Port.seen c.args.port.now in
    let old = g.P.Port.seen c.loop.port in
    let new = g.P.Port.seen c.guest_op-answer.new.port in
    let script = c.args.script.now in
    let more =
    operates_more script first old new c.args.vcpu.now c.loop.vcpu c.guest_op-answer.new.vcpu c.args.answers.now.items c.loop.answers.items c.in-Some.op.now c.guest_op-answer.result c.loop.invariant.so
    (ap (slice_get script) (sym (c.len.ensures ∙ c.loop.answers.ok.0)) ∙ slice_get-get_or script c.len.result c.in-Some.op.now c.in-Some.ensures.lookup.3.0 ∙ ap Some (sym c.in-Some.ensures.lookup.1)) c.guest_op-answer.ensures in
    record {
      room = c.push_reserved.ensures.capacity ∙ c.loop.invariant.room;
      so = subst (λ (items : List (Option ℕ)). Operates script first new c.args.vcpu.now c.guest_op-answer.new.vcpu c.args.answers.now.items items) (sym c.push_reserved.ensures.items) more;
    }
