use Rattle.std.proofs.Common.{◌↔◌, IsTrue, sym, ap, ◌∙◌}
use Rattle.std.proofs.lemmas.Result.{IfOk-weaker}
use Rattle.history_turns.specs.Histories.{Call}
use Rattle.history_turns.specs.LegalLists.Legal.{IsBegun}
use Rattle.history_turns.specs.Mapped.{mapped_by, targets_by}
use Rattle.history_turns.specs.Noted.{NotedOf, IsNotedOf}
use Rattle.history_turns.specs.Opened.{IsItsBegun}
use Rattle.history_turns.specs.Risen.{MayRise}
use Rattle.history_turns.proofs.JudgeLemmas.{turn_its, good_its, begun_its, begun_rising, begun_none}
use Rattle.history_turns.proofs.calls.turn_begun.Goals as goal

pub its_begun-requires-clause-good : goal.its_begun-requires-clause-good
its_begun-requires-clause-good c = good_its c.args.shape.now c.args.actor c.args.operation.now c.in-Some.write (sym c.its_write.ensures ∙ c.in-Some.is) c.requires.good

pub its_begun-requires-clause-turn : goal.its_begun-requires-clause-turn
its_begun-requires-clause-turn c = turn_its c.args.shape.now c.args.actor c.args.operation.now c.in-Some.write (sym c.its_write.ensures ∙ c.in-Some.is) c.requires.turn

pub returns-in-Some : goal.returns-in-Some
returns-in-Some c =
    IfOk-weaker c.its_begun.result
    (λ begun. IsTrue begun ↔ IsItsBegun c.args.shape.now (mapped_by c.args.shape.now c.as_slice-done.result.now) (targets_by c.as_slice-commands.result.now) c.args.actor c.in-Some.write.offset c.in-Some.write.size c.in-Some.write.value c.args.piece.now)
    (λ begun. (call : Call) → IsNotedOf c.args.shape.now c.args.operation.now c.args.piece.now c.args.noted.now call → IsTrue begun ↔ IsBegun c.args.noted.now.signals c.args.shape.now c.args.actor call)
    (λ begun so.
    begun_its c.args.shape.now c.args.actor c.args.operation.now c.args.piece.now c.args.noted.now c.in-Some.write c.as_slice-done.result.now c.as_slice-commands.result.now begun (sym c.its_write.ensures ∙ c.in-Some.is) c.requires.turn
    (c.as_slice-done.ensures ∙ ap (λ (n : NotedOf). n.done) c.noted.view_is) (c.as_slice-commands.ensures ∙ ap (λ (n : NotedOf). n.commands) c.noted.view_is) so) c.its_begun.ensures.value

pub returns-in-Some-rising_vcpu : goal.returns-in-Some-rising_vcpu
returns-in-Some-rising_vcpu c =
    IfOk-weaker c.may_rise.result (λ rising. IsTrue rising ↔ MayRise c.args.shape.now c.args.actor c.in-Some-rising_vcpu.vcpu c.args.noted.now c.args.piece.now)
    (λ begun. (call : Call) → IsNotedOf c.args.shape.now c.args.operation.now c.args.piece.now c.args.noted.now call → IsTrue begun ↔ IsBegun c.args.noted.now.signals c.args.shape.now c.args.actor call)
    (λ rising so. begun_rising c.args.shape.now c.args.actor c.args.operation.now c.args.piece.now c.args.noted.now c.in-Some-rising_vcpu.vcpu rising (sym c.rising_vcpu.ensures ∙ c.in-Some-rising_vcpu.is) so) c.may_rise.ensures

pub returns-in-None : goal.returns-in-None
returns-in-None c = begun_none c.args.shape.now c.args.actor c.args.operation.now c.args.piece.now c.args.noted.now c.signals.result c.requires.turn (sym c.its_write.ensures ∙ c.in_default.is) (sym c.rising_vcpu.ensures ∙ c.in-None.is) c.signals.ensures
