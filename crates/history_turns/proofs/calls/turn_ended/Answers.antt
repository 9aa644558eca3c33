use Rattle.std.proofs.Common.{◌↔◌, IsTrue, None, refl, sym, ap, ◌∙◌}
use Rattle.std.proofs.lemmas.Result.{IfOk-weaker}
use Rattle.history_turns.specs.Histories.{Call, IsEndedAs}
use Rattle.history_turns.specs.Mapped.{mapped_by, targets_by}
use Rattle.history_turns.specs.Noted.{NotedOf, IsNotedOf}
use Rattle.history_turns.specs.Written.{IsItsMade}
use Rattle.history_turns.specs.Risen.{Rises}
use Rattle.history_turns.proofs.JudgeLemmas.{turn_its, good_its, ended_its, ended_rising, ended_none}
use Rattle.history_turns.proofs.calls.turn_ended.Goals as goal

pub its_ended-requires-clause-good : goal.its_ended-requires-clause-good
its_ended-requires-clause-good c = good_its c.args.shape.now c.args.actor c.args.operation.now c.in-Some.write (sym c.its_write.ensures ∙ c.in-Some.is) c.requires.good

pub its_ended-requires-clause-turn : goal.its_ended-requires-clause-turn
its_ended-requires-clause-turn c = turn_its c.args.shape.now c.args.actor c.args.operation.now c.in-Some.write (sym c.its_write.ensures ∙ c.in-Some.is) c.requires.turn

pub returns-in-Some : goal.returns-in-Some
returns-in-Some c =
    IfOk-weaker c.its_ended.result
    (λ ended. IsTrue ended ↔ IsItsMade c.args.shape.now (mapped_by c.args.shape.now c.as_slice-done.result.now) (targets_by c.as_slice-commands.result.now) c.args.actor c.in-Some.write.offset c.in-Some.write.size c.in-Some.write.value c.args.piece.now)
    (λ ended. (call : Call) → IsNotedOf c.args.shape.now c.args.operation.now c.args.piece.now c.args.noted.now call → IsTrue ended ↔ IsEndedAs c.args.noted.now.signals c.args.shape.now c.args.actor call None)
    (λ ended so.
    ended_its c.args.shape.now c.args.actor c.args.operation.now c.args.piece.now c.args.noted.now c.in-Some.write c.as_slice-done.result.now c.as_slice-commands.result.now ended (sym c.its_write.ensures ∙ c.in-Some.is) c.requires.turn
    (c.as_slice-done.ensures ∙ ap (λ (n : NotedOf). n.done) c.noted.view_is) (c.as_slice-commands.ensures ∙ ap (λ (n : NotedOf). n.commands) c.noted.view_is) so) c.its_ended.ensures.value

pub returns-in-Some-rising_vcpu : goal.returns-in-Some-rising_vcpu
returns-in-Some-rising_vcpu c =
    IfOk-weaker c.rises.result (λ risen. IsTrue risen ↔ Rises c.args.shape.now c.args.actor c.in-Some-rising_vcpu.vcpu c.args.noted.now c.args.piece.now)
    (λ ended. (call : Call) → IsNotedOf c.args.shape.now c.args.operation.now c.args.piece.now c.args.noted.now call → IsTrue ended ↔ IsEndedAs c.args.noted.now.signals c.args.shape.now c.args.actor call None)
    (λ risen so. ended_rising c.args.shape.now c.args.actor c.args.operation.now c.args.piece.now c.args.noted.now c.in-Some-rising_vcpu.vcpu None risen (sym c.rising_vcpu.ensures ∙ c.in-Some-rising_vcpu.is) refl so) c.rises.ensures

pub returns-in-None : goal.returns-in-None
returns-in-None c = ended_none c.args.shape.now c.args.actor c.args.operation.now c.args.piece.now c.args.noted.now c.signals.result c.requires.turn (sym c.its_write.ensures ∙ c.in_default.is) (sym c.rising_vcpu.ensures ∙ c.in-None.is) c.signals.ensures
