use Rattle.std.proofs.Common.{◌↔◌, IsTrue, sym, ◌∙◌}
use Rattle.std.proofs.lemmas.Result.{IfOk-weaker}
use Rattle.trace_told.specs.Histories.{Call}
use Rattle.trace_told.specs.LegalLists.Legal.{IsBegun}
use Rattle.trace_told.specs.LegalPlay.LegalSteps.Step.{pass_of, IsActorBegun}
use Rattle.history_turns.specs.Noted.{IsNotedOf}
use Rattle.gic_check.proofs.PlayLemmas.{judgeable, begun_by, begun_none, actor_there}
use Rattle.gic_check.proofs.play.is_begun.Goals as goal

pub noted_of-noted-requires : goal.noted_of-noted-requires
noted_of-noted-requires c =
    let p = c.requires.play in
    actor_there p.guest p.moments c.args.board.now c.args.notes.now p.is c.args.actor c.in-Some.operation (sym c.operation_at.ensures ∙ c.in-Some.is)

pub call_begun-requires : goal.call_begun-requires
call_begun-requires c =
    let p = c.requires.play in
    let j = judgeable p.guest p.moments c.args.board.now c.args.notes.now p.is c.shape_of-shape.result.now c.args.actor c.in-Some.operation c.piece_at-piece.result.now c.shape_of-shape.ensures (sym c.operation_at.ensures ∙ c.in-Some.is) c.piece_at-piece.ensures in
    record { shape = j.shaped; records = j.records; good = j.good }

pub returns-in-Some : goal.returns-in-Some
returns-in-Some c guest moments is =
    IfOk-weaker c.call_begun.result
    (λ begun. (call : Call) → IsNotedOf c.shape_of-shape.result.now c.in-Some.operation c.piece_at-piece.result.now c.noted_of-noted.result.now call → IsTrue begun ↔ IsBegun c.noted_of-noted.result.now.signals c.shape_of-shape.result.now c.args.actor call)
    (λ begun. IsTrue begun ↔ IsActorBegun guest (pass_of guest moments).course c.args.actor)
    (λ begun so.
    begun_by guest moments c.args.board.now c.args.notes.now is c.shape_of-shape.result.now c.args.actor c.in-Some.operation c.piece_at-piece.result.now c.noted_of-noted.result.now begun c.shape_of-shape.ensures (sym c.operation_at.ensures ∙ c.in-Some.is)
    c.piece_at-piece.ensures c.noted_of-noted.ensures so) c.call_begun.ensures.value

pub returns-in-None : goal.returns-in-None
returns-in-None c guest moments is = begun_none guest moments c.args.board.now c.args.notes.now is c.args.actor (sym c.operation_at.ensures ∙ c.in-None.is)
