use Rattle.std.proofs.Common.{sym, ap, ◌∙◌, subst}
use Rattle.std.proofs.lemmas.Option.{IfSome_then}
use Rattle.trace_told.specs.Told.{actor_of, moments_told}
use Rattle.trace_told.specs.Untold.{IsUntold}
use Rattle.trace_told.specs.LegalPlay.Pieces.{piece_of}
use Rattle.trace_told.specs.Histories.{doing_of}
use Rattle.gic_check.proofs.TellLemmas.{told_is, none_told, untold, IfNone_then}
use Rattle.gic_check.proofs.verdict.told.Goals as goal

pub returns-in-None-clause-none : goal.returns-in-None-clause-none
returns-in-None-clause-none c guest moments is =
    none_told guest moments c.args.board.now c.args._notes.now is c.args.event.now (ap (λ s. actor_of s c.args.event.now.by) (sym c.shape_of.ensures) ∙ (sym c.actor_of.ensures ∙ c.in-None.is))

pub returns-in_ok-told-in-Some-clause-some : goal.returns-in_ok-told-in-Some-clause-some
returns-in_ok-told-in-Some-clause-some c =
    IfSome_then c.in_ok-told-in-Some.told c.in_ok-told-in-Some.ensures.some
    (λ own so guest moments is.
    told_is guest moments c.args.board.now c.args._notes.now is c.args.event.now c.in-Some.actor (ap (λ s. actor_of s c.args.event.now.by) (sym c.shape_of.ensures) ∙ (sym c.actor_of.ensures ∙ c.in-Some.is))
    ∙ (ap (λ s. moments_told s c.in-Some.actor (doing_of c.args.board.now.track c.in-Some.actor).operation (piece_of c.args.board.now.pieces c.in-Some.actor) c.args.event.now.act) (sym c.state_of.ensures)
    ∙ (ap (λ op. moments_told c.state_of.result.now c.in-Some.actor op (piece_of c.args.board.now.pieces c.in-Some.actor) c.args.event.now.act) (sym c.operation_at-operation.ensures)
    ∙ (ap (λ p. moments_told c.state_of.result.now c.in-Some.actor c.operation_at-operation.result p c.args.event.now.act) (sym c.piece_at-piece.ensures) ∙ so))))

pub returns-in_ok-told-in-Some-clause-none : goal.returns-in_ok-told-in-Some-clause-none
returns-in_ok-told-in-Some-clause-none c =
    IfNone_then c.in_ok-told-in-Some.told c.in_ok-told-in-Some.ensures.none
    (λ un guest moments is.
    untold guest moments c.args.board.now c.args._notes.now is c.args.event.now c.in-Some.actor (ap (λ s. actor_of s c.args.event.now.by) (sym c.shape_of.ensures) ∙ (sym c.actor_of.ensures ∙ c.in-Some.is))
    (subst (λ s. IsUntold s c.in-Some.actor (doing_of c.args.board.now.track c.in-Some.actor).operation (piece_of c.args.board.now.pieces c.in-Some.actor) c.args.event.now.act) c.state_of.ensures
    (subst (λ op. IsUntold c.state_of.result.now c.in-Some.actor op (piece_of c.args.board.now.pieces c.in-Some.actor) c.args.event.now.act) c.operation_at-operation.ensures
    (subst (λ p. IsUntold c.state_of.result.now c.in-Some.actor c.operation_at-operation.result p c.args.event.now.act) c.piece_at-piece.ensures un))))
