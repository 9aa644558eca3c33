use Rattle.std.proofs.Common.{◌≡◌, ◌↔◌, ◌++◌, ◌∷◌, [], IsTrue, sym, subst}
use Rattle.trace_told.specs.LegalPlay.LegalSteps.Step.{pass_of}
use Rattle.gic_check.specs.Play.{PlayOf, IsPlayed, IsSomePlay, StaysLegal}
use Rattle.gic_check.proofs.StepLemmas.{does_not_go, goes_where}
use Rattle.gic_check.proofs.play.Play.goes_on.Goals as goal

pub may_come-requires : goal.may_come-requires
may_come-requires c =
    let p = subst (λ (q : PlayOf). IsSomePlay q.board q.notes) (sym c.self.view_is) c.requires.play in
    record { play = subst (IsSomePlay c.self.inside.board) (sym c.as_slice.ensures) p }

pub returns-then-not-may : goal.returns-then-not-may
returns-then-not-may c guest moments is =
    let here = subst (λ (q : PlayOf). IsPlayed guest moments q.board q.notes) (sym c.self.view_is) is in
    does_not_go guest moments c.self.inside.board c.self.inside.notes here c.args.moment.now c.in_ok-may.may _ _ c.if-not-may.true
    (c.in_ok-may.ensures.value guest moments (subst (IsPlayed guest moments c.self.inside.board) (sym c.as_slice.ensures) here))

pub returns : goal.returns
returns c guest moments is0 =
    let here = subst (λ (q : PlayOf). IsPlayed guest moments q.board q.notes) (sym c.self.view_is) is0 in
    let went = c.in_ok-advance.ensures.played guest moments is0 in
    let b2 : PlayOf = record { board = c.self-2.inside.board; notes = c.self-2.inside.notes; done = c.self-2.inside.done } in
    let same : b2 ≡ c.advance.new.self = c.self-2.view_is in
    let there : IsPlayed guest (moments ++ c.args.moment.now ∷ []) b2.board b2.notes = subst (λ (q : PlayOf). IsPlayed guest (moments ++ c.args.moment.now ∷ []) q.board q.notes) (sym same) went in
    goes_where guest moments c.self.inside.board c.self.inside.notes here c.args.moment.now c.in_ok-may.may c.in_ok-stays.stays c.args.self.now.board.moments c.advance.new.self c.if-not-may.false
    (c.in_ok-may.ensures.value guest moments (subst (IsPlayed guest moments c.self.inside.board) (sym c.as_slice.ensures) here)) went c.in_ok-advance.ensures.all
    c.in_ok-advance.ensures.count
    (subst (λ actor. IsTrue c.in_ok-stays.stays ↔ StaysLegal guest (pass_of guest (moments ++ c.args.moment.now ∷ [])) actor) c.actor_in.ensures
    (c.in_ok-stays.ensures guest (moments ++ c.args.moment.now ∷ []) (subst (IsPlayed guest (moments ++ c.args.moment.now ∷ []) b2.board) (sym c.as_slice-2.ensures) there)))
