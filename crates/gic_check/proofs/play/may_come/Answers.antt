use Rattle.std.proofs.Common.{◌↔◌, IsTrue, sym, ◌∙◌, true≢false}
use Rattle.std.proofs.lemmas.Result.{IfOk-weaker}
use Rattle.trace_told.specs.LegalPlay.LegalSteps.Step.{pass_of}
use Rattle.trace_told.specs.LegalPlay.Board.{IsComingNext, IsRightEnd}
use Rattle.gic_check.specs.Play.{MayCome}
use Rattle.gic_check.proofs.PlayLemmas.{room}
use Rattle.gic_check.proofs.play.may_come.Goals as goal

pub may_come-requires : goal.may_come-requires
may_come-requires c = let p = c.requires.play in record { room = room p.guest p.moments c.args.board.now c.args.notes.now p.is }

pub is_fresh-requires : goal.is_fresh-requires
is_fresh-requires c = let p = c.requires.play in record { room = room p.guest p.moments c.args.board.now c.args.notes.now p.is; coming = c.may_come.ensures.0 c.if-not-may_come.false }

pub returns-then-not-may_come-clause-value : goal.returns-then-not-may_come-clause-value
returns-then-not-may_come-clause-value c guest moments is = (λ h. absurd (true≢false (sym h)), λ may. absurd (true≢false (sym (c.may_come.ensures.1 may.coming) ∙ c.if-not-may_come.true)))

pub returns-then-not-is_fresh-clause-value : goal.returns-then-not-is_fresh-clause-value
returns-then-not-is_fresh-clause-value c guest moments is = (λ h. absurd (true≢false (sym h)), λ may. absurd (true≢false (sym (c.is_fresh.ensures.1 may.fresh) ∙ c.if-not-is_fresh.true)))

pub returns-clause-coming : goal.returns-clause-coming
returns-clause-coming c =
    let p = c.requires.play in
    IfOk-weaker c.is_right_end.result (λ right. IsTrue right ↔ IsRightEnd (pass_of p.guest p.moments).course c.args.moment.now) (λ may. IsTrue may → IsComingNext c.args.board.now.state c.args.board.now.track c.args.moment.now)
    (λ right so h. c.may_come.ensures.0 c.if-not-may_come.false) (c.is_right_end.ensures p.guest p.moments p.is)

pub returns-clause-value : goal.returns-clause-value
returns-clause-value c guest moments is =
    IfOk-weaker c.is_right_end.result (λ right. IsTrue right ↔ IsRightEnd (pass_of guest moments).course c.args.moment.now) (λ may. IsTrue may ↔ MayCome (pass_of guest moments) c.args.board.now c.args.moment.now)
    (λ right so. (λ h. record { coming = c.may_come.ensures.0 c.if-not-may_come.false; right = so.0 h; fresh = c.is_fresh.ensures.0 c.if-not-is_fresh.false }, λ may. so.1 may.right)) (c.is_right_end.ensures guest moments is)
