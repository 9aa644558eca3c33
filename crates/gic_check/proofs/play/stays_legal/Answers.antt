use Rattle.std.proofs.Common.{◌≡◌, ◌↔◌, IsTrue, sym, ◌∙◌, true≢false}
use Rattle.std.proofs.lemmas.Result.{IfOk-weaker}
use Rattle.trace_told.specs.LegalPlay.LegalSteps.Step.{pass_of, may_all_be_answered}
use Rattle.gic_check.specs.Play.{StaysLegal}
use Rattle.gic_check.proofs.play.stays_legal.Goals as goal

pub returns-then-not-begun : goal.returns-then-not-begun
returns-then-not-begun c guest moments is = (
  λ h. absurd (true≢false (sym h)),
  λ stays. absurd (true≢false (sym ((c.in_ok-begun.ensures guest moments is).1 stays.begun) ∙ c.if-not-begun.true)),
)

pub returns : goal.returns
returns c guest moments is =
    IfOk-weaker c.may_be_answered.result (λ may. may ≡ may_all_be_answered guest (pass_of guest moments)) (λ stays. IsTrue stays ↔ StaysLegal guest (pass_of guest moments) c.args.actor)
    (λ may so. (λ h. record { begun = (c.in_ok-begun.ensures guest moments is).0 c.if-not-begun.false; answered = sym so ∙ h }, λ stays. so ∙ stays.answered)) (c.may_be_answered.ensures guest moments is)
