use Rattle.std.proofs.Common.{◌↔◌, IsTrue, sym, subst}
use Rattle.std.specs.Prelude.{IfOk}
use Rattle.trace_told.specs.LegalPlay.LegalSteps.Step.{pass_of}
use Rattle.trace_told.specs.LegalPlay.Board.{IsRightEnd}
use Rattle.gic_check.proofs.play.is_right_end.Goals as goal

pub returns-in-End : goal.returns-in-End
returns-in-End c guest moments is = subst (λ m. IfOk c.is_call.result (λ right. IsTrue right ↔ IsRightEnd (pass_of guest moments).course m)) (sym c.in-End.is) (c.is_call.ensures guest moments is)
