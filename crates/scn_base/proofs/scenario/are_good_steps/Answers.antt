use Rattle.std.proofs.Common.{◌∙◌, sym, refl, length, arith}
use Rattle.scn_base.proofs.StepLemmas.{no_fault_good, good_no_fault, has_fault, none_left}
use Rattle.scn_base.proofs.scenario.are_good_steps.Goals as goal

pub returns-then-is_some : goal.returns-then-is_some
returns-then-is_some c = (
  λ e. absurd cc,
  λ good. has_fault c.args.mode c.loop-step.standing c.args.steps.now c.loop-step.step-index _ c.fault_of.result (omega arith) c.fault_of.ensures (sym c.is_some.ensures ∙ c.if-is_some.true)
      (c.loop-step.invariant.rest ∙ good_no_fault c.args.mode c.args.standing (length c.args.standing.pes) c.args.steps.now refl good.0 good.1),
)

pub returns : goal.returns
returns c =
    let clean = sym c.loop-step.invariant.rest ∙ none_left c.args.mode c.loop-step.standing c.args.steps.now c.loop-step.step-index (omega arith) in
    (λ e. no_fault_good c.args.mode c.args.standing (length c.args.standing.pes) c.args.steps.now refl clean, λ good. refl)
