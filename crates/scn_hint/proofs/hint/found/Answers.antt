use Rattle.std.proofs.Common.{option_map, sym, subst}
use Rattle.serde_json.specs.View.{view}
use Rattle.scn_hint.specs.Field.{told}
use Rattle.scn_hint.specs.Law.{IsNamed}
use Rattle.scn_hint.specs.declared.place.Place.TheVariants.{Step as StepAt}
use Rattle.scn_hint.proofs.NamedLemmas.{named_outside, named_within}
use Rattle.scn_hint.proofs.hint.found.Goals as goal

pub returns-then-fault-eq-NO_STEP-clause-named : goal.returns-then-fault-eq-NO_STEP-clause-named
returns-then-fault-eq-NO_STEP-clause-named c mode read =
    named_outside mode (view c.args.value.now) c.args.fault c.found_outside.result.0 (option_map told c.found_outside.result.1) read c.if-fault-eq-NO_STEP.true c.found_outside.ensures.amiss

pub returns-else-fault-eq-NO_STEP-clause-named : goal.returns-else-fault-eq-NO_STEP-clause-named
returns-else-fault-eq-NO_STEP-clause-named c mode read =
    subst (λ amiss. IsNamed (StepAt c.args.fault.step) amiss c.args.fault (view c.args.value.now)) (sym c.within.ensures) (named_within mode (view c.args.value.now) c.args.fault read c.if-fault-eq-NO_STEP.false)
