use Rattle.std.proofs.Common.{◌≡◌, [], ◌∷◌, rules}
use Rattle.gic_soak.specs.Generated.{guest}
use Rattle.gic_soak.proofs.GoodLemmas.{made_good}
use Rattle.gic_soak.proofs.scenario.generate.Goals as goal

pub returns-clause-good : goal.returns-clause-good
returns-clause-good c =
    let one : c.guests-2.inside.elements.items ≡ guest ∷ [] = search rules in
    made_good c.args.number c.args.steps c.guests-2.inside.elements.items c.in_ok-draw_steps.field-0 c.requires one c.in_ok-draw_steps.ensures
