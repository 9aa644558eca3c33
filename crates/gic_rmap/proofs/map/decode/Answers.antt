use Rattle.std.proofs.Common.{◌∙◌, sym}
use Rattle.gic_rmap.proofs.MapLemmas.{intids_named}
use Rattle.gic_rmap.proofs.map.decode.Goals as goal

pub returns-in-Some-InParts-clause-intids : goal.returns-in-Some-InParts-clause-intids
returns-in-Some-InParts-clause-intids c =
    rw c.in-Some-InParts.field-0-is at (intids_named c.args.offset c.args.size c.in-Some-InParts.field-0 (sym c.find.ensures ∙ c.in-Some-InParts.is))
