use Rattle.std.proofs.Common.{◌∙◌, sym}
use Rattle.gic_dmap.proofs.MapLemmas.{intids_named, router_half}
use Rattle.gic_dmap.proofs.map.decode.Goals as goal

pub returns-in-Some-InRegister-clause-intids : goal.returns-in-Some-InRegister-clause-intids
returns-in-Some-InRegister-clause-intids c =
    rw c.in-Some-InRegister.field-0-is at (intids_named c.args.offset c.args.size c.in-Some-InRegister.field-0 (sym c.find.ensures ∙ c.in-Some-InRegister.is))

pub returns-in-Whole-clause-intids : goal.returns-in-Whole-clause-intids
returns-in-Whole-clause-intids c =
    rw (c.in-Some-InParts.field-0-is, c.in-Whole.is) at (intids_named c.args.offset c.args.size c.in-Some-InParts.field-0 (sym c.find.ensures ∙ c.in-Some-InParts.is))

pub returns-in-Low : goal.returns-in-Low
returns-in-Low c =
    let names = router_half c.args.offset c.args.size c.in-Some-InParts.field-0 c.in-Some-InParts.kind c.in-Some-InParts.first c.in-Some-InParts.count c.in-Some-InParts.half (sym c.find.ensures ∙ c.in-Some-InParts.is) c.in-Some-InParts.field-0-is c.in-Low.is in
    record { value = names.0; intids = names.1 }
