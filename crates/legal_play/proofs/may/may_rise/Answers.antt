use Rattle.std.proofs.Common.{◌&&◌, map, sym, ap, ◌∙◌}
use Rattle.legal_play.proofs.MayLemmas.{rises}
use Rattle.legal_play.proofs.may.may_rise.Goals as goal

pub returns-then-sets : goal.returns-then-sets
returns-then-sets c vcpu offset size write is =
    let below = c.are_below-below.result in
    ap (λ b. b && below) (sym c.if-sets.true)
    ∙ rises c.args.shape.now c.args.operation.now (map (λ happened. happened.event) c.args.piece.now) c.args.id vcpu offset size write c.sets_lpis-sets.result below is (c.sets_lpis-sets.ensures vcpu offset size write is) c.are_below-below.ensures

pub returns-else-sets : goal.returns-else-sets
returns-else-sets c vcpu offset size write is =
    let below = c.are_below-below.result in
    c.if-sets.false ∙ ap (λ b. b && below) (sym c.if-sets.false)
    ∙ rises c.args.shape.now c.args.operation.now (map (λ happened. happened.event) c.args.piece.now) c.args.id vcpu offset size write c.sets_lpis-sets.result below is (c.sets_lpis-sets.ensures vcpu offset size write is) c.are_below-below.ensures
