use Rattle.std.proofs.Common.{None, get_or, ap, ◌∙◌, arith}
use Rattle.vcpu_refill.specs.Order.{deliverable_among}
use Rattle.vcpu_refill.proofs.PlaceLemmas.{get_or-in_places}
use Rattle.vcpu_refill.proofs.chooser.Chooser.first.Goals as goal

pub returns : goal.returns
returns c cpu offers stands shape there =
    let keeps = stands shape there in
    ap (λ kept. get_or kept.deliverable.places 0 None) c.self.view_is
    ∙ ap (λ ranking. get_or ranking.places 0 None) keeps.kept_deliverable
    ∙ get_or-in_places (deliverable_among offers c.args.self.now.vcpu cpu shape) 0 None (omega arith)
