use Rattle.std.proofs.Common.{cond, ◌∙◌, sym, ap, subst}
use Rattle.vcpu_refill.specs.declared.offer.Offer.{Offer}
use Rattle.vcpu_refill.specs.Order.{is_active_by, is_deliverable_to, inserted, active_among, deliverable_among}
use Rattle.vcpu_refill.specs.Chooser.{StandsFor}
use Rattle.vcpu_refill.specs.Ranking.{ranking_of}
use Rattle.vcpu_refill.proofs.OrderLemmas.{ordered_more}
use Rattle.vcpu_refill.proofs.chooser.Chooser.offer.Goals as goal

pub returns-clause-stands : goal.returns-clause-stands
returns-clause-stands c offers stands shape there =
    let vcpu = c.self.inside.vcpu in
    let cpu = c.args.cpu.now in
    let one : Offer = record { key = c.args.key; irq = c.args.irq.now } in
    let keeps = subst (λ kept. StandsFor kept cpu offers) (sym c.self.view_is) stands shape there in
    let active = active_among offers vcpu in
    let deliverable = deliverable_among offers vcpu cpu shape in
    record {
      kept_active =
          c.put_where.ensures active keeps.kept_active
          ∙ ap (λ counts. ranking_of (cond counts (inserted one active) active)) c.is_active_by.ensures
          ∙ ap ranking_of (sym (ordered_more (is_active_by vcpu) offers one));
      kept_deliverable =
          c.put_where-2.ensures deliverable keeps.kept_deliverable
          ∙ ap (λ counts. ranking_of (cond counts (inserted one deliverable) deliverable)) (c.is_deliverable_to.ensures shape there)
          ∙ ap ranking_of (sym (ordered_more (is_deliverable_to vcpu cpu shape) offers one));
    }
