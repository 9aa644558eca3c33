use Rattle.std.proofs.Common.{◌∙◌, sym, take}
use Rattle.gic_host.specs.Text.{offers_at}
use Rattle.gic_host.proofs.OfferLemmas.{stands_more, stands_still}
use Rattle.gic_host.proofs.icc.chooser.Goals.{then-is_at, else-is_at}
use Rattle.gic_host.proofs.icc.chooser.Goals as goal

pub loop-link-preserved : goal.loop-link-preserved
loop-link-preserved c =
    elim c.if-is_at.branch [
      | then-is_at w ↦
          rw w.chooser-is
          (record {
            lrs = w.offer.ensures.lrs ∙ c.loop-link.invariant.lrs;
            vcpu = w.offer.ensures.vcpu ∙ c.loop-link.invariant.vcpu;
            stands = stands_more _ c.args.cpu.now c.args.links.now c.args.vcpu c.loop-link.link-index _ _ c.loop-link-test.true (sym c.is_at.ensures ∙ w.if-is_at.true) w.offer-offer.ensures (w.offer.ensures.stands (offers_at (take c.loop-link.link-index c.args.links.now) c.args.vcpu) c.loop-link.invariant.stands);
          })
      | else-is_at w ↦
          rw w.chooser-is
          (record {
            lrs = c.loop-link.invariant.lrs;
            vcpu = c.loop-link.invariant.vcpu;
            stands = stands_still _ c.args.cpu.now c.args.links.now c.args.vcpu c.loop-link.link-index _ c.loop-link-test.true (sym c.is_at.ensures ∙ w.if-is_at.false) c.loop-link.invariant.stands;
          })
    ]
