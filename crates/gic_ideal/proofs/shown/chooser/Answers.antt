use Rattle.std.proofs.Common.{◌≡◌, ◌++◌, ◌∷◌, [], List, map, refl, ap, ◌∙◌, subst}
use Rattle.std.specs.List.{range_with_len}
use Rattle.ideal_guest.specs.Words.{Key, Irq}
use Rattle.vcpu_refill.specs.declared.offer.Offer.{Offer}
use Rattle.vcpu_refill.specs.Chooser.{StandsFor}
use Rattle.ideal_guest.specs.Ideal.{irq_at}
use Rattle.gic_ideal.specs.Shown.{offer_at}
use Rattle.ideal_guest.proofs.GicOpen.RangeLemmas.{map_pushed}
use Rattle.gic_ideal.proofs.shown.chooser.Goals as goal

pub loop-place-init : goal.loop-place-init
loop-place-init c =
    record {
      lrs = c.fresh-chooser.ensures.lrs;
      vcpu = c.fresh-chooser.ensures.vcpu;
      stands = c.fresh-chooser.ensures.stands c.cpu-cpu.result;
    }

pub loop-place-preserved : goal.loop-place-preserved
loop-place-preserved c =
    let guest = c.args.guest.now in
    let place = c.loop-place.place in
    let key = c.key_at-key.result in
    let so_far : List Offer = map (offer_at guest) (range_with_len 0 place) in
    let one : Offer = record { key = key; irq = c.irq.result } in
    let is : one ≡ offer_at guest place = ap (λ (irq : Irq). record { key = key; irq = irq }) c.irq.ensures ∙ ap (λ (key : Key). record { key = key; irq = irq_at guest key }) c.key_at-key.ensures.value in
    record {
      lrs = c.offer.ensures.lrs ∙ c.loop-place.invariant.lrs;
      vcpu = c.offer.ensures.vcpu ∙ c.loop-place.invariant.vcpu;
      stands =
          subst (StandsFor c.offer.new.self c.cpu-cpu.result) (map_pushed (offer_at guest) place so_far (so_far ++ one ∷ []) one refl refl is)
          (c.offer.ensures.stands so_far c.loop-place.invariant.stands);
    }
