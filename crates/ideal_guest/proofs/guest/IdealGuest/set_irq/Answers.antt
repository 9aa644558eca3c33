use Rattle.std.proofs.Common.{◌∙◌, sym, ap, subst, set}
use Rattle.floor_calls.proofs.GicOpen.KeyLemmas.{with_irq_in_there}
use Rattle.ideal_guest.specs.Sound.{IsSound}
use Rattle.ideal_guest.proofs.SoundLemmas.{sound_put}
use Rattle.ideal_guest.proofs.guest.IdealGuest.set_irq.Goals as goal

pub returns-clause-sound : goal.returns-clause-sound
returns-clause-sound c =
    let guest = c.args.self.now in
    subst (λ irqs. IsSound (record guest { irqs = irqs }))
    (with_irq_in_there guest.shape c.args.key c.args.irq guest.irqs c.requires.there
    ∙ ap (λ place. set guest.irqs place c.args.irq) (sym c.place_of-place.ensures.value)
    ∙ sym c.set.ensures)
    (sound_put guest c.args.key c.args.irq c.requires.sound (λ there. c.requires.valid))
