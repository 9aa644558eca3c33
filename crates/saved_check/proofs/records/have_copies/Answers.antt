use Rattle.std.proofs.Common.{◌≡◌}
use Rattle.saved_guest.specs.IdealGuests.CanOpen.{copy_in}
use Rattle.saved_check.proofs.CopyLemmas.{of_each_key}
use Rattle.saved_check.proofs.records.have_copies.Goals as goal

pub returns : goal.returns
returns c =
    let each = of_each_key (λ irq. copy_in irq ≡ c.args.enables) c.args.shape.now c.args.irqs.now c.requires.shape c.requires.each in
    (λ e. each.0 (c.are_copies.ensures.0 e), λ keys. c.are_copies.ensures.1 (each.1 keys))
