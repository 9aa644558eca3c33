-- What holds of each record holds of the record of each interrupt.
use Rattle.std.proofs.Common.{◌≡◌, ◌<◌, ◌↔◌, List, length, get_or, All, IsTrue, sym, ap, subst, ◌∙◌, arith}
use Rattle.std.proofs.lemmas.List.{get_or_default}
use Rattle.saved_guest.specs.IdealGuests.Words.{GuestShape, Key, IsShape, has_interrupt, interrupt_count, place_of, key_at, Irq}
use Rattle.saved_guest.specs.IdealGuests.Calls.{irq_in, opening_irq}
use Rattle.saved_guest.proofs.IdealGuests.GicOpen.KeyLemmas.{place_within, place_at, key_at_there, irq_in_there}
use Rattle.std.proofs.Common.{false}

pub of_each_key : (P : Irq → Type 0) (shape : GuestShape) (irqs : List Irq) → IsShape shape → length irqs ≡ interrupt_count shape → All P irqs ↔ ((key : Key) → IsTrue (has_interrupt shape key) → P (irq_in shape irqs key))
of_each_key P shape irqs is each = (
  λ all key there. subst P (sym (irq_in_there shape irqs key there)) (all (place_of shape key) (opening_irq false key) (omega (arith, each, place_within shape key is there))),
  λ keys k d below.
      let within : k < interrupt_count shape = omega (arith, each, below) in
      let key = key_at shape k in
      let there = key_at_there shape k is within in
      let at : get_or irqs (place_of shape key) (opening_irq false key) ≡ get_or irqs k d = ap (λ n. get_or irqs n (opening_irq false key)) (place_at shape k is within) ∙ get_or_default irqs k (opening_irq false key) d below in
      subst P (irq_in_there shape irqs key there ∙ at) (keys key there),
)
