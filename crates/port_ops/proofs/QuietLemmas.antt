-- Where all interrupts are quiet, the candidate indices are empty.
use Rattle.std.proofs.Common.{◌≡◌, ℕ, zero, suc, ◌+◌, ◌*◌, ◌&&◌, ◌||◌, not, Bool, true, false, IsTrue, is_none, nat_lt, All, List, Option, None, Some, fold, length, get_or, cond, inl, inr, refl, sym, ap, subst, ◌∙◌}
use Rattle.std.specs.List.{range_with_len}
use Rattle.std.proofs.lemmas.Bool.{and_parts, cases_lt}
use Rattle.std.proofs.lemmas.List.{get_or_past}
use Rattle.std.proofs.lemmas.List.Elements.{All-get_or}
use Rattle.port_core.specs.Words.{GuestShape, Key, Private, Spi, Lpi, Irq, has_interrupt, place_of, is_pending, is_number, is_forwarded, target_in}
use Rattle.port_core.specs.Calls.{irq_in, opening_irq}
use Rattle.port_core.specs.IdealGuests.Ideal.{irq_at}
use Rattle.port_core.specs.IdealGuests.declared.guest.IdealGuest.{IdealGuest}
use Rattle.port_core.specs.Place.{index_bits, key_of_bit}
use Rattle.port_core.specs.Run.{concerns, is_asked, opening_index}
use Rattle.port_ops.specs.Quiet.{is_quiet}
use Rattle.port_ops.proofs.WordLemmas.{put, put_unasked}

-- a quiet interrupt concerns no vCPU
quiet_concerns : (shape : GuestShape) (vcpu : ℕ) (irq : Irq) → IsTrue (is_quiet irq) → concerns shape vcpu irq ≡ false
quiet_concerns shape vcpu irq quiet =
    let parts = and_parts (not (is_pending irq)) (is_none irq.act_by) quiet in
    of (is_pending irq) irq.enabled (is_forwarded irq) (is_number vcpu (target_in irq.route shape)) irq.act_by parts.0 parts.1
  where
    of : (pending enabled forwarded targeted : Bool) (active : Option ℕ) → IsTrue (not pending) → IsTrue (is_none active) → (pending && enabled && forwarded && targeted || is_number vcpu active) ≡ false
    of true enabled forwarded targeted active none still = absurd (cc)
    of false enabled forwarded targeted (Some n) none still = absurd (cc)
    of false enabled forwarded targeted None none still = refl

opening_quiet : (key : Key) → IsTrue (is_quiet (opening_irq false key))
opening_quiet (Private vcpu id) = of (nat_lt id 16)
  where
    of : (edge : Bool) → IsTrue (not (cond edge false false || false) && true)
    of true = refl
    of false = refl
opening_quiet (Spi id) = refl
opening_quiet (Lpi id) = refl

-- each interrupt is quiet, also one that the guest does not have
quiet_at : (shape : GuestShape) (irqs : List Irq) (key : Key) → All (λ irq. IsTrue (is_quiet irq)) irqs → IsTrue (is_quiet (irq_in shape irqs key))
quiet_at shape irqs key all = of (has_interrupt shape key)
  where
    there : IsTrue (is_quiet (get_or irqs (place_of shape key) (opening_irq false key)))
    there = elim (cases_lt (place_of shape key) (length irqs)) [
      | inl within ↦ All-get_or (λ irq. IsTrue (is_quiet irq)) irqs (place_of shape key) (opening_irq false key) within all
      | inr past ↦ subst (λ irq. IsTrue (is_quiet irq)) (sym (get_or_past irqs (place_of shape key) (opening_irq false key) past)) (opening_quiet key)
    ]

    of : (b : Bool) → IsTrue (is_quiet (cond b (get_or irqs (place_of shape key) (opening_irq false key)) (opening_irq false key)))
    of true = there
    of false = opening_quiet key

none_asked : (guest : IdealGuest) (vcpu bit : ℕ) → All (λ irq. IsTrue (is_quiet irq)) guest.irqs → is_asked guest vcpu bit ≡ false
none_asked guest vcpu bit all =
    let key = key_of_bit guest.shape vcpu bit in
    ap (λ b. nat_lt bit (index_bits guest.shape) && b) (quiet_concerns guest.shape vcpu (irq_at guest key) (quiet_at guest.shape guest.irqs key all))
    ∙ and_false (nat_lt bit (index_bits guest.shape))
  where
    and_false : (b : Bool) → (b && false) ≡ false
    and_false true = refl
    and_false false = refl

-- nothing is put where nothing is asked for
none_put : (asks : ℕ → Bool) → ((bit : ℕ) → asks bit ≡ false) → (n from word : ℕ) → fold (put asks) word (range_with_len from n) ≡ word
none_put asks none zero from word = refl
none_put asks none (suc n) from word = ap (λ w. fold (put asks) w (range_with_len (from + 1) n)) (sym (put_unasked asks word from word (none from) refl)) ∙ none_put asks none n (from + 1) word

pub quiet_index : (guest : IdealGuest) (vcpu number : ℕ) → All (λ irq. IsTrue (is_quiet irq)) guest.irqs → 0 ≡ opening_index guest vcpu number
quiet_index guest vcpu number all = sym (none_put (λ bit. is_asked guest vcpu (64 * number + bit)) (λ bit. none_asked guest vcpu (64 * number + bit) all) 64 0 0)
