-- Steps that stand for nothing, and change nothing of what the ideal controller has.
use Rattle.std.proofs.Common.{◌≡◌, ℕ, ◌+◌, ◌/◌, ◌==◌, cond, Bool, true, false, Option, refl, sym, ap, ◌∙◌, subst}
use Rattle.law_lines_translate.specs.Words.{Key, GuestShape, Irq, irq_of, IsIrq}
use Rattle.law_lines_translate.specs.Registers.{Maps}
use Rattle.law_lines_translate.specs.Histories.{irq_at, Ideal}
use Rattle.law_lines_translate.specs.Core.{Kick, Mark, TakeIndex, Want, Irq as IrqWord, Vcpu, Index, Phase, Off, Scanning, Claiming, Loaded, Folding, local_after, phase_after, vcpu_of, index_bit, index_words, CoreState}
use Rattle.law_lines_translate.proofs.PortCore.StepWords.{packed_is}
use Rattle.law_core_is_history.specs.Related.{IsIrqRelated, locals_of, is_folding}
use Rattle.law_core_is_history.specs.Simulates.{IsSimulated}
use Rattle.law_core_is_history.proofs.RelatedLemmas.{quiet, irq_bare}
use Rattle.law_core_is_history.proofs.StepContext.{one, IsStep, has, finds, says_found, seat_same, lpis_back}

wanted : (irq : Irq) → IsIrq irq → IsIrq (record irq { want = true })
wanted irq is = record { prio = is.prio; prio_bits = is.prio_bits; active = is.active; holder = is.holder; route = is.route }

-- a scan that goes on gives nothing back
still_folding : (shape : GuestShape) (word : ℕ) (phase : Phase) → is_folding (phase_after shape word phase) ≡ is_folding phase
still_folding shape word Scanning = of (word + 1 == index_words shape)
  where
    of : (b : Bool) → is_folding (cond b Claiming Scanning) ≡ false
    of true = refl
    of false = refl
still_folding shape word Off = refl
still_folding shape word Claiming = refl
still_folding shape word Loaded = refl
still_folding shape word Folding = refl

module _ {shape : GuestShape} {state : CoreState} {ideal : Ideal} {actor found left : ℕ} {tables : Option Maps} where
  -- a kick of a vCPU
  pub simulates_kick : (vcpu : ℕ) → IsStep shape state ideal actor (Kick vcpu) found left tables → IsSimulated shape state ideal (one actor (Kick vcpu) found left tables)
  simulates_kick vcpu is =
      let local = locals_of state actor in
      let after = local_after shape actor local (Kick vcpu) found in
      quiet shape state ideal actor _ (Vcpu vcpu) left is.good is.sound is.related is.takes.actor (has is)
      (record {
        says = says_found is ∙ sym (ap (λ n. (vcpu_of n).lpis) is.takes.left ∙ lpis_back (record (vcpu_of found) { kick = true }));
        at = refl;
        mine = λ there. seat_same local after refl refl refl (is.related.seats actor there);
      })

  -- a mark of an interrupt
  pub simulates_mark : (key : Key) (vcpu : ℕ) → IsStep shape state ideal actor (Mark key vcpu) found left tables → IsSimulated shape state ideal (one actor (Mark key vcpu) found left tables)
  simulates_mark key vcpu is =
      let local = locals_of state actor in
      let after = local_after shape actor local (Mark key vcpu) found in
      quiet shape state ideal actor _ (Index vcpu (index_bit shape key / 64)) left is.good is.sound is.related is.takes.actor (has is)
      (record { says = tt; at = refl; mine = λ there. seat_same local after refl refl refl (is.related.seats actor there) })

  -- an access waits for an interrupt
  pub simulates_want : (key : Key) → IsStep shape state ideal actor (Want key) found left tables → IsSimulated shape state ideal (one actor (Want key) found left tables)
  simulates_want key is =
      let local = locals_of state actor in
      let after = local_after shape actor local (Want key) found in
      let irq = irq_of found in
      let packable : IsIrq irq = (finds is).valid.irq.packable in
      let word : irq_of left ≡ record irq { want = true } = ap irq_of is.takes.left ∙ packed_is (record irq { want = true }) (wanted irq packable) in
      quiet shape state ideal actor _ (IrqWord key) left is.good is.sound is.related is.takes.actor (has is)
      (record {
        says = subst (λ w. IsIrqRelated (locals_of state) key w (irq_at ideal.guest key)) (sym word) (irq_bare (locals_of state) key irq (record irq { want = true }) (irq_at ideal.guest key) refl refl (says_found is));
        at = refl;
        mine = λ there. seat_same local after refl refl refl (is.related.seats actor there);
      })

  -- the bits of a word of the vCPU's own index are taken
  pub simulates_take_index : (word : ℕ) → IsStep shape state ideal actor (TakeIndex word) found left tables → IsSimulated shape state ideal (one actor (TakeIndex word) found left tables)
  simulates_take_index word is =
      let local = locals_of state actor in
      let after = local_after shape actor local (TakeIndex word) found in
      quiet shape state ideal actor _ (Index actor word) left is.good is.sound is.related is.takes.actor (has is)
      (record { says = tt; at = refl; mine = λ there. seat_same local after refl refl (still_folding shape word local.phase) (is.related.seats actor there) })
