-- Steps that only read.
use Rattle.std.proofs.Common.{◌≡◌, ℕ, ◌<◌, ◌≤◌, ◌-◌, ◌/◌, ◌%◌, ◌==◌, nat_lt, lt-ltb, arith, Bool, true, false, cond, IsTrue, Option, None, is_some, refl, sym, ap, ◌∙◌, subst}
use Rattle.std.proofs.lemmas.Bool.{ltb-true, ltb-false}
use Rattle.law_lines_translate.specs.Words.{Key, GuestShape, irq_of}
use Rattle.law_lines_translate.specs.GicCall.declared.event.Event.TheVariants.{Read}
use Rattle.law_lines_translate.specs.GicCall.declared.event.Place.TheVariants.{Word}
use Rattle.law_lines_translate.specs.Calls.{Ram, Propbaser, Pendbaser, ItsCtlr, Cbaser, Cwriter, Baser0, Baser1, Fault, has_plain, plain_count, vcpus_from, its_from, its_word_of, vcpu_word_of, plain_at}
use Rattle.law_lines_translate.specs.GicCall.declared.event.Found.TheVariants.{Word as FoundWord, Queue as FoundQueue, Ctlr as FoundCtlr, Lpis as FoundLpis}
use Rattle.law_lines_translate.specs.Registers.{queue_of, Maps}
use Rattle.law_lines_translate.specs.Histories.{Ideal}
use Rattle.law_lines_translate.specs.Core.{Local, Look, RamLook, WordId, Irq as IrqWord, Vcpu, Queue, Ctlr, Plain, Index, Line, local_after, is_settled_by_look, fault_place, ctlr_of, with_found, settled, CoreState, after}
use Rattle.law_core_is_history.specs.Related.{WordSays, Related, locals_of, is_folding}
use Rattle.law_core_is_history.specs.Simulates.{IsSimulated, IsSimulatedAs}
use Rattle.law_core_is_history.proofs.LineSteps.{simulates_on_line}
use Rattle.law_core_is_history.proofs.RelatedLemmas.{quiet, IsQuiet}
use Rattle.law_core_is_history.proofs.StepContext.{one, IsStep, has, says_found, seat_same}

-- the plain word of a number is one of the guest
pub plain_there : (shape : GuestShape) (index : ℕ) → index < plain_count shape → IsTrue (has_plain shape (plain_at shape index))
plain_there shape index there = of (nat_lt index (vcpus_from shape)) refl (nat_lt index (its_from shape)) refl
  where
    vcpu : (b : Bool) (n : ℕ) → n / 2 < shape.vcpus → IsTrue (has_plain shape (cond b (Propbaser (n / 2)) (Pendbaser (n / 2))))
    vcpu true n l = lt-ltb (n / 2) shape.vcpus l
    vcpu false n l = lt-ltb (n / 2) shape.vcpus l

    its : (a b c d e : Bool) → IsTrue (has_plain shape (cond a ItsCtlr (cond b Cbaser (cond c Cwriter (cond d Baser0 (cond e Baser1 Fault))))))
    its true b c d e = refl
    its false true c d e = refl
    its false false true d e = refl
    its false false false true e = refl
    its false false false false true = refl
    its false false false false false = refl

    of : (a : Bool) → nat_lt index (vcpus_from shape) ≡ a → (b : Bool) → nat_lt index (its_from shape) ≡ b
        → IsTrue (has_plain shape (cond a (Ram index) (cond b (vcpu_word_of (index - vcpus_from shape)) (its_word_of (index - its_from shape)))))
    of true e b f = e
    of false e true f =
        let from : vcpus_from shape ≤ index = ltb-false index (vcpus_from shape) e in
        let below : index < its_from shape = ltb-true index (its_from shape) f in
        vcpu ((index - vcpus_from shape) % 2 == 0) (index - vcpus_from shape) (omega (arith, from, below))
    of false e false f = let n = index - its_from shape in its (n == 0) (n == 1) (n == 2) (n == 3) (n == 4)

module _ {shape : GuestShape} {state : CoreState} {ideal : Ideal} {actor found left : ℕ} {tables : Option Maps} where
  -- a look leaves the word as it is, and of its actor all but the candidates
  looked_quiet : (word : WordId) → IsStep shape state ideal actor (Look word) found left tables → (after : Local) → after.at ≡ (locals_of state actor).at → after.cpu ≡ (locals_of state actor).cpu → is_folding after.phase ≡ is_folding (locals_of state actor).phase
      → IsQuiet shape state ideal actor after word left
  looked_quiet word is after at cpu phase = record {
    says = subst (WordSays shape (locals_of state) ideal word) (sym is.takes.left) (says_found is);
    at = at;
    mine = λ there. seat_same (locals_of state actor) after at cpu phase (is.related.seats actor there);
  }

  -- at an interrupt
  looks_at_irq : (key : Key) → IsStep shape state ideal actor (Look (IrqWord key)) found left tables → IsSimulated shape state ideal (one actor (Look (IrqWord key)) found left tables)
  looks_at_irq key is =
      let local = locals_of state actor in
      let b = is_settled_by_look shape actor (irq_of found) in
      quiet shape state ideal actor _ (IrqWord key) left is.good is.sound is.related is.takes.actor (has is) (looked_quiet (IrqWord key) is (local_after shape actor local (Look (IrqWord key)) found) (at_of b) (cpu_of b) (phase_of b))
    where
      at_of : (b : Bool) → (cond b (record (locals_of state actor) { cands = settled shape actor key (locals_of state actor).cands }) (locals_of state actor)).at ≡ (locals_of state actor).at
      at_of true = refl
      at_of false = refl

      cpu_of : (b : Bool) → (cond b (record (locals_of state actor) { cands = settled shape actor key (locals_of state actor).cands }) (locals_of state actor)).cpu ≡ (locals_of state actor).cpu
      cpu_of true = refl
      cpu_of false = refl

      phase_of : (b : Bool) → is_folding (cond b (record (locals_of state actor) { cands = settled shape actor key (locals_of state actor).cands }) (locals_of state actor)).phase ≡ is_folding (locals_of state actor).phase
      phase_of true = refl
      phase_of false = refl

  pub simulates_look : (word : WordId) → IsStep shape state ideal actor (Look word) found left tables → IsSimulated shape state ideal (one actor (Look word) found left tables)
  simulates_look (IrqWord key) is = looks_at_irq key is
  simulates_look (Plain index) is = quiet shape state ideal actor _ (Plain index) left is.good is.sound is.related is.takes.actor (has is) (looked_quiet (Plain index) is (locals_of state actor) refl refl refl)
  simulates_look (Index vcpu number) is = quiet shape state ideal actor _ (Index vcpu number) left is.good is.sound is.related is.takes.actor (has is) (looked_quiet (Index vcpu number) is (locals_of state actor) refl refl refl)
  simulates_look (Line number) is = simulates_on_line (Look (Line number)) number refl refl refl is
  simulates_look (Vcpu vcpu) is = record {
    can = is.takes.can;
    allowed = refl;
    hands = sym (ap FoundLpis (says_found is));
    related = quiet shape state ideal actor _ (Vcpu vcpu) left is.good is.sound is.related is.takes.actor (has is) (looked_quiet (Vcpu vcpu) is (locals_of state actor) refl refl refl);
  }
  simulates_look Queue is = record {
    can = refl;
    allowed = refl;
    hands = sym (ap (λ o. FoundQueue o ideal.guest.is_stalled) (says_found is).offset ∙ ap (FoundQueue (queue_of found).offset) (says_found is).stalled);
    related = quiet shape state ideal actor _ Queue left is.good is.sound is.related is.takes.actor (has is) (looked_quiet Queue is (locals_of state actor) refl refl refl);
  }
  simulates_look Ctlr is = record {
    can = refl;
    allowed = refl;
    hands = sym (ap (λ e. FoundCtlr e (is_some ideal.spreads)) (says_found is).enables ∙ ap (λ m. FoundCtlr (ctlr_of found).enables (is_some m)) (says_found is).spreads);
    related = quiet shape state ideal actor _ Ctlr left is.good is.sound is.related is.takes.actor (has is) (looked_quiet Ctlr is (locals_of state actor) refl refl refl);
  }

  -- at a plain word; the number of a fault is no read
  pub simulates_ram_look : (index : ℕ) → IsStep shape state ideal actor (RamLook index) found left tables → IsSimulated shape state ideal (one actor (RamLook index) found left tables)
  simulates_ram_look index is = of (index == fault_place shape) refl
    where
      core : Related shape (after shape state (one actor (RamLook index) found left tables)) ideal
      core = quiet shape state ideal actor _ (Plain index) left is.good is.sound is.related is.takes.actor (has is)
          (record { says = subst (WordSays shape (locals_of state) ideal (Plain index)) (sym is.takes.left) (says_found is); at = refl; mine = λ there. is.related.seats actor there })

      of : (b : Bool) → (index == fault_place shape) ≡ b → IsSimulatedAs shape (after shape state (one actor (RamLook index) found left tables)) ideal actor (cond b None (with_found (Read (Word (plain_at shape index))) (FoundWord found)))
      of true e = core
      of false e = record {
        can = plain_there shape index is.takes.can;
        allowed = refl;
        hands = sym (ap FoundWord ((says_found is).stored e));
        related = core;
      }
