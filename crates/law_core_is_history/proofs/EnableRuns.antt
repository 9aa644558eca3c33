-- What the words say of the copies of GICD_CTLR's enables.
use Rattle.std.proofs.Common.{◌≡◌, ℕ, ◌<◌, Bool, cond, IsTrue, ◌++◌, Option, Some, None, is_some, true, false, refl, sym, ap, ◌∙◌, subst, arith}
use Rattle.std.proofs.lemmas.Bool.{ltb-true}
use Rattle.law_lines_translate.specs.Words.{Key, GuestShape, has_interrupt, Irq, is_number, is_vcpu_or_none, irq_of}
use Rattle.law_lines_translate.specs.Registers.{Enables}
use Rattle.law_lines_translate.specs.Histories.{irq_at, Ideal, opening_course, course_of, IsHistory, IsWhole, copy_in}
use Rattle.law_histories.specs.Enables.{replaced_in, CopiesAgree, CopiesAgreeIn}
use Rattle.law_histories.proofs.EnableLaw.{enables_agree as histories_agree}
use Rattle.law_lines_translate.specs.Core.{AtIrq, Irq as IrqWord, Ctlr, given_back, entry_for, back_of, CoreState, opening, word_in, IsSound, end_of_moments, ideal_of}
use Rattle.law_lines_translate.proofs.PortCore.StepTies.{number_self}
use Rattle.law_lines_translate.proofs.CoreProper.PartLemmas.{ideal_append}
use Rattle.law_core_is_history.specs.Enables.{WordsAgree, EnablesAgree}
use Rattle.law_core_is_history.specs.Related.{IsHeldRelated, Related, locals_of}
use Rattle.law_core_is_history.proofs.HistorySteps.{run_leads}
use Rattle.law_core_is_history.proofs.PrefixLemmas.{parted_before, calls_before, whole_is}

module _ (shape : GuestShape) (state : CoreState) (ideal : Ideal) (sound : IsSound shape state) (related : Related shape state ideal) where
  -- what was given back of an interrupt has no copy
  given_copy : (vcpu : ℕ) (at : AtIrq) (word irq : Irq) → IsHeldRelated vcpu at word irq → copy_in word ≡ copy_in irq
  given_copy vcpu at word irq says = ap copy_in says.word_is ∙ of at.given
    where
      of : (b : Bool) → copy_in (cond b (given_back vcpu (back_of at) irq) irq) ≡ copy_in irq
      of true = refl
      of false = refl

  copy_same : (key : Key) → IsTrue (has_interrupt shape key) → copy_in (irq_of (word_in shape state (IrqWord key))) ≡ copy_in (irq_at ideal.guest key)
  copy_same key there = of (irq_of (word_in shape state (IrqWord key))).holder refl
    where
      word : Irq
      word = irq_of (word_in shape state (IrqWord key))

      held_by : (vcpu : ℕ) → (irq_of (word_in shape state (IrqWord key))).holder ≡ Some vcpu → (o : Option AtIrq) → entry_for key (locals_of state vcpu).at ≡ o → true ≡ is_some o → copy_in (irq_of (word_in shape state (IrqWord key))) ≡ copy_in (irq_at ideal.guest key)
      held_by vcpu h None e has = absurd (cc)
      held_by vcpu h (Some at) e has = given_copy vcpu at (irq_of (word_in shape state (IrqWord key))) (irq_at ideal.guest key) ((related.words (IrqWord key) there).held vcpu h at e)

      of : (o : Option ℕ) → (irq_of (word_in shape state (IrqWord key))).holder ≡ o → copy_in (irq_of (word_in shape state (IrqWord key))) ≡ copy_in (irq_at ideal.guest key)
      of None e = ap copy_in ((related.words (IrqWord key) there).home e)
      of (Some vcpu) e =
          let few : vcpu < shape.vcpus = ltb-true vcpu shape.vcpus (subst (λ o. IsTrue (is_vcpu_or_none shape o)) e (sound.words (IrqWord key) there).irq.holder) in
          held_by vcpu e (entry_for key (locals_of state vcpu).at) refl (sym (ap (is_number vcpu) e ∙ number_self vcpu) ∙ sound.ties vcpu (IrqWord key) (omega (arith, few)) there)

  words_agree : (old : Enables) → CopiesAgreeIn ideal old → WordsAgree shape state old
  words_agree old agree =
      let ctlr = related.words Ctlr refl in
      let same : CopiesAgree shape (irq_at ideal.guest) ideal.guest.enables old ideal.spreads = subst (λ s. CopiesAgree s (irq_at ideal.guest) ideal.guest.enables old ideal.spreads) related.shape_is agree in
      record {
        free = λ e key there. copy_same key there ∙ same.free (ctlr.spreads ∙ e) key there ∙ ctlr.enables;
        taken = λ actor e.
            let half = same.taken actor (ctlr.spreads ∙ e) in
            record {
              place = half.place;
              passed = λ key there l. copy_same key there ∙ half.passed key there l ∙ ctlr.enables;
              ahead = λ key there l. copy_same key there ∙ half.ahead key there l;
            };
      }

pub runs_agree : EnablesAgree
runs_agree guest number moments more good parted calls ended =
    let early = parted_before guest number moments more parted in
    let leads = run_leads guest number moments good early (calls_before guest.shape (opening guest number) (opening_course guest) moments more calls) in
    let whole = run_leads guest number (moments ++ more) good parted calls in
    let splits = ideal_append guest.shape (opening guest number) moments more in
    words_agree guest.shape (end_of_moments guest.shape (opening guest number) moments) (course_of (opening_course guest) (ideal_of guest.shape (opening guest number) moments)).ideal leads.at.sound leads.at.related (replaced_in guest (ideal_of guest.shape (opening guest number) moments)).1
    (histories_agree guest (ideal_of guest.shape (opening guest number) moments) (ideal_of guest.shape (end_of_moments guest.shape (opening guest number) moments) more) good
    (subst (IsHistory guest) splits whole.goes) (subst (IsWhole guest) splits (whole_is guest number (moments ++ more) good parted calls ended)))
