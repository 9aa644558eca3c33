-- Looks find for which vCPUs LPIs are, and nobody moves them meanwhile.
use Rattle.std.proofs.Common.{◌≡◌, ℕ, arith, Bool, true, false, cond, IsTrue, List, ◌∷◌, ◌++◌, Option, Some, None, is_some, ◌<◌, refl, sym, ap, ◌∙◌, subst}
use Rattle.std.specs.List.{list_all}
use Rattle.std.proofs.lemmas.Bool.{and_parts, eq-eqb, ltb-true}
use Rattle.std.proofs.lemmas.List.Folds.{list_all-append}
use Rattle.law_unmapped_lpis.specs.Words.{Lpi, GuestShape, Key, Irq as IrqRecord, is_vcpu_or_none, is_number, target_in, irq_of}
use Rattle.law_unmapped_lpis.specs.Histories.{irq_at, Ideal, targets_in}
use Rattle.law_unmapped_lpis.proofs.IdealGuests.KeyLemmas.{IsWhole}
use Rattle.law_serial_is_eager.proofs.LawLoneCallsAreEager.CommandLemmas.{events_both}
use Rattle.law_serial_is_eager.proofs.LawLoneCallsAreEager.RunLemmas.{events_of}
use Rattle.pe_mem.specs.Core.{AtIrq, Made, Look, Irq as IrqWord, given_back, back_of, entry_for, is_at, has_word, CanStep, word_of, CoreState, IsSound, word_in}
use Rattle.law_serial_is_eager.specs.LawCoreIsHistory.Related.{Related, in_word, locals_of}
use Rattle.law_found_parts_are_calls.proofs.HereRuns.{AreHere, IsHere, after_steps, happened_in, happened_join, here_join, ideal_after, ideal_is}
use Rattle.law_found_parts_are_calls.proofs.SteadyLemmas.{is_steady, targets_steady}

back_route : (vcpu : ℕ) (at : AtIrq) (irq : IrqRecord) → (in_word vcpu at irq).route ≡ irq.route
back_route vcpu at irq = of at.given
  where
    of : (b : Bool) → (cond b (given_back vcpu (back_of at) irq) irq).route ≡ irq.route
    of true = refl
    of false = refl

entry_there : (key : Key) (at : List AtIrq) → is_at key at ≡ true → (entry : AtIrq) × (entry_for key at ≡ Some entry)
entry_there key at h = of (entry_for key at) refl h
  where
    of : (o : Option AtIrq) → entry_for key at ≡ o → is_some o ≡ true → (entry : AtIrq) × (entry_for key at ≡ Some entry)
    of None e h = absurd (cc)
    of (Some entry) e h = (entry, e)

-- a word says where its interrupt goes, whoever holds that
pub word_route : (shape : GuestShape) (state : CoreState) (ideal : Ideal) (id : ℕ) → IsSound shape state → Related shape state ideal → IsTrue (has_word shape (IrqWord (Lpi id))) → (irq_of (word_in shape state (IrqWord (Lpi id)))).route ≡ (irq_at ideal.guest (Lpi id)).route
word_route shape state ideal id sound related there = of (irq_of (word_in shape state (IrqWord (Lpi id)))).holder refl
  where
    of : (o : Option ℕ) → (irq_of (word_in shape state (IrqWord (Lpi id)))).holder ≡ o → (irq_of (word_in shape state (IrqWord (Lpi id)))).route ≡ (irq_at ideal.guest (Lpi id)).route
    of None e = ap (λ (i : IrqRecord). i.route) ((related.words (IrqWord (Lpi id)) there).home e)
    of (Some vcpu) e =
        let within : IsTrue (is_vcpu_or_none shape (Some vcpu)) = subst (λ o. IsTrue (is_vcpu_or_none shape o)) e (sound.words (IrqWord (Lpi id)) there).irq.holder in
        let few : vcpu < shape.vcpus = ltb-true vcpu shape.vcpus within in
        let mine : is_number vcpu (irq_of (word_in shape state (IrqWord (Lpi id)))).holder ≡ true = ap (is_number vcpu) e ∙ eq-eqb vcpu vcpu refl in
        let entry = entry_there (Lpi id) (locals_of state vcpu).at (sym (sound.ties vcpu (IrqWord (Lpi id)) (omega (arith, few)) there) ∙ mine) in
        ap (λ (i : IrqRecord). i.route) ((related.words (IrqWord (Lpi id)) there).held vcpu e entry.0 entry.1).word_is ∙ back_route vcpu entry.0 (irq_at ideal.guest (Lpi id))

look_finds : (shape : GuestShape) (actor : ℕ) (state : CoreState) (ideal : Ideal) (made : Made) (id : ℕ) → IsHere shape actor state ideal made → made.step ≡ Look (IrqWord (Lpi id)) → targets_in ideal id ≡ target_in (irq_of made.found).route shape
look_finds shape actor state ideal made id here is =
    let there : IsTrue (has_word shape (IrqWord (Lpi id))) = subst (CanStep shape actor) is here.takes.can in
    let found : made.found ≡ word_in shape state (IrqWord (Lpi id)) = here.takes.found ∙ ap (λ step. word_in shape state (word_of shape actor step)) is in
    let same = word_route shape state ideal id here.sound here.related there in
    ap (λ s. target_in (irq_at ideal.guest (Lpi id)).route s) here.related.shape_is
    ∙ ap (λ r. target_in r shape) (sym same ∙ ap (λ n. (irq_of n).route) (sym found))

-- a look among some steps found for which vCPU the LPI was as they began
pub look_agrees :
    (shape : GuestShape) (actor : ℕ) (early late : List Made) (look : Made) (state : CoreState) (ideal : Ideal) (id : ℕ) → AreHere shape actor state ideal (early ++ look ∷ late)
    → IsTrue (list_all is_steady (events_of (happened_in shape actor state (early ++ look ∷ late)))) → IsWhole ideal.guest → look.step ≡ Look (IrqWord (Lpi id)) → targets_in ideal id ≡ target_in (irq_of look.found).route shape
look_agrees shape actor early late look state ideal id here steady whole is =
    let rest = look ∷ late in
    let middle = after_steps shape actor state early in
    let first = events_of (happened_in shape actor state early) in
    let later = events_of (happened_in shape actor middle rest) in
    let split : events_of (happened_in shape actor state (early ++ rest)) ≡ first ++ later = ap events_of (happened_join shape actor early rest state) ∙ events_both (happened_in shape actor state early) (happened_in shape actor middle rest) in
    let parts = and_parts (list_all is_steady first) (list_all is_steady later) (sym (ap (list_all is_steady) split ∙ list_all-append is_steady first later) ∙ steady) in
    let now : targets_in (ideal_after shape actor state ideal early) id ≡ targets_in ideal id
    = ap (λ (i : Ideal). targets_in i id) (ideal_is shape actor early state ideal) ∙ targets_steady actor first ideal id parts.0 whole in
    sym now ∙ look_finds shape actor middle (ideal_after shape actor state ideal early) look id (here_join shape actor early rest state ideal here).1.0 is
