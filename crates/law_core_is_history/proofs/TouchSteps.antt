-- A touch of an interrupt that nobody holds.
use Rattle.std.proofs.Common.{◌≡◌, ℕ, ◌==◌, Bool, true, false, cond, Option, None, is_none, refl, sym, ap, ◌∙◌, subst}
use Rattle.std.proofs.lemmas.Bool.{and_parts}
use Rattle.std.proofs.lemmas.Option.{none-some}
use Rattle.law_lines_translate.specs.Words.{Key, Kind, SetEnable, ClearEnable, SetPending, ClearPending, SetActive, ClearActive, Priority, Config, Routing, GuestShape, is_sgi, Irq, irq_of, has_bit, target_in}
use Rattle.law_lines_translate.specs.GicBase.declared.operation.Kind.TheVariants.{Group}
use Rattle.law_lines_translate.specs.Calls.{Record, Touching, Register, Enables, MapLpi, touched}
use Rattle.law_lines_translate.specs.GicCall.declared.touch.Touching.TheVariants.{Read, Retarget, Configure, Forget}
use Rattle.law_lines_translate.specs.Registers.{part_written, activated, Maps}
use Rattle.law_lines_translate.specs.Histories.{irq_at, Ideal}
use Rattle.law_lines_translate.specs.Core.{Touch, local_done, touched_irq, CoreState}
use Rattle.law_lines_translate.proofs.PortCore.OwnLemmas.{owned_touched, touched_holder}
use Rattle.law_lines_translate.proofs.PortCore.StepTies.{none_is}
use Rattle.law_lines_translate.proofs.PortCore.StepWords.{packed_is, owned_of}
use Rattle.law_core_is_history.specs.Related.{bare, IsIrqRelated, locals_of}
use Rattle.law_core_is_history.specs.Simulates.{IsSimulated}
use Rattle.law_core_is_history.proofs.CauseSteps.{irq_event}
use Rattle.law_core_is_history.proofs.RelatedLemmas.{places_of}
use Rattle.law_core_is_history.proofs.StandingLemmas.{home_is}
use Rattle.law_core_is_history.proofs.StepContext.{one, IsStep, finds, says_found, seat_same}
use Rattle.law_core_is_history.proofs.TriedSteps.{tried}

-- a touch goes its way whoever holds the interrupt, and whether an access waits for it
touch_bare : (shape : GuestShape) (key : Key) (touch : Touching) (irq : Irq) → bare (touched shape key touch irq) ≡ touched shape key touch (bare irq)
touch_bare shape key (Read kind) irq = refl
touch_bare shape key (Register kind value) irq = of kind
  where
    either : (b : Bool) (change : Irq → Irq) → ((i : Irq) → bare (change i) ≡ change (bare i)) → bare (cond b (change irq) irq) ≡ cond b (change (bare irq)) (bare irq)
    either true change same = same irq
    either false change same = refl

    unless : (b : Bool) (change : Irq → Irq) → ((i : Irq) → bare (change i) ≡ change (bare i)) → bare (cond b irq (change irq)) ≡ cond b (bare irq) (change (bare irq))
    unless true change same = refl
    unless false change same = same irq

    of : (kind : Kind) → bare (part_written kind key irq value shape) ≡ part_written kind key (bare irq) value shape
    of Group = refl
    of SetEnable = either (value == 1) (λ irq. record irq { enabled = true }) (λ i. refl)
    of ClearEnable = either (value == 1) (λ irq. record irq { enabled = false }) (λ i. refl)
    of SetPending = either (value == 1) (λ irq. record irq { soft = true }) (λ i. refl)
    of ClearPending = either (value == 1) (λ irq. record irq { rise = false; soft = false }) (λ i. refl)
    of SetActive = either (value == 1) (λ i. record i { act_by = activated i.act_by (target_in i.route shape) }) (λ i. refl)
    of ClearActive = either (value == 1) (λ irq. record irq { act_by = None }) (λ i. refl)
    of Priority = refl
    of Config = unless (is_sgi key) (λ i. record i { edge = has_bit value 1 }) (λ i. refl)
    of Routing = refl
touch_bare shape key (Enables en0 en1) irq = refl
touch_bare shape key (MapLpi target enabled prio) irq = refl
touch_bare shape key (Retarget target) irq = refl
touch_bare shape key (Configure enabled prio) irq = refl
touch_bare shape key Forget irq = refl

module _ {shape : GuestShape} {state : CoreState} {ideal : Ideal} {actor found left : ℕ} {tables : Option Maps} where
  pub simulates_touch : (key : Key) (seen : ℕ) (kind : Touching) → IsStep shape state ideal actor (Touch key seen kind) found left tables → IsSimulated shape state ideal (one actor (Touch key seen kind) found left tables)
  simulates_touch key seen kind is =
      tried (Touch key seen kind) is refl
      (λ done word.
      let irq = irq_of found in
      let unheld : irq.holder ≡ None = none_is irq.holder (and_parts (found == seen) (is_none irq.holder) done).1 in
      let at_home : bare irq ≡ irq_at ideal.guest key = (says_found is).home unheld in
      let fits = (owned_touched shape key kind irq is.good is.takes.can unheld (owned_of shape key found (finds is).valid)).record_of.packable in
      let after : irq_of left ≡ touched_irq shape key kind irq = ap irq_of word ∙ packed_is (touched_irq shape key kind irq) (record { prio = fits.prio; prio_bits = fits.prio_bits; active = fits.active; holder = fits.holder; route = fits.route }) in
      let there = is.takes.can.there in
      let shape_is = (places_of shape state ideal is.related).shape_is in
      record {
        can = is.takes.can;
        allowed = home_is is.sound is.related key there (subst (λ n. (irq_of n).holder ≡ None) is.takes.found unheld);
        hands = ap Record (ap (λ o. record irq { holder = o; want = false }) unheld ∙ at_home);
        related = irq_event shape state ideal actor _ key (touched ideal.guest.shape key kind) left is.good is.sound is.related is.takes.actor there
            (subst (λ w. IsIrqRelated (locals_of state) key w (touched ideal.guest.shape key kind (irq_at ideal.guest key))) (sym after)
            (record {
              home = λ h. touch_bare shape key kind irq ∙ ap (touched shape key kind) at_home ∙ ap (λ s. touched s key kind (irq_at ideal.guest key)) (sym shape_is);
              held = λ vcpu h. absurd (none-some vcpu (sym (touched_holder shape key kind irq ∙ unheld) ∙ h));
            })) refl
            (λ l. seat_same (locals_of state actor) (local_done shape actor (locals_of state actor) (Touch key seen kind) found) refl refl refl (is.related.seats actor l));
      })
