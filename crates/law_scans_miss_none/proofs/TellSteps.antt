-- What each step leaves of its own interrupt, and whom it owes for that.
use Rattle.std.proofs.Common.{◌≡◌, ◌≢◌, ℕ, ◌^◌, ◌<◌, ◌==◌, ◌&&◌, ◌||◌, ◌⊎◌, inl, inr, true≢false, not, Bool, true, false, IsTrue, List, [], ◌∷◌, Option, Some, None, is_none, is_some, if◌then◌else◌, refl, sym, ap, ◌∙◌, subst, arith}
use Rattle.std.specs.Option.{option_map_or}
use Rattle.std.proofs.lemmas.Bool.{and_parts, and_from, or_cases, ltb-true, eqb-true}
use Rattle.std.proofs.lemmas.Grind.{common_steps}
use Rattle.std.proofs.lemmas.Option.{none-some}
use Rattle.law_registers_stand.proofs.PortCore.IndexLemmas.{or_left, or_right, pow_self}
use Rattle.law_registers_stand.specs.Registers.{Targets, Maps}
use Rattle.law_registers_stand.specs.Words.{Back, Key, Private, Spi, Lpi, GuestShape, has_interrupt, is_of_vcpu, is_same_key, IsShape, has_bit, Irq as IrqRecord, raised, wire_up, wire_down, is_number, is_ripe, is_pending, is_forwarded, target_in, irq_of, packed, IsIrq, IsSeat}
use Rattle.law_registers_stand.proofs.GicBase.KeyLemmas.{same_itself}
use Rattle.law_registers_stand.specs.Calls.{Touching, may_reach, may_take, reached, taken, touched}
use Rattle.law_registers_stand.specs.Core.{AtIrq, Local, CoreStep, Look, Raise, Claim, GiveBack, Release, Touch, Want, WireUp, WireDown, WordId, Irq, local_after, concerned, concerned_by, holder_or_active, target_of, marked_of_release, told_of_release, succeeds, changed, claimed_irq, may_move, may_hold, moved_of, touched_irq, given_back, released, is_active_at, is_vcpu, with_all, with_some, with_vcpu, no_vcpus, owing_both, entry_for, without_at, back_of, index_bit, CoreState, seat_at, word_of, IsIrqWord, look_event, event_done, concerns}
use Rattle.law_registers_stand.proofs.PortCore.StepTies.{number_is, none_is}
use Rattle.law_registers_stand.proofs.PortCore.StepWords.{packed_is, owned_of}
use Rattle.law_registers_stand.proofs.PortCore.StepMade.{all_three}
use Rattle.law_registers_stand.proofs.PortCore.OwnLemmas.{told_target, owned_touched, owned_released}
use Rattle.law_registers_stand.proofs.PortCore.AtomicLemmas.{moved_packable}
use Rattle.law_registers_stand.specs.Histories.{Ideal, irq_at}
use Rattle.law_registers_stand.proofs.LawCoreIsHistory.StepContext.{one, IsStep, finds, says_found}
use Rattle.law_registers_stand.specs.LawCoreIsHistory.Related.{bare}
use Rattle.law_scans_miss_none.specs.Index.{waits_for, owes_kick, owes_mark}
use Rattle.law_scans_miss_none.proofs.ToldLemmas.{unwanted, IsOwnRelease, event_changes, step_changes, IsAsBefore, IsOwedNow}

-- Bits of sets.

some_keeps : (set : Targets) (o : Option ℕ) (v : ℕ) → IsTrue (has_bit set.0 v) → IsTrue (has_bit (with_some set o).0 v)
some_keeps set None v h = h
some_keeps set (Some w) v h = or_left set.0 (2 ^ w) v h

pub all_keep : (set : Targets) (vcpus : List (Option ℕ)) (v : ℕ) → IsTrue (has_bit set.0 v) → IsTrue (has_bit (with_all set vcpus).0 v)
all_keep set [] v h = h
all_keep set (o ∷ vcpus) v h = all_keep (with_some set o) vcpus v (some_keeps set o v h)

-- a vCPU in front is among them
pub first_has : (set : Targets) (o : Option ℕ) (vcpus : List (Option ℕ)) (v : ℕ) → o ≡ Some v → IsTrue (has_bit (with_all set (o ∷ vcpus)).0 v)
first_has set o vcpus v e = subst (λ p. IsTrue (has_bit (with_all set (p ∷ vcpus)).0 v)) (sym e) (all_keep (with_vcpu set v) vcpus v (or_right set.0 (2 ^ v) v (pow_self v)))

-- Interrupts that concern a vCPU.

-- it is their target, or they are active by it
pub concerns_by : (shape : GuestShape) (vcpu : ℕ) (irq : IrqRecord) → IsTrue (concerns shape vcpu irq) → (target_in irq.route shape ≡ Some vcpu) ⊎ (irq.act_by ≡ Some vcpu)
concerns_by shape vcpu irq h = elim (or_cases (is_ripe irq vcpu shape) (is_number vcpu irq.act_by) h) [
  | inl ripe ↦ inl (number_is vcpu (target_in irq.route shape) (and_parts (is_pending irq && irq.enabled && is_forwarded irq) (is_number vcpu (target_in irq.route shape)) ripe).1)
  | inr active ↦ inr (number_is vcpu irq.act_by active)
]

-- so they are ones that it can get to
pub concerns_own : (shape : GuestShape) (key : Key) (vcpu : ℕ) (word : ℕ) → IsTrue (has_interrupt shape key) → IsIrqWord shape key word → IsTrue (concerns shape vcpu (irq_of word)) → IsTrue (is_of_vcpu vcpu key)
concerns_own shape key vcpu word there is h = elim (concerns_by shape vcpu (irq_of word) h) [
  | inl target ↦ subst (λ o. IsTrue (option_map_or (λ v. is_of_vcpu v key) o true)) target (told_target shape key (irq_of word).route there is.irq.route).own
  | inr active ↦ subst (λ o. IsTrue (option_map_or (λ v. is_of_vcpu v key) o true)) active is.active
]

-- one bit, one interrupt of a vCPU
pub same_bit : (shape : GuestShape) (vcpu : ℕ) (one other : Key) → IsShape shape → IsTrue (has_interrupt shape one) → IsTrue (has_interrupt shape other) → IsTrue (is_of_vcpu vcpu one) → IsTrue (is_of_vcpu vcpu other) → index_bit shape one ≡ index_bit shape other → one ≡ other
same_bit shape vcpu (Private v i) (Private w j) is here there own too e = private v w i j (eqb-true v vcpu own ∙ sym (eqb-true w vcpu too)) e
  where
    private : (v w i j : ℕ) → v ≡ w → i ≡ j → Private v i ≡ Private w j
    private v w i j e f = cc
same_bit shape vcpu (Spi i) (Spi j) is here there own too e = ap Spi (grind (arith, common_steps, here, there, e))
same_bit shape vcpu (Lpi i) (Lpi j) is here there own too e = ap Lpi (grind (arith, common_steps, here, there, e))
same_bit shape vcpu one other is here there own too e = absurd (grind (arith, common_steps, here, there, e))

-- Whom a change of an interrupt is owed to.

same_irq : (one other : Key) → Irq one ≡ Irq other → one ≡ other
same_irq one other e = cc

-- a vCPU whose bit is set among those to be marked
owed_in : (key k : Key) (vcpu : ℕ) (kicks marks : List (Option ℕ)) (local : Local) → Irq key ≡ Irq k → IsTrue (has_bit (with_all no_vcpus marks).0 vcpu) → IsTrue (owes_mark k vcpu (record local { owes = with_all local.owes kicks; marks = record { key = Some key; vcpus = with_all no_vcpus marks } }))
owed_in key k vcpu kicks marks local e h = and_from (is_same_key key k) (has_bit (with_all no_vcpus marks).0 vcpu) (subst (λ j. IsTrue (is_same_key key j)) (same_irq key k e) (same_itself key)) h

-- a cause is owed to those whom the interrupt concerns after it
cause_bit :
    (shape : GuestShape) (vcpu : ℕ) (before after : IrqRecord) (set : Targets) → after.route ≡ before.route → after.act_by ≡ before.act_by → after.holder ≡ before.holder → after.holder ≡ None → IsTrue (concerns shape vcpu after)
    → IsTrue (has_bit (with_all set (concerned shape before)).0 vcpu)
cause_bit shape vcpu before after set route active holder home h = elim (concerns_by shape vcpu after h) [
  | inl target ↦ first_has set (target_of shape before) (holder_or_active before ∷ []) vcpu (ap (λ r. target_in r shape) (sym route) ∙ target)
  | inr by ↦ first_has (with_some set (target_of shape before)) (holder_or_active before) [] vcpu (ap (λ o. if is_none o then before.act_by else o) (sym holder ∙ home) ∙ sym active ∙ by)
]

pub changed_word : (change : IrqRecord → IrqRecord) (found left : ℕ) → left ≡ changed change found → IsIrq (change (irq_of found)) → irq_of left ≡ change (irq_of found)
changed_word change found left is fits = ap irq_of is ∙ packed_is (change (irq_of found)) fits

pub not_both : (b : Bool) → IsTrue b → IsTrue (not b) → ⊥
not_both true h n = absurd (cc)
not_both false h n = absurd (cc)

-- an interrupt that a claim moved is held by the vCPU
moved_holder : (shape : GuestShape) (vcpu : ℕ) (local : Local) (key : Key) (irq : IrqRecord) → may_move shape vcpu local key irq ≡ true → (claimed_irq vcpu local key irq).holder ≡ Some vcpu
moved_holder shape vcpu local key irq may = of (entry_for key local.at) may
  where
    of :
        (o : Option AtIrq)
        → option_map_or (λ entry. is_number vcpu irq.holder && may_take shape key (moved_of irq entry) vcpu local.cpu) o (is_none irq.holder && may_reach shape key irq vcpu local.cpu && may_hold vcpu irq) ≡ true
        → (option_map_or (λ entry. taken (moved_of irq entry)) o (record (reached irq) { irq = record (reached irq).irq { holder = Some vcpu } })).irq.holder ≡ Some vcpu
    of None h = refl
    of (Some entry) h = number_is vcpu irq.holder (and_parts (is_number vcpu irq.holder) (may_take shape key (moved_of irq entry) vcpu local.cpu) h).0

-- What becomes of the interrupt of a step.

-- a step on an interrupt's word that leaves it with nobody leaves its record as it was, but that an access may wait for it now; or its actor owes a mark and a kick
-- to each vCPU that it concerns
abbrev pub Tells : {shape : GuestShape} {state : CoreState} {ideal : Ideal} {actor : ℕ} {step : CoreStep} {found left : ℕ} {tables : Option Maps} → IsStep shape state ideal actor step found left tables → Type 0
Tells {shape} {state} {ideal} {actor} {step} {found} {left} is =
    (key : Key) (vcpu : ℕ) → word_of shape actor step ≡ Irq key → vcpu < shape.vcpus → (irq_of left).holder ≡ None → IsTrue (concerns shape vcpu (irq_of left)) → IsAsBefore is key ⊎ IsOwedNow is key vcpu

-- a step that does not do what it is for changes nothing
missed_quiet : (shape : GuestShape) (state : CoreState) (actor : ℕ) (step : CoreStep) (found : ℕ) (key : Key) → succeeds shape actor (seat_at state actor).local step found ≡ false → step_changes shape state actor step found key ≡ false
missed_quiet shape state actor step found key e = ap (λ b. event_changes (if b then event_done shape actor (seat_at state actor).local (seat_at state actor).own step found else None) key) e

module _ {shape : GuestShape} {state : CoreState} {ideal : Ideal} {actor found left : ℕ} {tables : Option Maps} where
  -- a word that is left as it was found
  pub as_found : {step : CoreStep} (is : IsStep shape state ideal actor step found left tables) → left ≡ found → ((key : Key) → step_changes shape state actor step found key ≡ false) → Tells is
  as_found is same quiet key vcpu on within home asks = inl (record { same = ap (λ n. unwanted (irq_of n)) same; kept = λ h. ap irq_of same; quiet = quiet key })

  -- one on another word
  pub on_other : {step : CoreStep} (is : IsStep shape state ideal actor step found left tables) → ((key : Key) → word_of shape actor step ≢ Irq key) → Tells is
  on_other is apart key vcpu on = absurd (apart key on)

  -- causes come and go
  pub tells_cause :
      (key : Key) (step : CoreStep) (change : IrqRecord → IrqRecord) (is : IsStep shape state ideal actor step found left tables) → word_of shape actor step ≡ Irq key → step_changes shape state actor step found key ≡ true
      → local_after shape actor (seat_at state actor).local step found ≡ owing_both key (concerned shape (irq_of found)) (seat_at state actor).local → irq_of left ≡ change (irq_of found) → (change (irq_of found)).route ≡ (irq_of found).route
      → (change (irq_of found)).act_by ≡ (irq_of found).act_by → (change (irq_of found)).holder ≡ (irq_of found).holder → Tells is
  tells_cause key step change is on changes local word route active holder k vcpu e within home asks =
      let bits : (set : Targets) → IsTrue (has_bit (with_all set (concerned shape (irq_of found))).0 vcpu) = λ set.
      cause_bit shape vcpu (irq_of found) (irq_of left) set (ap (λ (i : IrqRecord). i.route) word ∙ route) (ap (λ (i : IrqRecord). i.act_by) word ∙ active) (ap (λ (i : IrqRecord). i.holder) word ∙ holder) home asks in
      inr (record {
        mark = subst (λ l. IsTrue (owes_mark k vcpu l)) (sym local) (owed_in key k vcpu (concerned shape (irq_of found)) (concerned shape (irq_of found)) (seat_at state actor).local (sym on ∙ e) (bits no_vcpus));
        kick = λ waits. inl (subst (λ (l : Local). IsTrue (owes_kick vcpu l)) (sym local) (bits (seat_at state actor).local.owes));
        changes = subst (λ j. step_changes shape state actor step found j ≡ true) (same_irq key k (sym on ∙ e)) changes;
      })

  pub raised_word : (key : Key) (is : IsStep shape state ideal actor (Raise key) found left tables) → irq_of left ≡ raised (irq_of found)
  raised_word key is =
      let fits = (finds is).valid.irq.packable in
      changed_word raised found left is.takes.left (record { prio = fits.prio; prio_bits = fits.prio_bits; active = fits.active; holder = fits.holder; route = fits.route })

  pub up_word : (key : Key) (is : IsStep shape state ideal actor (WireUp key) found left tables) → irq_of left ≡ wire_up (irq_of found)
  up_word key is =
      let fits = (finds is).valid.irq.packable in
      changed_word wire_up found left is.takes.left (record { prio = fits.prio; prio_bits = fits.prio_bits; active = fits.active; holder = fits.holder; route = fits.route })

  pub down_word : (key : Key) (is : IsStep shape state ideal actor (WireDown key) found left tables) → irq_of left ≡ wire_down (irq_of found)
  down_word key is =
      let fits = (finds is).valid.irq.packable in
      changed_word wire_down found left is.takes.left (record { prio = fits.prio; prio_bits = fits.prio_bits; active = fits.active; holder = fits.holder; route = fits.route })

  pub tells_raise : (key : Key) (is : IsStep shape state ideal actor (Raise key) found left tables) → Tells is
  tells_raise key is = tells_cause key (Raise key) raised is refl (same_itself key) refl (raised_word key is) refl refl refl

  pub tells_wire_up : (key : Key) (is : IsStep shape state ideal actor (WireUp key) found left tables) → Tells is
  tells_wire_up key is = tells_cause key (WireUp key) wire_up is refl (same_itself key) refl (up_word key is) refl refl refl

  pub tells_wire_down : (key : Key) (is : IsStep shape state ideal actor (WireDown key) found left tables) → Tells is
  tells_wire_down key is = tells_cause key (WireDown key) wire_down is refl (same_itself key) refl (down_word key is) refl refl refl

  -- a claim that moves the interrupt leaves it with its actor
  pub claim_word : (key : Key) (seen : ℕ) (is : IsStep shape state ideal actor (Claim key seen) found left tables) → succeeds shape actor (seat_at state actor).local (Claim key seen) found ≡ true → irq_of left ≡ claimed_irq actor (seat_at state actor).local key (irq_of found)
  claim_word key seen is e =
      let local = (seat_at state actor).local in
      let can = all_three (is_vcpu shape actor) (is_of_vcpu actor key) (has_interrupt shape key) is.takes.can in
      let few : actor < shape.vcpus = ltb-true actor shape.vcpus can.0 in
      ap irq_of (is.takes.left ∙ ap (λ b. if b then packed (claimed_irq actor local key (irq_of found)) else found) e)
      ∙ packed_is (claimed_irq actor local key (irq_of found)) (moved_packable actor local key (irq_of found) (omega (arith, few, is.good.vcpus)) (finds is).valid.irq.packable)

  pub claim_held : (key : Key) (seen : ℕ) (is : IsStep shape state ideal actor (Claim key seen) found left tables) → succeeds shape actor (seat_at state actor).local (Claim key seen) found ≡ true → (irq_of left).holder ≡ Some actor
  claim_held key seen is e =
      ap (λ (i : IrqRecord). i.holder) (claim_word key seen is e)
      ∙ moved_holder shape actor (seat_at state actor).local key (irq_of found) (and_parts (found == seen) (may_move shape actor (seat_at state actor).local key (irq_of found)) e).1

  pub claim_missed : (key : Key) (seen : ℕ) (is : IsStep shape state ideal actor (Claim key seen) found left tables) → succeeds shape actor (seat_at state actor).local (Claim key seen) found ≡ false → left ≡ found
  claim_missed key seen is e = is.takes.left ∙ ap (λ b. if b then packed (claimed_irq actor (seat_at state actor).local key (irq_of found)) else found) e

  pub tells_claim : (key : Key) (seen : ℕ) (is : IsStep shape state ideal actor (Claim key seen) found left tables) → Tells is
  tells_claim key seen is k vcpu on within home asks = of (succeeds shape actor (seat_at state actor).local (Claim key seen) found) refl
    where
      of : (b : Bool) → succeeds shape actor (seat_at state actor).local (Claim key seen) found ≡ b → IsAsBefore is k ⊎ IsOwedNow is k vcpu
      of true e = absurd (none-some actor (sym home ∙ claim_held key seen is e))
      of false e = as_found is (claim_missed key seen is e) (λ j. missed_quiet shape state actor (Claim key seen) found j e) k vcpu on within home asks

  -- an interrupt that is given back still is at the interface
  pub give_back_word : (key : Key) (back : Back) (is : IsStep shape state ideal actor (GiveBack key back) found left tables) → irq_of left ≡ given_back actor back (irq_of found)
  give_back_word key back is =
      let fits = (finds is).valid.irq.packable in
      let can = and_parts (is_vcpu shape actor) (has_interrupt shape key) is.takes.can in
      let there : actor < shape.vcpus = ltb-true actor shape.vcpus can.0 in
      changed_word (given_back actor back) found left is.takes.left
      (record { prio = fits.prio; prio_bits = fits.prio_bits; active = seat back.active (irq_of found) there fits.active; holder = fits.holder; route = fits.route })
    where
      seat : (b : Bool) (irq : IrqRecord) → actor < shape.vcpus → IsSeat irq.act_by → IsSeat (if b then Some actor else irq.act_by)
      seat true irq few is_seat = omega (arith, few, is.good.vcpus)
      seat false irq few is_seat = is_seat

  pub given_held : (key : Key) (back : Back) (is : IsStep shape state ideal actor (GiveBack key back) found left tables) → (irq_of left).holder ≡ Some actor
  given_held key back is = ap (λ (i : IrqRecord). i.holder) (give_back_word key back is) ∙ number_is actor (irq_of found).holder ((finds is).ties ∙ ap is_some is.takes.meets.at)

  pub tells_give_back : (key : Key) (back : Back) (is : IsStep shape state ideal actor (GiveBack key back) found left tables) → Tells is
  tells_give_back key back is k vcpu on within home asks = absurd (none-some actor (sym home ∙ given_held key back is))

  pub release_word : (key : Key) (is : IsStep shape state ideal actor (Release key) found left tables) → irq_of left ≡ released (is_active_at key (seat_at state actor).local) (irq_of found)
  release_word key is =
      let active = is_active_at key (seat_at state actor).local in
      changed_word (released active) found left is.takes.left (owned_released shape key active (irq_of found) is.good (owned_of shape key found (finds is).valid)).record_of.packable

  -- a release is marked for the target, and for the vCPU itself where the interrupt is active; a target that is another vCPU is kicked, unless it is active
  pub tells_release : (key : Key) (is : IsStep shape state ideal actor (Release key) found left tables) → Tells is
  tells_release key is k vcpu on within home asks =
      inr (record {
        mark = owed_in key k vcpu (told_of_release shape actor active irq) (marked_of_release shape actor active irq) (record local { at = without_at key local.at }) on (marks (subst (λ i. IsTrue (concerns shape vcpu i)) word asks));
        kick = λ waits. kicks (subst (λ i. IsTrue (waits_for shape vcpu i)) word waits);
        changes = subst (λ j. IsTrue (is_same_key j key)) (same_irq key k on) (same_itself key);
      })
    where
      local : Local
      local = (seat_at state actor).local

      irq : IrqRecord
      irq = irq_of found

      active : Bool
      active = is_active_at key local

      can : IsTrue (is_vcpu shape actor) × IsTrue (has_interrupt shape key)
      can = and_parts (is_vcpu shape actor) (has_interrupt shape key) is.takes.can

      word : irq_of left ≡ released active irq
      word = release_word key is

      held : irq.holder ≡ Some actor
      held = number_is actor irq.holder ((finds is).ties ∙ ap is_some is.takes.meets.at)

      mine : (o : Option ℕ) → o ≡ Some vcpu → IsTrue (is_none (Some actor) || is_none o || option_map_or (λ v. is_number v (Some actor)) o true) → Some actor ≡ Some vcpu
      mine None e h = absurd (cc)
      mine (Some v) e h = ap Some (eqb-true actor v h) ∙ e

      marks : IsTrue (concerns shape vcpu (released active irq)) → IsTrue (has_bit (with_all no_vcpus (marked_of_release shape actor active irq)).0 vcpu)
      marks h = elim (concerns_by shape vcpu (released active irq) h) [
        | inl target ↦ first_has no_vcpus (target_of shape irq) ((if active then Some actor else None) ∷ []) vcpu target
        | inr by ↦ first_has (with_some no_vcpus (target_of shape irq)) (if active then Some actor else None) [] vcpu (of active by)
      ]
        where
          of : (b : Bool) → (if b then irq.act_by else None) ≡ Some vcpu → (if b then Some actor else None) ≡ Some vcpu
          of true by = mine irq.act_by by (subst (λ o. IsTrue (is_none o || is_none irq.act_by || option_map_or (λ v. is_number v o) irq.act_by true)) held (finds is).valid.one)
          of false by = absurd (cc)

      -- an interrupt that was given back active is active by the vCPU
      given_active : active ≡ true → irq.act_by ≡ Some actor
      given_active e =
          let entry = is.takes.meets.entry in
          let says = (says_found is).held actor held entry is.takes.meets.at in
          let back : bare irq ≡ given_back actor (back_of entry) (irq_at ideal.guest key) = says.word_is ∙ ap (λ b. if b then given_back actor (back_of entry) (irq_at ideal.guest key) else irq_at ideal.guest key) is.takes.meets.given in
          let same : entry.active ≡ true = sym (ap (λ o. option_map_or (λ (one : AtIrq). one.active) o false) is.takes.meets.at) ∙ e in
          ap (λ (i : IrqRecord). i.act_by) back ∙ ap (λ b. if b then Some actor else (irq_at ideal.guest key).act_by) same

      kicks : IsTrue (waits_for shape vcpu (released active irq)) → IsTrue (has_bit (with_all local.owes (told_of_release shape actor active irq)).0 vcpu) ⊎ IsOwnRelease (Release key) actor vcpu
      kicks waits = elim (or_cases (is_none (released active irq).act_by && is_ripe (released active irq) vcpu shape) (is_number vcpu (released active irq).act_by) waits) [
        | inl ripe ↦ of active refl ripe
        | inr by ↦ inr (refl, same_some actor vcpu (mine_active active (number_is vcpu (released active irq).act_by by)))
      ]
        where
          same_some : (v w : ℕ) → Some v ≡ Some w → v ≡ w
          same_some v w e = cc

          mine_active : (b : Bool) → (if b then irq.act_by else None) ≡ Some vcpu → Some actor ≡ Some vcpu
          mine_active true by = mine irq.act_by by (subst (λ o. IsTrue (is_none o || is_none irq.act_by || option_map_or (λ v. is_number v o) irq.act_by true)) held (finds is).valid.one)
          mine_active false by = absurd (cc)

          to : (o : Option ℕ) → o ≡ Some vcpu → (b : Bool) → is_number actor o ≡ b → IsTrue (has_bit (with_all local.owes ((if b then None else o) ∷ [])).0 vcpu) ⊎ IsOwnRelease (Release key) actor vcpu
          to o target true e = inr (refl, same_some actor vcpu (sym (number_is actor o e) ∙ target))
          to o target false e = inl (first_has local.owes o [] vcpu target)

          of : (b : Bool) → active ≡ b → IsTrue (is_none (if b then irq.act_by else None) && is_ripe (released b irq) vcpu shape) → IsTrue (has_bit (with_all local.owes (told_of_release shape actor b irq)).0 vcpu) ⊎ IsOwnRelease (Release key) actor vcpu
          of true e ripe = absurd (not_none irq.act_by actor (given_active e) (and_parts (is_none irq.act_by) (is_ripe (released true irq) vcpu shape) ripe).0)
            where
              not_none : (o : Option ℕ) (v : ℕ) → o ≡ Some v → IsTrue (is_none o) → ⊥
              not_none None v e h = absurd (cc)
              not_none (Some w) v e h = absurd (cc)
          of false e ripe =
              to (target_of shape irq) (number_is vcpu (target_of shape irq) (and_parts (is_pending irq && irq.enabled && is_forwarded irq) (is_number vcpu (target_of shape irq)) (and_parts (is_none (released false irq).act_by) (is_ripe (released false irq) vcpu shape) ripe).1).1)
              (is_number actor (target_of shape irq)) refl

  -- a touch is owed to the targets and the vCPUs by which the interrupt is active, before and after it
  pub touch_word : (key : Key) (seen : ℕ) (kind : Touching) (is : IsStep shape state ideal actor (Touch key seen kind) found left tables) → succeeds shape actor (seat_at state actor).local (Touch key seen kind) found ≡ true → irq_of left ≡ touched_irq shape key kind (irq_of found)
  touch_word key seen kind is e =
      let irq = irq_of found in
      let unheld : irq.holder ≡ None = none_is irq.holder (and_parts (found == seen) (is_none irq.holder) e).1 in
      let fits = (owned_touched shape key kind irq is.good is.takes.can unheld (owned_of shape key found (finds is).valid)).record_of.packable in
      ap irq_of (is.takes.left ∙ ap (λ b. if b then packed (touched_irq shape key kind irq) else found) e)
      ∙ packed_is (touched_irq shape key kind irq) (record { prio = fits.prio; prio_bits = fits.prio_bits; active = fits.active; holder = fits.holder; route = fits.route })

  pub touch_missed : (key : Key) (seen : ℕ) (kind : Touching) (is : IsStep shape state ideal actor (Touch key seen kind) found left tables) → succeeds shape actor (seat_at state actor).local (Touch key seen kind) found ≡ false → left ≡ found
  touch_missed key seen kind is e = is.takes.left ∙ ap (λ b. if b then packed (touched_irq shape key kind (irq_of found)) else found) e

  pub tells_touch : (key : Key) (seen : ℕ) (kind : Touching) (is : IsStep shape state ideal actor (Touch key seen kind) found left tables) → Tells is
  tells_touch key seen kind is k vcpu on within home asks = of (succeeds shape actor local (Touch key seen kind) found) refl
    where
      local : Local
      local = (seat_at state actor).local

      irq : IrqRecord
      irq = irq_of found

      vcpus : List (Option ℕ)
      vcpus = concerned_by shape irq (touched shape key kind irq)

      bits : (set : Targets) → IsTrue (concerns shape vcpu (touched_irq shape key kind irq)) → IsTrue (has_bit (with_all set vcpus).0 vcpu)
      bits set asked = elim (concerns_by shape vcpu (touched_irq shape key kind irq) asked) [
        | inl target ↦ first_has (with_some set (target_of shape irq)) (target_of shape (touched shape key kind irq)) (irq.act_by ∷ (touched shape key kind irq).act_by ∷ []) vcpu target
        | inr by ↦ first_has (with_all set (target_of shape irq ∷ target_of shape (touched shape key kind irq) ∷ irq.act_by ∷ [])) (touched shape key kind irq).act_by [] vcpu by
      ]

      of : (b : Bool) → succeeds shape actor local (Touch key seen kind) found ≡ b → IsAsBefore is k ⊎ IsOwedNow is k vcpu
      of true e =
          let after : local_after shape actor local (Touch key seen kind) found ≡ owing_both key vcpus local = ap (λ b. if b then owing_both key vcpus local else local) e in
          let asked = subst (λ i. IsTrue (concerns shape vcpu i)) (touch_word key seen kind is e) asks in
          inr (record {
            mark = subst (λ l. IsTrue (owes_mark k vcpu l)) (sym after) (owed_in key k vcpu vcpus vcpus local on (bits no_vcpus asked));
            kick = λ waits. inl (subst (λ (l : Local). IsTrue (owes_kick vcpu l)) (sym after) (bits local.owes asked));
            changes =
                ap (λ b. event_changes (if b then event_done shape actor local (seat_at state actor).own (Touch key seen kind) found else None) k) e
                ∙ subst (λ j. IsTrue (is_same_key j key)) (same_irq key k on) (same_itself key);
          })
      of false e = as_found is (touch_missed key seen kind is e) (λ j. missed_quiet shape state actor (Touch key seen kind) found j e) k vcpu on within home asks

  pub want_word : (key : Key) (is : IsStep shape state ideal actor (Want key) found left tables) → irq_of left ≡ record (irq_of found) { want = true }
  want_word key is =
      let fits = (finds is).valid.irq.packable in
      changed_word (λ irq. record irq { want = true }) found left is.takes.left (record { prio = fits.prio; prio_bits = fits.prio_bits; active = fits.active; holder = fits.holder; route = fits.route })

  pub tells_want : (key : Key) (is : IsStep shape state ideal actor (Want key) found left tables) → Tells is
  tells_want key is k vcpu on within home asks = inl (record { same = ap unwanted (want_word key is); kept = λ h. absurd (true≢false (sym (ap (λ (i : IrqRecord). i.want) (want_word key is)) ∙ h)); quiet = refl })

-- a look changes nothing
look_quiet : (found : ℕ) (word : WordId) (key : Key) → event_changes (look_event word found) key ≡ false
look_quiet found (Irq k) key = refl
look_quiet found word key = refl

pub tells : {shape : GuestShape} {state : CoreState} {ideal : Ideal} {actor found left : ℕ} {tables : Option Maps} (step : CoreStep) (is : IsStep shape state ideal actor step found left tables) → Tells is
tells {found = found} (Look word) is = as_found is is.takes.left (look_quiet found word)
tells (Raise key) is = tells_raise key is
tells (Claim key seen) is = tells_claim key seen is
tells (GiveBack key back) is = tells_give_back key back is
tells (Release key) is = tells_release key is
tells (Touch key seen kind) is = tells_touch key seen kind is
tells (Want key) is = tells_want key is
tells (WireUp key) is = tells_wire_up key is
tells (WireDown key) is = tells_wire_down key is
tells step is = on_other is (λ key e. absurd (cc))
