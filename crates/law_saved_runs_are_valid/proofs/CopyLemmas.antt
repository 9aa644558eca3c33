-- The copies of GICD_CTLR's enables, in each state that the ideal controller reaches.
use Rattle.std.proofs.Common.{◌≡◌, ℕ, zero, suc, ◌+◌, Bool, true, false, cond, IsTrue, All, List, [], ◌∷◌, length, fold, Option, Some, None, refl, sym, ap, ◌∙◌, subst}
use Rattle.std.specs.List.{range_with_len, slice_get}
use Rattle.std.specs.Option.{option_map, option_map_or}
use Rattle.std.specs.Prelude.{find}
use Rattle.std.proofs.lemmas.List.{append-nil}
use Rattle.law_unmapped_lpis.specs.Words.{GuestShape, Key, IsShape, has_interrupt, interrupt_count, is_same_key}
use Rattle.law_unmapped_lpis.specs.Calls.{Moved, left}
use Rattle.law_unmapped_lpis.specs.Histories.{IdealGuest, irq_at, Ideal, Standing, standing_at, is_of, with_irq, with_standing, without, after_leave, emptied, home, last_of, IsHistory, IsWhole as Histories_IsWhole, IsSound, copy_in}
use Rattle.law_unmapped_lpis.proofs.IdealGuests.KeyLemmas.{IsWhole, irq_changed}
use Rattle.law_unmapped_lpis.proofs.LawLoneCallsAreEager.GicBase.KeyLemmas.{same_key}
use Rattle.law_unmapped_lpis.proofs.LawLoneCallsAreEager.GicOpen.KeyLemmas.{length-with_irq_in}
use Rattle.law_unmapped_lpis.specs.LawLoneCallsAreEager.LawEagerIsHistory.Moments.{history_of}
use Rattle.law_unmapped_lpis.proofs.LawLoneCallsAreEager.LawEagerIsHistory.StepLemmas.{whole_run}
use Rattle.law_unmapped_lpis.proofs.LawHistories.EnableLaw.{enables_agree, nobody_spreads}
use Rattle.law_unmapped_lpis.proofs.IdealGuests.SoundLemmas.{whole_of}
use Rattle.law_unmapped_lpis.proofs.IdealGuests.CanOpenLemmas.{openings_can_open}
use Rattle.eager_rest.specs.LawSavesGoOn.RunsSplit.GicIdeal.ScnBase.declared.step.Step.{Step}
use Rattle.eager_rest.specs.LawSavesGoOn.RunsSplit.GicIdeal.ScnBase.declared.step.Mode.{Mode}
use Rattle.eager_rest.specs.LawSavesGoOn.RunsSplit.GicIdeal.ScnBase.Good.{is_formed}
use Rattle.eager_rest.specs.LawSavesGoOn.RunsSplit.GicIdeal.IdealGuests.Calls.{GuestSpec, IsGoodGuest}
use Rattle.eager_rest.specs.LawSavesGoOn.RunsSplit.GicIdeal.IdealGuests.Opening.{opening}
use Rattle.eager_rest.specs.LawSavesGoOn.RunsSplit.GicIdeal.IdealGuests.Ideal.{after_events}
use Rattle.eager_rest.specs.LawSavesGoOn.RunsSplit.GicIdeal.Deeds.{steps_events}

-- a leave changes no copy
record SameCopies (before after : IdealGuest) : Type 0 where
  pub shape : after.shape ≡ before.shape
  pub enables : after.enables ≡ before.enables
  pub long : length after.irqs ≡ length before.irqs
  pub copies : IsWhole before → (key : Key) → IsTrue (has_interrupt before.shape key) → copy_in (irq_at after key) ≡ copy_in (irq_at before key)

same_copies : (guest : IdealGuest) → SameCopies guest guest
same_copies guest = record { shape = refl; enables = refl; long = refl; copies = λ w key there. refl }

whole_after : (before after : IdealGuest) → SameCopies before after → IsWhole before → IsWhole after
whole_after before after same w = record { shape = subst IsShape (sym same.shape) w.shape; each = same.long ∙ w.each ∙ ap interrupt_count (sym same.shape) }

whole_before : (before after : IdealGuest) → SameCopies before after → IsWhole after → IsWhole before
whole_before before after same w = record { shape = subst IsShape same.shape w.shape; each = sym same.long ∙ w.each ∙ ap interrupt_count same.shape }

then_same : (one two three : IdealGuest) → SameCopies one two → SameCopies two three → SameCopies one three
then_same one two three a b = record {
  shape = b.shape ∙ a.shape;
  enables = b.enables ∙ a.enables;
  long = b.long ∙ a.long;
  copies = λ w key there. b.copies (whole_after one two a w) key (ap (λ s. has_interrupt s key) a.shape ∙ there) ∙ a.copies w key there;
}

leave_same : (other : Key) (vcpu : ℕ) (state : Ideal) → SameCopies state.guest (after_leave other vcpu state).guest
leave_same other vcpu state = of (find (is_of other) (standing_at state vcpu))
  where
    of : (o : Option Standing) → SameCopies state.guest (option_map_or (λ moved. with_standing (with_irq state other (left vcpu moved)) vcpu (without other (standing_at state vcpu))) (option_map (λ standing. let moved : Moved = record { irq = irq_at state.guest other; entry = standing.entry } in moved) o) state).guest
    of None = same_copies state.guest
    of (Some one) =
        let moved : Moved = record { irq = irq_at state.guest other; entry = one.entry } in
        record {
          shape = refl;
          enables = refl;
          long = length-with_irq_in state.guest.shape other (left vcpu moved) state.guest.irqs;
          copies = λ w key there. ap copy_in (irq_changed state.guest other key (λ before. left vcpu moved) w there) ∙ by_key key (is_same_key key other) refl;
        }
      where
        by_key : (key : Key) (b : Bool) → is_same_key key other ≡ b → copy_in (cond b (left vcpu (let moved : Moved = record { irq = irq_at state.guest other; entry = one.entry } in moved)) (irq_at state.guest key)) ≡ copy_in (irq_at state.guest key)
        by_key key true e = ap (λ k. copy_in (irq_at state.guest k)) (sym (same_key key other e))
        by_key key false e = refl

leaves_same : (xs : List Standing) (state : Ideal) (vcpu : ℕ) → SameCopies state.guest (fold (λ now standing. after_leave standing.key vcpu now) state xs).guest
leaves_same [] state vcpu = same_copies state.guest
leaves_same (x ∷ xs) state vcpu =
    then_same state.guest (after_leave x.key vcpu state).guest (fold (λ now standing. after_leave standing.key vcpu now) (after_leave x.key vcpu state) xs).guest (leave_same x.key vcpu state) (leaves_same xs (after_leave x.key vcpu state) vcpu)

empty_same : (a n : ℕ) (state : Ideal) → SameCopies state.guest (fold emptied state (range_with_len a n)).guest
empty_same a zero state = same_copies state.guest
empty_same a (suc n) state =
    then_same state.guest (emptied state a).guest (fold emptied (emptied state a) (range_with_len (a + 1) n)).guest (leaves_same (standing_at state a) state a) (empty_same (a + 1) n (emptied state a))

home_same : (state : Ideal) → SameCopies state.guest (home state)
home_same state = empty_same 0 state.guest.shape.vcpus state

abbrev pub IsCopied : IdealGuest → Type 0
IsCopied guest = (key : Key) → IsTrue (has_interrupt guest.shape key) → copy_in (irq_at guest key) ≡ guest.enables

-- after steps from the opening nobody writes GICD_CTLR
pub copied : (mode : Mode) (pes : ℕ) (shapes : List GuestShape) (n : ℕ) (guest : GuestSpec) (steps : List Step) → IsGoodGuest guest → IsSound (after_events (steps_events n steps (opening guest)) (opening guest)) → slice_get shapes n ≡ Some guest.shape
    → All (λ step. IsTrue (is_formed mode pes shapes step)) steps → IsCopied (after_events (steps_events n steps (opening guest)) (opening guest))
copied mode pes shapes n guest steps good sound at formed =
    let can = openings_can_open guest good in
    let run = whole_run mode pes shapes n (opening guest) steps can at formed in
    let moments = history_of n steps (opening guest) in
    let state = last_of (opening guest) moments in
    let same = home_same state in
    let whole : IsWhole state.guest = whole_before state.guest (home state) same (subst IsWhole (sym run.ends) (whole_of (after_events (steps_events n steps (opening guest)) (opening guest)) sound)) in
    let more = append-nil moments in
    let agree = enables_agree (opening guest) moments [] can (subst (IsHistory (opening guest)) (sym more) run.is.history) (subst (Histories_IsWhole (opening guest)) (sym more) run.is.whole) in
    subst IsCopied run.ends
    (λ key there.
    let here : IsTrue (has_interrupt state.guest.shape key) = ap (λ s. has_interrupt s key) (sym same.shape) ∙ there in
    same.copies whole key here ∙ agree.free (nobody_spreads (opening guest) moments can run.is.history run.is.whole) key here ∙ sym same.enables)
