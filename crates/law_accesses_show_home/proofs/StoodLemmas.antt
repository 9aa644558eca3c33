-- What stands at an interface after an event that did not bring it there stood there before.
use Rattle.std.proofs.Common.{◌≡◌, ◌≢◌, ℕ, ◌<◌, ◌⊎◌, inl, inr, true≢false, false, IsTrue, List, [], ◌∷◌, ◌++◌, map, filter, length, slice_index_or, Option, option_map, Some, None, is_some, refl, sym, ap, ◌∙◌, subst}
use Rattle.std.specs.Option.{option_map_or}
use Rattle.std.proofs.lemmas.Bool.{cases_eq}
use Rattle.law_home_commutes.specs.Words.{IccReg, Key, GuestShape, has_interrupt, interrupt_count, IsShape}
use Rattle.law_home_commutes.proofs.GicBase.KeyLemmas.{other_key}
use Rattle.law_home_commutes.specs.Calls.{Event, Up, Down, Touch, Reach, Take, Leave, Enable, Cpu, Put, CtlrBegin, CtlrEnd, ItsBegin, Found, Entry, Moved, may_take, reached, taken, left, CanHappen}
use Rattle.law_home_commutes.specs.GicCall.declared.event.Event.TheVariants.{Raise, Read, ItsEnd, Queue}
use Rattle.law_home_commutes.specs.Histories.{irq_at, cpu_at, happened, is_allowed, with_entry, without, Ideal, Standing, standing_at, is_of, moved_at, with_irq, with_standing}
use Rattle.law_home_commutes.proofs.LawHistories.StandLemmas.{of_key, standing_of_key, put_here, put_other, added_other, entry_other, left_key, left_other}
use Rattle.law_home_commutes.proofs.AccessLemmas.{access, here_is, other_is}
use Rattle.law_home_commutes.proofs.EventLemmas.{at_after, is_other}
use Rattle.law_home_commutes.proofs.SpotLemmas.{Spot, IsSpot, IsTidy, IsFoundAt, not_found, is_found, found_at, moved_of}
use Rattle.law_scans_miss_none.specs.LawRegistersStand.Followed.{Followed}
use Rattle.law_scans_miss_none.proofs.TrackLemmas.{key_cases}
use Rattle.law_accesses_show_home.proofs.StayEvents.{AllAsReached, placed_as}
use Rattle.law_accesses_show_home.proofs.StayLemmas.{there_so}

-- it stands at a vCPU's interface
pub record Stands (state : Ideal) (key : Key) (vcpu : ℕ) : Type 0 where
  pub entry : Entry
  pub here : of_key state key vcpu ≡ standing_of_key key entry ∷ []

-- what stands after an event that is not its reach stood before, and did not leave by it
pub data Stood (state : Ideal) (event : Event) (key : Key) (vcpu : ℕ) : Type 0 where
  came : (w : ℕ) → event ≡ Reach key w → Stood state event key vcpu
  stood : Stands state key vcpu → ((w : ℕ) → event ≡ Leave key w → ⊥) → Stood state event key vcpu

module _ (shape : GuestShape) (good : IsShape shape) (at : Followed) (tidy : IsTidy shape at.ideal) (each : length at.track.changes ≡ interrupt_count shape) (before : AllAsReached shape at) (actor : ℕ) (found : Found) where
  abbrev state : Ideal
  state = at.ideal

  -- where an interrupt may be taken or leave it stands
  found_there : (key : Key) (w : ℕ) → ((moved_at state w key ≡ None) → ⊥) → Stands state key w
  found_there key w some = of (tidy.placed key).spot (tidy.placed key).is (found_at shape state key w (tidy.placed key).spot (tidy.placed key).is)
    where
      some_same : (a b : Spot) → Some a ≡ Some b → a ≡ b
      some_same a b e = cc

      of : (spot : Option Spot) → IsSpot shape key (of_key state key) spot → IsFoundAt state key w spot → Stands state key w
      of spot is (not_found none empty) = absurd (some (ap (option_map (moved_of state key)) none))
      of None is (is_found one e same f) = absurd (cc)
      of (Some spot) is (is_found one e same f) = record {
        entry = spot.entry;
        here = subst (λ v. of_key state key v ≡ standing_of_key key spot.entry ∷ []) (ap (λ (s : Spot). s.vcpu) (some_same spot one e) ∙ same) is.here;
      }

  none_taken : (key : Key) (w : ℕ) → IsTrue (is_allowed state actor (Take key w)) → (moved_at state w key ≡ None) → ⊥
  none_taken key w allowed none = true≢false (sym allowed ∙ ap (λ o. option_map_or (λ moved. may_take state.guest.shape key moved w (cpu_at state.guest w)) o false) none)

  -- By the kind of the event.

  pub reach_stood : (other : Key) (w : ℕ) → w < shape.vcpus → IsTrue (has_interrupt shape other) → (key : Key) (v : ℕ) (entry : Entry) → of_key (happened actor (Reach other w) state) key v ≡ standing_of_key key entry ∷ [] → (key ≡ other) ⊎ Stands state key v
  reach_stood other w few there key v entry here = elim (key_cases key other) [
    | inl same ↦ inl same
    | inr differ ↦
        let standing = standing_at state w ++ standing_of_key other (reached (irq_at state.guest other)).entry ∷ [] in
        inr (record {
          entry = entry;
          here = sym (placed_as shape good at tidy each before actor other w found few there key v standing (added_other key (standing_at state w) (standing_of_key other (reached (irq_at state.guest other)).entry) (other_key other key (λ e. differ (sym e))))) ∙ here;
        })
  ]

  pub take_stood : (other : Key) (w : ℕ) → w < shape.vcpus → IsTrue (has_interrupt shape other) → IsTrue (is_allowed state actor (Take other w)) → (key : Key) (v : ℕ) (entry : Entry) → of_key (happened actor (Take other w) state) key v ≡ standing_of_key key entry ∷ [] → Stands state key v
  take_stood other w few there allowed key v entry here = of (moved_at state w other) refl here
    where
      stood : (moved : Moved) → of_key (with_standing (with_irq state other (taken moved).irq) w (with_entry other (taken moved).entry (standing_at state w))) key v ≡ standing_of_key key entry ∷ [] → (key ≡ other) ⊎ (key ≢ other) → Stands state key v
      stood moved h (inr differ) = record { entry = entry; here = sym (placed_as shape good at tidy each before actor other w found few there key v (with_entry other (taken moved).entry (standing_at state w)) (entry_other key other (taken moved).entry (standing_at state w) (other_key key other differ))) ∙ h }
      stood moved h (inl same) = elim (cases_eq v w) [
        | inl e ↦ subst (λ u. Stands state key u) (sym e) (subst (λ k. Stands state k w) (sym same) (found_there other w (none_taken other w allowed)))
        | inr differ ↦ record { entry = entry; here = sym (put_other state key w (with_entry other (taken moved).entry (standing_at state w)) v differ) ∙ h }
      ]

      of : (o : Option Moved) → moved_at state w other ≡ o → of_key (option_map_or (λ moved. with_standing (with_irq state other (taken moved).irq) w (with_entry other (taken moved).entry (standing_at state w))) o state) key v ≡ standing_of_key key entry ∷ [] → Stands state key v
      of None e h = record { entry = entry; here = h }
      of (Some moved) e h = stood moved h (key_cases key other)

  -- and it is not the one that leaves
  pub leave_stood : (other : Key) (w : ℕ) → w < shape.vcpus → IsTrue (has_interrupt shape other) → IsTrue (is_allowed state actor (Leave other w)) → (key : Key) (v : ℕ) (entry : Entry) → of_key (happened actor (Leave other w) state) key v ≡ standing_of_key key entry ∷ [] → (key ≢ other) × Stands state key v
  leave_stood other w few there allowed key v entry here = of (moved_at state w other) refl here
    where
      gone : (moved : Moved) → of_key (with_standing (with_irq state other (left w moved)) w (without other (standing_at state w))) key v ≡ standing_of_key key entry ∷ [] → (key ≡ other) ⊎ (key ≢ other) → (key ≢ other) × Stands state key v
      gone moved h (inr differ) = (differ, record { entry = entry; here = sym (placed_as shape good at tidy each before actor other w found few there key v (without other (standing_at state w)) (left_other key other (standing_at state w) (other_key key other differ))) ∙ h })
      gone moved h (inl same) = absurd (elim (cases_eq v w) [ inl e ↦ here_not e | inr differ ↦ there_not differ ])
        where
          here_not : v ≡ w → ⊥
          here_not e =
              let none : of_key (with_standing state w (without other (standing_at state w))) other w ≡ [] = put_here state other w (without other (standing_at state w)) (subst (λ n. w < n) (sym tidy.seats) few) ∙ left_key other (standing_at state w) in
              let some : of_key (with_standing state w (without other (standing_at state w))) other w ≡ standing_of_key key entry ∷ [] = subst (λ u. of_key (with_standing state w (without other (standing_at state w))) other u ≡ standing_of_key key entry ∷ []) e (subst (λ k. of_key (with_standing state w (without other (standing_at state w))) k v ≡ standing_of_key key entry ∷ []) same h) in
              cc

          there_not : v ≢ w → ⊥
          there_not differ =
              let stands = found_there other w (λ none. true≢false (sym allowed ∙ ap is_some none)) in
              let none : of_key state other v ≡ [] = (there_so shape state tidy other w stands.entry stands.here).elsewhere v differ in
              let some : of_key state other v ≡ standing_of_key key entry ∷ [] = sym (put_other state other w (without other (standing_at state w)) v differ) ∙ subst (λ k. of_key (with_standing state w (without other (standing_at state w))) k v ≡ standing_of_key key entry ∷ []) same h in
              cc

      of : (o : Option Moved) → moved_at state w other ≡ o → of_key (option_map_or (λ moved. with_standing (with_irq state other (left w moved)) w (without other (standing_at state w))) o state) key v ≡ standing_of_key key entry ∷ [] → (key ≢ other) × Stands state key v
      of None e h = absurd (true≢false (sym allowed ∙ ap is_some e))
      of (Some moved) e h = gone moved h (key_cases key other)

  pub access_stood : (w : ℕ) → w < shape.vcpus → (reg : IccReg) (write : Option ℕ) (key : Key) (v : ℕ) (entry : Entry) → of_key (happened actor (Cpu w reg write) state) key v ≡ standing_of_key key entry ∷ [] → Stands state key v
  access_stood w few reg write key v entry here = elim (cases_eq v w) [
    | inr differ ↦ record { entry = entry; here = sym (other_is shape state tidy w few actor reg write key v differ) ∙ here }
    | inl e ↦ subst (λ u. Stands state key u) (sym e) (of e (tidy.placed key).spot (tidy.placed key).is)
  ]
    where
      nowhere : v ≡ w → of_key state key w ≡ [] → ⊥
      nowhere e empty =
          let h : of_key (happened actor (Cpu w reg write) state) key w ≡ standing_of_key key entry ∷ [] = subst (λ u. of_key (happened actor (Cpu w reg write) state) key u ≡ standing_of_key key entry ∷ []) e here in
          let none = here_is shape state tidy w few actor reg write key ∙ ap (map (access shape state tidy w few actor reg write)) empty in
          cc

      of : v ≡ w → (spot : Option Spot) → IsSpot shape key (of_key state key) spot → Stands state key w
      of e None is = absurd (nowhere e (is w))
      of e (Some one) is = elim (cases_eq w one.vcpu) [
        | inr differ ↦ absurd (nowhere e (is.elsewhere w differ))
        | inl same ↦ record { entry = one.entry; here = subst (λ u. of_key state key u ≡ standing_of_key key one.entry ∷ []) (sym same) is.here }
      ]

  pub other_stood : (event : Event) → IsTrue (is_other event) → (key : Key) (v : ℕ) (entry : Entry) → of_key (happened actor event state) key v ≡ standing_of_key key entry ∷ [] → Stands state key v
  other_stood event h key v entry here = record { entry = entry; here = subst (λ (all : List (List Standing)). filter (is_of key) (slice_index_or all v []) ≡ standing_of_key key entry ∷ []) (at_after actor event state h) here }

  pub stood_by : (event : Event) → CanHappen shape event → IsTrue (is_allowed at.ideal actor event) → (key : Key) (vcpu : ℕ) (entry : Entry) → of_key (happened actor event at.ideal) key vcpu ≡ standing_of_key key entry ∷ [] → Stood at.ideal event key vcpu
  stood_by (Reach other w) can allowed key vcpu entry here = elim (reach_stood other w can.1 can.0 key vcpu entry here) [
    | inl same ↦ came w (ap (λ k. Reach k w) (sym same))
    | inr before ↦ stood before (λ w e. cc)
  ]
  stood_by (Take other w) can allowed key vcpu entry here = stood (take_stood other w can.1 can.0 allowed key vcpu entry here) (λ w e. cc)
  stood_by (Leave other w) can allowed key vcpu entry here =
      let both = leave_stood other w can.1 can.0 allowed key vcpu entry here in
      stood both.1 (λ v e. both.0 (left_is v e))
    where
      left_is : (v : ℕ) → Leave other w ≡ Leave key v → key ≡ other
      left_is v e = cc
  stood_by (Cpu w reg write) can allowed key vcpu entry here = stood (access_stood w can.0 reg write key vcpu entry here) (λ w e. cc)
  stood_by (Raise other) can allowed key vcpu entry here = stood (other_stood (Raise other) refl key vcpu entry here) (λ w e. cc)
  stood_by (Up other) can allowed key vcpu entry here = stood (other_stood (Up other) refl key vcpu entry here) (λ w e. cc)
  stood_by (Down other) can allowed key vcpu entry here = stood (other_stood (Down other) refl key vcpu entry here) (λ w e. cc)
  stood_by (Enable w) can allowed key vcpu entry here = stood (other_stood (Enable w) refl key vcpu entry here) (λ w e. cc)
  stood_by (Touch other touching) can allowed key vcpu entry here = stood (other_stood (Touch other touching) refl key vcpu entry here) (λ w e. cc)
  stood_by (Read place) can allowed key vcpu entry here = stood (other_stood (Read place) refl key vcpu entry here) (λ w e. cc)
  stood_by (Put word value) can allowed key vcpu entry here = stood (other_stood (Put word value) refl key vcpu entry here) (λ w e. cc)
  stood_by (CtlrBegin enables) can allowed key vcpu entry here = stood (other_stood (CtlrBegin enables) refl key vcpu entry here) (λ w e. cc)
  stood_by CtlrEnd can allowed key vcpu entry here = stood (other_stood CtlrEnd refl key vcpu entry here) (λ w e. cc)
  stood_by ItsBegin can allowed key vcpu entry here = stood (other_stood ItsBegin refl key vcpu entry here) (λ w e. cc)
  stood_by ItsEnd can allowed key vcpu entry here = stood (other_stood ItsEnd refl key vcpu entry here) (λ w e. cc)
  stood_by (Queue offset change) can allowed key vcpu entry here = stood (other_stood (Queue offset change) refl key vcpu entry here) (λ w e. cc)
