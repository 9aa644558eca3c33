-- Before an access a vCPU that may ask has found all that it was told of.
use Rattle.std.proofs.Common.{◌≡◌, ℕ, ◌<◌, ◌&&◌, ◌||◌, Bool, true, false, IsTrue, List, Option, Some, None, is_none, refl, sym, ap, ◌∙◌, subst}
use Rattle.std.specs.Option.{option_map_or}
use Rattle.std.proofs.lemmas.Bool.{and_parts, and_from, eqb-true}
use Rattle.law_late_ones_leave.specs.Words.{Key, GuestShape, has_interrupt, intid_of, Irq, is_number, is_ripe}
use Rattle.law_late_ones_leave.specs.Histories.{comes_first, is_far_active, interface_at, is_home, irq_at, cpu_at, IdealGuest, CanOpen}
use Rattle.law_late_ones_leave.specs.Registers.{first_of, is_before, is_deliverable, is_group_enabled, takes_kind, InterfaceState, candidates_at}
use Rattle.law_late_ones_leave.specs.Core.{Phase, Folding, interface_of, is_ready, CoreState, opening, end_of_moments, CoreMoment, Progress, opening_progress, progress_in, IsProperRun}
use Rattle.law_late_ones_leave.specs.LawCoreIsHistory.Related.{is_folding}
use Rattle.law_late_ones_leave.specs.LawScansMissNone.Excuse.{IsExcused, followed_in}
use Rattle.law_late_ones_leave.specs.LawRegistersStand.Followed.{Followed}
use Rattle.law_late_ones_leave.specs.LawScansMissNone.Far.{HasLookedFar}
use Rattle.law_late_ones_leave.specs.LawScansMissNone.First.{MayAsk}
use Rattle.law_late_ones_leave.specs.LawScansMissNone.Index.{waits_for}
use Rattle.law_late_ones_leave.specs.LawScansMissNone.Waiting.{record_in}
use Rattle.law_late_ones_leave.proofs.LawScansMissNone.FarSteps.{far_ends_are_known}
use Rattle.law_late_ones_leave.proofs.LawScansMissNone.FirstRuns.{first_comes_first}
use Rattle.law_late_ones_leave.proofs.LawScansMissNone.Frame.{IsAt, progress_on}
use Rattle.law_lone_accesses_find_all.proofs.HereLemmas.{end_is, cpu_is, interface_is, nobody_holds, record_is}

pub not_folding : (phase : Phase) → IsTrue (is_ready phase) → is_folding phase ≡ false
not_folding phase h = of (is_folding phase) refl
  where
    of : (b : Bool) → is_folding phase ≡ b → b ≡ false
    of false e = refl
    of true e = absurd (clash phase e h)
      where
        clash : (p : Phase) → is_folding p ≡ true → IsTrue (is_ready p) → ⊥
        clash Folding e h = cc
        clash p e h = cc

module _ (guest : IdealGuest) (number : ℕ) (moments : List CoreMoment) (vcpu : ℕ) (good : CanOpen guest) (proper : IsProperRun guest number moments) (few : vcpu < guest.shape.vcpus) where
  abbrev shape : GuestShape
  shape = guest.shape

  abbrev state : CoreState
  state = end_of_moments guest.shape (opening guest number) moments

  abbrev at : Followed
  at = followed_in guest number moments

  abbrev p : ℕ → Progress
  p = progress_in guest number moments

  here : IsAt shape state at (progress_on shape (opening_progress guest number) moments)
  here = end_is guest number good moments proper

  -- an interrupt of whose last change the vCPU was told, and for which no access waits
  module _ (may : MayAsk guest.shape (end_of_moments guest.shape (opening guest number) moments) vcpu (progress_in guest number moments vcpu)) (key : Key) (there : IsTrue (has_interrupt guest.shape key))
      (told : IsExcused guest.shape (end_of_moments guest.shape (opening guest number) moments) (followed_in guest number moments).track vcpu key → ⊥) (unwanted : (record_in guest.shape (end_of_moments guest.shape (opening guest number) moments) key).want ≡ false) where
    -- with the record and the interface that the core has
    home_first : (record_in shape state key).holder ≡ None → IsTrue (is_deliverable key (irq_at at.ideal.guest key) vcpu (cpu_at at.ideal.guest vcpu) shape)
        → option_map_or (is_before (record { id = intid_of key; prio = (irq_at at.ideal.guest key).prio; group = (irq_at at.ideal.guest key).group })) (first_of (candidates_at (interface_at at.ideal vcpu))) true ≡ false
    home_first none deliverable =
        subst (λ (i : InterfaceState). option_map_or (is_before (record { id = intid_of key; prio = (irq_at at.ideal.guest key).prio; group = (irq_at at.ideal.guest key).group })) (first_of (candidates_at i)) true ≡ false) (sym (interface_is guest number moments good proper vcpu few cpu))
        (subst (λ (i : Irq). option_map_or (is_before (record { id = intid_of key; prio = i.prio; group = i.group })) (first_of (candidates_at (interface_of (p vcpu).local))) true ≡ false) (record_is guest number moments good proper key there none)
        (first_comes_first guest number moments vcpu key good proper few may (record { waiting = record { there = there; home = none; unwanted = unwanted; waits = waits }; told = told }) deliverable_here))
      where
        cpu : cpu_at at.ideal.guest vcpu ≡ (p vcpu).local.cpu
        cpu = cpu_is guest number moments good proper vcpu few may.unkicked (not_folding (p vcpu).local.phase may.loaded.ready)

        deliverable_here : IsTrue (is_deliverable key (record_in shape state key) vcpu (p vcpu).local.cpu shape)
        deliverable_here = subst (λ (i : Irq). IsTrue (is_deliverable key i vcpu (p vcpu).local.cpu shape)) (sym (record_is guest number moments good proper key there none)) (subst (λ c. IsTrue (is_deliverable key (irq_at at.ideal.guest key) vcpu c shape)) cpu deliverable)

        waits : IsTrue (waits_for shape vcpu (record_in shape state key))
        waits =
            let parts = and_parts (is_ripe (record_in shape state key) vcpu shape && is_none (record_in shape state key).act_by && is_group_enabled (record_in shape state key).group (p vcpu).local.cpu) (takes_kind key (p vcpu).local.cpu) deliverable_here in
            let two = and_parts (is_ripe (record_in shape state key) vcpu shape) (is_none (record_in shape state key).act_by) (and_parts (is_ripe (record_in shape state key) vcpu shape && is_none (record_in shape state key).act_by) (is_group_enabled (record_in shape state key).group (p vcpu).local.cpu) parts.0).0 in
            ap (λ b. b || is_number vcpu (record_in shape state key).act_by) (and_from (is_none (record_in shape state key).act_by) (is_ripe (record_in shape state key) vcpu shape) two.1 two.0)

    -- does not come before the first at its interface
    pub none_first : comes_first at.ideal vcpu key ≡ false
    none_first = of (comes_first at.ideal vcpu key) refl
      where
        of : (b : Bool) → comes_first at.ideal vcpu key ≡ b → b ≡ false
        of false e = refl
        of true e =
            let both = and_parts (is_home at.ideal key && is_deliverable key (irq_at at.ideal.guest key) vcpu (cpu_at at.ideal.guest vcpu) at.ideal.guest.shape) (option_map_or (is_before (record { id = intid_of key; prio = (irq_at at.ideal.guest key).prio; group = (irq_at at.ideal.guest key).group })) (first_of (candidates_at (interface_at at.ideal vcpu))) true) e in
            let two = and_parts (is_home at.ideal key) (is_deliverable key (irq_at at.ideal.guest key) vcpu (cpu_at at.ideal.guest vcpu) at.ideal.guest.shape) both.0 in
            sym both.1 ∙ home_first (nobody_holds guest number moments good proper key there two.0) (subst (λ (g : GuestShape). IsTrue (is_deliverable key (irq_at at.ideal.guest key) vcpu (cpu_at at.ideal.guest vcpu) g)) here.related.shape_is two.1)

  -- of the last change of an interrupt that it is to end, that is active by it and at no interface all the same, it is still to be told
  pub far_known : (key : Key) → IsTrue (has_interrupt shape key) → ((record_in shape state key).holder ≡ None → HasLookedFar shape state vcpu (p vcpu) key) → is_far_active at.ideal vcpu key ≡ true → IsExcused shape state at.track vcpu key
  far_known key there looked far =
      let both = and_parts (is_home at.ideal key) (is_number vcpu (irq_at at.ideal.guest key).act_by) far in
      let none = nobody_holds guest number moments good proper key there both.0 in
      far_ends_are_known guest number moments vcpu key good proper few (looked none) none (ap (λ (i : Irq). i.act_by) (record_is guest number moments good proper key there none) ∙ active (irq_at at.ideal.guest key).act_by both.1)
    where
      active : (o : Option ℕ) → is_number vcpu o ≡ true → o ≡ Some vcpu
      active None h = absurd (cc)
      active (Some v) h = ap Some (eqb-true v vcpu h)
