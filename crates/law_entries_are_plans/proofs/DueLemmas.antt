-- What a vCPU that is alone, with nothing at its interface, is to find in the words: each interrupt at which the plan over the guest with all taken back looks.
use Rattle.std.proofs.Common.{◌≡◌, ℕ, ◌<◌, ◌&&◌, ◌||◌, inl, inr, Bool, true, false, cond, IsTrue, List, [], ◌∷◌, filter, map, Contains, Some, None, is_none, refl, sym, ap, ◌∙◌, subst}
use Rattle.std.proofs.lemmas.Bool.{and_parts, and_from, eqb-true}
use Rattle.law_serial_is_eager.specs.Words.{Key, GuestShape, has_interrupt, intid_of, Irq, is_number, is_ripe}
use Rattle.law_serial_is_eager.specs.Calls.{Entry, left}
use Rattle.law_serial_is_eager.specs.Histories.{Track, IsHistory, home, interface_at, is_home, is_of, shown_at, standing_at, IdealGuest, cpu_at, irq_at, CanOpen}
use Rattle.law_serial_is_eager.specs.Registers.{Candidate, CpuRec, is_deliverable, is_group_enabled, takes_kind, candidates_at}
use Rattle.law_serial_is_eager.proofs.LawHistories.StandLemmas.{home_nowhere, of_key, standing_of_key}
use Rattle.law_serial_is_eager.proofs.LawHomeCommutes.HomeLemmas.{home_irq}
use Rattle.law_serial_is_eager.proofs.LawHomeCommutes.SpotLemmas.{IsThere, IsTidy}
use Rattle.law_serial_is_eager.specs.Lists.{Offer}
use Rattle.law_serial_is_eager.proofs.VcpuRefill.ElementLemmas.{Contains-nothing}
use Rattle.law_serial_is_eager.specs.Core.{actor_count, CoreState, opening, seat_at, end_of_moments, ideal_of, CoreMoment, opening_progress, progress_in, IsProperRun}
use Rattle.law_serial_is_eager.specs.LawCoreIsHistory.Related.{bare, stands}
use Rattle.law_serial_is_eager.specs.LawRegistersStand.Followed.{Followed}
use Rattle.law_serial_is_eager.specs.LawScansMissNone.Excuse.{followed_in}
use Rattle.law_serial_is_eager.specs.LawScansMissNone.Index.{waits_for}
use Rattle.law_serial_is_eager.specs.LawScansMissNone.Scan.{offer_in}
use Rattle.law_serial_is_eager.specs.LawScansMissNone.Waiting.{IsDue, record_in}
use Rattle.law_serial_is_eager.proofs.LawScansMissNone.Frame.{IsAt, progress_on}
use Rattle.law_serial_is_eager.specs.LawAccessesShowHome.Stay.{IsAsReached}
use Rattle.law_serial_is_eager.specs.LawAccessesShowHome.UpToDate.{IsUpToDate}
use Rattle.law_serial_is_eager.proofs.LawAccessesShowHome.ShowLemmas.{Where, home_cpu, is_home_so, nowhere, somewhere, stands_there, where_is}
use Rattle.law_serial_is_eager.proofs.LawAccessesShowHome.StayEvents.{AllAsReached}
use Rattle.law_serial_is_eager.proofs.LawAccessesShowHome.StayRuns.{stand_so}
use Rattle.law_serial_is_eager.specs.LawLoneAccessesFindAll.Lone.{IsAlone}
use Rattle.law_serial_is_eager.proofs.LawLoneAccessesFindAll.HereLemmas.{end_is, nobody_holds, record_is}
use Rattle.law_serial_is_eager.proofs.LawLoneAccessesFindAll.LoneLemmas.{none_excused, not_wanted}
use Rattle.law_entries_are_plans.proofs.PlaceLemmas.{offer_as, offer_home}
use Rattle.law_entries_are_plans.proofs.PlanLemmas.{Passes}

-- a record that nobody holds and no access waits for is bare
bare_is : (irq : Irq) → irq.holder ≡ None → irq.want ≡ false → irq ≡ bare irq
bare_is irq none unwanted = ap (λ holder. let i : Irq = record irq { holder = holder } in i) none ∙ ap (λ want. let i : Irq = record irq { holder = None; want = want } in i) unwanted

-- what is active by a vCPU with all taken back, and stood at one, stood there
active_there : (irq : Irq) (entry : Entry) (vcpu w : ℕ) → is_number vcpu (left w (record { irq = irq; entry = entry })).act_by ≡ true → w ≡ vcpu
active_there irq entry vcpu w h = of entry.active h
  where
    of : (b : Bool) → is_number vcpu (cond b (Some w) None) ≡ true → w ≡ vcpu
    of true h = eqb-true w vcpu h
    of false h = absurd (cc)

-- an interrupt is due, and its word says of it what a guest has
pub record IsShown (shape : GuestShape) (guest : IdealGuest) (state : CoreState) (track : Track) (vcpu : ℕ) (key : Key) : Type 0 where
  pub due : IsDue shape state track vcpu key
  pub same : offer_in shape state key ≡ offer_home guest key

module _ (guest : IdealGuest) (number : ℕ) (moments : List CoreMoment) (vcpu : ℕ) (good : CanOpen guest) (proper : IsProperRun guest number moments) (history : IsHistory guest (ideal_of guest.shape (opening guest number) moments)) (few : vcpu < guest.shape.vcpus)
    (up : IsUpToDate guest.shape (followed_in guest number moments)) (alone : IsAlone guest number moments vcpu) (none : (actor : ℕ) → actor < actor_count guest.shape → (progress_in guest number moments actor).wants ≡ []) where
  abbrev shape : GuestShape
  shape = guest.shape

  abbrev state : CoreState
  state = end_of_moments guest.shape (opening guest number) moments

  abbrev at : Followed
  at = followed_in guest number moments

  abbrev back : IdealGuest
  back = home at.ideal

  all : AllAsReached guest.shape at
  all = (stand_so guest (ideal_of guest.shape (opening guest number) moments) good history).0

  tidy : IsTidy guest.shape at.ideal
  tidy = (stand_so guest (ideal_of guest.shape (opening guest number) moments) good history).1

  -- what a word says of an interrupt that nobody holds is what the guest has of it
  pub seen_home : (key : Key) → IsTrue (has_interrupt guest.shape key) → (record_in guest.shape state key).holder ≡ None → is_home at.ideal key ≡ true → offer_in guest.shape state key ≡ offer_home back key
  seen_home key there free is =
      ap (offer_as key)
      (bare_is (record_in shape state key) free (not_wanted guest number moments vcpu good proper few alone none key there) ∙ record_is guest number moments good proper key there free ∙ sym (home_irq shape at.ideal tidy key there None (λ w. home_nowhere at.ideal key is w)))

  module _ (empty : (seat_at state vcpu).local.at ≡ []) where
    here : IsAt shape state at (progress_on shape (opening_progress guest number) moments)
    here = end_is guest number good moments proper

    nothing_stands : standing_at at.ideal vcpu ≡ []
    nothing_stands = (here.related.seats vcpu few).at ∙ ap (map stands) empty

    -- it is at no interface
    passes_home : (key : Key) → IsTrue (has_interrupt shape key) → Passes shape back vcpu key → is_home at.ideal key ≡ true
    passes_home key there passes = of (where_is shape good.sound.shape at tidy all up vcpu few key there)
      where
        not_here : (w : ℕ) (entry : Entry) → of_key at.ideal key w ≡ standing_of_key key entry ∷ [] → w ≡ vcpu → ⊥
        not_here w entry is same =
            let one : of_key at.ideal key vcpu ≡ standing_of_key key entry ∷ [] = subst (λ n. of_key at.ideal key n ≡ standing_of_key key entry ∷ []) same is in
            let other : of_key at.ideal key vcpu ≡ [] = ap (filter (is_of key)) nothing_stands in
            cc

        shown : Candidate
        shown = record { id = intid_of key; prio = (irq_at at.ideal.guest key).prio; group = (irq_at at.ideal.guest key).group }

        none_shown : candidates_at (interface_at at.ideal vcpu) ≡ []
        none_shown = ap (λ list. candidates_at (record { cpu = cpu_at at.ideal.guest vcpu; at = map (shown_at at.ideal) list })) nothing_stands

        -- where it stands the plan does not look at it
        stood : (w : ℕ) (entry : Entry) → IsThere shape key (of_key at.ideal key) (record { vcpu = w; entry = entry }) → irq_at back key ≡ left w (record { irq = irq_at at.ideal.guest key; entry = entry }) → IsAsReached shape at w (standing_of_key key entry) → Passes shape back vcpu key → ⊥
        stood w entry is e reached (inl active) = not_here w entry is.here (active_there (irq_at at.ideal.guest key) entry vcpu w (subst (λ (i : Irq). is_number vcpu i.act_by ≡ true) e active))
        stood w entry is e reached (inr delivered) =
            let now : IsTrue (is_deliverable key (left w (record { irq = irq_at at.ideal.guest key; entry = entry })) vcpu (cpu_at at.ideal.guest vcpu) shape) =
            subst (λ (i : Irq). IsTrue (is_deliverable key i vcpu (cpu_at at.ideal.guest vcpu) shape)) e (subst (λ (c : CpuRec). IsTrue (is_deliverable key (irq_at back key) vcpu c shape)) (home_cpu shape good.sound.shape at tidy all up vcpu few) delivered) in
            let there = stands_there shape good.sound.shape at tidy all up vcpu few key w entry is reached now in
            Contains-nothing shown (subst (λ list. Contains list shown) none_shown there)

        of : Where shape good.sound.shape at tidy all up vcpu few key → is_home at.ideal key ≡ true
        of (nowhere none e) = is_home_so shape good.sound.shape at tidy all up vcpu few key none
        of (somewhere w entry is e reached) = absurd (stood w entry is e reached passes)

    -- and due
    pub shown_due : (key : Key) → IsTrue (has_interrupt shape key) → Passes shape back vcpu key → IsShown shape back state at.track vcpu key
    shown_due key there passes = record {
      due = record { waiting = record { there = there; home = free; unwanted = not_wanted guest number moments vcpu good proper few alone none key there; waits = waits passes }; told = none_excused guest number moments vcpu good proper few alone key };
      same = same;
    }
      where
        is : is_home at.ideal key ≡ true
        is = passes_home key there passes

        free : (record_in shape state key).holder ≡ None
        free = nobody_holds guest number moments good proper key there is

        same : offer_in shape state key ≡ offer_home back key
        same = seen_home key there free is

        irq_is : record_in shape state key ≡ irq_at back key
        irq_is = ap (λ (o : Offer). o.irq) same

        or_right : (a b : Bool) → b ≡ true → (a || b) ≡ true
        or_right true b h = refl
        or_right false b h = h

        waits : Passes shape back vcpu key → IsTrue (waits_for shape vcpu (record_in shape state key))
        waits (inl active) =
            subst (λ (i : Irq). IsTrue (waits_for shape vcpu i)) (sym irq_is) (or_right (is_none (irq_at back key).act_by && is_ripe (irq_at back key) vcpu shape) (is_number vcpu (irq_at back key).act_by) active)
        waits (inr delivered) =
            let irq = irq_at back key in
            let cpu = cpu_at back vcpu in
            let parts = and_parts (is_ripe irq vcpu shape && is_none irq.act_by && is_group_enabled irq.group cpu) (takes_kind key cpu) delivered in
            let two = and_parts (is_ripe irq vcpu shape) (is_none irq.act_by) (and_parts (is_ripe irq vcpu shape && is_none irq.act_by) (is_group_enabled irq.group cpu) parts.0).0 in
            subst (λ (i : Irq). IsTrue (waits_for shape vcpu i)) (sym irq_is) (ap (λ b. b || is_number vcpu irq.act_by) (and_from (is_none irq.act_by) (is_ripe irq vcpu shape) two.1 two.0))
