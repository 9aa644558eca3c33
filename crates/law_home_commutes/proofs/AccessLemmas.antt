-- An access of a CPU interface: the state that it leaves, and the guest with all taken back.
use Rattle.std.proofs.Common.{◌≡◌, ◌≢◌, ℕ, ◌<◌, ◌||◌, not, Bool, true, false, cond, IsTrue, inl, inr, [], ◌∷◌, map, filter, length, Option, Some, None, refl, sym, ap, ◌∙◌, subst}
use Rattle.std.specs.Option.{option_map_or}
use Rattle.std.proofs.lemmas.Bool.{cases_eq, not-true}
use Rattle.std.proofs.lemmas.Simd.{map-map}
use Rattle.law_histories.specs.Words.{IccReg, Key, GuestShape, has_interrupt, is_of_vcpu, is_same_key, key_of, IsShape, Irq, acknowledged, deactivated, is_number}
use Rattle.law_histories.specs.Registers.{Candidate, taken_by, deactivated_by, answer_of, cpu_after, AtInterface, candidates_at, interface_after}
use Rattle.law_histories.proofs.GicPrio.AccessLemmas.{taken_first}
use Rattle.law_histories.specs.Calls.{Cpu, Entry, left, IsEntryOf, at_interface, entry_of}
use Rattle.law_histories.specs.Histories.{IdealGuest, irq_at, cpu_at, with_cpu, candidates, changed_irq, is_named, after_acknowledge, after_deactivation, after_event, Ideal, Standing, standing_at, is_of, shown_at, interface_at, standing_of, happened, home}
use Rattle.law_histories.proofs.IdealGuests.KeyLemmas.{IsWhole, whole_changed_at, irq_changed_at, named_is}
use Rattle.law_histories.proofs.LatchLaw.{seats_after}
use Rattle.law_histories.proofs.LatchMoves.{acked, ended, acked_each, ended_each}
use Rattle.law_histories.proofs.StandLemmas.{of_key, standing_of_key, filter_changed, put_here, put_other}
use Rattle.law_histories.proofs.StateLemmas.{guest_is}
use Rattle.law_home_commutes.specs.Home.{ShowsHome, AccessPassesHome}
use Rattle.law_home_commutes.proofs.CpuLemmas.{none_so, no_candidate, found_among, none_with, taken_same, answer_same, cpu_same, acked_key, ended_key, acked_fits, ended_fits, ack_by, end_by, acked_back, ended_back}
use Rattle.law_home_commutes.proofs.HomeLemmas.{with_irqs, home_irq, IsTold, home_is, home_rest, home_whole}
use Rattle.law_home_commutes.proofs.SpotLemmas.{Spot, back, IsThere, IsSpot, IsPlaced, IsTidy, spot_same}

module _ (shape : GuestShape) (state : Ideal) (tidy : IsTidy shape state) (vcpu : ℕ) (few : vcpu < shape.vcpus) (actor : ℕ) (reg : IccReg) (write : Option ℕ) where
  within : vcpu < length state.at
  within = subst (λ n. vcpu < n) (sym tidy.seats) few

  -- What stands there then.

  abbrev pub taken_now : Option Candidate
  taken_now = taken_by reg write (cpu_at state.guest vcpu) (candidates_at (interface_at state vcpu))

  abbrev pub ended_now : Option ℕ
  ended_now = deactivated_by reg write (cpu_at state.guest vcpu)

  abbrev pub accessed : AtInterface → AtInterface
  accessed one = ended ended_now (acked taken_now one)

  abbrev pub access : Standing → Standing
  access one = standing_of (accessed (shown_at state one))

  pub accessed_key : (one : AtInterface) → (accessed one).key ≡ one.key
  accessed_key one = ended_key ended_now (acked taken_now one) ∙ acked_key taken_now one

  at_is : map standing_of (interface_after reg write (interface_at state vcpu)).at ≡ map access (standing_at state vcpu)
  at_is =
      ap (map standing_of) (ended_each ended_now _ ∙ ap (map (ended ended_now)) (acked_each taken_now (map (shown_at state) (standing_at state vcpu))))
      ∙ ap (map standing_of) (map-map (ended ended_now) (acked taken_now) (map (shown_at state) (standing_at state vcpu)) ∙ map-map accessed (shown_at state) (standing_at state vcpu))
      ∙ map-map standing_of (λ x. accessed (shown_at state x)) (standing_at state vcpu)

  abbrev after : Ideal
  after = happened actor (Cpu vcpu reg write) state

  pub here_is : (key : Key) → of_key after key vcpu ≡ map access (of_key state key vcpu)
  here_is key =
      put_here state key vcpu (map standing_of (interface_after reg write (interface_at state vcpu)).at) within
      ∙ ap (filter (is_of key)) at_is ∙ filter_changed (is_of key) access (λ one. ap (λ k. is_same_key k key) (accessed_key (shown_at state one))) (standing_at state vcpu)

  pub other_is : (key : Key) (other : ℕ) → other ≢ vcpu → of_key after key other ≡ of_key state key other
  other_is key other differ = put_other state key vcpu (map standing_of (interface_after reg write (interface_at state vcpu)).at) other differ

  -- the entry of an interrupt then
  abbrev one_at : Key → Entry → AtInterface
  one_at key entry = at_interface key (record { irq = irq_at state.guest key; entry = entry })

  abbrev spot_then : Key → Spot → Spot
  spot_then key one = record { vcpu = one.vcpu; entry = entry_of (accessed (one_at key one.entry)) }

  -- where an interrupt is then: as before where it is not there, or there with another entry
  pub data IsAfter (key : Key) (spot then : Option Spot) : Type 0 where
    not_there : of_key state key vcpu ≡ [] → then ≡ spot → IsAfter key spot then
    is_there : (one : Spot) → IsThere shape key (of_key state key) one → one.vcpu ≡ vcpu → spot ≡ Some one → then ≡ Some (spot_then key one) → IsAfter key spot then

  pub record IsAccessed (key : Key) (spot : Option Spot) : Type 0 where
    pub then : Option Spot
    pub is : IsSpot shape key (of_key after key) then
    pub how : IsAfter key spot then

  nowhere : (key : Key) (spot : Option Spot) → IsSpot shape key (of_key state key) spot → of_key state key vcpu ≡ [] → IsAccessed key spot
  nowhere key spot is none = record {
    then = spot;
    is = spot_same shape key (of_key state key) (of_key after key)
        (λ other. elim (cases_eq other vcpu) [
          | inl e ↦ subst (λ v. of_key after key v ≡ of_key state key v) (sym e) (here_is key ∙ ap (map access) none ∙ sym none)
          | inr differ ↦ other_is key other differ
        ]) spot is;
    how = not_there none refl;
  }

  there_so : (key : Key) (one : Spot) → IsThere shape key (of_key state key) one → one.vcpu ≡ vcpu → IsAccessed key (Some one)
  there_so key one at same = record {
    then = Some (spot_then key one);
    is = record {
      there = at.there;
      few = at.few;
      own = at.own;
      entry = ended_fits ended_now key (acked taken_now (one_at key one.entry)) (subst (λ k. IsEntryOf k (entry_of (acked taken_now (one_at key one.entry)))) refl (acked_fits taken_now (one_at key one.entry) at.entry));
      here =
          ap (of_key after key) same ∙ here_is key ∙ ap (map access) (subst (λ v. of_key state key v ≡ standing_of_key key one.entry ∷ []) same at.here)
          ∙ ap (λ k. standing_of_key k (entry_of (accessed (one_at key one.entry))) ∷ []) (accessed_key (one_at key one.entry));
      elsewhere = λ other differ. other_is key other (λ e. differ (e ∙ sym same)) ∙ at.elsewhere other differ;
    };
    how = is_there one at same refl refl;
  }

  accesses : (key : Key) (spot : Option Spot) → IsSpot shape key (of_key state key) spot → IsAccessed key spot
  accesses key None is = nowhere key None is (is vcpu)
  accesses key (Some one) is = elim (cases_eq one.vcpu vcpu) [
    | inl e ↦ there_so key one is e
    | inr differ ↦ nowhere key (Some one) is (is.elsewhere vcpu (λ e. differ (sym e)))
  ]

  pub cpu_tidy : IsTidy shape after
  cpu_tidy =
      let same = guest_is actor (Cpu vcpu reg write) state in
      record {
        shape_is = same.shape ∙ tidy.shape_is;
        whole = same.whole tidy.whole;
        seats = seats_after actor (Cpu vcpu reg write) state ∙ tidy.seats;
        placed = λ key. let placed = tidy.placed key in let now = accesses key placed.spot placed.is in record { spot = now.then; is = now.is };
        records = λ key there. tidy.records key there;
      }

  -- The eager controller's access, over the guest with all taken back.

  home_shape : (home state).shape ≡ shape
  home_shape = ap (λ (g : IdealGuest). g.shape) (home_rest state) ∙ tidy.shape_is

  home_cpu : cpu_at (home state) vcpu ≡ cpu_at state.guest vcpu
  home_cpu = ap (λ g. cpu_at g vcpu) (home_rest state)

  module _ (shows : ShowsHome state vcpu reg write) where
    abbrev taken_home : Option Candidate
    taken_home = taken_by reg write (cpu_at (home state) vcpu) (candidates (home state) vcpu)

    abbrev ended_home : Option ℕ
    ended_home = deactivated_by reg write (cpu_at (home state) vcpu)

    taken_is : taken_home ≡ taken_now
    taken_is = ap (λ c. taken_by reg write c (candidates (home state) vcpu)) home_cpu ∙ sym (taken_same reg write (cpu_at state.guest vcpu) (candidates_at (interface_at state vcpu)) (candidates (home state) vcpu) shows.first)

    ended_is : ended_home ≡ ended_now
    ended_is = ap (deactivated_by reg write) home_cpu

    -- the records that it leaves
    acked_irq : (key : Key) → IsTrue (has_interrupt shape key) → (o : Option Candidate) → irq_at (after_acknowledge o (home state) vcpu) key ≡ ack_by shape vcpu key o (irq_at (home state) key)
    acked_irq key there None = refl
    acked_irq key there (Some found) =
        irq_changed_at (home state) found.id vcpu key (λ k irq. acknowledged k vcpu irq) (home_whole state tidy.whole) (subst (λ s. IsTrue (has_interrupt s key)) (sym home_shape) there)
        ∙ ap (λ s. cond (is_named found.id vcpu s key) (acknowledged key vcpu (irq_at (home state) key)) (irq_at (home state) key)) home_shape

    acked_whole : (o : Option Candidate) → IsWhole (after_acknowledge o (home state) vcpu)
    acked_whole None = home_whole state tidy.whole
    acked_whole (Some found) = whole_changed_at found.id vcpu (λ k irq. acknowledged k vcpu irq) (home state) (home_whole state tidy.whole)

    ended_irq : (guest : IdealGuest) (key : Key) → IsWhole guest → guest.shape ≡ shape → IsTrue (has_interrupt shape key) → (o : Option ℕ) → irq_at (after_deactivation o guest vcpu) key ≡ end_by shape vcpu key o (irq_at guest key)
    ended_irq guest key whole same there None = refl
    ended_irq guest key whole same there (Some id) =
        irq_changed_at guest id vcpu key (λ k irq. deactivated vcpu irq) whole (subst (λ s. IsTrue (has_interrupt s key)) (sym same) there)
        ∙ ap (λ s. cond (is_named id vcpu s key) (deactivated vcpu (irq_at guest key)) (irq_at guest key)) same

    ended_whole : (guest : IdealGuest) → IsWhole guest → (o : Option ℕ) → IsWhole (after_deactivation o guest vcpu)
    ended_whole guest whole None = whole
    ended_whole guest whole (Some id) = whole_changed_at id vcpu (λ k irq. deactivated vcpu irq) guest whole

    -- nothing else changes but the record of the CPU interface
    acked_rest : (guest : IdealGuest) (o : Option Candidate) → with_irqs (after_acknowledge o guest vcpu) [] ≡ with_irqs guest []
    acked_rest guest None = refl
    acked_rest guest (Some found) = of (key_of found.id vcpu guest.shape)
      where
        of : (o : Option Key) → with_irqs (option_map_or (λ key. changed_irq key (acknowledged key vcpu) guest) o guest) [] ≡ with_irqs guest []
        of None = refl
        of (Some key) = refl

    ended_rest : (guest : IdealGuest) (o : Option ℕ) → with_irqs (after_deactivation o guest vcpu) [] ≡ with_irqs guest []
    ended_rest guest None = refl
    ended_rest guest (Some id) = of (key_of id vcpu guest.shape)
      where
        of : (o : Option Key) → with_irqs (option_map_or (λ key. changed_irq key (deactivated vcpu) guest) o guest) [] ≡ with_irqs guest []
        of None = refl
        of (Some key) = refl

    abbrev middle : IdealGuest
    middle = after_acknowledge taken_home (home state) vcpu

    middle_shape : middle.shape ≡ shape
    middle_shape = ap (λ (g : IdealGuest). g.shape) (acked_rest (home state) taken_home) ∙ home_shape

    target_irq : (key : Key) → IsTrue (has_interrupt shape key) → irq_at (after_event (home state) (Cpu vcpu reg write)) key ≡ end_by shape vcpu key ended_now (ack_by shape vcpu key taken_now (irq_at (home state) key))
    target_irq key there =
        ended_irq middle key (acked_whole taken_home) middle_shape there ended_home
        ∙ ap (end_by shape vcpu key ended_home) (acked_irq key there taken_home)
        ∙ ap (λ o. end_by shape vcpu key o (ack_by shape vcpu key taken_home (irq_at (home state) key))) ended_is
        ∙ ap (λ o. end_by shape vcpu key ended_now (ack_by shape vcpu key o (irq_at (home state) key))) taken_is

    target_whole : IsWhole (after_event (home state) (Cpu vcpu reg write))
    target_whole = let w = ended_whole middle (acked_whole taken_home) ended_home in record { shape = w.shape; each = w.each }

    cpu_is : cpu_after reg write (cpu_at state.guest vcpu) (candidates_at (interface_at state vcpu)) ≡ cpu_after reg write (cpu_at (home state) vcpu) (candidates (home state) vcpu)
    cpu_is =
        cpu_same reg write (cpu_at state.guest vcpu) (candidates_at (interface_at state vcpu)) (candidates (home state) vcpu) shows.first
        ∙ ap (λ c. cpu_after reg write c (candidates (home state) vcpu)) (sym home_cpu)

    rest_is : with_irqs after.guest [] ≡ with_irqs (after_event (home state) (Cpu vcpu reg write)) []
    rest_is =
        ap (λ c. with_irqs (with_cpu state.guest vcpu c) []) cpu_is
        ∙ ap (λ g. with_irqs (with_cpu g vcpu (cpu_after reg write (cpu_at (home state) vcpu) (candidates (home state) vcpu))) []) (sym (ended_rest middle ended_home ∙ acked_rest (home state) taken_home ∙ home_rest state))

    -- one that is not there is neither acknowledged nor ended
    not_taken : (key : Key) → of_key state key vcpu ≡ [] → (o : Option Candidate) → taken_now ≡ o → (irq : Irq) → ack_by shape vcpu key o irq ≡ irq
    not_taken key none None e irq = refl
    not_taken key none (Some found) e irq = of (is_named found.id vcpu shape key) refl
      where
        of : (b : Bool) → is_named found.id vcpu shape key ≡ b → cond b (acknowledged key vcpu irq) irq ≡ irq
        of true named =
            absurd
            (let yes = found_among _ (candidates_at (interface_at state vcpu)) found (taken_first reg write (cpu_at state.guest vcpu) (candidates_at (interface_at state vcpu)) found e) in
            let no = no_candidate (cpu_at state.guest vcpu) state found.id (standing_at state vcpu) (none_with shape state tidy vcpu few key found.id none named) in cc)
        of false named = refl

    not_ended : (key : Key) → of_key state key vcpu ≡ [] → (o : Option ℕ) → ended_now ≡ o → (irq : Irq) → irq ≡ irq_at (home state) key → end_by shape vcpu key o irq ≡ irq
    not_ended key none None e irq is = refl
    not_ended key none (Some id) e irq is = of (is_named id vcpu shape key) refl
      where
        inactive : is_named id vcpu shape key ≡ true → is_number vcpu irq.act_by ≡ false
        inactive named =
            ap (λ (i : Irq). is_number vcpu i.act_by) is
            ∙ sym (ap (λ s. option_map_or (λ k. is_number vcpu (irq_at (home state) k).act_by) (key_of id vcpu s) false) home_shape ∙ ap (λ o. option_map_or (λ k. is_number vcpu (irq_at (home state) k).act_by) o false) (named_is id vcpu shape key named))
            ∙ sym (shows.end id e) ∙ none_so state id (λ one. one.active) (standing_at state vcpu) (none_with shape state tidy vcpu few key id none named)

        of : (b : Bool) → is_named id vcpu shape key ≡ b → cond b (deactivated vcpu irq) irq ≡ irq
        of true named = ap (λ b. cond b (record irq { act_by = None }) irq) (inactive named)
        of false named = refl

    -- what is acknowledged has no causes of its own
    uncaused : (key : Key) (found : Candidate) → taken_now ≡ Some found → is_named found.id vcpu shape key ≡ true → ((irq_at state.guest key).rise || (irq_at state.guest key).soft) ≡ false
    uncaused key found e named =
        not-true ((irq_at state.guest key).rise || (irq_at state.guest key).soft)
        (sym (ap (λ s. option_map_or (λ k. let irq = irq_at state.guest k in not (irq.rise || irq.soft)) (key_of found.id vcpu s) true) tidy.shape_is ∙ ap (λ o. option_map_or (λ k. let irq = irq_at state.guest k in not (irq.rise || irq.soft)) o true) (named_is found.id vcpu shape key named))
        ∙ shows.causes found e)

    told : (key : Key) → IsTrue (has_interrupt shape key) → IsTold shape after (after_event (home state) (Cpu vcpu reg write)) key
    told key there = record { spot = now.then; is = now.is; irq_is = of now.how ∙ sym (target_irq key there) }
      where
        placed : IsPlaced shape key (of_key state key)
        placed = tidy.placed key

        now : IsAccessed key (tidy.placed key).spot
        now = accesses key (tidy.placed key).spot (tidy.placed key).is

        irq : Irq
        irq = irq_at state.guest key

        home_now : irq_at (home state) key ≡ back (tidy.placed key).spot (irq_at state.guest key)
        home_now = home_irq shape state tidy key there (tidy.placed key).spot (tidy.placed key).is

        of : IsAfter key (tidy.placed key).spot (accesses key (tidy.placed key).spot (tidy.placed key).is).then
            → back (accesses key (tidy.placed key).spot (tidy.placed key).is).then (irq_at state.guest key) ≡ end_by shape vcpu key ended_now (ack_by shape vcpu key taken_now (irq_at (home state) key))
        of (not_there none same) =
            ap (λ o. back o (irq_at state.guest key)) same ∙ sym home_now
            ∙ sym (ap (end_by shape vcpu key ended_now) (not_taken key none taken_now refl (irq_at (home state) key)) ∙ not_ended key none ended_now refl (irq_at (home state) key) refl)
        of (is_there one at same spot_is then_is) =
            let mine : is_of_vcpu vcpu key ≡ true = subst (λ v. is_of_vcpu v key ≡ true) same at.own in
            let good = subst IsShape tidy.shape_is tidy.whole.shape in
            let shown = one_at key one.entry in
            let acked_now = acked taken_now shown in
            ap (λ o. back o (irq_at state.guest key)) then_is
            ∙ ap (λ v. left v (record { irq = irq_at state.guest key; entry = entry_of (accessed (one_at key one.entry)) })) same
            ∙ ended_back shape vcpu key good few there mine (irq_at state.guest key) ended_now acked_now (acked_key taken_now shown)
            ∙ ap (end_by shape vcpu key ended_now)
            (acked_back shape vcpu key good few there mine (irq_at state.guest key) taken_now shown refl (λ found e named. uncaused key found e named)
            ∙ ap (ack_by shape vcpu key taken_now) (ap (λ v. left v (record { irq = irq_at state.guest key; entry = one.entry })) (sym same) ∙ ap (λ o. back o (irq_at state.guest key)) (sym spot_is) ∙ sym home_now))

    pub access_passes : AccessPassesHome state actor vcpu reg write
    access_passes = record {
      answers =
          answer_same reg write (cpu_at state.guest vcpu) (candidates_at (interface_at state vcpu)) (candidates (home state) vcpu) shows.first
          ∙ ap (λ c. answer_of reg write c (candidates (home state) vcpu)) (sym home_cpu);
      goes = home_is shape after (after_event (home state) (Cpu vcpu reg write)) cpu_tidy target_whole rest_is told;
    }
