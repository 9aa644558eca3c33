-- What an access of a CPU interface finds while the guest is up to date is what the guest with all taken back has.
use Rattle.std.proofs.Common.{◌≡◌, ◌≢◌, ℕ, ◌<◌, ◌==◌, ◌&&◌, ◌||◌, ◌⊎◌, not, inl, inr, true≢false, Bool, true, false, cond, IsTrue, List, [], ◌∷◌, map, filter, Contains, Option, Some, None, refl, sym, ap, ◌∙◌, subst}
use Rattle.std.specs.List.{list_any, filter_map, range_with_len}
use Rattle.std.specs.Option.{option_map_or}
use Rattle.std.proofs.lemmas.Bool.{cases_eq, and_parts, and_from, eqb-true, eq-eqb}
use Rattle.law_home_commutes.specs.Words.{IccReg, Eoir0, Eoir1, Dir, Key, GuestShape, has_interrupt, interrupt_count, intid_of, is_of_vcpu, is_same_key, key_at, key_of, place_of, IsShape, G0, G1, Irq, is_forwarded, is_number, is_pending, target_in}
use Rattle.law_home_commutes.proofs.GicBase.KeyLemmas.{same_key, same_itself}
use Rattle.law_home_commutes.proofs.GicOpen.KeyLemmas.{key_at_place, key_at_there, place_within}
use Rattle.law_home_commutes.specs.Registers.{Candidate, CpuRec, taken_by, deactivated_by, first_of, is_before, is_deliverable, dir_deactivates, eoir_deactivates, intid_written, AtInterface, candidates_at}
use Rattle.law_home_commutes.proofs.GicPrio.AccessLemmas.{taken_first}
use Rattle.law_home_commutes.proofs.GicPrio.FirstLemmas.{first_is}
use Rattle.law_home_commutes.specs.Calls.{Entry, left}
use Rattle.law_home_commutes.specs.Histories.{IdealGuest, irq_at, cpu_at, candidate_at, candidates, asks_first, ended_by, home, Ideal, Standing, standing_at, is_of, is_home, shown_at, interface_at}
use Rattle.law_home_commutes.proofs.IdealGuests.KeyLemmas.{key_intid, key_there}
use Rattle.law_home_commutes.proofs.LawHistories.StandLemmas.{of_key, standing_of_key, any_nowhere, any_somewhere, none_filtered}
use Rattle.law_home_commutes.specs.Home.{ShowsHome, has_no_cause, is_active_at, is_active_by}
use Rattle.law_home_commutes.proofs.CpuLemmas.{named_own}
use Rattle.law_home_commutes.proofs.HomeLemmas.{home_irq, home_rest}
use Rattle.law_home_commutes.proofs.MoveLemmas.{routed_own}
use Rattle.law_home_commutes.proofs.SpotLemmas.{Spot, IsSpot, IsThere, IsTidy}
use Rattle.law_scans_miss_none.proofs.VcpuRefill.ElementLemmas.{Contains-here, Contains-there}
use Rattle.law_scans_miss_none.proofs.VcpuRefill.StandLemmas.{in_filter_map, from_filter_map}
use Rattle.law_scans_miss_none.specs.LawRegistersStand.Followed.{Followed}
use Rattle.law_accesses_show_home.specs.UpToDate.{IsUpToDate, FindsAll}
use Rattle.law_accesses_show_home.specs.Stay.{IsAsReached}
use Rattle.law_accesses_show_home.proofs.InterfaceLemmas.{IsOne, as_shown, delivers_back, from_interface, same_id, stands_among}
use Rattle.law_accesses_show_home.proofs.ListLemmas.{none_passes, range_has, range_within, first_agrees}
use Rattle.law_accesses_show_home.proofs.StayEvents.{AllAsReached, delivered}
use Rattle.law_accesses_show_home.proofs.StayLemmas.{there_so, stands_so}

-- Records.

-- an end is of the interrupt that the INTID written names
ended_key : (shape : GuestShape) (vcpu : ℕ) (reg : IccReg) (write : Option ℕ) (cpu : CpuRec) (id : ℕ) → deactivated_by reg write cpu ≡ Some id → ended_by shape vcpu reg write ≡ key_of id vcpu shape
ended_key shape vcpu reg write cpu id e = of reg write e
  where
    some_if : (b : Bool) (x : ℕ) → cond b (Some x) None ≡ Some id → x ≡ id
    some_if true x h = cc
    some_if false x h = absurd (cc)

    of : (r : IccReg) (o : Option ℕ) → deactivated_by r o cpu ≡ Some id → ended_by shape vcpu r o ≡ key_of id vcpu shape
    of Eoir0 (Some value) h = ap (λ i. key_of i vcpu shape) (some_if (eoir_deactivates G0 (intid_written value) cpu) (intid_written value) h)
    of Eoir1 (Some value) h = ap (λ i. key_of i vcpu shape) (some_if (eoir_deactivates G1 (intid_written value) cpu) (intid_written value) h)
    of Dir (Some value) h = ap (λ i. key_of i vcpu shape) (some_if (dir_deactivates (intid_written value) cpu) (intid_written value) h)
    of r o h = absurd (cc)

not_other : (b : Bool) → (b ≡ true → ⊥) → b ≡ false
not_other true h = absurd (h refl)
not_other false h = refl

-- An access while the guest is up to date.

module _ (shape : GuestShape) (good : IsShape shape) (at : Followed) (tidy : IsTidy shape at.ideal) (all : AllAsReached shape at) (rest : IsUpToDate shape at) (vcpu : ℕ) (few : vcpu < shape.vcpus) where
  abbrev pub state : Ideal
  state = at.ideal

  abbrev pub cpu : CpuRec
  cpu = cpu_at state.guest vcpu

  home_shape : (home state).shape ≡ shape
  home_shape = ap (λ (g : IdealGuest). g.shape) (home_rest state) ∙ tidy.shape_is

  pub home_cpu : cpu_at (home state) vcpu ≡ cpu
  home_cpu = ap (λ g. cpu_at g vcpu) (home_rest state)

  -- an interrupt is at no interface, or stands at one as it was reached
  pub data Where (key : Key) : Type 0 where
    nowhere : ((v : ℕ) → of_key state key v ≡ []) → irq_at (home state) key ≡ irq_at state.guest key → Where key
    somewhere : (w : ℕ) (entry : Entry) → IsThere shape key (of_key state key) (record { vcpu = w; entry = entry }) → irq_at (home state) key ≡ left w (record { irq = irq_at state.guest key; entry = entry }) → IsAsReached shape at w (standing_of_key key entry) → Where key

  not_home : (key : Key) (w : ℕ) (standing : Standing) → of_key state key w ≡ standing ∷ [] → is_home state key ≡ false
  not_home key w standing here = ap not (any_somewhere (is_of key) state.at w (not_none (list_any (is_of key) (standing_at state w)) refl))
    where
      not_none : (b : Bool) → list_any (is_of key) (standing_at state w) ≡ b → b ≡ true
      not_none true e = refl
      not_none false e = absurd (let none = none_filtered (is_of key) (standing_at state w) e in cc)

  pub where_is : (key : Key) → IsTrue (has_interrupt shape key) → Where key
  where_is key there = of (tidy.placed key).spot (tidy.placed key).is
    where
      of : (spot : Option Spot) → IsSpot shape key (of_key state key) spot → Where key
      of None is = nowhere is (home_irq shape state tidy key there None is)
      of (Some one) is = somewhere one.vcpu one.entry is (home_irq shape state tidy key there (Some one) is) (all key one.vcpu one.entry is.here (rest.unchanged key there (not_home key one.vcpu (standing_of_key key one.entry) is.here)))

  -- Candidates.

  abbrev shown_home : Key → Candidate
  shown_home key = record { id = intid_of key; prio = (irq_at (home state) key).prio; group = (irq_at (home state) key).group }

  abbrev delivers : Key → Bool
  delivers key = is_deliverable key (irq_at (home state) key) vcpu cpu shape

  record IsAt (key : Key) (c : Candidate) : Type 0 where
    there : IsTrue (has_interrupt shape key)
    own : is_of_vcpu vcpu key ≡ true
    delivered : IsTrue (delivers key)
    is : shown_home key ≡ c

  record HasKey (c : Candidate) : Type 0 where
    key : Key
    is_at : IsAt key c

  abbrev pub interface : List Candidate
  interface = candidates_at (interface_at state vcpu)

  abbrev among : List Candidate
  among = candidates (home state) vcpu

  in_home : (key : Key) (c : Candidate) → IsAt key c → Contains among c
  in_home key c is =
      subst (λ (s : GuestShape). Contains (filter_map (candidate_at (home state) vcpu) (range_with_len 0 (interrupt_count s))) c) (sym home_shape)
      (in_filter_map (candidate_at (home state) vcpu) (range_with_len 0 (interrupt_count shape)) (place_of shape key) c (range_has (interrupt_count shape) (place_of shape key) (place_within shape key good is.there)) found)
    where
      found : candidate_at (home state) vcpu (place_of shape key) ≡ Some c
      found =
          ap (λ (s : GuestShape). let k = key_at s (place_of shape key) in cond (is_deliverable k (irq_at (home state) k) vcpu (cpu_at (home state) vcpu) s) (Some (shown_home k)) None) home_shape
          ∙ ap (λ k. cond (is_deliverable k (irq_at (home state) k) vcpu (cpu_at (home state) vcpu) shape) (Some (shown_home k)) None) (key_at_place shape key good is.there)
          ∙ ap (λ c. cond (is_deliverable key (irq_at (home state) key) vcpu c shape) (Some (shown_home key)) None) home_cpu
          ∙ ap (λ b. cond b (Some (shown_home key)) None) is.delivered ∙ ap Some is.is

  -- one that is deliverable is the vCPU's own
  own_of : (key : Key) → IsTrue (has_interrupt shape key) → IsTrue (delivers key) → is_of_vcpu vcpu key ≡ true
  own_of key there h = routed_own shape key (irq_at state.guest key).route vcpu (tidy.records key there).valid.route (same_route (where_is key there))
    where
      target : is_number vcpu (target_in (irq_at (home state) key).route shape) ≡ true
      target = let irq = irq_at (home state) key in (and_parts (is_pending irq && irq.enabled && is_forwarded irq) (is_number vcpu (target_in irq.route shape)) (delivered key irq vcpu cpu shape h).0).1

      same_route : Where key → is_number vcpu (target_in (irq_at state.guest key).route shape) ≡ true
      same_route (nowhere none e) = subst (λ (i : Irq). is_number vcpu (target_in i.route shape) ≡ true) e target
      same_route (somewhere w entry is e reached) = subst (λ (i : Irq). is_number vcpu (target_in i.route shape) ≡ true) e target

  from_home : (c : Candidate) → Contains among c → HasKey c
  from_home c h = of (from_filter_map (candidate_at (home state) vcpu) (range_with_len 0 (interrupt_count shape)) c (subst (λ (s : GuestShape). Contains (filter_map (candidate_at (home state) vcpu) (range_with_len 0 (interrupt_count s))) c) home_shape h))
    where
      of : (place : ℕ) × Contains (range_with_len 0 (interrupt_count shape)) place × (candidate_at (home state) vcpu place ≡ Some c) → HasKey c
      of (place, within, e) = by (delivers key) refl (sym now ∙ e)
        where
          key : Key
          key = key_at shape place

          now : candidate_at (home state) vcpu place ≡ cond (delivers (key_at shape place)) (Some (shown_home (key_at shape place))) None
          now =
              ap (λ (s : GuestShape). let k = key_at s place in cond (is_deliverable k (irq_at (home state) k) vcpu (cpu_at (home state) vcpu) s) (Some (shown_home k)) None) home_shape
              ∙ ap (λ c. cond (is_deliverable (key_at shape place) (irq_at (home state) (key_at shape place)) vcpu c shape) (Some (shown_home (key_at shape place))) None) home_cpu

          by : (b : Bool) → delivers (key_at shape place) ≡ b → cond b (Some (shown_home (key_at shape place))) None ≡ Some c → HasKey c
          by false d h = absurd (cc)
          by true d h =
              let there = key_at_there shape place good (range_within (interrupt_count shape) place within) in
              record { key = key_at shape place; is_at = record { there = there; own = own_of (key_at shape place) there d; delivered = d; is = some_same (shown_home (key_at shape place)) c h } }
            where
              some_same : (x y : Candidate) → Some x ≡ Some y → x ≡ y
              some_same x y h = cc

  -- two that are not before each other are one
  once : (a b : Candidate) → Contains among a → Contains among b → is_before a b ≡ false → is_before b a ≡ false → a ≡ b
  once a b ha hb h k = of (from_home a ha) (from_home b hb)
    where
      of : HasKey a → HasKey b → a ≡ b
      of one other =
          let id : intid_of one.key ≡ intid_of other.key = ap (λ (c : Candidate). c.id) one.is_at.is ∙ same_id a b h k ∙ sym (ap (λ (c : Candidate). c.id) other.is_at.is) in
          let key : one.key ≡ other.key = some_key one.key other.key (sym (named_own shape one.key vcpu good few one.is_at.there one.is_at.own) ∙ ap (λ i. key_of i vcpu shape) id ∙ named_own shape other.key vcpu good few other.is_at.there other.is_at.own) in
          sym one.is_at.is ∙ ap shown_home key ∙ other.is_at.is
        where
          some_key : (x y : Key) → Some x ≡ Some y → x ≡ y
          some_key x y h = cc

  -- What stands at the interface.

  record IsStanding (standing : Standing) : Type 0 where
    at_it : IsThere shape standing.key (of_key state standing.key) (record { vcpu = vcpu; entry = standing.entry })
    so : IsAsReached shape at vcpu standing
    home_is : irq_at (home state) standing.key ≡ left vcpu (record { irq = irq_at state.guest standing.key; entry = standing.entry })

  standing_is : (standing : Standing) → Contains (standing_at state vcpu) standing → IsStanding standing
  standing_is standing h =
      let here = stands_so shape state tidy vcpu standing h in
      let is = there_so shape state tidy standing.key vcpu standing.entry here in
      record {
        at_it = is;
        so = let reached = all standing.key vcpu standing.entry here (rest.unchanged standing.key is.there (not_home standing.key vcpu (standing_of_key standing.key standing.entry) here)) in record { pending = reached.pending; leaves = reached.leaves };
        home_is = home_irq shape state tidy standing.key is.there (Some (record { vcpu = vcpu; entry = standing.entry })) is;
      }

  -- the interface's candidates are the guest's with all taken back
  shown_there : (c : Candidate) → Contains interface c → Contains among c
  shown_there c h = of (from_interface shape at vcpu c h)
    where
      of : IsOne shape at vcpu c → Contains among c
      of one =
          let key = one.standing.key in
          let standing = standing_is one.standing one.among_it in
          in_home key c (record {
            there = standing.at_it.there;
            own = standing.at_it.own;
            delivered = subst (λ (i : Irq). IsTrue (is_deliverable key i vcpu cpu shape)) (sym standing.home_is) (delivers_back shape at vcpu c one (standing.so.pending one.pending));
            is = ap (λ (i : Irq). let shown : Candidate = record { id = intid_of key; prio = i.prio; group = i.group } in shown) standing.home_is ∙ one.is;
          })

  -- The first of them.

  abbrev pub home_back : Key → ℕ → Entry → Irq
  home_back key w entry = left w (record { irq = irq_at state.guest key; entry = entry })

  -- one that stands somewhere and is deliverable with all taken back is a candidate at the interface
  pub stands_there : (key : Key) (w : ℕ) (entry : Entry) → IsThere shape key (of_key state key) (record { vcpu = w; entry = entry }) → IsAsReached shape at w (standing_of_key key entry) → IsTrue (is_deliverable key (home_back key w entry) vcpu cpu shape) → Contains interface (as_shown at.ideal (standing_of_key key entry))
  stands_there key w entry is reached h = stands_among shape at vcpu key w entry is reached (rest.none_late w is.few) h

  pub is_home_so : (key : Key) → ((v : ℕ) → of_key state key v ≡ []) → is_home state key ≡ true
  is_home_so key none = ap not (any_nowhere (is_of key) state.at (λ n. none_passes (is_of key) (standing_at state n) (none n)))

  module _ (reg : IccReg) (write : Option ℕ) (finds : FindsAll shape state vcpu reg write) where
    extra : asks_first reg write ≡ true → (c : Candidate) → Contains among c → Contains interface c ⊎ (option_map_or (is_before c) (first_of interface) true ≡ false)
    extra asks c h = of (from_home c h)
      where
        of : HasKey c → Contains interface c ⊎ (option_map_or (is_before c) (first_of interface) true ≡ false)
        of one = by (where_is one.key one.is_at.there)
          where
            by : Where one.key → Contains interface c ⊎ (option_map_or (is_before c) (first_of interface) true ≡ false)
            by (nowhere none e) =
                let key = one.key in
                let irq = irq_at state.guest key in
                let home_too : IsTrue (is_deliverable key irq vcpu cpu state.guest.shape) = subst (λ (s : GuestShape). IsTrue (is_deliverable key irq vcpu cpu s)) (sym tidy.shape_is) (subst (λ (i : Irq). IsTrue (is_deliverable key i vcpu cpu shape)) e one.is_at.delivered) in
                let both = and_from (is_home state key) (is_deliverable key irq vcpu cpu state.guest.shape) (is_home_so key none) home_too in
                let shown : Candidate = record { id = intid_of key; prio = irq.prio; group = irq.group } in
                let same : shown ≡ c = ap (λ (i : Irq). let s : Candidate = record { id = intid_of key; prio = i.prio; group = i.group } in s) (sym e) ∙ one.is_at.is in
                inr (subst (λ d. option_map_or (is_before d) (first_of interface) true ≡ false) same (sym (ap (λ b. b && option_map_or (is_before shown) (first_of interface) true) both) ∙ finds.first asks key one.is_at.there))
            by (somewhere w entry is e reached) =
                let key = one.key in
                inl (subst (λ d. Contains interface d) (ap (λ (i : Irq). let s : Candidate = record { id = intid_of key; prio = i.prio; group = i.group } in s) (sym e) ∙ one.is_at.is)
                (stands_there key w entry is reached (subst (λ (i : Irq). IsTrue (is_deliverable key i vcpu cpu shape)) e one.is_at.delivered)))

    -- what IAR acknowledges has all its causes at the interface
    causes_so : (found : Candidate) → taken_by reg write cpu interface ≡ Some found → IsTrue (has_no_cause state.guest vcpu found.id)
    causes_so found e = of (from_interface shape at vcpu found (first_is interface found (taken_first reg write cpu interface found e)).among)
      where
        of : IsOne shape at vcpu found → IsTrue (has_no_cause state.guest vcpu found.id)
        of one =
            let key = one.standing.key in
            let standing = standing_is one.standing one.among_it in
            let wholly = standing.so.pending one.pending in
            let irq = irq_at state.guest key in
            let named : key_of found.id vcpu state.guest.shape ≡ Some key =
            subst (λ (s : GuestShape). key_of found.id vcpu s ≡ Some key) (sym tidy.shape_is) (ap (λ (c : Candidate). key_of c.id vcpu shape) (sym one.is) ∙ named_own shape key vcpu good few standing.at_it.there standing.at_it.own) in
            ap (λ o. option_map_or (λ k. let i = irq_at state.guest k in not (i.rise || i.soft)) o true) named ∙ ap (λ b. not (b || irq.soft)) wholly.no_rise ∙ ap (λ b. not b) wholly.no_soft

    -- An end.

    module _ (id : ℕ) (ends : deactivated_by reg write cpu ≡ Some id) where
      named_at : (standing : Standing) → Contains (standing_at state vcpu) standing → key_of (intid_of standing.key) vcpu shape ≡ Some standing.key
      named_at standing there = let is = (standing_is standing there).at_it in named_own shape standing.key vcpu good few is.there is.own

      -- each with this INTID is the one that it names
      is_active_so : (key : Key) (xs : List Standing) → ((standing : Standing) → Contains xs standing → (intid_of standing.key == id) ≡ is_of key standing)
          → list_any (λ (one : AtInterface). intid_of one.key == id && one.active) (map (shown_at state) xs) ≡ list_any (λ (s : Standing). s.entry.active) (filter (is_of key) xs)
      is_active_so key [] each = refl
      is_active_so key (x ∷ xs) each =
          ap (λ b. (b && x.entry.active) || list_any (λ (one : AtInterface). intid_of one.key == id && one.active) (map (shown_at state) xs)) (each x (Contains-here x xs))
          ∙ of (is_of key x) (is_active_so key xs (λ s h. each s (Contains-there x s xs h)))
        where
          of : (b : Bool) → list_any (λ (one : AtInterface). intid_of one.key == id && one.active) (map (shown_at state) xs) ≡ list_any (λ (s : Standing). s.entry.active) (filter (is_of key) xs)
              → ((b && x.entry.active) || list_any (λ (one : AtInterface). intid_of one.key == id && one.active) (map (shown_at state) xs)) ≡ list_any (λ (s : Standing). s.entry.active) (cond b (x ∷ filter (is_of key) xs) (filter (is_of key) xs))
          of true later = ap (λ b. x.entry.active || b) later
          of false later = later

      none_active : (xs : List Standing) → ((standing : Standing) → Contains xs standing → (intid_of standing.key == id) ≡ false) → list_any (λ (one : AtInterface). intid_of one.key == id && one.active) (map (shown_at state) xs) ≡ false
      none_active [] each = refl
      none_active (x ∷ xs) each =
          ap (λ b. (b && x.entry.active) || list_any (λ (one : AtInterface). intid_of one.key == id && one.active) (map (shown_at state) xs)) (each x (Contains-here x xs)) ∙ none_active xs (λ s h. each s (Contains-there x s xs h))

      -- an INTID that names none
      unnamed : key_of id vcpu shape ≡ None → is_active_at (interface_at state vcpu) id ≡ false
      unnamed none = none_active (standing_at state vcpu) (λ standing there. not_other (intid_of standing.key == id) (λ e. no_key (sym (named_at standing there) ∙ ap (λ i. key_of i vcpu shape) (eqb-true (intid_of standing.key) id e) ∙ none)))
        where
          no_key : {k : Key} → Some k ≡ None → ⊥
          no_key e = cc

      module _ (key : Key) (named : key_of id vcpu shape ≡ Some key) where
        same_test : (standing : Standing) → Contains (standing_at state vcpu) standing → (intid_of standing.key == id) ≡ is_of key standing
        same_test standing there = of (intid_of standing.key == id) refl
          where
            some_same : (x y : Key) → Some x ≡ Some y → x ≡ y
            some_same x y h = cc

            of : (b : Bool) → (intid_of standing.key == id) ≡ b → b ≡ is_of key standing
            of true e =
                let same : standing.key ≡ key = some_same standing.key key (sym (named_at standing there) ∙ ap (λ i. key_of i vcpu shape) (eqb-true (intid_of standing.key) id e) ∙ named) in
                sym (subst (λ k. is_same_key standing.key k ≡ true) same (same_itself standing.key))
            of false e = sym (not_other (is_of key standing) (λ h. true≢false (sym (eq-eqb (intid_of standing.key) id (ap intid_of (same_key standing.key key h) ∙ key_intid id vcpu shape key named)) ∙ e)))

        active_is : (list : List Standing) → of_key state key vcpu ≡ list → is_active_at (interface_at state vcpu) id ≡ list_any (λ (s : Standing). s.entry.active) list
        active_is list here = is_active_so key (standing_at state vcpu) same_test ∙ ap (list_any (λ (s : Standing). s.entry.active)) here

        by_home : is_active_by (home state) vcpu id ≡ is_number vcpu (irq_at (home state) key).act_by
        by_home = ap (λ (s : GuestShape). option_map_or (λ k. is_number vcpu (irq_at (home state) k).act_by) (key_of id vcpu s) false) home_shape ∙ ap (λ o. option_map_or (λ k. is_number vcpu (irq_at (home state) k).act_by) o false) named

        ended_at : Where key → is_active_at (interface_at state vcpu) id ≡ is_number vcpu (irq_at (home state) key).act_by
        ended_at (nowhere none e) =
            active_is [] (none vcpu)
            ∙ sym (ap (λ (i : Irq). is_number vcpu i.act_by) e ∙ sym (ap (λ b. b && is_number vcpu (irq_at state.guest key).act_by) (is_home_so key none)) ∙ finds.end key (ended_key shape vcpu reg write cpu id ends ∙ named))
        ended_at (somewhere w entry is e reached) = elim (cases_eq vcpu w) [
          | inr differ ↦ active_is [] (is.elsewhere vcpu differ) ∙ sym (ap (λ (i : Irq). is_number vcpu i.act_by) e ∙ other_number w differ entry.active)
          | inl same ↦ active_is (standing_of_key key entry ∷ []) (subst (λ v. of_key state key v ≡ standing_of_key key entry ∷ []) (sym same) is.here) ∙ or_none entry.active ∙ sym (ap (λ (i : Irq). is_number vcpu i.act_by) e ∙ own_number w same entry.active)
        ]
          where
            or_none : (b : Bool) → (b || false) ≡ b
            or_none true = refl
            or_none false = refl

            other_number : (v : ℕ) → vcpu ≢ v → (b : Bool) → is_number vcpu (cond b (Some v) None) ≡ false
            other_number v differ true = not_other (v == vcpu) (λ e. differ (sym (eqb-true v vcpu e)))
            other_number v differ false = refl

            own_number : (v : ℕ) → vcpu ≡ v → (b : Bool) → is_number vcpu (cond b (Some v) None) ≡ b
            own_number v same true = eq-eqb v vcpu (sym same)
            own_number v same false = refl

      end_so : is_active_at (interface_at state vcpu) id ≡ is_active_by (home state) vcpu id
      end_so = of (key_of id vcpu shape) refl
        where
          of : (o : Option Key) → key_of id vcpu shape ≡ o → is_active_at (interface_at state vcpu) id ≡ is_active_by (home state) vcpu id
          of None e = unnamed e ∙ sym (ap (λ (s : GuestShape). option_map_or (λ k. is_number vcpu (irq_at (home state) k).act_by) (key_of id vcpu s) false) home_shape ∙ ap (λ o. option_map_or (λ k. is_number vcpu (irq_at (home state) k).act_by) o false) e)
          of (Some key) e = ended_at key e (where_is key (key_there id vcpu shape key e)) ∙ sym (by_home key e)

    pub shows : ShowsHome state vcpu reg write
    shows = record { first = λ asks. first_agrees interface among shown_there (extra asks) once; causes = causes_so; end = end_so }
