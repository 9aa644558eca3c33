-- Where what stands at a vCPU's interface is as it was reached, none is to leave it, and no home interrupt comes before the first there, that is the first of all that are
-- deliverable once it is taken back.
use Rattle.std.proofs.Common.{◌≡◌, ℕ, ◌<◌, ◌&&◌, ◌⊎◌, inl, inr, true≢false, Bool, true, false, cond, IsTrue, List, [], Contains, Some, None, refl, sym, ap, ◌∙◌, subst}
use Rattle.std.specs.List.{filter_map, range_with_len}
use Rattle.std.specs.Option.{option_map_or}
use Rattle.std.proofs.lemmas.Bool.{and_parts, and_from}
use Rattle.law_serial_is_eager.specs.Words.{Key, GuestShape, has_interrupt, interrupt_count, intid_of, is_of_vcpu, key_at, key_of, place_of, IsShape, Irq, is_forwarded, is_number, is_pending, target_in}
use Rattle.law_serial_is_eager.proofs.GicOpen.KeyLemmas.{key_at_place, key_at_there, place_within}
use Rattle.law_serial_is_eager.specs.Registers.{Candidate, CpuRec, first_of, is_before, is_deliverable, candidates_at}
use Rattle.law_serial_is_eager.specs.Histories.{irq_at, cpu_at, comes_first, has_left_all, emptied, Ideal, Standing, interface_at, is_home, is_of, standing_at}
use Rattle.law_serial_is_eager.proofs.LawHistories.StandLemmas.{standing_of_key}
use Rattle.law_serial_is_eager.proofs.LawHomeCommutes.CpuLemmas.{named_own}
use Rattle.law_serial_is_eager.proofs.LawHomeCommutes.MoveLemmas.{routed_own}
use Rattle.law_serial_is_eager.proofs.LawHomeCommutes.SpotLemmas.{IsTidy}
use Rattle.law_serial_is_eager.proofs.VcpuRefill.ElementLemmas.{Contains-here}
use Rattle.law_serial_is_eager.proofs.VcpuRefill.StandLemmas.{in_filter_map, from_filter_map}
use Rattle.law_serial_is_eager.specs.LawRegistersStand.Followed.{Followed}
use Rattle.law_serial_is_eager.specs.LawAccessesShowHome.Stay.{IsAsReached}
use Rattle.law_serial_is_eager.proofs.LawAccessesShowHome.InterfaceLemmas.{IsOne, delivers_back, from_interface, same_id, stands_among}
use Rattle.law_serial_is_eager.proofs.LawAccessesShowHome.ListLemmas.{filtered_from, first_agrees, range_has, range_within}
use Rattle.law_serial_is_eager.proofs.LawAccessesShowHome.StayEvents.{delivered}
use Rattle.law_serial_is_eager.proofs.LawAccessesShowHome.StayLemmas.{stands_so, there_so}
use Rattle.law_runs_are_fresh.specs.First.{own_candidate, own_candidates}
use Rattle.law_runs_are_fresh.proofs.BackLemmas.{Place, away, cpu_back, here, here_is, nowhere, place_is, shape_back}

module _ (shape : GuestShape) (good : IsShape shape) (at : Followed) (tidy : IsTidy shape at.ideal) (vcpu : ℕ) (few : vcpu < shape.vcpus) (so : (standing : Standing) → Contains (standing_at at.ideal vcpu) standing → IsAsReached shape at vcpu standing) (gone : IsTrue (has_left_all at.track vcpu))
    (none : (key : Key) → IsTrue (has_interrupt shape key) → comes_first at.ideal vcpu key ≡ false) where
  abbrev state : Ideal
  state = at.ideal

  abbrev back : Ideal
  back = emptied at.ideal vcpu

  abbrev cpu : CpuRec
  cpu = cpu_at state.guest vcpu

  abbrev interface : List Candidate
  interface = candidates_at (interface_at state vcpu)

  abbrev shown_as : Key → Irq → Candidate
  shown_as key irq = record { id = intid_of key; prio = irq.prio; group = irq.group }

  abbrev delivers : Key → Bool
  delivers key = is_deliverable key (irq_at back.guest key) vcpu cpu shape

  -- What is deliverable once it is taken back.

  record IsAt (key : Key) (c : Candidate) : Type 0 where
    there : IsTrue (has_interrupt shape key)
    home : is_home back key ≡ true
    delivered : IsTrue (delivers key)
    is : shown_as key (irq_at back.guest key) ≡ c

  record HasKey (c : Candidate) : Type 0 where
    key : Key
    is_at : IsAt key c

  now : (place : ℕ) → own_candidate back vcpu place ≡ cond (is_home back (key_at shape place) && delivers (key_at shape place)) (Some (shown_as (key_at shape place) (irq_at back.guest (key_at shape place)))) None
  now place =
      ap (λ (s : GuestShape). let k = key_at s place in cond (is_home back k && is_deliverable k (irq_at back.guest k) vcpu (cpu_at back.guest vcpu) s) (Some (shown_as k (irq_at back.guest k))) None) (shape_back shape state tidy vcpu few)
      ∙ ap (λ c. cond (is_home back (key_at shape place) && is_deliverable (key_at shape place) (irq_at back.guest (key_at shape place)) vcpu c shape) (Some (shown_as (key_at shape place) (irq_at back.guest (key_at shape place)))) None) (cpu_back shape state tidy vcpu few)

  in_own : (key : Key) (c : Candidate) → IsAt key c → Contains (own_candidates state vcpu) c
  in_own key c is =
      subst (λ (s : GuestShape). Contains (filter_map (own_candidate back vcpu) (range_with_len 0 (interrupt_count s))) c) (sym (shape_back shape state tidy vcpu few))
      (in_filter_map (own_candidate back vcpu) (range_with_len 0 (interrupt_count shape)) (place_of shape key) c (range_has (interrupt_count shape) (place_of shape key) (place_within shape key good is.there)) found)
    where
      found : own_candidate back vcpu (place_of shape key) ≡ Some c
      found =
          now (place_of shape key)
          ∙ ap (λ k. cond (is_home back k && delivers k) (Some (shown_as k (irq_at back.guest k))) None) (key_at_place shape key good is.there)
          ∙ ap (λ b. cond b (Some (shown_as key (irq_at back.guest key))) None) (and_from (is_home back key) (delivers key) is.home is.delivered) ∙ ap Some is.is

  from_own : (c : Candidate) → Contains (own_candidates state vcpu) c → HasKey c
  from_own c h = of (from_filter_map (own_candidate back vcpu) (range_with_len 0 (interrupt_count shape)) c (subst (λ (s : GuestShape). Contains (filter_map (own_candidate back vcpu) (range_with_len 0 (interrupt_count s))) c) (shape_back shape state tidy vcpu few) h))
    where
      of : (place : ℕ) × Contains (range_with_len 0 (interrupt_count shape)) place × (own_candidate back vcpu place ≡ Some c) → HasKey c
      of (place, within, e) = by (is_home back (key_at shape place) && delivers (key_at shape place)) refl (sym (now place) ∙ e)
        where
          by : (b : Bool) → (is_home back (key_at shape place) && delivers (key_at shape place)) ≡ b → cond b (Some (shown_as (key_at shape place) (irq_at back.guest (key_at shape place)))) None ≡ Some c → HasKey c
          by false d h = absurd (cc)
          by true d h =
              let both = and_parts (is_home back (key_at shape place)) (delivers (key_at shape place)) d in
              record {
                key = key_at shape place;
                is_at = record { there = key_at_there shape place good (range_within (interrupt_count shape) place within); home = both.0; delivered = both.1; is = some_same (shown_as (key_at shape place) (irq_at back.guest (key_at shape place))) c h };
              }
            where
              some_same : (x y : Candidate) → Some x ≡ Some y → x ≡ y
              some_same x y h = cc

  -- it is the vCPU's own
  own_of : (key : Key) (c : Candidate) → IsAt key c → is_of_vcpu vcpu key ≡ true
  own_of key c is = routed_own shape key (irq_at state.guest key).route vcpu (tidy.records key is.there).valid.route (same_route (place_is shape state tidy vcpu few key is.there))
    where
      target : is_number vcpu (target_in (irq_at back.guest key).route shape) ≡ true
      target = let irq = irq_at back.guest key in (and_parts (is_pending irq && irq.enabled && is_forwarded irq) (is_number vcpu (target_in irq.route shape)) (delivered key irq vcpu cpu shape is.delivered).0).1

      same_route : Place shape state tidy vcpu few key → is_number vcpu (target_in (irq_at state.guest key).route shape) ≡ true
      same_route (nowhere before after e) = subst (λ (i : Irq). is_number vcpu (target_in i.route shape) ≡ true) e target
      same_route (here entry there after e) = subst (λ (i : Irq). is_number vcpu (target_in i.route shape) ≡ true) e target
      same_route (away gone) = absurd (true≢false (sym is.home ∙ gone))

  -- two that are not before each other are one
  once : (a b : Candidate) → Contains (own_candidates state vcpu) a → Contains (own_candidates state vcpu) b → is_before a b ≡ false → is_before b a ≡ false → a ≡ b
  once a b ha hb h k = of (from_own a ha) (from_own b hb)
    where
      of : HasKey a → HasKey b → a ≡ b
      of one other =
          let id : intid_of one.key ≡ intid_of other.key = ap (λ (c : Candidate). c.id) one.is_at.is ∙ same_id a b h k ∙ sym (ap (λ (c : Candidate). c.id) other.is_at.is) in
          let key : one.key ≡ other.key = some_key one.key other.key (sym (named_own shape one.key vcpu good few one.is_at.there (own_of one.key a one.is_at)) ∙ ap (λ i. key_of i vcpu shape) id ∙ named_own shape other.key vcpu good few other.is_at.there (own_of other.key b other.is_at)) in
          sym one.is_at.is ∙ ap (λ k. shown_as k (irq_at back.guest k)) key ∙ other.is_at.is
        where
          some_key : (x y : Key) → Some x ≡ Some y → x ≡ y
          some_key x y h = cc

  -- What stands there is among it, and what is more does not come first.

  shown_there : (c : Candidate) → Contains interface c → Contains (own_candidates state vcpu) c
  shown_there c h = of (from_interface shape at vcpu c h)
    where
      of : IsOne shape at vcpu c → Contains (own_candidates state vcpu) c
      of one =
          let key = one.standing.key in
          let is = there_so shape state tidy key vcpu one.standing.entry (stands_so shape state tidy vcpu one.standing one.among_it) in
          let taken = here_is shape state tidy vcpu few key one.standing.entry is in
          in_own key c (record {
            there = is.there;
            home = taken.0;
            delivered = subst (λ (i : Irq). IsTrue (is_deliverable key i vcpu cpu shape)) (sym taken.1) (delivers_back shape at vcpu c one ((so one.standing one.among_it).pending one.pending));
            is = ap (shown_as key) taken.1 ∙ one.is;
          })

  extra : (c : Candidate) → Contains (own_candidates state vcpu) c → Contains interface c ⊎ (option_map_or (is_before c) (first_of interface) true ≡ false)
  extra c h = of (from_own c h)
    where
      of : HasKey c → Contains interface c ⊎ (option_map_or (is_before c) (first_of interface) true ≡ false)
      of one = by (place_is shape state tidy vcpu few one.key one.is_at.there)
        where
          by : Place shape state tidy vcpu few one.key → Contains interface c ⊎ (option_map_or (is_before c) (first_of interface) true ≡ false)
          by (nowhere before after e) =
              let key = one.key in
              let irq = irq_at state.guest key in
              let home_too : IsTrue (is_deliverable key irq vcpu cpu state.guest.shape) = subst (λ (s : GuestShape). IsTrue (is_deliverable key irq vcpu cpu s)) (sym tidy.shape_is) (subst (λ (i : Irq). IsTrue (is_deliverable key i vcpu cpu shape)) e one.is_at.delivered) in
              let both = and_from (is_home state key) (is_deliverable key irq vcpu cpu state.guest.shape) before home_too in
              let same : shown_as key irq ≡ c = ap (shown_as key) (sym e) ∙ one.is_at.is in
              inr (subst (λ d. option_map_or (is_before d) (first_of interface) true ≡ false) same (sym (ap (λ b. b && option_map_or (is_before (shown_as key irq)) (first_of interface) true) both) ∙ none key one.is_at.there))
          by (here entry is after e) =
              let key = one.key in
              let stands : Contains (standing_at state vcpu) (standing_of_key key entry) = filtered_from (is_of key) (standing_at state vcpu) (standing_of_key key entry) (subst (λ l. Contains l (standing_of_key key entry)) (sym is.here) (Contains-here (standing_of_key key entry) [])) in
              inl (subst (λ d. Contains interface d) (ap (shown_as key) (sym e) ∙ one.is_at.is)
              (stands_among shape at vcpu key vcpu entry is (so (standing_of_key key entry) stands) gone (subst (λ (i : Irq). IsTrue (is_deliverable key i vcpu cpu shape)) e one.is_at.delivered)))
          by (away gone) = absurd (true≢false (sym one.is_at.home ∙ gone))

  pub first_is_own : first_of (candidates_at (interface_at at.ideal vcpu)) ≡ first_of (own_candidates at.ideal vcpu)
  first_is_own = first_agrees interface (own_candidates state vcpu) shown_there extra once
