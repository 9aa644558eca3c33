-- The first candidate of the part that stands in list registers is the first of all.
use Rattle.std.proofs.Common.{◌≡◌, ◌<◌, ◌≤◌, ◌+◌, ◌-◌, ℕ, zero, suc, Bool, true, false, Option, Some, None, List, [], ◌∷◌, map, filter, length, take, get_or, Contains, inl, inr, refl, sym, ap, ◌∙◌, subst, arith}
use Rattle.std.specs.Prelude.{slice_get, min, if◌then◌else◌}
use Rattle.std.specs.List.{filter_map}
use Rattle.std.specs.Option.{option_map}
use Rattle.std.proofs.lemmas.Grind.{common_steps}
use Rattle.std.proofs.lemmas.Option.{none-some, same_Some}
use Rattle.std.proofs.lemmas.List.Elements.{Contains-append_right}
use Rattle.gic_ich.specs.Words.{GuestShape, G1}
use Rattle.gic_ich.specs.GicWord.declared.record.Group.{Group}
use Rattle.gic_ich.specs.GicPrio.declared.cpu.CpuRec.{CpuRec}
use Rattle.gic_ich.specs.GicPrio.declared.candidate.Candidate.{Candidate}
use Rattle.gic_ich.specs.GicPrio.Delivery.{is_before, first_of}
use Rattle.gic_ich.specs.GicPrio.Interface.{AtInterface, candidate_of as candidate_at}
use Rattle.gic_ich.proofs.GicPrio.FirstLemmas.{empty_or_first, found, first_is}
use Rattle.floor_lists.specs.Lists.{Offer, plan, plan_from, pending_choice, active_choice, choices_of, in_places, is_trapping, is_cut, active_among, deliverable_among, first_among, candidate_of, is_deliverable_to, entry_of as entry_of_choice, offer_of as offer_of_choice}
use Rattle.floor_lists.proofs.VcpuRefill.ElementLemmas.{Contains-nothing, Contains-here, Contains-map, Contains-filter, Contains-in_places}
use Rattle.floor_lists.proofs.VcpuRefill.EarnedLemmas.{from_ordered}
use Rattle.floor_lists.proofs.VcpuRefill.LawLemmas.{choices_few}
use Rattle.floor_lists.proofs.VcpuRefill.FirstLemmas.{first}
use Rattle.floor_lists.proofs.VcpuRefill.StandLemmas.{in_filter_map, from_filter_map}
use Rattle.gic_host.specs.declared.state.LinkState.{LinkState}
use Rattle.gic_host.specs.State.{is_at, entry_of}
use Rattle.gic_host.specs.Text.{offer_of, offers_at}
use Rattle.gic_host.proofs.GoodLemmas.{AreGood}
use Rattle.gic_host.proofs.PartLemmas.{IsOf, IsPartOf, choice_is, part_is, same_entry, candidates_are, candidate_is}

-- the first deliverable interrupt stands in a list register, out of trap mode
first_kept : (m : ℕ) (one : Offer) (offers : List Offer) → 1 ≤ m → Contains (take m (one ∷ offers)) one
first_kept zero one offers l = absurd (omega (arith, l))
first_kept (suc m) one offers l = Contains-here one (take m offers)

head_placed : (active deliverable : List Offer) (vcpu : ℕ) (cpu : CpuRec) (shape : GuestShape) (n : ℕ) (one : Offer) → n ≤ 16 → is_trapping active deliverable n ≡ false → slice_get deliverable 0 ≡ Some one
    → Contains (plan_from active deliverable vcpu cpu shape n).choice (Some (pending_choice one))
head_placed active [] vcpu cpu shape n one few untrapped e = absurd (none-some one e)
head_placed active (other ∷ offers) vcpu cpu shape n one few untrapped e =
    let same : other ≡ one = same_Some other one e in
    let choices = choices_of active (other ∷ offers) (is_cut active (other ∷ offers) n) vcpu cpu shape n in
    let fits : length active + min 1 (length (other ∷ offers)) ≤ n = grind (arith, common_steps, untrapped) in
    let room : 1 ≤ n - length active = omega (arith, fits) in
    subst (λ (first : Offer). Contains (plan_from active (other ∷ offers) vcpu cpu shape n).choice (Some (pending_choice first))) same
    (subst (λ (b : Bool). Contains (in_places (if b then [] else choices)) (Some (pending_choice other))) (sym untrapped)
    (Contains-in_places choices (pending_choice other) (omega (arith, few, choices_few active (other ∷ offers) (is_cut active (other ∷ offers) n) vcpu cpu shape n untrapped))
    (Contains-append_right (map (active_choice (is_cut active (other ∷ offers) n) vcpu cpu shape) active) (map pending_choice (take (n - length active) (other ∷ offers))) (pending_choice other)
    (Contains-map pending_choice (take (n - length active) (other ∷ offers)) other (first_kept (n - length active) other offers room)))))

-- the first of the deliverable interrupts is one of those offered, and deliverable
first_from : (offers : List Offer) (vcpu : ℕ) (cpu : CpuRec) (shape : GuestShape) (one : Offer) → first_among offers vcpu cpu shape ≡ Some one → Contains offers one × (is_deliverable_to vcpu cpu shape one ≡ true)
first_from offers vcpu cpu shape one e = from_ordered (is_deliverable_to vcpu cpu shape) offers one (head (deliverable_among offers vcpu cpu shape) e)
  where
    head : (xs : List Offer) → slice_get xs 0 ≡ Some one → Contains xs one
    head [] e = absurd (none-some one e)
    head (x ∷ xs) e = subst (Contains (x ∷ xs)) (same_Some x one e) (Contains-here x xs)

pub first_offered : (offers : List Offer) (vcpu : ℕ) (cpu : CpuRec) (shape : GuestShape) (one : Offer) → first_among offers vcpu cpu shape ≡ Some one → Contains offers one
first_offered offers vcpu cpu shape one e = (first_from offers vcpu cpu shape one e).0

pub first_deliverable : (offers : List Offer) (vcpu : ℕ) (cpu : CpuRec) (shape : GuestShape) (one : Offer) → first_among offers vcpu cpu shape ≡ Some one → is_deliverable_to vcpu cpu shape one ≡ true
first_deliverable offers vcpu cpu shape one e = (first_from offers vcpu cpu shape one e).1

-- two candidates of a group, neither of which is before the other, are one
same_candidate : (a b : Candidate) → a.group ≡ b.group → is_before a b ≡ false → is_before b a ≡ false → a ≡ b
same_candidate a b same f g = built a.id b.id a.prio b.prio a.group b.group (grind (arith, common_steps, f, g)) (grind (arith, common_steps, f, g)) same
  where
    built : (i j p q : ℕ) (g h : Group) → i ≡ j → p ≡ q → g ≡ h → ◌≡◌ {A = Candidate} (record { id = i; prio = p; group = g }) (record { id = j; prio = q; group = h })
    built i j p q g h e f k = rw (e, f, k) refl

-- a list of which nothing is an element is empty
nothing_in : {X : Type 0} (xs : List X) → ((x : X) → Contains xs x → ⊥) → xs ≡ []
nothing_in [] h = refl
nothing_in (x ∷ xs) h = absurd (h x (Contains-here x xs))

module _ (vcpus : ℕ) (ls : List LinkState) (good : AreGood vcpus ls) (offers : List Offer) (vcpu : ℕ) (cpu : CpuRec) (shape : GuestShape) (n : ℕ) (few : n ≤ 16)
    (sub : (offer : Offer) → Contains offers offer → Contains (offers_at ls vcpu) offer) (untrapped : (plan offers vcpu cpu shape n).trapping ≡ false) where
  abbrev part : List AtInterface
  part = filter_map (option_map entry_of_choice) (plan offers vcpu cpu shape n).choice

  abbrev whole : List AtInterface
  whole = map entry_of (filter (is_at vcpu) ls)

  -- a candidate of the part is one of the whole interface, of group 1
  record Also (one : Candidate) : Type 0 where
    in_whole : Contains (filter_map (candidate_at cpu) whole) one
    group : one.group ≡ G1

  also : (one : Candidate) → Contains (filter_map (candidate_at cpu) part) one → Also one
  also one has =
      let from = from_filter_map (candidate_at cpu) part one has in
      let it : IsPartOf ls vcpu offers (plan offers vcpu cpu shape n).choice from.0 = part_is vcpus ls good offers vcpu cpu shape n from.0 sub from.1 in
      let e : candidate_at cpu (entry_of it.of.l) ≡ Some one = ap (candidate_at cpu) (sym it.is) ∙ from.2 in
      record {
        in_whole = in_filter_map (candidate_at cpu) whole (entry_of it.of.l) one (Contains-map entry_of (filter (is_at vcpu) ls) it.of.l (kept it.of.l it.of.among it.of.at)) e;
        group = grouped (is_deliverable_to vcpu cpu shape (offer_of it.of.l)) it.of.l (sym (candidate_is vcpu cpu shape it.of.l it.of.at) ∙ e);
      }
    where
      kept : (l : LinkState) → Contains ls l → is_at vcpu l ≡ true → Contains (filter (is_at vcpu) ls) l
      kept l among at = Contains-filter (is_at vcpu) ls l at among

      grouped : (b : Bool) (l : LinkState) → (if b then Some (candidate_of (offer_of l)) else None) ≡ Some one → one.group ≡ G1
      grouped true l e = ap (λ (c : Candidate). c.group) (sym (same_Some (candidate_of (offer_of l)) one e))
      grouped false l e = absurd (none-some one e)

  -- the first of all, as a candidate
  first_of_all : first_of (filter_map (candidate_at cpu) whole) ≡ option_map candidate_of (first_among (offers_at ls vcpu) vcpu cpu shape)
  first_of_all = ap first_of (candidates_are ls vcpu cpu shape) ∙ sym (first (offers_at ls vcpu) vcpu cpu shape)

  -- it stands in a list register
  in_part : (one : Offer) → first_among offers vcpu cpu shape ≡ Some one → Contains (filter_map (candidate_at cpu) part) (candidate_of one)
  in_part one e =
      let placed = head_placed (active_among offers vcpu) (deliverable_among offers vcpu cpu shape) vcpu cpu shape n one few untrapped e in
      let it : IsOf ls vcpu offers (pending_choice one) = choice_is vcpus ls good offers vcpu cpu shape n (pending_choice one) sub placed in
      let same : offer_of it.l ≡ one = sym (ap offer_of_choice it.is) in
      let ripe : is_deliverable_to vcpu cpu shape (offer_of it.l) ≡ true = ap (is_deliverable_to vcpu cpu shape) same ∙ first_deliverable offers vcpu cpu shape one e in
      let entry : entry_of_choice (pending_choice one) ≡ entry_of it.l = ap entry_of_choice it.is ∙ same_entry vcpu it.l it.at in
      in_filter_map (candidate_at cpu) part (entry_of_choice (pending_choice one)) (candidate_of one)
      (in_filter_map (option_map entry_of_choice) (plan offers vcpu cpu shape n).choice (Some (pending_choice one)) (entry_of_choice (pending_choice one)) placed refl)
      (ap (candidate_at cpu) entry
      ∙ candidate_is vcpu cpu shape it.l it.at
      ∙ ap (λ (b : Bool). if b then Some (candidate_of (offer_of it.l)) else None) ripe
      ∙ ap (λ (o : Offer). Some (candidate_of o)) same)

  pub first_same : first_among offers vcpu cpu shape ≡ first_among (offers_at ls vcpu) vcpu cpu shape → first_of (filter_map (candidate_at cpu) part) ≡ first_of (filter_map (candidate_at cpu) whole)
  first_same e = of (first_among (offers_at ls vcpu) vcpu cpu shape) refl
    where
      none : first_of (filter_map (candidate_at cpu) whole) ≡ None → (filter_map (candidate_at cpu) whole) ≡ []
      none f = elim (empty_or_first (filter_map (candidate_at cpu) whole)) [ inl is ↦ is | inr has ↦ absurd (none-some has.0 (sym f ∙ found (filter_map (candidate_at cpu) whole) has.0 has.1)) ]

      of : (o : Option Offer) → first_among (offers_at ls vcpu) vcpu cpu shape ≡ o → first_of (filter_map (candidate_at cpu) part) ≡ first_of (filter_map (candidate_at cpu) whole)
      of None f =
          let nothing : first_of (filter_map (candidate_at cpu) whole) ≡ None = first_of_all ∙ ap (option_map candidate_of) f in
          let empty : filter_map (candidate_at cpu) part ≡ [] = nothing_in (filter_map (candidate_at cpu) part) (λ one has. Contains-nothing one (subst (λ (xs : List Candidate). Contains xs one) (none nothing) (also one has).in_whole)) in
          ap first_of empty ∙ sym nothing
      of (Some one) f =
          let is : first_of (filter_map (candidate_at cpu) whole) ≡ Some (candidate_of one) = first_of_all ∙ ap (option_map candidate_of) f in
          let here : Contains (filter_map (candidate_at cpu) part) (candidate_of one) = in_part one (e ∙ f) in
          elim (empty_or_first (filter_map (candidate_at cpu) part)) [
            | inl empty ↦ absurd (Contains-nothing (candidate_of one) (subst (λ (xs : List Candidate). Contains xs (candidate_of one)) empty here))
            | inr has ↦
                let least_of_part = first_is (filter_map (candidate_at cpu) part) has.0 (found (filter_map (candidate_at cpu) part) has.0 has.1) in
                let least_of_all = first_is (filter_map (candidate_at cpu) whole) (candidate_of one) is in
                let b = also has.0 least_of_part.among in
                let same : has.0 ≡ candidate_of one =
                same_candidate has.0 (candidate_of one) (b.group ∙ sym (also (candidate_of one) here).group)
                (at_place (filter_map (candidate_at cpu) whole) (λ other. is_before other (candidate_of one)) has.0 least_of_all.least b.in_whole)
                (at_place (filter_map (candidate_at cpu) part) (λ other. is_before other has.0) (candidate_of one) least_of_part.least here)
                in
                found (filter_map (candidate_at cpu) part) has.0 has.1 ∙ ap Some same ∙ sym is
          ]
        where
          at_place : (xs : List Candidate) (p : Candidate → Bool) (x : Candidate) → ((k : ℕ) (d : Candidate) → k < length xs → p (get_or xs k d) ≡ false) → Contains xs x → p x ≡ false
          at_place xs p x h has = subst (λ (y : Candidate). p y ≡ false) has.2 (h has.0 x has.1)
