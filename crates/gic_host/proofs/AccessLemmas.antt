-- An access of the list registers does to the links what it does to the whole interface.
use Rattle.std.proofs.Common.{◌≡◌, ◌<◌, ◌≤◌, ℕ, Bool, true, false, eqb, nat_eq, nat_lt, Option, Some, None, List, map, filter, find, length, take, get_or, All, Contains, ◌⊎◌, inl, inr, refl, sym, ap, ◌∙◌, subst, arith}
use Rattle.std.specs.Prelude.{slice_get, position, option_and_then, if◌then◌else◌, IfSome}
use Rattle.std.specs.Option.{option_map, option_map_or}
use Rattle.std.proofs.lemmas.Grind.{common_steps}
use Rattle.std.proofs.lemmas.Bool.{false≢true}
use Rattle.std.proofs.lemmas.Option.{none-some, slice_get_within, slice_get-get_or, slice_get_cases, get_or_from_slice_get}
use Rattle.std.proofs.lemmas.List.{get_or-map, length-map, length-take}
use Rattle.std.proofs.lemmas.List.Elements.{Contains-get_or}
use Rattle.std.proofs.lemmas.List.Quantifiers.{position-Some}
use Rattle.gic_ich.specs.Words.{GuestShape, HeldIrq, IccReg, Iar0, Iar1, Hppir0, Hppir1, Key, Spi, intid_of, has_bit}
use Rattle.gic_ich.specs.GicWord.Record.{is_number}
use Rattle.gic_ich.specs.GicPrio.declared.cpu.CpuRec.{CpuRec}
use Rattle.gic_ich.specs.GicPrio.declared.candidate.Candidate.{Candidate}
use Rattle.gic_ich.specs.GicPrio.Priority.{HasBinaryPoints}
use Rattle.gic_ich.specs.GicPrio.Delivery.{first_of}
use Rattle.gic_ich.specs.GicPrio.Access.{taken_by, deactivated_by, answer_of, activated_by, cpu_after}
use Rattle.gic_ich.specs.GicPrio.Interface.{AtInterface, InterfaceState, IsInterface, has_its_kind, candidate_of as candidate_at, candidates_at, acknowledged_entry, deactivated_entry, acknowledged_at, deactivated_at, interface_after, interface_answer}
use Rattle.gic_ich.specs.declared.regs.IchRegs.{IchRegs}
use Rattle.gic_ich.proofs.GicPrio.FirstLemmas.{first_is}
use Rattle.gic_ich.proofs.GicPrio.AccessLemmas.{taken_first}
use Rattle.floor_lists.specs.Lists.{Offer, Choice, Fill, HasEntries, plan, interface_of, regs_of, held_of, held_as, word_of, packed, unpacked, seen_in, state_has_pending, state_has_active, StandFor, StandByPlace, HasOne, listed_of, is_active_by, entry_of as entry_of_choice, FitsRegister as FitsOffer}
use Rattle.floor_lists.proofs.VcpuRefill.ElementLemmas.{Contains-filter, map_cases}
use Rattle.floor_lists.proofs.VcpuRefill.EarnedLemmas.{from_filter}
use Rattle.floor_lists.proofs.VcpuRefill.StandLemmas.{stands, from_filter_map}
use Rattle.floor_lists.proofs.VcpuRefill.LawLemmas.{every_active}
use Rattle.floor_lists.proofs.VcpuRefill.ApartLemmas.{once}
use Rattle.floor_lists.proofs.GicIcv.PlaceLemmas.{few_pass}
use Rattle.floor_lists.proofs.GicIcv.FollowLemmas.{none_placed}
use Rattle.gic_host.specs.declared.link.Link.{Link}
use Rattle.gic_host.specs.declared.state.Virtual.{Virtual}
use Rattle.gic_host.specs.declared.state.Virtual.TheVariants.{Idle, Pending, Active}
use Rattle.gic_host.specs.declared.state.LinkState.{LinkState}
use Rattle.gic_host.specs.Link.{link_to, linked_choice, linked_fill, AreLinked, FitsRegister, FitPlaces}
use Rattle.gic_host.specs.State.{is_pending, is_active, is_at, entry_of, left_as, accessed}
use Rattle.gic_host.specs.Text.{offer_of}
use Rattle.gic_host.specs.Access.{asks_first, is_named, names, left_in, read_back}
use Rattle.gic_host.proofs.ListLemmas.{map_id, map_map, map_same, find_unique, list_all_from, passed_of_kept}
use Rattle.gic_host.proofs.LinkLemmas.{hw_packed, linked_entry, word_at, linked_stands}
use Rattle.gic_host.proofs.GoodLemmas.{AreGood, link_of, at_vcpu, one_phys, one_vid, vid_few, prio_few, phys_fits, offers_fit, link_found}
use Rattle.gic_host.proofs.PartLemmas.{IsOf, IsPartOf, choice_is, part_is, pending_or_active, choices_linked}
use Rattle.gic_host.proofs.FirstLemmas.{first_same}
use Rattle.gic_host.proofs.NeededLemmas.{Suffices}

-- ---- an access goes by the first candidate alone

answer_by : (reg : IccReg) (cpu : CpuRec) (xs ys : List Candidate) → (asks_first reg ≡ true → first_of xs ≡ first_of ys) → answer_of reg None cpu xs ≡ answer_of reg None cpu ys
answer_by Iar0 cpu xs ys h = rw (h refl) refl
answer_by Iar1 cpu xs ys h = rw (h refl) refl
answer_by Hppir0 cpu xs ys h = rw (h refl) refl
answer_by Hppir1 cpu xs ys h = rw (h refl) refl
answer_by reg cpu xs ys h = refl

taken_as : (reg : IccReg) (cpu : CpuRec) (xs ys : List Candidate) → (asks_first reg ≡ true → first_of xs ≡ first_of ys) → taken_by reg None cpu xs ≡ taken_by reg None cpu ys
taken_as Iar0 cpu xs ys h = rw (h refl) refl
taken_as Iar1 cpu xs ys h = rw (h refl) refl
taken_as reg cpu xs ys h = refl

none_taken : (reg : IccReg) (value : ℕ) (cpu : CpuRec) (xs : List Candidate) → taken_by reg (Some value) cpu xs ≡ None
none_taken Iar0 value cpu xs = refl
none_taken Iar1 value cpu xs = refl
none_taken reg value cpu xs = refl

-- ---- what an access makes of one entry

abbrev ack_one : Option Candidate → AtInterface → AtInterface
ack_one taken entry = option_map_or (λ found. if eqb (intid_of entry.key) found.id then acknowledged_entry entry else entry) taken entry

abbrev end_one : Option ℕ → AtInterface → AtInterface
end_one ended entry = option_map_or (λ id. if eqb (intid_of entry.key) id then deactivated_entry entry else entry) ended entry

abbrev pub changed : Option Candidate → Option ℕ → AtInterface → AtInterface
changed taken ended entry = end_one ended (ack_one taken entry)

changed_all : (taken : Option Candidate) (ended : Option ℕ) (at : List AtInterface) → deactivated_at ended (acknowledged_at taken at) ≡ map (changed taken ended) at
changed_all None None at = sym (map_id at)
changed_all (Some found) None at = refl
changed_all None (Some id) at = refl
changed_all (Some found) (Some id) at = map_map (end_one (Some id)) (ack_one (Some found)) at

changed_key : (taken : Option Candidate) (ended : Option ℕ) (entry : AtInterface) → (changed taken ended entry).key ≡ entry.key
changed_key taken ended entry = end ended (ack_one taken entry) ∙ ack taken
  where
    ack : (taken : Option Candidate) → (ack_one taken entry).key ≡ entry.key
    ack None = refl
    ack (Some found) = of (eqb (intid_of entry.key) found.id)
      where
        of : (b : Bool) → (if b then acknowledged_entry entry else entry).key ≡ entry.key
        of true = refl
        of false = refl

    end : (ended : Option ℕ) (e : AtInterface) → (end_one ended e).key ≡ e.key
    end None e = refl
    end (Some id) e = of (eqb (intid_of e.key) id)
      where
        of : (b : Bool) → (if b then deactivated_entry e else e).key ≡ e.key
        of true = refl
        of false = refl

-- a link that is left as it was
left_same : (l : LinkState) (taken : Option Candidate) (ended : Option ℕ) (vcpu : ℕ) → is_at vcpu l ≡ true → ((found : Candidate) → taken ≡ Some found → eqb l.link.vid found.id ≡ false)
    → (l.state ≡ Active → (id : ℕ) → ended ≡ Some id → eqb l.link.vid id ≡ false) → left_as l (changed taken ended (entry_of l)) ≡ l
left_same l taken ended vcpu at not_taken not_ended =
    ap (λ (e : AtInterface). left_as l (end_one ended e)) (kept taken not_taken) ∙ elim (pending_or_active vcpu l at) [ inl is ↦ pending is ended | inr is ↦ active is ended (not_ended is) ]
  where
    kept : (taken : Option Candidate) → ((found : Candidate) → taken ≡ Some found → eqb l.link.vid found.id ≡ false) → ack_one taken (entry_of l) ≡ entry_of l
    kept None h = refl
    kept (Some found) h = rw (h found refl) refl

    same_state : (s : Virtual) → l.state ≡ s → record l { state = s } ≡ l
    same_state s e = ap (λ (t : Virtual). record l { state = t }) (sym e)

    is_left : (l : LinkState) (s : Virtual) (e : AtInterface) → l.state ≡ s → e.pending ≡ is_pending s → e.active ≡ is_active s → (s ≡ Pending) ⊎ (s ≡ Active) → left_as l e ≡ record l { state = s }
    is_left l Pending e is p a live = rw p refl
    is_left l Active e is p a live = rw (p, a) refl
    is_left l Idle e is p a (inl f) = absurd (cc)
    is_left l Idle e is p a (inr f) = absurd (cc)

    pending : l.state ≡ Pending → (ended : Option ℕ) → left_as l (end_one ended (entry_of l)) ≡ l
    pending is None = is_left l Pending (entry_of l) is (ap is_pending is) (ap is_active is) (inl refl) ∙ same_state Pending is
    pending is (Some id) = of (eqb l.link.vid id)
      where
        of : (b : Bool) → left_as l (if b then deactivated_entry (entry_of l) else entry_of l) ≡ l
        of true = is_left l Pending (deactivated_entry (entry_of l)) is (ap is_pending is) refl (inl refl) ∙ same_state Pending is
        of false = is_left l Pending (entry_of l) is (ap is_pending is) (ap is_active is) (inl refl) ∙ same_state Pending is

    active : l.state ≡ Active → (ended : Option ℕ) → ((id : ℕ) → ended ≡ Some id → eqb l.link.vid id ≡ false) → left_as l (end_one ended (entry_of l)) ≡ l
    active is None h = is_left l Active (entry_of l) is (ap is_pending is) (ap is_active is) (inr refl) ∙ same_state Active is
    active is (Some id) h = rw (h id refl) (is_left l Active (entry_of l) is (ap is_pending is) (ap is_active is) (inr refl) ∙ same_state Active is)

-- the INTID of a candidate
candidate_id : (cpu : CpuRec) (entry : AtInterface) (one : Candidate) → candidate_at cpu entry ≡ Some one → intid_of entry.key ≡ one.id
candidate_id cpu entry one e = grind (arith, common_steps, e)

module _ (vcpus : ℕ) (ls : List LinkState) (good : AreGood vcpus ls) (vcpu : ℕ) (cpu : CpuRec) (shape : GuestShape) (n : ℕ) (few : n ≤ 16) (reg : IccReg) (write : Option ℕ) (offers : List Offer)
    (enough : Suffices ls vcpu cpu shape n reg write offers) (points : HasBinaryPoints cpu) where
  abbrev links : List Link
  links = map link_of ls

  abbrev choices : List (Option Choice)
  choices = (plan offers vcpu cpu shape n).choice

  abbrev part : InterfaceState
  part = interface_of (plan offers vcpu cpu shape n) cpu

  abbrev whole : InterfaceState
  whole = record { cpu = cpu; at = map entry_of (filter (is_at vcpu) ls) }

  is_of : (choice : Choice) → Contains choices (Some choice) → IsOf ls vcpu offers choice
  is_of choice has = choice_is vcpus ls good offers vcpu cpu shape n choice enough.among has

  part_of : (entry : AtInterface) → Contains part.at entry → IsPartOf ls vcpu offers choices entry
  part_of entry has = part_is vcpus ls good offers vcpu cpu shape n entry enough.among has

  -- two links of the vCPU with one INTID are one
  one_at : (a b : LinkState) → Contains ls a → Contains ls b → is_at vcpu a ≡ true → is_at vcpu b ≡ true → a.link.vid ≡ b.link.vid → a ≡ b
  one_at a b has have at also e = one_vid vcpus ls good a b has have e (at_vcpu vcpu a at ∙ sym (at_vcpu vcpu b also))

  -- ---- the part is an interface

  key_is : (choice : Choice) (it : IsOf ls vcpu offers choice) → choice.key ≡ Spi it.l.link.vid
  key_is choice it = ap (λ (c : Choice). c.key) it.is

  abbrev at_id : ℕ → Option Choice → Bool
  at_id id place = option_map_or (λ entry. nat_eq (intid_of entry.key) id) (option_map entry_of_choice place) false

  part_once : (id : ℕ) → length (filter (λ entry. nat_eq (intid_of entry.key) id) part.at) ≤ 1
  part_once id =
      subst (λ (m : ℕ). m ≤ 1) (sym (passed_of_kept (λ entry. nat_eq (intid_of entry.key) id) (option_map entry_of_choice) choices))
      (few_pass (at_id id) None choices (λ j k less within e f. of j k (get_or choices j None) (get_or choices k None) (slice_get-get_or choices j None less) (slice_get-get_or choices k None within) e f))
    where
      same_id : (a b : ℕ) → nat_eq a id ≡ true → nat_eq b id ≡ true → a ≡ b
      same_id a b e f = grind (arith, e, f)

      has : (k : ℕ) (c : Choice) → slice_get choices k ≡ Some (Some c) → Contains choices (Some c)
      has k c e = (k, slice_get_within choices k (Some c) e, get_or_from_slice_get choices k (Some c) (Some c) e)

      of : (j k : ℕ) (o p : Option Choice) → slice_get choices j ≡ Some o → slice_get choices k ≡ Some p → at_id id o ≡ true → at_id id p ≡ true → j ≡ k
      of j k None p is are e f = absurd (false≢true e)
      of j k (Some c) None is are e f = absurd (false≢true f)
      of j k (Some c) (Some d) is are e f =
          let a = key_is c (is_of c (has j c is)) in
          let b = key_is d (is_of d (has k d are)) in
          once offers vcpu cpu shape n j k c d enough.apart is are (a ∙ ap Spi (sym (ap intid_of a) ∙ same_id (intid_of c.key) (intid_of d.key) e f ∙ ap intid_of b) ∙ sym b)

  pub part_interface : IsInterface part
  part_interface = record { points = points; once = part_once; kinds = list_all_from has_its_kind part.at (λ entry has. kind entry (part_of entry has)) }
    where
      few_kind : (id : ℕ) → id ≤ 1019 → nat_lt id 8192 ≡ true
      few_kind id h = grind (arith, h)

      kind : (entry : AtInterface) → IsPartOf ls vcpu offers choices entry → has_its_kind entry ≡ true
      kind entry it = ap has_its_kind it.is ∙ ap (λ (b : Bool). if b then true else false) (few_kind it.of.l.link.vid (vid_few vcpus ls good it.of.l it.of.among))

  -- ---- what stands in the registers

  module _ (fill : Fill) (choice_same : fill.choice ≡ choices) (entries : HasEntries fill.choice) (enabled : has_bit fill.hcr 0 ≡ true) where
    -- each that was chosen has its link
    link_is : (l : LinkState) → Contains ls l → is_at vcpu l ≡ true → link_to links vcpu l.link.vid ≡ Some l.link
    link_is l has at = link_found vcpus ls good vcpu l has at

    id_is : (choice : Choice) (it : IsOf ls vcpu offers choice) → choice.entry.id ≡ it.l.link.vid
    id_is choice it = ap (λ (c : Choice). c.entry.id) it.is

    pub are_linked : AreLinked links vcpu fill
    are_linked = choices_linked vcpus ls good offers vcpu cpu shape n enough.among fill choice_same

    fits_entry : (choice : Choice) → IsOf ls vcpu offers choice → FitsRegister choice.entry
    fits_entry choice it =
        let few_id = vid_few vcpus ls good it.l it.among in
        let few_prio = prio_few vcpus ls good it.l it.among in
        subst (λ (c : Choice). FitsRegister c.entry) (sym it.is) (record { entry_is = record { number = tt; no_eoi = tt }; id = omega (arith, few_id); prio = omega (arith, few_prio) })

    pub fit_places : FitPlaces fill
    fit_places k d less = of (get_or fill.choice k d) (subst (λ (cs : List (Option Choice)). Contains cs (get_or fill.choice k d)) choice_same (Contains-get_or fill.choice k d less))
      where
        of : (place : Option Choice) → Contains choices place → IfSome place (λ choice. FitsRegister choice.entry)
        of None has = tt
        of (Some choice) has = fits_entry choice (is_of choice has)

    offers_fit_too : All FitsOffer offers
    offers_fit_too k d less =
        let has = enough.among (get_or offers k d) (Contains-get_or offers k d less) in
        subst FitsOffer has.2 (offers_fit vcpus ls good vcpu has.0 (get_or offers k d) has.1)

    fill_stands : StandFor (regs_of fill cpu n) (held_of fill) part
    fill_stands =
        let planned = stands offers vcpu cpu shape n few offers_fit_too enough.apart in
        record {
          holds = record { enabled = enabled; vmcr = refl; ap0 = refl; ap1 = refl };
          places = subst (λ (cs : List (Option Choice)). StandByPlace (take n (map word_of cs)) (map (option_map held_as) cs) part.at) (sym choice_same) planned.places;
        }

    abbrev linked : Fill
    linked = linked_fill links vcpu fill

    pub linked_before : StandFor (regs_of linked cpu n) (held_of linked) part
    linked_before = linked_stands links vcpu fill cpu n part fit_places (phys_fits vcpus ls good) fill_stands

    abbrev before : List ℕ
    before = listed_of (regs_of linked cpu n)

    abbrev held : List (Option HeldIrq)
    held = held_of linked

    abbrev with_link : Option Choice → Option Choice
    with_link place = option_map (linked_choice links vcpu) place

    -- what stands at a place
    placed_at : (k : ℕ) (choice : Choice) → slice_get choices k ≡ Some (Some choice) → get_or (map with_link fill.choice) k None ≡ Some (linked_choice links vcpu choice)
    placed_at k choice e =
        ap (λ (cs : List (Option Choice)). get_or (map with_link cs) k None) choice_same
        ∙ get_or-map with_link choices k None None (slice_get_within choices k (Some choice) e)
        ∙ ap with_link (get_or_from_slice_get choices k (Some choice) None e)

    held_at : (k : ℕ) (choice : Choice) → slice_get choices k ≡ Some (Some choice) → get_or held k None ≡ Some (held_as choice)
    held_at k choice e =
        let long : k < length (map with_link fill.choice) = subst (λ (cs : List (Option Choice)). k < length (map with_link cs)) (sym choice_same) (omega (arith, length-map choices with_link, slice_get_within choices k (Some choice) e)) in
        get_or-map (option_map held_as) (map with_link fill.choice) k None None long ∙ ap (option_map held_as) (placed_at k choice e)

    within_before : (k : ℕ) (choice : Choice) → slice_get choices k ≡ Some (Some choice) → k < length before
    within_before k choice e = of (grind arith)
      where
        of : (k < length before) ⊎ (length before ≤ k) → k < length before
        of (inl less) = less
        of (inr more) = absurd (none-some (held_as choice) (sym (linked_before.places.past k more) ∙ held_at k choice e))

    word_is : (k : ℕ) (choice : Choice) → slice_get choices k ≡ Some (Some choice) → get_or before k 0 ≡ packed (linked_choice links vcpu choice).entry
    word_is k choice e = word_at (map with_link fill.choice) n k (within_before k choice e) ∙ ap word_of (placed_at k choice e)

    -- it names the physical interrupt of its link
    names_phys : (k : ℕ) (choice : Choice) → slice_get choices k ≡ Some (Some choice) → (it : IsOf ls vcpu offers choice) → (unpacked (get_or before k 0)).hw ≡ Some it.l.link.phys
    names_phys k choice e it =
        let fits = fits_entry choice it in
        let hw : (linked_choice links vcpu choice).entry.hw ≡ Some it.l.link.phys = ap (option_map (λ (link : Link). link.phys)) (ap (link_to links vcpu) (id_is choice it) ∙ link_is it.l it.among it.at) in
        ap (λ (word : ℕ). (unpacked word).hw) (word_is k choice e)
        ∙ hw_packed (linked_choice links vcpu choice).entry it.l.link.phys (record { entry_is = linked_entry links vcpu choice (phys_fits vcpus ls good); id = fits.id; prio = fits.prio }) hw

    named : (l : LinkState) (k : ℕ) (choice : Choice) → slice_get choices k ≡ Some (Some choice) → (it : IsOf ls vcpu offers choice) → it.l ≡ l → names l.link.phys (get_or before k 0) ≡ true
    named l k choice e it same =
        ap (is_number l.link.phys) (names_phys k choice e it) ∙ ap (λ (m : LinkState). is_number l.link.phys (Some m.link.phys)) same ∙ itself l.link.phys
      where
        itself : (i : ℕ) → is_number i (Some i) ≡ true
        itself i = grind arith

    -- ---- after the access

    abbrev taken : Option Candidate
    taken = taken_by reg write cpu (candidates_at part)

    abbrev ended : Option ℕ
    ended = deactivated_by reg write cpu

    first_is_same : write ≡ None → asks_first reg ≡ true → first_of (candidates_at part) ≡ first_of (candidates_at whole)
    first_is_same e asks = first_same vcpus ls good offers vcpu cpu shape n few enough.among enough.untrapped (enough.first e asks)

    pub answer_same : interface_answer reg write part ≡ interface_answer reg write whole
    answer_same = of write first_is_same
      where
        of : (w : Option ℕ) → (w ≡ None → asks_first reg ≡ true → first_of (candidates_at part) ≡ first_of (candidates_at whole)) → interface_answer reg w part ≡ interface_answer reg w whole
        of None h = answer_by reg cpu (candidates_at part) (candidates_at whole) (h refl)
        of (Some value) h = refl

    taken_same : taken ≡ taken_by reg write cpu (candidates_at whole)
    taken_same = of write first_is_same
      where
        of : (w : Option ℕ) → (w ≡ None → asks_first reg ≡ true → first_of (candidates_at part) ≡ first_of (candidates_at whole)) → taken_by reg w cpu (candidates_at part) ≡ taken_by reg w cpu (candidates_at whole)
        of None h = taken_as reg cpu (candidates_at part) (candidates_at whole) (h refl)
        of (Some value) h = none_taken reg value cpu (candidates_at part) ∙ sym (none_taken reg value cpu (candidates_at whole))

    pub cpu_same : (interface_after reg write part).cpu ≡ (interface_after reg write whole).cpu
    cpu_same = of write first_is_same
      where
        of : (w : Option ℕ) → (w ≡ None → asks_first reg ≡ true → first_of (candidates_at part) ≡ first_of (candidates_at whole)) → cpu_after reg w cpu (candidates_at part) ≡ cpu_after reg w cpu (candidates_at whole)
        of None h = ap (λ (o : Option Candidate). activated_by o cpu) (taken_as reg cpu (candidates_at part) (candidates_at whole) (h refl))
        of (Some value) h = refl

    abbrev change : AtInterface → AtInterface
    change = changed taken ended

    -- the whole interface after the access
    whole_after : (l : LinkState) → Contains ls l → is_at vcpu l ≡ true → find (λ entry. eqb (intid_of entry.key) l.link.vid) (interface_after reg write whole).at ≡ Some (change (entry_of l))
    whole_after l has at =
        ap (λ (o : Option Candidate). find (λ entry. eqb (intid_of entry.key) l.link.vid) (deactivated_at ended (acknowledged_at o whole.at))) (sym taken_same)
        ∙ ap (find (λ entry. eqb (intid_of entry.key) l.link.vid)) (changed_all taken ended whole.at ∙ map_map change entry_of (filter (is_at vcpu) ls))
        ∙ find_unique (λ entry. eqb (intid_of entry.key) l.link.vid) (λ m. change (entry_of m)) (filter (is_at vcpu) ls) l (kept l has at) (passes l)
        (λ m there e. (let from = from_filter (is_at vcpu) ls m there in one_at m l from.0 has from.1 at (same m e)))
      where
        kept : (l : LinkState) → Contains ls l → is_at vcpu l ≡ true → Contains (filter (is_at vcpu) ls) l
        kept l among at = Contains-filter (is_at vcpu) ls l at among

        itself : (i : ℕ) → eqb i i ≡ true
        itself i = grind arith

        equal : (i j : ℕ) → eqb i j ≡ true → i ≡ j
        equal i j e = grind (arith, e)

        passes : (l : LinkState) → eqb (intid_of (change (entry_of l)).key) l.link.vid ≡ true
        passes l = ap (λ (key : Key). eqb (intid_of key) l.link.vid) (changed_key taken ended (entry_of l)) ∙ itself l.link.vid

        same : (m : LinkState) → eqb (intid_of (change (entry_of m)).key) l.link.vid ≡ true → m.link.vid ≡ l.link.vid
        same m e = equal m.link.vid l.link.vid (sym (ap (λ (key : Key). eqb (intid_of key) l.link.vid) (changed_key taken ended (entry_of m))) ∙ e)

    accessed_is : (l : LinkState) → Contains ls l → is_at vcpu l ≡ true → accessed vcpu (interface_after reg write whole).at l ≡ left_as l (change (entry_of l))
    accessed_is l has at =
        ap (λ (b : Bool). if b then option_map_or (left_as l) (find (λ entry. eqb (intid_of entry.key) l.link.vid) (interface_after reg write whole).at) l else l) at
        ∙ ap (λ (o : Option AtInterface). option_map_or (left_as l) o l) (whole_after l has at)

    -- a link that has no list register is left as it was
    unplaced : (l : LinkState) → Contains ls l → is_at vcpu l ≡ true → ((choice : Choice) → Contains choices (Some choice) → (it : IsOf ls vcpu offers choice) → it.l ≡ l → ⊥) → left_as l (change (entry_of l)) ≡ l
    unplaced l has at none = left_same l taken ended vcpu at not_taken not_ended
      where
        unset : (b : Bool) → (b ≡ true → ⊥) → b ≡ false
        unset true h = absurd (h refl)
        unset false h = refl

        equal : (i j : ℕ) → eqb i j ≡ true → i ≡ j
        equal i j e = grind (arith, e)

        not_taken : (found : Candidate) → taken ≡ Some found → eqb l.link.vid found.id ≡ false
        not_taken found e = unset (eqb l.link.vid found.id) (λ same. taken_is found e (equal l.link.vid found.id same))
          where
            taken_is : (found : Candidate) → taken ≡ Some found → l.link.vid ≡ found.id → ⊥
            taken_is found e same =
                let first = first_is (candidates_at part) found (taken_first reg write cpu (candidates_at part) found e) in
                let from = from_filter_map (candidate_at cpu) part.at found first.among in
                let it = part_of from.0 from.1 in
                let id : it.of.l.link.vid ≡ found.id = sym (ap (λ (entry : AtInterface). intid_of entry.key) it.is) ∙ candidate_id cpu from.0 found from.2 in
                none it.choice it.placed it.of (one_at it.of.l l it.of.among has it.of.at at (id ∙ sym same))

        is_active_at : l.state ≡ Active → (vcpu' : ℕ) → l.link.vcpu ≡ vcpu' → is_active_by vcpu' (offer_of l) ≡ true
        is_active_at is vcpu' e = rw (is, e) (grind arith)

        is_called : l.state ≡ Active → (id : ℕ) → l.link.vid ≡ id → l.link.vcpu ≡ vcpu → is_named vcpu id l ≡ true
        is_called is id e f = rw (is, e, f) (grind (arith, common_steps))

        not_ended : l.state ≡ Active → (id : ℕ) → ended ≡ Some id → eqb l.link.vid id ≡ false
        not_ended is id e = unset (eqb l.link.vid id) (λ same. (
            let offered = enough.named id l e has (is_called is id (equal l.link.vid id same) (at_vcpu vcpu l at)) in
            let planned = every_active offers vcpu cpu shape n (offer_of l) few offered (is_active_at is vcpu (at_vcpu vcpu l at)) enough.untrapped in
            let it = is_of planned.choice planned.among in
            let key : Spi it.l.link.vid ≡ Spi l.link.vid = sym (key_is planned.choice it) ∙ ap (λ (offer : Offer). offer.key) planned.is in
            none planned.choice planned.among it (one_at it.l l it.among has it.at at (ap intid_of key))))

    module _ (after : IchRegs) (stands_after : StandFor after held (interface_after reg write part)) where
      -- what a list register shows after the access, of a link that has it
      shown_after : (l : LinkState) → Contains ls l → is_at vcpu l ≡ true → (k : ℕ) (choice : Choice) → slice_get choices k ≡ Some (Some choice) → (it : IsOf ls vcpu offers choice) → it.l ≡ l
          → option_map_or (λ word. left_in l (unpacked word).state) (slice_get (listed_of after) k) l ≡ left_as l (change (entry_of l))
      shown_after l has at k choice e it same = of (slice_get (listed_of after) k) refl
        where
          held_there : get_or held k None ≡ Some (held_as choice)
          held_there = held_at k choice e

          past : length (listed_of after) ≤ k → ⊥
          past more = none-some (held_as choice) (sym (stands_after.places.past k more) ∙ held_there)

          entry_there : (one : HasOne (get_or (listed_of after) k 0) (held_as choice) (interface_after reg write part).at) → one.entry ≡ change (entry_of l)
          entry_there one =
              let among : Contains (map change part.at) one.entry = subst (λ (at : List AtInterface). Contains at one.entry) (changed_all taken ended part.at) one.among in
              let from = map_cases change part.at one.entry among in
              let other = part_of from.0 from.1 in
              let key : Spi other.of.l.link.vid ≡ Spi l.link.vid =
              sym (ap (λ (entry : AtInterface). entry.key) other.is) ∙ sym (changed_key taken ended from.0) ∙ ap (λ (entry : AtInterface). entry.key) from.2 ∙ one.stands.key ∙ key_is choice it ∙ ap (λ (m : LinkState). Spi m.link.vid) same in
              sym from.2 ∙ ap change (other.is ∙ ap entry_of (one_at other.of.l l other.of.among has other.of.at at (ap intid_of key)))

          shown : (word : ℕ) → get_or (listed_of after) k 0 ≡ word → HasOne (get_or (listed_of after) k 0) (held_as choice) (interface_after reg write part).at → left_in l (unpacked word).state ≡ left_as l (change (entry_of l))
          shown word is one =
              let seen = ap seen_in (sym is) ∙ one.stands.seen in
              by (state_has_pending (unpacked word).state) (state_has_active (unpacked word).state) one.entry (ap (λ s. s.pending) seen) (ap (λ s. s.active) seen) ∙ ap (left_as l) (entry_there one)
            where
              by : (p a : Bool) (entry : AtInterface) → p ≡ entry.pending → a ≡ entry.active
                  → (if p then record l { state = Pending } else (if a then record l { state = Active } else record l { state = Idle; active = false })) ≡ left_as l entry
              by p a entry e f = rw (e, f) refl

          of : (o : Option ℕ) → slice_get (listed_of after) k ≡ o → option_map_or (λ word. left_in l (unpacked word).state) o l ≡ left_as l (change (entry_of l))
          of None f = absurd (past (out (slice_get_cases (listed_of after) k).1))
            where
              out : ((x : ℕ) × (k < length (listed_of after)) × (slice_get (listed_of after) k ≡ Some x) × (get_or (listed_of after) k x ≡ x)) ⊎ ((length (listed_of after) ≤ k) × (slice_get (listed_of after) k ≡ None)) → length (listed_of after) ≤ k
              out (inl there) = absurd (none-some there.0 (sym f ∙ there.2))
              out (inr more) = more.0
          of (Some word) f = shown word (get_or_from_slice_get (listed_of after) k word 0 f) (stands_after.places.filled k (held_as choice) (slice_get_within (listed_of after) k word f) held_there)

      -- a link that is read back
      read_at : (l : LinkState) → Contains ls l → is_at vcpu l ≡ true → (o : Option ℕ) → position (names l.link.phys) before ≡ o
          → option_map_or (λ word. left_in l (unpacked word).state) (option_and_then (slice_get (listed_of after)) o) l ≡ left_as l (change (entry_of l))
      read_at l has at None e =
          sym (unplaced l has at (λ choice placed it same. (
          let k : slice_get choices placed.0 ≡ Some (Some choice) = slice_get-get_or choices placed.0 (Some choice) placed.1 ∙ ap Some placed.2 in
          none_placed (names l.link.phys) before (get_or before placed.0 0) (Contains-get_or before placed.0 0 (within_before placed.0 choice k)) (named l placed.0 choice k it same) e)))
      read_at l has at (Some k) e =
          let facts = position-Some (names l.link.phys) before k 0 e in
          of (get_or (map with_link fill.choice) k None) refl facts.0 facts.1
        where
          long : k < length before → k < length choices
          long less = subst (λ (cs : List (Option Choice)). k < length cs) choice_same (omega (arith, less, length-take n (map word_of (map with_link fill.choice)), length-map (map with_link fill.choice) word_of, length-map fill.choice with_link))

          same_phys : (m : LinkState) → is_number l.link.phys (Some m.link.phys) ≡ true → m.link.phys ≡ l.link.phys
          same_phys m f = grind (arith, f)

          at_place : (o : Option Choice) → slice_get choices k ≡ Some o → names l.link.phys (get_or before k 0) ≡ true → get_or before k 0 ≡ word_of (with_link o) → option_map_or (λ word. left_in l (unpacked word).state) (slice_get (listed_of after) k) l ≡ left_as l (change (entry_of l))
          at_place None is passes word = absurd (false≢true (sym (ap (names l.link.phys) word) ∙ passes))
          at_place (Some choice) is passes word =
              let it = is_of choice (k, slice_get_within choices k (Some choice) is, get_or_from_slice_get choices k (Some choice) (Some choice) is) in
              let phys = same_phys it.l (sym (ap (is_number l.link.phys) (names_phys k choice is it)) ∙ passes) in
              shown_after l has at k choice is it (one_phys vcpus ls good it.l l it.among has phys)

          of : (o : Option Choice) → get_or (map with_link fill.choice) k None ≡ o → k < length before → names l.link.phys (get_or before k 0) ≡ true → option_map_or (λ word. left_in l (unpacked word).state) (slice_get (listed_of after) k) l ≡ left_as l (change (entry_of l))
          of o f less passes =
              at_place (get_or choices k None) (slice_get-get_or choices k None (long less)) passes
              (word_at (map with_link fill.choice) n k less
              ∙ ap word_of (ap (λ (cs : List (Option Choice)). get_or (map with_link cs) k None) choice_same ∙ get_or-map with_link choices k None None (long less)))

      pub links_same : map (read_back vcpu before (listed_of after)) ls ≡ map (accessed vcpu (interface_after reg write whole).at) ls
      links_same = map_same (read_back vcpu before (listed_of after)) (accessed vcpu (interface_after reg write whole).at) ls (λ l has. of l has (is_at vcpu l) refl)
        where
          of : (l : LinkState) → Contains ls l → (b : Bool) → is_at vcpu l ≡ b → read_back vcpu before (listed_of after) l ≡ accessed vcpu (interface_after reg write whole).at l
          of l has true at =
              ap (λ (b : Bool). if b then option_map_or (λ word. left_in l (unpacked word).state) (option_and_then (slice_get (listed_of after)) (position (names l.link.phys) before)) l else l) at
              ∙ read_at l has at (position (names l.link.phys) before) refl
              ∙ sym (accessed_is l has at)
          of l has false at = rw at refl
