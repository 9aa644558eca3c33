-- What a scan leaves out comes after what stands in the list registers that it fills.
use Rattle.std.proofs.Common.{◌≡◌, ◌≢◌, ℕ, ◌≤◌, ◌&&◌, ◌||◌, ◌⊎◌, inl, inr, true≢false, Bool, true, false, IsTrue, All, AllPairs, List, [], ◌∷◌, map, filter, get_or, Contains, Option, Some, None, is_none, IsSome, slice_get, refl, sym, ap, ◌∙◌, subst}
use Rattle.std.specs.Option.{option_map}
use Rattle.std.proofs.lemmas.Bool.{and_parts, false_from_ne_true}
use Rattle.std.proofs.lemmas.List.{get_or_default}
use Rattle.std.proofs.lemmas.List.Elements.{All-contains}
use Rattle.law_registers_stand.proofs.VcpuRefill.ElementLemmas.{Contains-nothing, Contains-here, Contains-map, Contains-filter}
use Rattle.law_registers_stand.proofs.CoreProper.ReachLemmas.{inactive}
use Rattle.law_registers_stand.specs.Words.{Key, GuestShape, intid_of, IsShape, has_bit, Irq as IrqRecord, is_ripe}
use Rattle.law_registers_stand.specs.Histories.{Track}
use Rattle.law_registers_stand.specs.Lists.{IchRegs, Seen, seen_in, listed_of, hcr_npie, is_live, LrState, Pending, Both, state_has_pending, state_has_active, packed, Choice, Offer, IsPlanned, candidate_of, deliverable_among, is_deliverable_to, first_among, plan, regs_of, chosen_as, Fill}
use Rattle.law_registers_stand.specs.Registers.{Candidate, CpuRec, first_of, is_before, is_deliverable, is_group_enabled, takes_kind}
use Rattle.law_registers_stand.specs.Core.{AtIrq, Local, Made, CoreState, alone, has_key, keys_of_both}
use Rattle.law_registers_stand.proofs.VcpuRefill.EarnedLemmas.{earned, both_deliverable, both_uncut, from_ordered}
use Rattle.law_registers_stand.proofs.VcpuRefill.FirstLemmas.{first}
use Rattle.law_registers_stand.proofs.GicPrio.FirstLemmas.{first_is, first_there}
use Rattle.std.proofs.lemmas.Option.{none-some, same_Some}
use Rattle.law_scans_miss_none.proofs.TrackLemmas.{key_cases}
use Rattle.law_registers_stand.proofs.AskFill.{asks}
use Rattle.law_registers_stand.proofs.KeyLemmas.{keys_of, of_key, has_its_key}
use Rattle.law_registers_stand.proofs.VcpuRefill.LawLemmas.{every_deliverable, left_out}
use Rattle.law_registers_stand.proofs.ComeLemmas.{seen_choice, Comes, IsAwaited}
use Rattle.law_registers_stand.proofs.FillLemmas.{IsOffered, chosen, is_chosen, in_chosen, fill_shows}
use Rattle.law_registers_stand.proofs.AloneLemmas.{alone_shows}
use Rattle.law_registers_stand.proofs.VcpuRefill.StandLemmas.{stands_chosen}
use Rattle.law_registers_stand.proofs.ShowLemmas.{Shows, lives, live_itself}
use Rattle.law_scans_miss_none.specs.Scan.{offer_in}
use Rattle.law_scans_miss_none.specs.Waiting.{record_in, IsDue}

-- What registers leave out.

-- an interrupt as a candidate, and what a list register shows as one
abbrev pub as_candidate : Key → IrqRecord → Candidate
as_candidate key irq = record { id = intid_of key; prio = irq.prio; group = irq.group }

abbrev pub seen_candidate : Seen → Candidate
seen_candidate s = record { id = s.id; prio = s.prio; group = s.group }

-- a list register has an interrupt, pending or active
pub record IsListed (regs : IchRegs) (key : Key) : Type 0 where
  pub word : ℕ
  pub among : Contains (listed_of regs) word
  pub live : is_live (intid_of key) (seen_in word) ≡ true

-- a list register has State 1
pub record HasPending (regs : IchRegs) : Type 0 where
  pub word : ℕ
  pub among : Contains (listed_of regs) word
  pub pending : (seen_in word).pending ≡ true
  pub inactive : (seen_in word).active ≡ false

-- there is one in trap mode; out of it, its absence is asked for
abbrev pub HasMore : Bool → IchRegs → Type 0
HasMore true regs = HasPending regs
HasMore false regs = has_bit regs.hcr hcr_npie ≡ true

-- an interrupt that has none comes before no list register with State 1
pub record IsLater (trapping : Bool) (regs : IchRegs) (key : Key) (irq : IrqRecord) : Type 0 where
  pub more : HasMore trapping regs
  pub after : (word : ℕ) → Contains (listed_of regs) word → (seen_in word).pending ≡ true → (seen_in word).active ≡ false → is_before (as_candidate key irq) (seen_candidate (seen_in word)) ≡ false

-- what is pending in a list register is of a group that the vCPU listens to; nothing has State 3 where something may be left out; and each interrupt that is due and
-- deliverable is listed, or comes later
pub record IsBounded (shape : GuestShape) (state : CoreState) (track : Track) (vcpu : ℕ) (trapping : Bool) (regs : IchRegs) (cpu : CpuRec) : Type 0 where
  pub groups : (word : ℕ) → Contains (listed_of regs) word → (seen_in word).pending ≡ true → is_group_enabled (seen_in word).group cpu ≡ true
  pub uncut : has_bit regs.hcr hcr_npie ≡ true → (word : ℕ) → Contains (listed_of regs) word → (seen_in word).pending ≡ true → (seen_in word).active ≡ false
  pub left : (key : Key) → IsDue shape state track vcpu key → IsTrue (is_deliverable key (record_in shape state key) vcpu cpu shape) → IsListed regs key ⊎ IsLater trapping regs key (record_in shape state key)

-- Words and choices.

pending_lives : (s : Seen) → s.pending ≡ true → lives s ≡ true
pending_lives s e = ap (λ b. b || s.active) e

-- a list register that shows something shows what it is to
shown_so : (words : List ℕ) (P : Seen → Type 0) → Shows words P → (word : ℕ) → Contains words word → lives (seen_in word) ≡ true → P (seen_in word)
shown_so words P shows word has live =
    let same : get_or words has.0 0 ≡ word = get_or_default words has.0 0 word has.1 ∙ has.2 in
    subst (λ w. P (seen_in w)) same (shows.only has.0 (seen_in word).id has.1 (subst (λ w. is_live (seen_in word).id (seen_in w) ≡ true) (sym same) (live_itself (seen_in word) live)))

-- a choice, and a choice is shown
choice_of : (words : List ℕ) (choices : List Choice) (takes : List Key) (at : List AtIrq) → at ≡ [] → Shows words (Comes choices takes at) → (word : ℕ) → Contains words word → lives (seen_in word) ≡ true → IsAwaited choices (seen_in word)
choice_of words choices takes at empty shows word has live = of (shown_so words (Comes choices takes at) shows word has live)
  where
    of : Comes choices takes at (seen_in word) → IsAwaited choices (seen_in word)
    of (inl awaited) = awaited
    of (inr here) = absurd (Contains-nothing here.entry (subst (λ list. Contains list here.entry) empty here.among))

word_with : (words : List ℕ) (choices : List Choice) (takes : List Key) (at : List AtIrq) → Shows words (Comes choices takes at) → (c : Choice) → Contains choices c → lives (seen_choice c) ≡ true → (word : ℕ) × Contains words word × (seen_in word ≡ seen_choice c)
word_with words choices takes at shows c has live =
    let found = shows.whole (seen_choice c) live (inl (record { choice = c; among = has; is = refl })) in
    (get_or words found.0 0, (found.0, found.1, get_or_default words found.0 (get_or words found.0 0) 0 found.1), found.2)

-- an interrupt that can be delivered is of a group that the vCPU listens to
group_of : (key : Key) (irq : IrqRecord) (vcpu : ℕ) (cpu : CpuRec) (shape : GuestShape) → IsTrue (is_deliverable key irq vcpu cpu shape) → is_group_enabled irq.group cpu ≡ true
group_of key irq vcpu cpu shape h =
    (and_parts (is_ripe irq vcpu shape && is_none irq.act_by) (is_group_enabled irq.group cpu) (and_parts (is_ripe irq vcpu shape && is_none irq.act_by && is_group_enabled irq.group cpu) (takes_kind key cpu) h).0).1

-- The plan.

module _ (shape : GuestShape) (good : IsShape shape) (vcpu n : ℕ) (few : n ≤ 16) (local : Local) (empty : local.at ≡ []) (own : List Made) (offers : List Offer) (each : All (IsOffered shape vcpu own) offers) (apart : AllPairs (λ early late. early.key ≢ late.key) offers)
    (state : CoreState) (track : Track) (covers : (key : Key) → IsDue shape state track vcpu key → Contains offers (offer_in shape state key)) where
  planned_shows : let fill = plan offers vcpu local.cpu shape n in Shows (listed_of (regs_of fill local.cpu n)) (Comes (chosen fill.choice) (keys_of_both fill) local.at)
  planned_shows = fill_shows shape good vcpu n few local empty own offers each apart

  -- what a list register shows as pending
  pending_of : (word : ℕ) → Contains (listed_of (regs_of (plan offers vcpu local.cpu shape n) local.cpu n)) word → (seen_in word).pending ≡ true → IsAwaited (chosen (plan offers vcpu local.cpu shape n).choice) (seen_in word)
  pending_of word has pending = choice_of (listed_of (regs_of (plan offers vcpu local.cpu shape n) local.cpu n)) (chosen (plan offers vcpu local.cpu shape n).choice) (keys_of_both (plan offers vcpu local.cpu shape n)) local.at empty planned_shows word has (pending_lives (seen_in word) pending)

  pub plan_bounds : (plan offers vcpu local.cpu shape n).trapping ≡ false → IsBounded shape state track vcpu false (regs_of (plan offers vcpu local.cpu shape n) local.cpu n) local.cpu
  plan_bounds plain = record {
    groups = λ word has pending. groups_so word pending (pending_of word has pending);
    uncut = λ npie word has pending. uncut_so npie word pending (pending_of word has pending);
    left = λ key due deliverable. left_so key due deliverable (has_key key (keys_of (chosen fill.choice))) refl;
  }
    where
      fill : Fill
      fill = plan offers vcpu local.cpu shape n

      cut_is : has_bit fill.hcr hcr_npie ≡ fill.cut
      cut_is = (asks shape good vcpu n few local empty own offers each apart plain).npie

      both_of : (state : LrState) → state_has_pending state ≡ true → state_has_active state ≡ true → state ≡ Both
      both_of Both p a = refl
      both_of state p a = absurd (cc)

      groups_so : (word : ℕ) → (seen_in word).pending ≡ true → IsAwaited (chosen fill.choice) (seen_in word) → is_group_enabled (seen_in word).group local.cpu ≡ true
      groups_so word pending awaited =
          let c = awaited.choice in
          let has = is_chosen fill.choice c awaited.among in
          let state_pending : state_has_pending c.entry.state ≡ true = ap (λ (s : Seen). s.pending) awaited.is ∙ pending in
          let group : is_group_enabled c.irq.group local.cpu ≡ true = elim (earned offers vcpu local.cpu shape n c has).state [
            | inl first ↦ group_of c.key c.irq vcpu local.cpu shape first.1
            | inr active ↦ group_of c.key (record c.irq { act_by = None }) vcpu local.cpu shape (both_deliverable offers vcpu local.cpu shape n c has (both_of c.entry.state state_pending active.0))
          ] in
          subst (λ (s : Seen). is_group_enabled s.group local.cpu ≡ true) awaited.is group

      uncut_so : has_bit fill.hcr hcr_npie ≡ true → (word : ℕ) → (seen_in word).pending ≡ true → IsAwaited (chosen fill.choice) (seen_in word) → (seen_in word).active ≡ false
      uncut_so npie word pending awaited =
          let c = awaited.choice in
          let has = is_chosen fill.choice c awaited.among in
          false_from_ne_true (seen_in word).active (λ active.
          true≢false (sym (sym cut_is ∙ npie) ∙ both_uncut offers vcpu local.cpu shape n c has (both_of c.entry.state (ap (λ (s : Seen). s.pending) awaited.is ∙ pending) (ap (λ (s : Seen). s.active) awaited.is ∙ active))))

      lives_so : (c : Choice) → Contains fill.choice (Some c) → lives (seen_choice c) ≡ true
      lives_so c has = elim (earned offers vcpu local.cpu shape n c has).state [
        | inl first ↦ ap (λ state. state_has_pending state || state_has_active state) first.0
        | inr active ↦ either (state_has_pending c.entry.state) (state_has_active c.entry.state) active.0
      ]
        where
          either : (a b : Bool) → b ≡ true → (a || b) ≡ true
          either true b e = refl
          either false b e = e

      left_so : (key : Key) → IsDue shape state track vcpu key → IsTrue (is_deliverable key (record_in shape state key) vcpu local.cpu shape) → (b : Bool) → has_key key (keys_of (chosen fill.choice)) ≡ b
          → IsListed (regs_of fill local.cpu n) key ⊎ IsLater false (regs_of fill local.cpu n) key (record_in shape state key)
      left_so key due deliverable true e =
          let c = of_key key (chosen fill.choice) e in
          let word = word_with (listed_of (regs_of fill local.cpu n)) (chosen fill.choice) (keys_of_both fill) local.at planned_shows c.0 c.1 (lives_so c.0 (is_chosen fill.choice c.0 c.1)) in
          inl (record {
            word = word.0;
            among = word.1;
            live =
                ap (is_live (intid_of key)) word.2 ∙ ap (λ k. is_live (intid_of k) (seen_choice c.0)) (sym c.2)
                ∙ live_itself (seen_choice c.0) (lives_so c.0 (is_chosen fill.choice c.0 c.1));
          })
      left_so key due deliverable false e =
          let offer = offer_in shape state key in
          let unplanned : IsPlanned fill offer → ⊥ = λ is.
          true≢false (sym (ap (λ k. has_key k (keys_of (chosen fill.choice))) (sym (ap (λ (o : Offer). o.key) is.is)) ∙ has_its_key is.choice (chosen fill.choice) (in_chosen fill.choice is.choice is.among)) ∙ e) in
          let cut : fill.cut ≡ true = not_false fill.cut (λ none. unplanned (every_deliverable offers vcpu local.cpu shape n offer few (covers key due) deliverable plain none)) in
          inr (record {
            more = cut_is ∙ cut;
            after = λ word has pending inactive. after_so key due deliverable unplanned word inactive (pending_of word has pending) pending;
          })
        where
          not_false : (b : Bool) → (b ≡ false → ⊥) → b ≡ true
          not_false true h = refl
          not_false false h = absurd (h refl)

          pending_state : (s : LrState) → state_has_pending s ≡ true → state_has_active s ≡ false → s ≡ Pending
          pending_state Pending p a = refl
          pending_state s p a = absurd (cc)

          after_so :
              (key : Key) → IsDue shape state track vcpu key → IsTrue (is_deliverable key (record_in shape state key) vcpu local.cpu shape) → (IsPlanned fill (offer_in shape state key) → ⊥) → (word : ℕ) → (seen_in word).active ≡ false
              → IsAwaited (chosen fill.choice) (seen_in word) → (seen_in word).pending ≡ true → is_before (as_candidate key (record_in shape state key)) (seen_candidate (seen_in word)) ≡ false
          after_so key due deliverable unplanned word inactive awaited pending =
              let c = awaited.choice in
              let alone_pending = pending_state c.entry.state (ap (λ (s : Seen). s.pending) awaited.is ∙ pending) (ap (λ (s : Seen). s.active) awaited.is ∙ inactive) in
              let comes = left_out offers vcpu local.cpu shape n (offer_in shape state key) c few (covers key due) deliverable unplanned (is_chosen fill.choice c awaited.among) alone_pending in
              subst (λ s. is_before (as_candidate key (record_in shape state key)) (seen_candidate s) ≡ false) awaited.is comes.not_before

  -- The first alone.

  -- what a list register shows, and that an interrupt that is due and deliverable was found
  found_among : (key : Key) → IsDue shape state track vcpu key → IsTrue (is_deliverable key (record_in shape state key) vcpu local.cpu shape) → Contains (map candidate_of (filter (is_deliverable_to vcpu local.cpu shape) offers)) (as_candidate key (record_in shape state key))
  found_among key due deliverable = Contains-map candidate_of (filter (is_deliverable_to vcpu local.cpu shape) offers) (offer_in shape state key) (Contains-filter (is_deliverable_to vcpu local.cpu shape) offers (offer_in shape state key) deliverable (covers key due))

  nothing_found : first_among offers vcpu local.cpu shape ≡ None → (key : Key) → IsDue shape state track vcpu key → IsTrue (is_deliverable key (record_in shape state key) vcpu local.cpu shape) → ⊥
  nothing_found e key due deliverable =
      let among = found_among key due deliverable in
      let some = first_there (map candidate_of (filter (is_deliverable_to vcpu local.cpu shape) offers)) (λ empty. Contains-nothing (as_candidate key (record_in shape state key)) (subst (λ xs. Contains xs (as_candidate key (record_in shape state key))) empty among)) in
      no_some (first_of (map candidate_of (filter (is_deliverable_to vcpu local.cpu shape) offers))) (sym (first offers vcpu local.cpu shape) ∙ ap (option_map candidate_of) e) some
    where
      no_some : (o : Option Candidate) → o ≡ None → IsSome o → ⊥
      no_some None e h = absurd (cc)
      no_some (Some one) e h = absurd (cc)

  offered_first : (offer : Offer) → first_among offers vcpu local.cpu shape ≡ Some offer → Contains offers offer × IsTrue (is_deliverable_to vcpu local.cpu shape offer)
  offered_first offer e = from_ordered (is_deliverable_to vcpu local.cpu shape) offers offer (first_in (deliverable_among offers vcpu local.cpu shape) offer e)
    where
      first_in : (xs : List Offer) (x : Offer) → slice_get xs 0 ≡ Some x → Contains xs x
      first_in [] x e = absurd (none-some x e)
      first_in (y ∷ xs) x e = subst (Contains (y ∷ xs)) (same_Some y x e) (Contains-here y xs)

  first_bounds : 1 ≤ n → (one : Option Offer) → first_among offers vcpu local.cpu shape ≡ one → IsBounded shape state track vcpu true (alone (option_map (chosen_as Pending) one) local.cpu n) local.cpu
  first_bounds some None e =
      let shows = alone_shows None local.cpu n some few (λ s. ⊥) (λ c f. absurd (none-some c f)) (λ s h p. absurd p) in
      let none : (word : ℕ) → Contains (listed_of (alone None local.cpu n)) word → (seen_in word).pending ≡ true → ⊥ = λ word has pending. shown_so (listed_of (alone None local.cpu n)) (λ s. ⊥) shows word has (pending_lives (seen_in word) pending) in
      record {
        groups = λ word has pending. absurd (none word has pending);
        uncut = λ npie word has pending. absurd (none word has pending);
        left = λ key due deliverable. absurd (nothing_found e key due deliverable);
      }
  first_bounds some (Some offer) e =
      let is = offered_first offer e in
      let c = chosen_as Pending offer in
      let fits = (All-contains (IsOffered shape vcpu own) offers offer each is.0).fits in
      let seen : seen_in (packed c.entry) ≡ seen_choice c = (stands_chosen c fits refl).seen in
      let shows = alone_shows (Some c) local.cpu n some few (λ s. seen_choice c ≡ s) (λ d f. sym seen ∙ ap (λ (x : Choice). seen_in (packed x.entry)) (same_Some c d f)) (λ s h p. (c, refl, seen ∙ p)) in
      let shown : (word : ℕ) → Contains (listed_of (alone (Some c) local.cpu n)) word → (seen_in word).pending ≡ true → seen_choice c ≡ seen_in word = λ word has pending. shown_so (listed_of (alone (Some c) local.cpu n)) (λ s. seen_choice c ≡ s) shows word has (pending_lives (seen_in word) pending) in
      let found = shows.whole (seen_choice c) refl refl in
      let word : (w : ℕ) × Contains (listed_of (alone (Some c) local.cpu n)) w × (seen_in w ≡ seen_choice c) =
      (get_or (listed_of (alone (Some c) local.cpu n)) found.0 0, (found.0, found.1, get_or_default (listed_of (alone (Some c) local.cpu n)) found.0 (get_or (listed_of (alone (Some c) local.cpu n)) found.0 0) 0 found.1), found.2) in
      record {
        groups = λ w has pending. subst (λ (s : Seen). is_group_enabled s.group local.cpu ≡ true) (shown w has pending) (group_of offer.key offer.irq vcpu local.cpu shape is.1);
        uncut = λ npie w has pending. sym (ap (λ (s : Seen). s.active) (shown w has pending));
        left = λ key due deliverable. elim (key_cases offer.key key) [
          | inl same ↦
              inl (record {
                word = word.0;
                among = word.1;
                live = ap (is_live (intid_of key)) word.2 ∙ ap (λ k. is_live (intid_of k) (seen_choice c)) (sym same) ∙ live_itself (seen_choice c) refl;
              })
          | inr differ ↦
              inr (record {
                more = record { word = word.0; among = word.1; pending = ap (λ (s : Seen). s.pending) word.2; inactive = ap (λ (s : Seen). s.active) word.2 };
                after = λ w has pending inactive.
                    let least = (first_is (map candidate_of (filter (is_deliverable_to vcpu local.cpu shape) offers)) (candidate_of offer) (sym (first offers vcpu local.cpu shape) ∙ ap (option_map candidate_of) e)).least in
                    subst (λ s. is_before (as_candidate key (record_in shape state key)) (seen_candidate s) ≡ false) (shown w has pending)
                    (All-contains (λ other. is_before other (candidate_of offer) ≡ false) (map candidate_of (filter (is_deliverable_to vcpu local.cpu shape) offers)) (as_candidate key (record_in shape state key)) least (found_among key due deliverable));
              })
        ];
      }

  pub trap_bounds : 1 ≤ n → IsBounded shape state track vcpu true (alone (option_map (chosen_as Pending) (first_among offers vcpu local.cpu shape)) local.cpu n) local.cpu
  trap_bounds some = first_bounds some (first_among offers vcpu local.cpu shape) refl
