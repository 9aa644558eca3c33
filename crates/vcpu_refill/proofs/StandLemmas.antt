-- The registers that an entry stores stand for the interface.
use Rattle.std.proofs.Common.{◌≡◌, ◌≤◌, ◌<◌, ◌+◌, ◌*◌, ◌/◌, ◌%◌, ◌^◌, ℕ, Bool, true, false, ◌&&◌, if◌then◌else◌, nat_eq, Option, Some, None, List, [], ◌∷◌, length, take, map, get_or, Contains, ◌⊎◌, inl, inr, refl, sym, ap, ◌∙◌, subst, arith}
use Rattle.std.specs.Prelude.{slice_get}
use Rattle.std.specs.List.{filter_map, cons_option}
use Rattle.std.specs.Option.{option_map}
use Rattle.std.proofs.lemmas.List.{length-map, get_or-map, get_or-take, length-take-le}
use Rattle.std.proofs.Math.ListN.{get_or-eq_default}
use Rattle.std.proofs.lemmas.Option.{none-some, same_Some, slice_get_past, slice_get_within, get_or_from_slice_get, slice_get-get_or}
use Rattle.gic_ich.specs.GicWord.declared.record.Group.{Group}
use Rattle.gic_ich.specs.Words.{G0, G1, group_number, has_bit, bit_of, HeldIrq}
use Rattle.gic_ich.specs.GicLr.declared.entry.LrState.{LrState}
use Rattle.gic_ich.specs.GicLr.declared.entry.LrState.TheVariants.{Invalid, Pending, Active, Both}
use Rattle.gic_ich.specs.GicLr.Entry.{packed, state_at, state_number, state_has_pending, state_has_active}
use Rattle.gic_ich.specs.GicPrio.declared.cpu.CpuRec.{CpuRec}
use Rattle.gic_ich.specs.GicPrio.Interface.{AtInterface}
use Rattle.gic_ich.specs.Place.{Seen, seen_in, seen_of, StandsAs, HasOne, IsHeld, StandByPlace}
use Rattle.vcpu_refill.specs.declared.offer.Offer.{Offer}
use Rattle.vcpu_refill.specs.declared.fill.Choice.{Choice}
use Rattle.vcpu_refill.specs.Order.{active_among, deliverable_among}
use Rattle.vcpu_refill.specs.Ranking.{in_places}
use Rattle.vcpu_refill.specs.Plan.{is_trapping, is_cut, choices_of, chosen_as, hcr_of, word_of, held_as, entry_of}
use Rattle.vcpu_refill.specs.Laws.{FitsRegister, PlanStands, offer_of}
use Rattle.vcpu_refill.proofs.ElementLemmas.{Contains-here, Contains-there, Contains-cases, Contains-nothing, Contains-from_places, Contains-in_places}
use Rattle.vcpu_refill.proofs.PlaceLemmas.{get_or-in_places, length-in_places}
use Rattle.vcpu_refill.proofs.LawLemmas.{choices_few}
use Rattle.vcpu_refill.proofs.EarnedLemmas.{earned}
use Rattle.vcpu_refill.proofs.ApartLemmas.{Apart, one_place, choices_apart}

-- the parts of a word
parts : (id prio g s e : ℕ) → id < 2 ^ 32 → prio < 2 ^ 8 → g ≤ 1 → s ≤ 3 → e ≤ 1
    → let word = id + e * 2 ^ 41 + prio * 2 ^ 48 + g * 2 ^ 60 + s * 2 ^ 62 in (word % 2 ^ 32 ≡ id) × (word / 2 ^ 48 % 2 ^ 8 ≡ prio) × (word / 2 ^ 60 % 2 ≡ g) × (word / 2 ^ 62 ≡ s)
parts id prio g s e id_fits prio_fits g_fits s_fits e_fits =
    (omega (arith, id_fits, prio_fits, g_fits, s_fits, e_fits), omega (arith, id_fits, prio_fits, g_fits, s_fits, e_fits), omega (arith, id_fits, prio_fits, g_fits, s_fits, e_fits), omega (arith, id_fits, prio_fits, g_fits, s_fits, e_fits))

-- the numbers of a group and of a bit are small
pub group_small : (group : Group) → group_number group ≤ 1
group_small G0 = omega arith
group_small G1 = omega arith

pub bit_small : (b : Bool) → bit_of b ≤ 1
bit_small true = omega arith
bit_small false = omega arith

-- what the list register of a choice shows
seen_chosen : (state : LrState) (offer : Offer) → FitsRegister offer → seen_in (packed (chosen_as state offer).entry) ≡ seen_of (entry_of (chosen_as state offer))
seen_chosen state offer fits =
    let entry = (chosen_as state offer).entry in
    let word = packed entry in
    let p = parts entry.id entry.prio (group_number entry.group) (state_number state) (bit_of entry.eoi) fits.id fits.prio (group_small entry.group) (state_small state) (bit_small entry.eoi) in
    same_shown (word % 2 ^ 32) entry.id (word / 2 ^ 48 % 2 ^ 8) entry.prio (word / 2 ^ 60 % 2) (group_number entry.group) (word / 2 ^ 62) (state_number state) p.0 p.1 p.2 p.3
    ∙ ap (λ group. record { id = entry.id; prio = entry.prio; group = group; pending = state_has_pending (state_at (state_number state)); active = state_has_active (state_at (state_number state)) }) (group_back entry.group)
    ∙ ap (λ state. record { id = entry.id; prio = entry.prio; group = entry.group; pending = state_has_pending state; active = state_has_active state }) (state_back state)
  where
    shown : ℕ → ℕ → ℕ → ℕ → Seen
    shown id prio group state = record { id = id; prio = prio; group = if nat_eq group 1 then G1 else G0; pending = state_has_pending (state_at state); active = state_has_active (state_at state) }

    same_shown : (id id' prio prio' group group' state state' : ℕ) → id ≡ id' → prio ≡ prio' → group ≡ group' → state ≡ state' → shown id prio group state ≡ shown id' prio' group' state'
    same_shown id id' prio prio' group group' state state' e f g h = rw (e, f, g, h) refl

    state_small : (state : LrState) → state_number state ≤ 3
    state_small Invalid = omega arith
    state_small Pending = omega arith
    state_small Active = omega arith
    state_small Both = omega arith

    group_back : (group : Group) → (if nat_eq (group_number group) 1 then G1 else G0) ≡ group
    group_back G0 = refl
    group_back G1 = refl

    state_back : (state : LrState) → state_at (state_number state) ≡ state
    state_back Invalid = refl
    state_back Pending = refl
    state_back Active = refl
    state_back Both = refl

-- a choice stands in its list register
pub stands_chosen : (choice : Choice) → FitsRegister (offer_of choice) → choice ≡ chosen_as choice.entry.state (offer_of choice) → StandsAs (packed choice.entry) (held_as choice) (entry_of choice)
stands_chosen choice fits whole =
    let brings = state_has_pending choice.entry.state in
    record {
      key = refl;
      seen = ap (λ c. seen_in (packed c.entry)) whole ∙ seen_chosen choice.entry.state (offer_of choice) fits;
      rise = twice brings choice.irq.rise;
      soft = twice brings choice.irq.soft;
    }
  where
    twice : (b c : Bool) → (b && c) ≡ ((b && c) && b)
    twice true true = refl
    twice true false = refl
    twice false c = refl

-- elements through a map that may leave some out
pub in_filter_map : {X Y : Type 0} (f : X → Option Y) (xs : List X) (x : X) (y : Y) → Contains xs x → f x ≡ Some y → Contains (filter_map f xs) y
in_filter_map f [] x y has e = absurd (Contains-nothing x has)
in_filter_map {Y = Y} f (z ∷ xs) x y has e = by_head (Contains-cases z x xs has) (λ later. in_filter_map f xs x y later e)
  where
    kept : (o : Option Y) → Contains (filter_map f xs) y → Contains (cons_option o (filter_map f xs)) y
    kept None h = h
    kept (Some first) h = Contains-there first y (filter_map f xs) h

    by_head : (z ≡ x) ⊎ Contains xs x → (Contains xs x → Contains (filter_map f xs) y) → Contains (cons_option (f z) (filter_map f xs)) y
    by_head (inl same) rest = subst (λ o. Contains (cons_option o (filter_map f xs)) y) (sym (ap f same ∙ e)) (Contains-here y (filter_map f xs))
    by_head (inr later) rest = kept (f z) (rest later)

pub from_filter_map : {X Y : Type 0} (f : X → Option Y) (xs : List X) (y : Y) → Contains (filter_map f xs) y → (x : X) × Contains xs x × (f x ≡ Some y)
from_filter_map f [] y has = absurd (Contains-nothing y has)
from_filter_map {X = X} {Y = Y} f (z ∷ xs) y has = by_first (f z) refl has (from_filter_map f xs y)
  where
    later : (x : X) × Contains xs x × (f x ≡ Some y) → (x : X) × Contains (z ∷ xs) x × (f x ≡ Some y)
    later found = (found.0, Contains-there z found.0 xs found.1, found.2)

    by_first : (o : Option Y) → f z ≡ o → Contains (cons_option o (filter_map f xs)) y → (Contains (filter_map f xs) y → (x : X) × Contains xs x × (f x ≡ Some y)) → (x : X) × Contains (z ∷ xs) x × (f x ≡ Some y)
    by_first None e h rest = later (rest h)
    by_first (Some first) e h rest =
        elim (Contains-cases first y (filter_map f xs) h) [
          | inl same ↦ (z, Contains-here z xs, e ∙ ap Some same)
          | inr more ↦ later (rest more)
        ]

-- choices that are not more than n list registers, each whole, stand in them
placed :
    (choices : List Choice) (n : ℕ) → n ≤ 16 → length choices ≤ n → Apart (map offer_of choices) → ((choice : Choice) → Contains choices choice → StandsAs (packed choice.entry) (held_as choice) (entry_of choice))
    → StandByPlace (take n (map word_of (in_places choices))) (map (option_map held_as) (in_places choices)) (filter_map (option_map entry_of) (in_places choices))
placed choices n most few apart whole =
    record {
      filled = λ place one less e. filled place one (omega (arith, long, less)) (slice_get choices place) refl (sym (held_at place) ∙ e);
      free = λ place less e. word_at place (omega (arith, long, less)) ∙ free (slice_get choices place) (sym (held_at place) ∙ e);
      past = λ place more. held_at place ∙ ap (option_map held_as) (slice_get_past choices place (omega (arith, long, more, few)));
      each = λ entry has. each entry (from_filter_map (option_map entry_of) (in_places choices) entry has);
      once = λ j k one other is are e. once j k one other (slice_get choices j) refl (slice_get choices k) refl (sym (held_at j) ∙ is) (sym (held_at k) ∙ are) e;
    }
  where
    words : List ℕ
    words = map word_of (in_places choices)

    long : length (take n (map word_of (in_places choices))) ≡ n
    long = length-take-le n (map word_of (in_places choices)) (omega (arith, length-map (in_places choices) word_of, length-in_places choices, most))

    word_at : (place : ℕ) → place < n → get_or (take n (map word_of (in_places choices))) place 0 ≡ word_of (slice_get choices place)
    word_at place less =
        get_or-take n (map word_of (in_places choices)) place 0 less
        ∙ get_or-map word_of (in_places choices) place None 0 (omega (arith, length-in_places choices, less, most))
        ∙ ap word_of (get_or-in_places choices place None (omega (arith, less, most)))

    held_at : (place : ℕ) → get_or (map (option_map held_as) (in_places choices)) place None ≡ option_map held_as (slice_get choices place)
    held_at place = by_order (grind arith)
      where
        by_order : (place < 16) ⊎ (16 ≤ place) → get_or (map (option_map held_as) (in_places choices)) place None ≡ option_map held_as (slice_get choices place)
        by_order (inl less) =
            get_or-map (option_map held_as) (in_places choices) place None None (omega (arith, length-in_places choices, less))
            ∙ ap (option_map held_as) (get_or-in_places choices place None less)
        by_order (inr more) =
            get_or-eq_default (map (option_map held_as) (in_places choices)) None (omega (arith, length-map (in_places choices) (option_map held_as), length-in_places choices, more))
            ∙ sym (ap (option_map held_as) (slice_get_past choices place (omega (arith, few, most, more))))

    among : (place : ℕ) (choice : Choice) → slice_get choices place ≡ Some choice → Contains choices choice
    among place choice e = (place, slice_get_within choices place choice e, get_or_from_slice_get choices place choice choice e)

    filled : (place : ℕ) (one : HeldIrq) → place < n → (o : Option Choice) → slice_get choices place ≡ o → option_map held_as (slice_get choices place) ≡ Some one → HasOne (get_or (take n (map word_of (in_places choices))) place 0) one (filter_map (option_map entry_of) (in_places choices))
    filled place one less None e f = absurd (none-some one (sym (ap (option_map held_as) e) ∙ f))
    filled place one less (Some choice) e f =
        let is : held_as choice ≡ one = same_Some (held_as choice) one (sym (ap (option_map held_as) e) ∙ f) in
        subst (λ word. HasOne word one (filter_map (option_map entry_of) (in_places choices))) (sym (word_at place less ∙ ap word_of e))
        (subst (λ held. HasOne (packed choice.entry) held (filter_map (option_map entry_of) (in_places choices))) is
        (record {
          entry = entry_of choice;
          among = in_filter_map (option_map entry_of) (in_places choices) (Some choice) (entry_of choice) (Contains-in_places choices choice (omega (arith, few, most)) (among place choice e)) refl;
          stands = whole choice (among place choice e);
        }))

    free : (o : Option Choice) → option_map held_as o ≡ None → word_of o ≡ 0
    free None e = refl
    free (Some choice) e = absurd (none-some (held_as choice) (sym e))

    each : (entry : AtInterface) → (o : Option Choice) × Contains (in_places choices) o × (option_map entry_of o ≡ Some entry) → IsHeld (map (option_map held_as) (in_places choices)) entry.key
    each entry (None, has, e) = absurd (none-some entry e)
    each entry (Some choice, has, e) =
        let place = Contains-from_places choices choice has in
        let is : slice_get choices place.0 ≡ Some choice = slice_get-get_or choices place.0 choice place.1 ∙ ap Some place.2 in
        record { place = place.0; one = held_as choice; there = held_at place.0 ∙ ap (option_map held_as) is; is = ap (λ entry. entry.key) (same_Some (entry_of choice) entry e) }

    once : (j k : ℕ) (one other : HeldIrq) → (o : Option Choice) → slice_get choices j ≡ o → (p : Option Choice) → slice_get choices k ≡ p → option_map held_as (slice_get choices j) ≡ Some one → option_map held_as (slice_get choices k) ≡ Some other → one.key ≡ other.key → j ≡ k
    once j k one other None is p are e f same = absurd (none-some one (sym (ap (option_map held_as) is) ∙ e))
    once j k one other (Some c) is None are e f same = absurd (none-some other (sym (ap (option_map held_as) are) ∙ f))
    once j k one other (Some c) is (Some d) are e f same =
        let c_is : held_as c ≡ one = same_Some (held_as c) one (sym (ap (option_map held_as) is) ∙ e) in
        let d_is : held_as d ≡ other = same_Some (held_as d) other (sym (ap (option_map held_as) are) ∙ f) in
        one_place choices j k c d apart is are (ap (λ h. h.key) c_is ∙ same ∙ sym (ap (λ h. h.key) d_is))

-- ICH_HCR is on in every plan
on : (cpu : CpuRec) (cut trapping : Bool) → has_bit (hcr_of cpu cut trapping) 0 ≡ true
on cpu cut trapping = by_flags cut cpu.en0 cpu.en1 trapping
  where
    by_flags : (cut en0 en1 trapping : Bool) → has_bit (2 ^ 0 + (if cut then 2 ^ 3 else 0) + (if en0 then 2 ^ 5 else 2 ^ 4) + (if en1 then 2 ^ 7 else 2 ^ 6) + (if trapping then 2 ^ 10 + 2 ^ 11 + 2 ^ 12 + 2 ^ 14 else 0)) 0 ≡ true
    by_flags true true true true = refl
    by_flags true true true false = refl
    by_flags true true false true = refl
    by_flags true true false false = refl
    by_flags true false true true = refl
    by_flags true false true false = refl
    by_flags true false false true = refl
    by_flags true false false false = refl
    by_flags false true true true = refl
    by_flags false true true false = refl
    by_flags false true false true = refl
    by_flags false true false false = refl
    by_flags false false true true = refl
    by_flags false false true false = refl
    by_flags false false false true = refl
    by_flags false false false false = refl

pub stands : PlanStands
stands offers vcpu cpu shape n most fits apart =
    record {
      holds = record { enabled = on cpu (is_cut active deliverable n) (is_trapping active deliverable n); vmcr = refl; ap0 = refl; ap1 = refl };
      places = placed (standing (is_trapping active deliverable n)) n most (few (is_trapping active deliverable n) refl) (alone (is_trapping active deliverable n)) whole;
    }
  where
    active : List Offer
    active = active_among offers vcpu

    deliverable : List Offer
    deliverable = deliverable_among offers vcpu cpu shape

    choices : List Choice
    choices = choices_of active deliverable (is_cut active deliverable n) vcpu cpu shape n

    standing : Bool → List Choice
    standing trapping = if trapping then [] else choices

    few : (b : Bool) → is_trapping active deliverable n ≡ b → length (standing b) ≤ n
    few true e = omega arith
    few false e = choices_few active deliverable (is_cut active deliverable n) vcpu cpu shape n e

    alone : (b : Bool) → Apart (map offer_of (standing b))
    alone true = λ i j d less within. absurd (omega (arith, within))
    alone false = choices_apart offers vcpu cpu shape n (is_cut active deliverable n) apart

    whole : (choice : Choice) → Contains (standing (is_trapping active deliverable n)) choice → StandsAs (packed choice.entry) (held_as choice) (entry_of choice)
    whole choice has =
        let right = earned offers vcpu cpu shape n choice (Contains-in_places (standing (is_trapping active deliverable n)) choice (omega (arith, most, few (is_trapping active deliverable n) refl)) has) in
        stands_chosen choice (subst FitsRegister right.offered.2 (fits right.offered.0 (offer_of choice) right.offered.1)) right.whole
