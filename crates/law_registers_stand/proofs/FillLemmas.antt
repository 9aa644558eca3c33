-- A vCPU that looked at all its candidates has registers in which what it chose stands.
use Rattle.std.proofs.Common.{◌≡◌, ◌≢◌, ℕ, zero, suc, ◌<◌, ◌≤◌, ◌||◌, inl, inr, true≢false, Bool, true, false, if◌then◌else◌, IsTrue, List, [], ◌∷◌, map, length, get_or, slice_index_or, Contains, All, AllPairs, Option, Some, None, option_to_list, is_none, refl, sym, ap, subst, ◌∙◌, arith}
use Rattle.std.specs.Prelude.{slice_get}
use Rattle.std.specs.List.{filter_map}
use Rattle.std.specs.Option.{option_map, option_map_or}
use Rattle.std.proofs.lemmas.Bool.{cases_lt, false_from_ne_true}
use Rattle.std.proofs.lemmas.List.{get_or-map, get_or-take, length-take}
use Rattle.std.proofs.lemmas.List.Elements.{All-contains, All-weaker}
use Rattle.std.proofs.lemmas.Option.{none-some, same_Some}
use Rattle.law_core_is_history.specs.Words.{HeldIrq, Key, GuestShape, has_interrupt, is_of_vcpu, is_same_key, IsShape, irq_of}
use Rattle.law_core_is_history.proofs.GicBase.KeyLemmas.{same_key, same_itself}
use Rattle.law_core_is_history.specs.Lists.{IchRegs, Seen, seen_in, seen_of, StandFor, listed_of, is_live, Pending, packed, Choice, Fill, Offer, FitsRegister, IsEarned, offer_of, deliverable_among, first_among, is_deliverable_to, chosen_as, entry_of, held_as, held_of, interface_of as planned_interface, plan, regs_of, word_of}
use Rattle.law_core_is_history.proofs.GicIcv.PlaceLemmas.{entry_id, live_held}
use Rattle.law_core_is_history.specs.Registers.{AtInterface}
use Rattle.law_core_is_history.proofs.VcpuRefill.ApartLemmas.{once}
use Rattle.law_core_is_history.proofs.VcpuRefill.EarnedLemmas.{earned, from_ordered}
use Rattle.law_core_is_history.proofs.VcpuRefill.ElementLemmas.{Contains-here, Contains-there, Contains-cases, Contains-nothing}
use Rattle.law_core_is_history.proofs.VcpuRefill.StandLemmas.{from_filter_map, in_filter_map, stands, stands_chosen}
use Rattle.law_core_is_history.specs.Core.{Local, Made, Irq, known, is_at, alone, has_key, is_both, key_of_both, keys_chosen, keys_of_both}
use Rattle.law_core_is_history.proofs.CoreProper.ReachLemmas.{inactive}
use Rattle.law_registers_stand.proofs.AloneLemmas.{alone_holds, alone_shows}
use Rattle.law_registers_stand.proofs.ComeLemmas.{seen_choice, Comes, IsRight, IsToClaim, IsClaiming, key_by_id}
use Rattle.law_registers_stand.proofs.KeyLemmas.{keys_of, has_its_key}
use Rattle.law_registers_stand.proofs.ShowLemmas.{Shows}

-- an interrupt that a vCPU found, and whose word it knows
pub record IsOffered (shape : GuestShape) (vcpu : ℕ) (own : List Made) (offer : Offer) : Type 0 where
  pub there : IsTrue (has_interrupt shape offer.key)
  pub mine : IsTrue (is_of_vcpu vcpu offer.key)
  pub fits : FitsRegister offer
  pub word : ℕ
  pub known_as : known shape vcpu own (Irq offer.key) ≡ Some word
  pub irq : irq_of word ≡ offer.irq

-- Keys and places.

pub key_among : (key : Key) (keys : List Key) → has_key key keys ≡ true → Contains keys key
key_among key [] h = absurd (cc)
key_among key (one ∷ keys) h = of (is_same_key key one) refl h (key_among key keys)
  where
    of : (b : Bool) → is_same_key key one ≡ b → (b || has_key key keys) ≡ true → (has_key key keys ≡ true → Contains keys key) → Contains (one ∷ keys) key
    of true e h later = subst (Contains (one ∷ keys)) (sym (same_key key one e)) (Contains-here one keys)
    of false e h later = Contains-there one key keys (later h)

pub among_has_key : (key : Key) (keys : List Key) → Contains keys key → has_key key keys ≡ true
among_has_key key [] has = absurd (Contains-nothing key has)
among_has_key key (one ∷ keys) has = elim (Contains-cases one key keys has) [
  | inl same ↦ ap (λ b. b || has_key key keys) (ap (is_same_key key) same ∙ same_itself key)
  | inr later ↦ of (is_same_key key one) (among_has_key key keys later)
]
  where
    of : (b : Bool) → has_key key keys ≡ true → (b || has_key key keys) ≡ true
    of true e = refl
    of false e = e

abbrev pub chosen : List (Option Choice) → List Choice
chosen places = filter_map (λ place. place) places

pub keys_chosen_of : (places : List (Option Choice)) → filter_map (option_map (λ (choice : Choice). choice.key)) places ≡ keys_of (chosen places)
keys_chosen_of [] = refl
keys_chosen_of (None ∷ places) = keys_chosen_of places
keys_chosen_of (Some choice ∷ places) = ap (λ keys. choice.key ∷ keys) (keys_chosen_of places)

pub is_chosen : (places : List (Option Choice)) (choice : Choice) → Contains (chosen places) choice → Contains places (Some choice)
is_chosen places choice has = let from = from_filter_map (λ place. place) places choice has in subst (Contains places) from.2 from.1

pub in_chosen : (places : List (Option Choice)) (choice : Choice) → Contains places (Some choice) → Contains (chosen places) choice
in_chosen places choice has = in_filter_map (λ place. place) places (Some choice) choice has refl

got : {X : Type 0} (xs : List X) (k : ℕ) (x : X) → k < length xs → slice_index_or xs k x ≡ x → slice_get xs k ≡ Some x
got [] k x l e = absurd (omega (arith, l))
got (y ∷ xs) zero x l e = ap Some e
got (y ∷ xs) (suc k) x l e = got xs k x (omega (arith, l)) e

got_none : {X : Type 0} (xs : List (Option X)) (k : ℕ) (x : X) → k < length xs → slice_index_or xs k (Some x) ≡ Some x → slice_index_or xs k None ≡ Some x
got_none [] k x l e = absurd (omega (arith, l))
got_none (y ∷ xs) zero x l e = e
got_none (y ∷ xs) (suc k) x l e = got_none xs k x (omega (arith, l)) e

-- The plan.

module _ (shape : GuestShape) (good : IsShape shape) (vcpu n : ℕ) (few : n ≤ 16) (local : Local) (empty : local.at ≡ []) (own : List Made) (offers : List Offer) (each : All (IsOffered shape vcpu own) offers) (apart : AllPairs (λ early late. early.key ≢ late.key) offers) where
  abbrev pub fill : Fill
  fill = plan offers vcpu local.cpu shape n

  abbrev pub regs : IchRegs
  regs = regs_of fill local.cpu n

  standing : StandFor regs (held_of fill) (planned_interface fill local.cpu)
  standing = stands offers vcpu local.cpu shape n few (All-weaker (IsOffered shape vcpu own) FitsRegister (λ offer is. is.fits) offers each) apart

  pub by_right : (c : Choice) → Contains (chosen fill.choice) c → IsEarned offers vcpu local.cpu shape c
  by_right c has = earned offers vcpu local.cpu shape n c (is_chosen fill.choice c has)

  pub offered_so : (c : Choice) → Contains (chosen fill.choice) c → IsOffered shape vcpu own (offer_of c)
  offered_so c has = All-contains (IsOffered shape vcpu own) offers (offer_of c) each (by_right c has).offered

  one_place : (c d : Choice) → Contains (chosen fill.choice) c → Contains (chosen fill.choice) d → c.key ≡ d.key → c ≡ d
  one_place c d has have same =
      let at = is_chosen fill.choice c has in
      let on = is_chosen fill.choice d have in
      let at_c = got fill.choice at.0 (Some c) at.1 at.2 in
      let at_d = got fill.choice on.0 (Some d) on.1 on.2 in
      let place = once offers vcpu local.cpu shape n at.0 on.0 c d apart at_c at_d same in
      same_Some c d (same_Some (Some c) (Some d) (sym at_c ∙ ap (slice_get fill.choice) place ∙ at_d))

  to_take : (c : Choice) → Contains (chosen fill.choice) c → has_key c.key (keys_of_both fill) ≡ is_both c.entry.state
  to_take c has = of (is_both c.entry.state) refl
    where
      no : has_key c.key (keys_of_both fill) ≡ true → is_both c.entry.state ≡ false → ⊥
      no h e =
          let from = from_filter_map (λ place. option_map_or key_of_both place None) fill.choice c.key (key_among c.key (keys_of_both fill) h) in
          by_place from.0 from.1 from.2 e
        where
          by_state : (d : Choice) (b : Bool) → is_both d.entry.state ≡ b → (if b then Some d.key else None) ≡ Some c.key → Contains fill.choice (Some d) → is_both c.entry.state ≡ false → ⊥
          by_state d true t f there e = true≢false (sym t ∙ ap (λ (x : Choice). is_both x.entry.state) (one_place d c (in_chosen fill.choice d there) has (same_Some d.key c.key f)) ∙ e)
          by_state d false t f there e = none-some c.key f

          by_place : (o : Option Choice) → Contains fill.choice o → option_map_or key_of_both o None ≡ Some c.key → is_both c.entry.state ≡ false → ⊥
          by_place None there f e = none-some c.key f
          by_place (Some d) there f e = by_state d (is_both d.entry.state) refl f there e

      of : (b : Bool) → is_both c.entry.state ≡ b → has_key c.key (keys_of_both fill) ≡ b
      of true e =
          among_has_key c.key (keys_of_both fill)
          (in_filter_map (λ place. option_map_or key_of_both place None) fill.choice (Some c) c.key (is_chosen fill.choice c has) (ap (λ b. if b then Some c.key else None) e))
      of false e = false_from_ne_true (has_key c.key (keys_of_both fill)) (λ h. no h e)

  pub right_so : (c : Choice) → Contains (chosen fill.choice) c → IsRight vcpu c
  right_so c has = elim (by_right c has).state [
    | inl pending ↦ inl (pending.0, inactive c.key c.irq vcpu local.cpu shape pending.1)
    | inr active ↦ inr active
  ]

  claims_so : (c : Choice) → Contains (chosen fill.choice) c → IsToClaim shape vcpu own local.at (keys_of_both fill) c
  claims_so c has =
      let found = offered_so c has in
      record { there = found.there; mine = found.mine; word = found.word; known_as = found.known_as; irq = found.irq; right = right_so c has; away = ap (is_at c.key) empty; both = to_take c has }

  pub seen_so : (c : Choice) → Contains (chosen fill.choice) c → seen_in (packed c.entry) ≡ seen_choice c
  seen_so c has = (stands_chosen c (offered_so c has).fits (by_right c has).whole).seen

  -- what a list register shows
  record IsOfPlace (place : ℕ) : Type 0 where
    one : HeldIrq
    held : get_or (held_of fill) place None ≡ Some one
    choice : Choice
    among : Contains (chosen fill.choice) choice
    key : choice.key ≡ one.key
    seen : seen_choice choice ≡ seen_in (get_or (listed_of regs) place 0)

  of_place : (place id : ℕ) → place < length (listed_of regs) → is_live id (seen_in (get_or (listed_of regs) place 0)) ≡ true → IsOfPlace place
  of_place place id within live =
      let has = live_held (listed_of regs) (held_of fill) (planned_interface fill local.cpu).at place id standing.places within live in
      let from = from_filter_map (option_map entry_of) fill.choice has.2.entry has.2.among in
      by_place has.0 has.1 has.2.entry (sym has.2.stands.seen) has.2.stands.key from.0 from.1 from.2
    where
      by_place : (one : HeldIrq) → get_or (held_of fill) place None ≡ Some one → (entry : AtInterface) → seen_of entry ≡ seen_in (get_or (listed_of regs) place 0) → entry.key ≡ one.key → (o : Option Choice) → Contains fill.choice o → option_map entry_of o ≡ Some entry → IsOfPlace place
      by_place one held entry seen key None there f = absurd (none-some entry f)
      by_place one held entry seen key (Some c) there f =
          let is = same_Some (entry_of c) entry f in
          record { one = one; held = held; choice = c; among = in_chosen fill.choice c there; key = ap (λ (e : AtInterface). e.key) is ∙ key; seen = ap seen_of is ∙ seen }

  -- where a choice stands
  pub stands_at : (c : Choice) → Contains (chosen fill.choice) c → (place : ℕ) × (place < length (listed_of regs)) × (seen_in (get_or (listed_of regs) place 0) ≡ seen_choice c)
  stands_at c has =
      let at = is_chosen fill.choice c has in
      let there = got_none fill.choice at.0 c at.1 at.2 in
      let words : List ℕ = map word_of fill.choice in
      let word : get_or words at.0 0 ≡ packed c.entry = get_or-map word_of fill.choice at.0 None 0 at.1 ∙ ap word_of there in
      elim (cases_lt at.0 (length (listed_of regs))) [
        | inl within ↦
            (let below : at.0 < n = (let few_listed = length-take n (map word_of fill.choice) in omega (arith, within, few_listed)) in
            (at.0, within, ap seen_in (get_or-take n (map word_of fill.choice) at.0 0 below ∙ word) ∙ seen_so c has))
        | inr past ↦
            absurd
            (none-some (held_as c)
            (sym (standing.places.past at.0 past) ∙ get_or-map (option_map held_as) fill.choice at.0 None None at.1 ∙ ap (option_map held_as) there))
      ]

  pub fill_shows : Shows (listed_of regs) (Comes (chosen fill.choice) (keys_of_both fill) local.at)
  fill_shows = record {
    only = λ place id within live. let is = of_place place id within live in inl (record { choice = is.choice; among = is.among; is = is.seen });
    whole = λ s h come. elim come [
      | inl awaited ↦ (let at = stands_at awaited.choice awaited.among in (at.0, at.1, at.2 ∙ awaited.is))
      | inr here ↦ absurd (Contains-nothing here.entry (subst (λ at. Contains at here.entry) empty here.among))
    ];
    once = λ id j k l m f g.
        let first = of_place j id l f in
        let second = of_place k id m g in
        let c = offered_so first.choice first.among in
        let d = offered_so second.choice second.among in
        let same = key_by_id shape vcpu first.choice.key second.choice.key good c.there d.there c.mine d.mine
        (entry_id (get_or (listed_of regs) j 0) id (entry_of first.choice) (sym first.seen) f ∙ sym (entry_id (get_or (listed_of regs) k 0) id (entry_of second.choice) (sym second.seen) g)) in
        standing.places.once j k first.one second.one first.held second.held (sym first.key ∙ same ∙ second.key);
  }

  pub plan_claims : IsClaiming shape vcpu local own regs (keys_chosen fill) (keys_of_both fill)
  plan_claims = record {
    rest = chosen fill.choice;
    keys = keys_chosen_of fill.choice;
    each = claims_so;
    one = one_place;
    holds = standing.holds;
    shows = fill_shows;
    placed = λ key h.
        let from = from_filter_map (λ place. option_map_or key_of_both place None) fill.choice key (key_among key (keys_of_both fill) h) in
        inl (ap (has_key key) (keys_chosen_of fill.choice) ∙ by_place key from.0 from.1 from.2);
    coming = λ entry has h. absurd (Contains-nothing entry (subst (λ at. Contains at entry) empty has));
  }
    where
      by_place : (key : Key) (o : Option Choice) → Contains fill.choice o → option_map_or key_of_both o None ≡ Some key → has_key key (keys_of (chosen fill.choice)) ≡ true
      by_place key None there f = absurd (none-some key f)
      by_place key (Some d) there f = of (is_both d.entry.state) f
        where
          of : (b : Bool) → (if b then Some d.key else None) ≡ Some key → has_key key (keys_of (chosen fill.choice)) ≡ true
          of true f = ap (λ k. has_key k (keys_of (chosen fill.choice))) (sym (same_Some d.key key f)) ∙ has_its_key d (chosen fill.choice) (in_chosen fill.choice d there)
          of false f = absurd (none-some key f)

-- One interrupt, or none.

module _ (shape : GuestShape) (vcpu n : ℕ) (some : 1 ≤ n) (few : n ≤ 16) (local : Local) (empty : local.at ≡ []) (own : List Made) where
  pub alone_claims : (first : Option Offer) → ((offer : Offer) → first ≡ Some offer → IsOffered shape vcpu own offer × (is_none offer.irq.act_by ≡ true))
      → IsClaiming shape vcpu local own (alone (option_map (chosen_as Pending) first) local.cpu n) (option_to_list (option_map (λ (offer : Offer). offer.key) first)) []
  alone_claims None is = record {
    rest = [];
    keys = refl;
    each = λ c has. absurd (Contains-nothing c has);
    one = λ c d has have e. absurd (Contains-nothing c has);
    holds = alone_holds None local.cpu n;
    shows = alone_shows None local.cpu n some few (Comes [] [] local.at) (λ c e. absurd (none-some c e)) (λ s h come. absurd (nothing s come));
    placed = λ key h. absurd (true≢false (sym h));
    coming = λ entry has h. absurd (true≢false (sym h));
  }
    where
      nothing : (s : Seen) → Comes [] [] local.at s → ⊥
      nothing s (inl awaited) = Contains-nothing awaited.choice awaited.among
      nothing s (inr here) = Contains-nothing here.entry (subst (λ at. Contains at here.entry) empty here.among)
  alone_claims (Some offer) is =
      let c = chosen_as Pending offer in
      let found = (is offer refl).0 in
      record {
        rest = c ∷ [];
        keys = refl;
        each = λ d has. subst (IsToClaim shape vcpu own local.at []) (only_one c d has) (record {
          there = found.there;
          mine = found.mine;
          word = found.word;
          known_as = found.known_as;
          irq = found.irq;
          right = inl (refl, (is offer refl).1);
          away = ap (is_at offer.key) empty;
          both = refl;
        });
        one = λ d e has have same. sym (only_one c d has) ∙ only_one c e have;
        holds = alone_holds (Some c) local.cpu n;
        shows = alone_shows (Some c) local.cpu n some few (Comes (c ∷ []) [] local.at)
            (λ d e. inl (record { choice = c; among = Contains-here c []; is = sym (stands_chosen c found.fits refl).seen ∙ ap (λ (x : Choice). seen_in (packed x.entry)) (same_Some c d e) }))
            (λ s h come. by_come c (stands_chosen c found.fits refl).seen s come);
        placed = λ key h. absurd (true≢false (sym h));
        coming = λ entry has h. absurd (true≢false (sym h));
      }
    where
      only_one : (c d : Choice) → Contains (c ∷ []) d → c ≡ d
      only_one c d has = elim (Contains-cases c d [] has) [ inl same ↦ same | inr later ↦ absurd (Contains-nothing d later) ]

      by_come : (c : Choice) → seen_in (packed c.entry) ≡ seen_choice c → (s : Seen) → Comes (c ∷ []) [] local.at s → (d : Choice) × (Some c ≡ Some d) × (seen_in (packed d.entry) ≡ s)
      by_come c seen s (inl awaited) = (c, refl, seen ∙ ap seen_choice (only_one c awaited.choice awaited.among) ∙ awaited.is)
      by_come c seen s (inr here) = absurd (Contains-nothing here.entry (subst (λ at. Contains at here.entry) empty here.among))

  -- the first of what was found
  pub first_claims : (offers : List Offer) → All (IsOffered shape vcpu own) offers → let first = first_among offers vcpu local.cpu shape in
      IsClaiming shape vcpu local own (alone (option_map (chosen_as Pending) first) local.cpu n) (option_to_list (option_map (λ (offer : Offer). offer.key) first)) []
  first_claims offers each = alone_claims (first_among offers vcpu local.cpu shape) (λ offer e.
      let from = from_ordered (is_deliverable_to vcpu local.cpu shape) offers offer (first_in (deliverable_among offers vcpu local.cpu shape) offer e) in
      (All-contains (IsOffered shape vcpu own) offers offer each from.0, inactive offer.key offer.irq vcpu local.cpu shape from.1))
    where
      first_in : (xs : List Offer) (x : Offer) → slice_get xs 0 ≡ Some x → Contains xs x
      first_in [] x e = absurd (none-some x e)
      first_in (y ∷ xs) x e = subst (Contains (y ∷ xs)) (same_Some y x e) (Contains-here y xs)
