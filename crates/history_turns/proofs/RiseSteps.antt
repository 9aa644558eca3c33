-- The steps of the program for writes that set EnableLPIs.
use Rattle.std.proofs.Common.{◌≡◌, ◌↔◌, ℕ, zero, suc, ◌+◌, ◌-◌, ◌<◌, ◌&&◌, Bool, true, false, cond, List, [], ◌∷◌, map, All, Option, Some, None, IsTrue, refl, sym, ap, ◌∙◌, subst, arith, append-nil, inl, inr}
use Rattle.std.specs.List.{list_all, cons_option, range_with_len, flat_map, filter_map}
use Rattle.std.specs.Option.{option_map_or}
use Rattle.std.proofs.lemmas.Bool.{cases_eq}
use Rattle.std.proofs.lemmas.List.Elements.{All-nil, All-cons, All-head, All-tail}
use Rattle.history_turns.specs.Words.{GuestShape}
use Rattle.history_turns.specs.Registers.{Part, part_of, pending_address}
use Rattle.history_turns.specs.Calls.{Event, Happened, View, Place, Ram, Pendbaser, is_in_table, is_table_zero, lpis_of, memory_places, pended_events, named_of}
use Rattle.history_turns.specs.GicCall.declared.event.Place.TheVariants.{Word}
use Rattle.history_turns.specs.GicCall.declared.event.Found.TheVariants.{Word as FoundWord}
use Rattle.history_turns.specs.HistoryCalls.Counted.{IsUncounted}
use Rattle.history_turns.specs.HistoryCalls.Found.{found_by, last_found, reads}
use Rattle.history_turns.specs.HistoryCalls.Exact.{is_told}
use Rattle.history_commands.proofs.CallLemmas.{read_decided}
use Rattle.history_commands.proofs.ExactLaw.{events_in, hands_all}
use Rattle.history_commands.proofs.FoundLemmas.{read_found, found_read}
use Rattle.history_turns.specs.Noted.{NotedOf}
use Rattle.history_turns.specs.Risen.{is_touched, rising_by, rising_places, stays, IsReadSo, IsMadeOf, are_settled, IsRisen, stored_in, RisesFrom, Rises, touch_in, touched_events, may_be_touched, IsRising, MayRiseFrom, IsRisingFrom, MayRise}
use Rattle.history_turns.specs.Walked.{from_named}
use Rattle.history_turns.proofs.RiseLemmas.{touch_of, rises, rest_of, flat_all, all_flat, range_all, all_told}
use Rattle.history_turns.proofs.RiseLaw.{number_own}

some_bool : (a b : Bool) → ◌≡◌ {A = Option Bool} (Some a) (Some b) → a ≡ b
some_bool a b h = cc

-- one more
pub below_more : (P : ℕ → Type 0) (k : ℕ) → ((n : ℕ) → n < k → P n) → P k → (n : ℕ) → n < k + 1 → P n
below_more P k old new n lt = elim (cases_eq n k) [
  | inl same ↦ subst P (sym same) new
  | inr differ ↦ old n (omega (arith, lt, differ))
]

pub not_all : (p : ℕ → Bool) (count n : ℕ) → n < count → p n ≡ false → list_all p (range_with_len 0 count) ≡ false
not_all p count n lt h = of (list_all p (range_with_len 0 count)) refl
  where
    of : (b : Bool) → list_all p (range_with_len 0 count) ≡ b → list_all p (range_with_len 0 count) ≡ false
    of true e = let is = range_all p 0 count n e (omega arith) (omega (arith, lt)) in absurd (cc)
    of false e = e

module _ (shape : GuestShape) (piece : List Happened) (is_on : Bool) (vcpu : ℕ) where
  pub bit_decided : (address place : ℕ) (part : Part) (b : Bool) → address ≡ place → part_of address 1 shape.ram ≡ Some part → (IsTrue b ↔ (last_found (reads (Word (Ram part.index))) piece ≡ Some (FoundWord ((found_by piece).words (Ram part.index)))))
      → IsTrue b ↔ All (IsReadSo (rising_by is_on vcpu piece) piece) (memory_places shape place 1)
  bit_decided address place part b same is so =
      read_decided (rising_by is_on vcpu piece) piece (memory_places shape place 1) (Word (Ram part.index)) b
      (sym (ap (λ o. option_map_or (λ (part : Part). Word (Ram part.index) ∷ []) o []) (ap (λ a. part_of a 1 shape.ram) (sym same) ∙ is))) so

  abbrev bits : ℕ → ℕ → List Place
  bits pendbaser id = memory_places shape (pending_address pendbaser id).0 1

  pub all_bits : (pendbaser : ℕ) → ((n : ℕ) → n < shape.lpis → All (IsReadSo (rising_by is_on vcpu piece) piece) (bits pendbaser (8192 + n))) → All (IsReadSo (rising_by is_on vcpu piece) piece) (flat_map (λ id. memory_places shape (pending_address pendbaser id).0 1) (lpis_of shape))
  all_bits pendbaser h = flat_all (IsReadSo (rising_by is_on vcpu piece) piece) (bits pendbaser) 8192 shape.lpis (λ id low high.
      let same : 8192 + (id - 8192) ≡ id = omega (arith, low) in
      subst (λ k. All (IsReadSo (rising_by is_on vcpu piece) piece) (bits pendbaser k)) same (h (id - 8192) (omega (arith, low, high))))

  pub bits_all : (pendbaser n : ℕ) → n < shape.lpis → All (IsReadSo (rising_by is_on vcpu piece) piece) (flat_map (λ id. memory_places shape (pending_address pendbaser id).0 1) (lpis_of shape)) → All (IsReadSo (rising_by is_on vcpu piece) piece) (bits pendbaser (8192 + n))
  bits_all pendbaser n lt all = all_flat (IsReadSo (rising_by is_on vcpu piece) piece) (bits pendbaser) 8192 shape.lpis (8192 + n) all (omega arith) (omega (arith, lt))

  -- an LPI that is touched and has its bit
  pub rises_so : (n : ℕ) (b : Bool) → b ≡ (is_touched piece (8192 + n) && is_in_table shape (rising_by is_on vcpu piece) vcpu (8192 + n)) → rises shape vcpu (rising_by is_on vcpu piece) n ≡ b
  rises_so n b e = ap (λ c. c && is_in_table shape (rising_by is_on vcpu piece) vcpu (8192 + n)) (number_own vcpu (is_touched piece (8192 + n))) ∙ sym e

  pub risen_events : (b : Bool) → stays is_on vcpu piece ≡ b → pended_events shape (rising_by is_on vcpu piece) vcpu ≡ rest_of shape vcpu (rising_by is_on vcpu piece) b
  risen_events b e = ap (rest_of shape vcpu (rising_by is_on vcpu piece)) e

pub not_made : (actor : Option ℕ) (view : View) (events : List Event) (piece : List Happened) → IsUncounted actor view events piece → IsTrue false ↔ IsMadeOf actor view events piece
not_made actor view events piece none = (λ h. absurd (cc), λ is. absurd (none [] (append-nil (map (λ (h : Happened). h.event) (named_of actor piece)) ∙ is.events_are) is.found))

-- What was read.

module _ (shape : GuestShape) (piece : List Happened) (is_on : Bool) (vcpu : ℕ) (off : is_on ≡ false) where
  abbrev base : ℕ
  base = (found_by piece).words (Pendbaser vcpu)

  abbrev Read : Place → Type 0
  Read place = IsReadSo (rising_by is_on vcpu piece) piece place

  abbrev table : ℕ → List Place
  table pendbaser = flat_map (λ id. memory_places shape (pending_address pendbaser id).0 1) (lpis_of shape)

  places_off : rising_places shape is_on vcpu piece ≡ Word (Pendbaser vcpu) ∷ cond (is_table_zero base) [] (table base)
  places_off = ap (λ b. cond b [] (Word (Pendbaser vcpu) ∷ cond (is_table_zero base) [] (table base))) off

  pub unread : (b : Bool) → b ≡ false → (IsTrue b ↔ (last_found (reads (Word (Pendbaser vcpu))) piece ≡ Some (FoundWord base))) → IsTrue false ↔ All Read (rising_places shape is_on vcpu piece)
  unread b e so = (
    λ h. absurd (cc),
    λ all. let read = so.1 (read_found (Word (Pendbaser vcpu)) (FoundWord base) piece (All-head Read (Word (Pendbaser vcpu)) (cond (is_table_zero base) [] (table base)) (subst (All Read) places_off all))) in absurd (cc),
  )

  pub zero_read : (b : Bool) → b ≡ true → (IsTrue b ↔ (last_found (reads (Word (Pendbaser vcpu))) piece ≡ Some (FoundWord base))) → (pendbaser : ℕ) → pendbaser ≡ base → is_table_zero pendbaser ≡ true → (read : Bool) → read ≡ true → IsTrue read ↔ All Read (rising_places shape is_on vcpu piece)
  zero_read b e so pendbaser is none read k = (
    λ h.
        subst (All Read) (sym (places_off ∙ ap (λ c. Word (Pendbaser vcpu) ∷ cond c [] (table base)) (ap is_table_zero (sym is) ∙ none)))
        (All-cons Read (Word (Pendbaser vcpu)) [] (found_read (Word (Pendbaser vcpu)) (FoundWord base) piece (so.0 e)) (All-nil Read)),
    λ all. k,
  )

  pub bits_read : (b : Bool) → b ≡ true → (IsTrue b ↔ (last_found (reads (Word (Pendbaser vcpu))) piece ≡ Some (FoundWord base))) → (pendbaser : ℕ) → pendbaser ≡ base → is_table_zero pendbaser ≡ false → (read : Bool) → (IsTrue read ↔ All Read (table pendbaser))
      → IsTrue read ↔ All Read (rising_places shape is_on vcpu piece)
  bits_read b e so pendbaser is some read tell =
      let places : rising_places shape is_on vcpu piece ≡ Word (Pendbaser vcpu) ∷ table base = places_off ∙ ap (λ c. Word (Pendbaser vcpu) ∷ cond c [] (table base)) (ap is_table_zero (sym is) ∙ some) in (
        λ h.
            subst (All Read) (sym places)
            (All-cons Read (Word (Pendbaser vcpu)) (table base) (found_read (Word (Pendbaser vcpu)) (FoundWord base) piece (so.0 e)) (subst (λ p. All Read (table p)) is (tell.0 h))),
        λ all. tell.1 (subst (λ p. All Read (table p)) (sym is) (All-tail Read (Word (Pendbaser vcpu)) (table base) (subst (All Read) places all))),
      )

-- The whole.

module _ (shape : GuestShape) (actor vcpu : ℕ) (noted : NotedOf) (is_on : Bool) (piece : List Happened) (events : List Event) (are : events ≡ pended_events shape (rising_by is_on vcpu piece) vcpu) where
  abbrev mine : View
  mine = rising_by is_on vcpu piece

  pub risen_told : list_all is_told events ≡ true
  risen_told = ap (list_all is_told) are ∙ all_told shape vcpu mine

  told_named : events_in (named_of (Some actor) piece) ≡ events → list_all is_told (events_in (named_of (Some actor) piece)) ≡ true
  told_named e = ap (list_all is_told) e ∙ risen_told

  pub unmade_risen : (b : Bool) → b ≡ false → (IsTrue b ↔ IsMadeOf (Some actor) (found_by piece) events piece) → IsTrue false ↔ IsRisen shape actor vcpu noted is_on piece
  unmade_risen b e so = (
    λ h. absurd (cc),
    λ is.
        let these = is.made.events_are ∙ sym are in
        let made = so.1 (record { events_are = these; found = hands_all mine (found_by piece) (named_of (Some actor) piece) (told_named these) (λ key h. refl) (λ word h. refl) is.made.found }) in absurd (cc),
  )

  pub unread_risen : (b : Bool) → b ≡ false → (IsTrue b ↔ All (IsReadSo (rising_by is_on vcpu piece) piece) (rising_places shape is_on vcpu piece)) → IsTrue false ↔ IsRisen shape actor vcpu noted is_on piece
  unread_risen b e so = (λ h. absurd (cc), λ is. let read = so.1 is.made.reads in absurd (cc))

  pub risen_decided : (made read settled : Bool) → made ≡ true → (IsTrue made ↔ IsMadeOf (Some actor) (found_by piece) events piece) → read ≡ true → (IsTrue read ↔ All (IsReadSo (rising_by is_on vcpu piece) piece) (rising_places shape is_on vcpu piece))
      → settled ≡ are_settled shape is_on vcpu noted piece → IsTrue settled ↔ IsRisen shape actor vcpu noted is_on piece
  risen_decided made read settled m so r was e = (
    λ h.
        let these = so.0 m in
        record {
          made = record {
            events_are = these.events_are ∙ are;
            found = hands_all (found_by piece) mine (named_of (Some actor) piece) (told_named these.events_are) (λ key h. refl) (λ word h. refl) these.found;
            reads = was.0 r;
          };
          settled = sym e ∙ h;
        },
    λ is. e ∙ is.settled,
  )

-- of a call that has stored it
module _ (shape : GuestShape) (actor vcpu : ℕ) (noted : NotedOf) (piece from : List Happened) (is : from ≡ from_named (Some actor) piece) where
  pub rises_none : from ≡ [] → IsTrue false ↔ Rises shape actor vcpu noted piece
  rises_none e = (λ h. absurd (cc), λ so. absurd (subst (RisesFrom shape actor vcpu noted) (sym is ∙ e) so))

  pub rises_other : (one : Happened) (rest : List Happened) → from ≡ one ∷ rest → stored_in vcpu one.event one.found ≡ None → IsTrue false ↔ Rises shape actor vcpu noted piece
  rises_other one rest e none = (λ h. absurd (cc), λ so. let some = subst (RisesFrom shape actor vcpu noted) (sym is ∙ e) so in let stored = some.1 in absurd (cc))

  pub rises_so_far : (one : Happened) (rest : List Happened) (is_on : Bool) → from ≡ one ∷ rest → stored_in vcpu one.event one.found ≡ Some is_on → (b : Bool) → (IsTrue b ↔ IsRisen shape actor vcpu noted is_on rest) → IsTrue b ↔ Rises shape actor vcpu noted piece
  rises_so_far one rest is_on e stored b so = (
    λ h. subst (RisesFrom shape actor vcpu noted) (sym e ∙ is) (is_on, stored, so.0 h),
    λ r.
        let some = subst (RisesFrom shape actor vcpu noted) (sym is ∙ e) r in
        so.1 (subst (λ x. IsRisen shape actor vcpu noted x rest) (some_bool some.0 is_on (sym some.1 ∙ stored)) some.2),
  )

  pub may_none : from ≡ [] → IsTrue true ↔ MayRise shape actor vcpu noted piece
  may_none e = (λ h. subst (IsRisingFrom shape actor vcpu noted) (sym e ∙ is) tt, λ so. refl)

  pub may_other : (one : Happened) (rest : List Happened) → from ≡ one ∷ rest → stored_in vcpu one.event one.found ≡ None → IsTrue false ↔ MayRise shape actor vcpu noted piece
  may_other one rest e none = (λ h. absurd (cc), λ so. let some = subst (IsRisingFrom shape actor vcpu noted) (sym is ∙ e) so in let stored = some.1 in absurd (cc))

  pub may_so_far : (one : Happened) (rest : List Happened) (is_on : Bool) → from ≡ one ∷ rest → stored_in vcpu one.event one.found ≡ Some is_on → (b : Bool) → (IsTrue b ↔ MayRiseFrom shape actor noted is_on rest) → IsTrue b ↔ MayRise shape actor vcpu noted piece
  may_so_far one rest is_on e stored b so = (
    λ h. subst (IsRisingFrom shape actor vcpu noted) (sym e ∙ is) (is_on, stored, so.0 h),
    λ r.
        let some = subst (IsRisingFrom shape actor vcpu noted) (sym is ∙ e) r in
        so.1 (subst (λ x. MayRiseFrom shape actor noted x rest) (some_bool some.0 is_on (sym some.1 ∙ stored)) some.2),
  )

-- What may still become it.

pub touched_told : (shape : GuestShape) (piece : List Happened) → list_all is_told (touched_events shape piece) ≡ true
touched_told shape piece = along 0 shape.lpis
  where
    along : (start count : ℕ) → list_all is_told (filter_map (touch_in piece) (range_with_len start count)) ≡ true
    along start zero = refl
    along start (suc count) = one (is_touched piece (8192 + start)) (along (start + 1) count)
      where
        one : (b : Bool) → list_all is_told (filter_map (touch_in piece) (range_with_len (start + 1) count)) ≡ true → list_all is_told (cons_option (cond b (Some (touch_of start)) None) (filter_map (touch_in piece) (range_with_len (start + 1) count))) ≡ true
        one true h = h
        one false h = h

module _ (shape : GuestShape) (actor : ℕ) (noted : NotedOf) (piece : List Happened) (events : List Event) (are : events ≡ touched_events shape piece) where
  pub rising_told : list_all is_told events ≡ true
  rising_told = ap (list_all is_told) are ∙ touched_told shape piece

  pub unmade_rising : (b : Bool) → b ≡ false → (IsTrue b ↔ IsMadeOf (Some actor) (found_by piece) events piece) → IsTrue false ↔ IsRising shape actor noted piece
  unmade_rising b e so = (λ h. absurd (cc), λ is. let made = so.1 (record { events_are = is.made.events_are ∙ sym are; found = is.made.found }) in absurd (cc))

  pub rising_decided : (made may : Bool) → made ≡ true → (IsTrue made ↔ IsMadeOf (Some actor) (found_by piece) events piece) → may ≡ list_all (may_be_touched shape noted piece) (range_with_len 0 shape.lpis) → IsTrue may ↔ IsRising shape actor noted piece
  rising_decided made may m so e = (
    λ h. let these = so.0 m in record { made = record { events_are = these.events_are ∙ are; found = these.found }; may = sym e ∙ h },
    λ is. e ∙ is.may,
  )
