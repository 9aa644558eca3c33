-- What follows once EnableLPIs is stored, by views that agree in what it finds.
use Rattle.std.proofs.Common.{◌≡◌, ℕ, zero, suc, ◌+◌, ◌<◌, ◌≤◌, ◌&&◌, ◌||◌, Bool, true, false, cond, List, [], ◌∷◌, ◌++◌, filter_map, All, Option, Some, None, refl, sym, ap, ap₂, ◌∙◌, subst, arith, inl, inr}
use Rattle.std.specs.List.{list_all, list_any, cons_option, range_with_len, flat_map}
use Rattle.std.specs.Option.{option_map_or}
use Rattle.std.proofs.lemmas.Bool.{and_parts, and_from, or_left, cases_eq}
use Rattle.std.proofs.lemmas.Grind.{common_steps}
use Rattle.std.proofs.lemmas.List.Elements.{All-nil, All-cons, All-head, All-tail, All-append}
use Rattle.history_turns.specs.Words.{Lpi, SetPending, GuestShape, is_number}
use Rattle.history_turns.specs.Registers.{Part, part_of, extracted, pending_address}
use Rattle.history_turns.specs.Words.{has_bit}
use Rattle.history_turns.specs.Calls.{Event, Touch, Register, Found, Happened, View, Place, PlainWord, Ram, Pendbaser, IsLastRead, Makes, held_at, is_beside, named_of, is_in_table, is_table_zero, memory_at, memory_places, pended_events}
use Rattle.history_turns.specs.GicCall.declared.event.Place.TheVariants.{Word}
use Rattle.history_turns.specs.GicCall.declared.event.Found.TheVariants.{Word as FoundWord}
use Rattle.history_turns.specs.HistoryCalls.Exact.{is_told}
use Rattle.history_turns.specs.HistoryCalls.Found.{touches, stores, found_by}
use Rattle.history_commands.proofs.ExactLaw.{events_in}
use Rattle.history_commands.proofs.FoundLemmas.{any_named, none_named, word_found}
use Rattle.history_commands.proofs.KeyLemmas.{own_key}
use Rattle.history_turns.specs.Risen.{is_touched}

-- Ranges.

pub filter_map_same : {X : Type 0} (f g : ℕ → Option X) (start count : ℕ) → ((n : ℕ) → start ≤ n → n < start + count → f n ≡ g n) → filter_map f (range_with_len start count) ≡ filter_map g (range_with_len start count)
filter_map_same f g start zero h = refl
filter_map_same f g start (suc count) h = ap₂ (λ o xs. cons_option o xs) (h start (omega arith) (omega arith)) (filter_map_same f g (start + 1) count (λ n low high. h n (omega (arith, low)) (omega (arith, high))))

pub all_range : (p : ℕ → Bool) (start count : ℕ) → ((n : ℕ) → start ≤ n → n < start + count → p n ≡ true) → list_all p (range_with_len start count) ≡ true
all_range p start zero h = refl
all_range p start (suc count) h = and_from (p start) (list_all p (range_with_len (start + 1) count)) (h start (omega arith) (omega arith)) (all_range p (start + 1) count (λ n low high. h n (omega (arith, low)) (omega (arith, high))))

pub range_all : (p : ℕ → Bool) (start count n : ℕ) → list_all p (range_with_len start count) ≡ true → start ≤ n → n < start + count → p n ≡ true
range_all p start zero n h low high = absurd (omega (arith, low, high))
range_all p start (suc count) n h low high =
    let both = and_parts (p start) (list_all p (range_with_len (start + 1) count)) h in
    elim (cases_eq n start) [
      | inl same ↦ ap p same ∙ both.0
      | inr differ ↦ range_all p (start + 1) count n both.1 (omega (arith, low, differ)) (omega (arith, high))
    ]

all_late : {X : Type 0} (P : X → Type 0) (one other : List X) → All P (one ++ other) → All P other
all_late P [] other all = all
all_late P (x ∷ one) other all = all_late P one other (All-tail P x (one ++ other) all)

all_early : {X : Type 0} (P : X → Type 0) (one other : List X) → All P (one ++ other) → All P one
all_early P [] other all = All-nil P
all_early P (x ∷ one) other all = All-cons P x one (All-head P x (one ++ other) all) (all_early P one other (All-tail P x (one ++ other) all))

pub flat_all : {X : Type 0} (P : X → Type 0) (f : ℕ → List X) (start count : ℕ) → ((n : ℕ) → start ≤ n → n < start + count → All P (f n)) → All P (flat_map f (range_with_len start count))
flat_all P f start zero h = All-nil P
flat_all P f start (suc count) h = All-append P (f start) (flat_map f (range_with_len (start + 1) count)) (h start (omega arith) (omega arith)) (flat_all P f (start + 1) count (λ n low high. h n (omega (arith, low)) (omega (arith, high))))

pub all_flat : {X : Type 0} (P : X → Type 0) (f : ℕ → List X) (start count n : ℕ) → All P (flat_map f (range_with_len start count)) → start ≤ n → n < start + count → All P (f n)
all_flat P f start zero n all low high = absurd (omega (arith, low, high))
all_flat P f start (suc count) n all low high = elim (cases_eq n start) [
  | inl same ↦ subst (λ m. All P (f m)) (sym same) (all_early P (f start) (flat_map f (range_with_len (start + 1) count)) all)
  | inr differ ↦ all_flat P f (start + 1) count n (all_late P (f start) (flat_map f (range_with_len (start + 1) count)) all) (omega (arith, low, differ)) (omega (arith, high))
]

-- The touches of LPIs.

abbrev pub touch_of : ℕ → Event
touch_of number = Touch (Lpi (8192 + number)) (Register SetPending 1)

abbrev pub touch_if : (ℕ → Bool) → ℕ → Option Event
touch_if bit number = cond (bit number) (Some (touch_of number)) None

pub touches_own : (n : ℕ) → touches (Lpi (8192 + n)) (touch_of n) ≡ true
touches_own n = own_key (Lpi (8192 + n))

pub touches_other : (n m : ℕ) → (n ≡ m → ⊥) → touches (Lpi (8192 + n)) (touch_of m) ≡ false
touches_other n m differ = grind (arith, common_steps, differ)

pub none_below : (bit : ℕ → Bool) (start count n : ℕ) → n < start → list_any (touches (Lpi (8192 + n))) (filter_map (touch_if bit) (range_with_len start count)) ≡ false
none_below bit start zero n low = refl
none_below bit start (suc count) n low = of (bit start) (none_below bit (start + 1) count n (omega (arith, low)))
  where
    rest : List Event
    rest = filter_map (touch_if bit) (range_with_len (start + 1) count)

    of : (b : Bool) → list_any (touches (Lpi (8192 + n))) rest ≡ false → list_any (touches (Lpi (8192 + n))) (cons_option (cond b (Some (touch_of start)) None) rest) ≡ false
    of true h = ap (λ b. b || list_any (touches (Lpi (8192 + n))) rest) (touches_other n start (λ e. omega (arith, low, e))) ∙ h
    of false h = h

pub touched_at : (bit : ℕ → Bool) (start count n : ℕ) → start ≤ n → n < start + count → list_any (touches (Lpi (8192 + n))) (filter_map (touch_if bit) (range_with_len start count)) ≡ bit n
touched_at bit start zero n low high = absurd (omega (arith, low, high))
touched_at bit start (suc count) n low high = elim (cases_eq n start) [
  | inl same ↦ here same (bit start) ∙ ap bit (sym same)
  | inr differ ↦ there (bit start) differ (touched_at bit (start + 1) count n (omega (arith, low, differ)) (omega (arith, high)))
]
  where
    rest : List Event
    rest = filter_map (touch_if bit) (range_with_len (start + 1) count)

    here : (same : n ≡ start) (b : Bool) → list_any (touches (Lpi (8192 + n))) (cons_option (cond b (Some (touch_of start)) None) rest) ≡ b
    here same true = or_left (touches (Lpi (8192 + n)) (touch_of start)) (list_any (touches (Lpi (8192 + n))) rest) (subst (λ m. touches (Lpi (8192 + n)) (touch_of m) ≡ true) same (touches_own n))
    here same false = none_below bit (start + 1) count n (omega (arith, same))

    there : (b : Bool) → (n ≡ start → ⊥) → list_any (touches (Lpi (8192 + n))) rest ≡ bit n → list_any (touches (Lpi (8192 + n))) (cons_option (cond b (Some (touch_of start)) None) rest) ≡ bit n
    there true differ h = ap (λ b. b || list_any (touches (Lpi (8192 + n))) rest) (touches_other n start differ) ∙ h
    there false differ h = h

-- What memory tells.

memory_same : (shape : GuestShape) (one other : View) (address : ℕ) → All (λ place. held_at other place ≡ held_at one place) (memory_places shape address 1) → memory_at shape other address 1 ≡ memory_at shape one address 1
memory_same shape one other address all = of (part_of address 1 shape.ram) all
  where
    Same : Place → Type 0
    Same place = held_at other place ≡ held_at one place

    word_of : (a b : ℕ) → ◌≡◌ {A = Found} (FoundWord a) (FoundWord b) → a ≡ b
    word_of a b h = cc

    of : (o : Option Part) → All Same (option_map_or (λ part. Word (Ram part.index) ∷ []) o []) → option_map_or (λ part. extracted (other.words (Ram part.index)) part) o 0 ≡ option_map_or (λ part. extracted (one.words (Ram part.index)) part) o 0
    of None h = refl
    of (Some part) h = ap (λ w. extracted w part) (word_of (other.words (Ram part.index)) (one.words (Ram part.index)) (All-head Same (Word (Ram part.index)) [] h))

module _ (shape : GuestShape) (vcpu : ℕ) where
  -- an LPI's bit of the pending table
  pub table_same : (one other : View) (id : ℕ) → other.words (Pendbaser vcpu) ≡ one.words (Pendbaser vcpu) → All (λ place. held_at other place ≡ held_at one place) (memory_places shape (pending_address (one.words (Pendbaser vcpu)) id).0 1)
      → is_in_table shape other vcpu id ≡ is_in_table shape one vcpu id
  table_same one other id base all =
      ap (λ p. has_bit (memory_at shape other (pending_address p id).0 1) (pending_address p id).1) base
      ∙ ap (λ m. has_bit m (pending_address (one.words (Pendbaser vcpu)) id).1) (memory_same shape one other (pending_address (one.words (Pendbaser vcpu)) id).0 all)

  -- whether an LPI becomes pending
  abbrev pub rises : View → ℕ → Bool
  rises view number = is_number vcpu (view.targets (8192 + number)) && is_in_table shape view vcpu (8192 + number)

  abbrev pub rest_of : View → Bool → List Event
  rest_of view still = cond still [] (filter_map (touch_if (rises view)) (range_with_len 0 shape.lpis))

  abbrev pub still_of : View → Bool
  still_of view = view.lpis vcpu || is_table_zero (view.words (Pendbaser vcpu))

  -- by views that agree on that
  pub pended_same : (one other : View) → still_of other ≡ still_of one → (still_of one ≡ false → (n : ℕ) → n < shape.lpis → rises other n ≡ rises one n) → pended_events shape other vcpu ≡ pended_events shape one vcpu
  pended_same one other same agree = ap (rest_of other) same ∙ of (still_of one) refl
    where
      of : (b : Bool) → still_of one ≡ b → rest_of other b ≡ rest_of one b
      of true e = refl
      of false e = filter_map_same (touch_if (rises other)) (touch_if (rises one)) 0 shape.lpis (λ n low high. ap (λ b. cond b (Some (touch_of n)) None) (agree e n (omega (arith, high))))

  -- no word is stored
  pub none_stored : (view : View) (word : PlainWord) → list_any (stores word) (pended_events shape view vcpu) ≡ false
  none_stored view word = of (still_of view)
    where
      along : (start count : ℕ) → list_any (stores word) (filter_map (touch_if (rises view)) (range_with_len start count)) ≡ false
      along start zero = refl
      along start (suc count) = one (rises view start) (along (start + 1) count)
        where
          one : (b : Bool) → list_any (stores word) (filter_map (touch_if (rises view)) (range_with_len (start + 1) count)) ≡ false → list_any (stores word) (cons_option (cond b (Some (touch_of start)) None) (filter_map (touch_if (rises view)) (range_with_len (start + 1) count))) ≡ false
          one true h = h
          one false h = h

      of : (b : Bool) → list_any (stores word) (rest_of view b) ≡ false
      of true = refl
      of false = along 0 shape.lpis

  pub any_same : (actor : Option ℕ) (n : ℕ) (piece : List Happened) → is_touched piece (8192 + n) ≡ list_any (touches (Lpi (8192 + n))) (events_in (named_of actor piece))
  any_same actor n piece = of (list_any (touches (Lpi (8192 + n))) (events_in (named_of actor piece))) refl
    where
      named : (event : Event) → touches (Lpi (8192 + n)) event ≡ true → is_beside actor event ≡ false
      named (Touch other touching) h = refl
      named event h = absurd (cc)

      of : (b : Bool) → list_any (touches (Lpi (8192 + n))) (events_in (named_of actor piece)) ≡ b → is_touched piece (8192 + n) ≡ b
      of true e = any_named actor (touches (Lpi (8192 + n))) piece e
      of false e = none_named actor (touches (Lpi (8192 + n))) named piece e

  -- an LPI is touched exactly where it becomes pending
  pub touched_rises : (actor : Option ℕ) (view : View) (piece : List Happened) → events_in (named_of actor piece) ≡ pended_events shape view vcpu → still_of view ≡ false → (n : ℕ) → n < shape.lpis → is_touched piece (8192 + n) ≡ rises view n
  touched_rises actor view piece are still n lt =
      any_same actor n piece ∙ ap (list_any (touches (Lpi (8192 + n)))) (are ∙ ap (rest_of view) still) ∙ touched_at (rises view) 0 shape.lpis n (omega arith) (omega (arith, lt))

  -- the words that such a call read are as it found them
  pub word_is : (actor : Option ℕ) (view : View) (piece : List Happened) (places : List Place) → Makes actor view (pended_events shape view vcpu) places [] piece → (word : PlainWord) → IsLastRead (Word word) (FoundWord (view.words word)) piece → (found_by piece).words word ≡ view.words word
  word_is actor view piece places is word read = word_found actor view piece word (ap (list_any (stores word)) is.events_are ∙ none_stored view word) read

  -- each of these events is one that is told
  pub all_told : (view : View) → list_all is_told (pended_events shape view vcpu) ≡ true
  all_told view = of (still_of view)
    where
      along : (start count : ℕ) → list_all is_told (filter_map (touch_if (rises view)) (range_with_len start count)) ≡ true
      along start zero = refl
      along start (suc count) = one (rises view start) (along (start + 1) count)
        where
          one : (b : Bool) → list_all is_told (filter_map (touch_if (rises view)) (range_with_len (start + 1) count)) ≡ true → list_all is_told (cons_option (cond b (Some (touch_of start)) None) (filter_map (touch_if (rises view)) (range_with_len (start + 1) count))) ≡ true
          one true h = h
          one false h = h

      of : (b : Bool) → list_all is_told (rest_of view b) ≡ true
      of true = refl
      of false = along 0 shape.lpis
