-- Writes that set EnableLPIs: what one made is the call exactly where it says so itself, with what the call noted.
use Rattle.std.proofs.Common.{◌≡◌, ◌⊎◌, ℕ, ◌+◌, ◌-◌, ◌<◌, ◌≤◌, ◌&&◌, ◌||◌, not, Bool, true, false, cond, List, [], ◌∷◌, All, Contains, Option, Some, None, refl, sym, ap, ap₂, ◌∙◌, subst, arith, rules, inl, inr}
use Rattle.std.specs.List.{list_all, range_with_len, flat_map}
use Rattle.std.specs.Option.{option_map_or}
use Rattle.std.proofs.lemmas.Bool.{and_parts, or_left, or_right, or_parts, or_cases}
use Rattle.std.proofs.lemmas.Grind.{common_steps}
use Rattle.std.proofs.lemmas.List.Elements.{All-nil, All-cons, All-head, All-tail, All-weaker}
use Rattle.history_turns.specs.Words.{GuestShape, is_number}
use Rattle.history_turns.specs.Registers.{Part, part_of, pending_address}
use Rattle.history_turns.specs.Calls.{Happened, View, Place, PlainWord, Ram, Pendbaser, IsLastRead, Makes, held_at, named_of, is_in_table, is_table_zero, lpis_of, memory_places, pended_events, table_places}
use Rattle.history_turns.specs.GicCall.declared.event.Place.TheVariants.{Word, Queue as QueuePlace, Ctlr, Lpis}
use Rattle.history_turns.specs.GicCall.declared.event.Found.TheVariants.{Word as FoundWord}
use Rattle.history_turns.specs.HistoryCalls.Exact.{is_told}
use Rattle.history_turns.specs.HistoryCalls.Found.{found_by}
use Rattle.history_commands.proofs.ExactLaw.{hands_all}
use Rattle.history_commands.proofs.FoundLemmas.{touch_found, store_found}
use Rattle.history_turns.specs.Noted.{NotedOf, seen_at, IsSeen}
use Rattle.history_turns.specs.Risen.{is_touched, rising_by, stays, rising_places, IsReadSo, is_settled, are_settled, IsRisen}
use Rattle.history_turns.proofs.RiseLemmas.{all_range, range_all, flat_all, all_flat, table_same, rises, still_of, pended_same, touched_rises, word_is, all_told}

-- Targets.

pub number_own : (v : ℕ) (b : Bool) → is_number v (cond b (Some v) None) ≡ b
number_own v true = search rules
number_own v false = refl

number_self : (v : ℕ) → is_number v (Some v) ≡ true
number_self v = search rules

pub number_is : (v : ℕ) (o : Option ℕ) → is_number v o ≡ true → o ≡ Some v
number_is v None h = absurd (cc)
number_is v (Some m) h = ap Some (grind (arith, common_steps, h))

pub number_not : (v : ℕ) (o : Option ℕ) → is_number v o ≡ false → o ≡ Some v → ⊥
number_not v o h e = let self = number_self v in let other : is_number v (Some v) ≡ false = ap (is_number v) (sym e) ∙ h in absurd (cc)

pub not_number : (v : ℕ) (o : Option ℕ) → (o ≡ Some v → ⊥) → is_number v o ≡ false
not_number v o h = of (is_number v o) refl
  where
    of : (b : Bool) → is_number v o ≡ b → is_number v o ≡ false
    of true e = absurd (h (number_is v o e))
    of false e = e

and_again : (a b : Bool) → ((a && b) && b) ≡ (a && b)
and_again true true = refl
and_again true false = refl
and_again false b = refl

and_true : (a b : Bool) → b ≡ true → (a && b) ≡ false → a ≡ false
and_true true true e h = absurd (cc)
and_true true false e h = absurd (cc)
and_true false b e h = refl

and_off : (a b : Bool) → b ≡ false → (a && b) ≡ false
and_off true b e = e
and_off false b e = refl

-- One that follows a view is risen.

module _ (shape : GuestShape) (actor vcpu : ℕ) (view : View) (piece : List Happened) where
  on : Bool
  on = view.lpis vcpu

  abbrev base : PlainWord
  base = Pendbaser vcpu

  abbrev other : View
  other = rising_by (view.lpis vcpu) vcpu piece

  abbrev Read : Place → Type 0
  Read place = IsLastRead place (held_at view place) piece

  module _ (is : Makes (Some actor) view (pended_events shape view vcpu) (cond (view.lpis vcpu) [] (table_places shape view vcpu)) [] piece) where
    read_word : (word : PlainWord) → Read (Word word) → (found_by piece).words word ≡ view.words word
    read_word word read = word_is shape vcpu (Some actor) view piece (cond (view.lpis vcpu) [] (table_places shape view vcpu)) is word read

    table_read : view.lpis vcpu ≡ false → All Read (table_places shape view vcpu)
    table_read e = subst (λ b. All Read (cond b [] (table_places shape view vcpu))) e is.reads

    base_read : view.lpis vcpu ≡ false → Read (Word (Pendbaser vcpu))
    base_read e = All-head Read (Word (Pendbaser vcpu)) (cond (is_table_zero (view.words (Pendbaser vcpu))) [] (flat_map (λ id. memory_places shape (pending_address (view.words (Pendbaser vcpu)) id).0 1) (lpis_of shape))) (table_read e)

    base_same : view.lpis vcpu ≡ false → (found_by piece).words (Pendbaser vcpu) ≡ view.words (Pendbaser vcpu)
    base_same e = read_word (Pendbaser vcpu) (base_read e)

    still_same : still_of shape vcpu other ≡ still_of shape vcpu view
    still_same = of (view.lpis vcpu) refl
      where
        of : (b : Bool) → view.lpis vcpu ≡ b → still_of shape vcpu other ≡ still_of shape vcpu view
        of true e = ap (λ b. b || is_table_zero ((found_by piece).words (Pendbaser vcpu))) e ∙ sym (ap (λ b. b || is_table_zero (view.words (Pendbaser vcpu))) e)
        of false e = ap (λ p. view.lpis vcpu || is_table_zero p) (base_same e)

    held_words : (address : ℕ) → All Read (memory_places shape address 1) → All (λ place. held_at other place ≡ held_at view place) (memory_places shape address 1)
    held_words address all = of (part_of address 1 shape.ram) all
      where
        of : (o : Option Part) → All Read (option_map_or (λ part. Word (Ram part.index) ∷ []) o []) → All (λ place. held_at other place ≡ held_at view place) (option_map_or (λ part. Word (Ram part.index) ∷ []) o [])
        of None h = All-nil (λ place. held_at other place ≡ held_at view place)
        of (Some part) h =
            All-cons (λ place. held_at other place ≡ held_at view place) (Word (Ram part.index)) [] (ap FoundWord (read_word (Ram part.index) (All-head Read (Word (Ram part.index)) [] h)))
            (All-nil (λ place. held_at other place ≡ held_at view place))

    -- reads of such places are so by what was found
    so_read : (places : List Place) → All Read places → All (λ place. held_at other place ≡ held_at view place) places → All (IsReadSo other piece) places
    so_read [] reads same = All-nil (IsReadSo other piece)
    so_read (place ∷ places) reads same =
        All-cons (IsReadSo other piece) place places
        (subst (λ f. IsLastRead place f piece) (sym (All-head (λ place. held_at other place ≡ held_at view place) place places same)) (All-head Read place places reads))
        (so_read places (All-tail Read place places reads) (All-tail (λ place. held_at other place ≡ held_at view place) place places same))

    bits_read : still_of shape vcpu view ≡ false → (n : ℕ) → n < shape.lpis → All Read (memory_places shape (pending_address (view.words (Pendbaser vcpu)) (8192 + n)).0 1)
    bits_read still n lt =
        let parts = or_parts (view.lpis vcpu) (is_table_zero (view.words (Pendbaser vcpu))) still in
        all_flat Read (λ id. memory_places shape (pending_address (view.words (Pendbaser vcpu)) id).0 1) 8192 shape.lpis (8192 + n)
        (subst (λ b. All Read (cond b [] (flat_map (λ id. memory_places shape (pending_address (view.words (Pendbaser vcpu)) id).0 1) (lpis_of shape)))) parts.1
        (All-tail Read (Word (Pendbaser vcpu)) (cond (is_table_zero (view.words (Pendbaser vcpu))) [] (flat_map (λ id. memory_places shape (pending_address (view.words (Pendbaser vcpu)) id).0 1) (lpis_of shape))) (table_read parts.0)))
        (omega arith) (omega (arith, lt))

    in_same : still_of shape vcpu view ≡ false → (n : ℕ) → n < shape.lpis → is_in_table shape other vcpu (8192 + n) ≡ is_in_table shape view vcpu (8192 + n)
    in_same still n lt =
        table_same shape vcpu view other (8192 + n) (base_same (or_parts (view.lpis vcpu) (is_table_zero (view.words (Pendbaser vcpu))) still).0)
        (held_words (pending_address (view.words (Pendbaser vcpu)) (8192 + n)).0 (bits_read still n lt))

    touched : still_of shape vcpu view ≡ false → (n : ℕ) → n < shape.lpis → is_touched piece (8192 + n) ≡ rises shape vcpu view n
    touched still n lt = touched_rises shape vcpu (Some actor) view piece is.events_are still n lt

    agree : still_of shape vcpu view ≡ false → (n : ℕ) → n < shape.lpis → rises shape vcpu other n ≡ rises shape vcpu view n
    agree still n lt =
        ap₂ (λ a b. a && b) (number_own vcpu (is_touched piece (8192 + n)) ∙ touched still n lt) (in_same still n lt)
        ∙ and_again (is_number vcpu (view.targets (8192 + n))) (is_in_table shape view vcpu (8192 + n))

    rising_made : Makes (Some actor) other (pended_events shape other vcpu) (rising_places shape (view.lpis vcpu) vcpu piece) [] piece
    rising_made = record {
      events_are = is.events_are ∙ sym (pended_same shape vcpu view other still_same agree);
      found =
          hands_all view other (named_of (Some actor) piece) (ap (list_all is_told) is.events_are ∙ all_told shape vcpu view) (λ key h. touch_found (Some actor) view piece is.found key h)
          (λ word h. store_found (Some actor) view piece is.found word h) is.found;
      reads = of (view.lpis vcpu) refl;
    }
      where
        bits : ℕ → List Place
        bits id = memory_places shape (pending_address (view.words (Pendbaser vcpu)) id).0 1

        zero_or : (b : Bool) → is_table_zero (view.words (Pendbaser vcpu)) ≡ b → view.lpis vcpu ≡ false → All (IsReadSo other piece) (cond b [] (flat_map (λ id. memory_places shape (pending_address (view.words (Pendbaser vcpu)) id).0 1) (lpis_of shape)))
        zero_or true e off = All-nil (IsReadSo other piece)
        zero_or false e off =
            flat_all (IsReadSo other piece) (λ id. memory_places shape (pending_address (view.words (Pendbaser vcpu)) id).0 1) 8192 shape.lpis
            (λ id low high. let reads = read_at id low high in so_read (bits id) reads (held_words (pending_address (view.words (Pendbaser vcpu)) id).0 reads))
          where
            read_at : (id : ℕ) → 8192 ≤ id → id < 8192 + shape.lpis → All Read (memory_places shape (pending_address (view.words (Pendbaser vcpu)) id).0 1)
            read_at id low high =
                all_flat Read (λ id. memory_places shape (pending_address (view.words (Pendbaser vcpu)) id).0 1) 8192 shape.lpis id
                (subst (λ b. All Read (cond b [] (flat_map (λ id. memory_places shape (pending_address (view.words (Pendbaser vcpu)) id).0 1) (lpis_of shape)))) e
                (All-tail Read (Word (Pendbaser vcpu)) (cond (is_table_zero (view.words (Pendbaser vcpu))) [] (flat_map (λ id. memory_places shape (pending_address (view.words (Pendbaser vcpu)) id).0 1) (lpis_of shape))) (table_read off)))
                low high

        of : (b : Bool) → view.lpis vcpu ≡ b → All (IsReadSo other piece) (cond (view.lpis vcpu) [] (table_places shape other vcpu))
        of true e = subst (λ b. All (IsReadSo other piece) (cond b [] (table_places shape other vcpu))) (sym e) (All-nil (IsReadSo other piece))
        of false e =
            subst (λ b. All (IsReadSo other piece) (cond b [] (table_places shape other vcpu))) (sym e)
            (subst (λ p. All (IsReadSo other piece) (Word (Pendbaser vcpu) ∷ cond (is_table_zero p) [] (flat_map (λ id. memory_places shape (pending_address p id).0 1) (lpis_of shape)))) (sym (base_same e))
            (All-cons (IsReadSo other piece) (Word (Pendbaser vcpu)) (cond (is_table_zero (view.words (Pendbaser vcpu))) [] (flat_map (λ id. memory_places shape (pending_address (view.words (Pendbaser vcpu)) id).0 1) (lpis_of shape)))
            (subst (λ w. IsLastRead (Word (Pendbaser vcpu)) (FoundWord w) piece) (sym (base_same e)) (base_read e)) (zero_or (is_table_zero (view.words (Pendbaser vcpu))) refl e)))

    module _ (noted : NotedOf) (targets : ℕ → List (Option ℕ)) (seen : (n : ℕ) → n < shape.lpis → IsSeen vcpu (targets (8192 + n)) (seen_at noted n)) (there : (id : ℕ) → Contains (targets id) (view.targets id)) where
      settled_at : still_of shape vcpu view ≡ false → (n : ℕ) → n < shape.lpis → is_settled shape (view.lpis vcpu) vcpu noted piece n ≡ true
      settled_at still n lt = of (is_touched piece (8192 + n)) refl
        where
          target : Option ℕ
          target = view.targets (8192 + n)

          missed : is_touched piece (8192 + n) ≡ false → (b : Bool) → is_in_table shape other vcpu (8192 + n) ≡ b → (not b || (seen_at noted n).is_other) ≡ true
          missed e true in_it =
              (seen n lt).other.1
              (target, there (8192 + n), number_not vcpu target (and_true (is_number vcpu target) (is_in_table shape view vcpu (8192 + n)) (sym (in_same still n lt) ∙ in_it) (sym (touched still n lt) ∙ e)))
          missed e false in_it = refl

          of : (b : Bool) → is_touched piece (8192 + n) ≡ b → cond (is_touched piece (8192 + n)) (seen_at noted n).is_own (not (is_in_table shape other vcpu (8192 + n)) || (seen_at noted n).is_other) ≡ true
          of true e =
              ap (λ b. cond b (seen_at noted n).is_own (not (is_in_table shape other vcpu (8192 + n)) || (seen_at noted n).is_other)) e
              ∙ (seen n lt).own.1 (subst (Contains (targets (8192 + n))) (number_is vcpu target (and_parts (is_number vcpu target) (is_in_table shape view vcpu (8192 + n)) (sym (touched still n lt) ∙ e)).0) (there (8192 + n)))
          of false e =
              ap (λ b. cond b (seen_at noted n).is_own (not (is_in_table shape other vcpu (8192 + n)) || (seen_at noted n).is_other)) e ∙ missed e (is_in_table shape other vcpu (8192 + n)) refl

      pub risen : IsRisen shape actor vcpu noted (view.lpis vcpu) piece
      risen = record { made = rising_made; settled = of (still_of shape vcpu view) refl }
        where
          of : (b : Bool) → still_of shape vcpu view ≡ b → are_settled shape (view.lpis vcpu) vcpu noted piece ≡ true
          of true e = or_left (stays (view.lpis vcpu) vcpu piece) (list_all (is_settled shape (view.lpis vcpu) vcpu noted piece) (range_with_len 0 shape.lpis)) (still_same ∙ e)
          of false e =
              or_right (stays (view.lpis vcpu) vcpu piece) (list_all (is_settled shape (view.lpis vcpu) vcpu noted piece) (range_with_len 0 shape.lpis))
              (all_range (is_settled shape (view.lpis vcpu) vcpu noted piece) 0 shape.lpis (λ n low high. settled_at e n (omega (arith, high))))

-- One that is risen follows a view with targets that the call noted.

pub record IsChosen (shape : GuestShape) (actor vcpu : ℕ) (targets : ℕ → List (Option ℕ)) (is_on : Bool) (piece : List Happened) : Type 0 where
  pub view : View
  pub lpis : view.lpis vcpu ≡ is_on
  pub there : (id : ℕ) → Contains (targets id) (view.targets id)
  pub made : Makes (Some actor) view (pended_events shape view vcpu) (cond (view.lpis vcpu) [] (table_places shape view vcpu)) [] piece

pub below_or : (a b : ℕ) → (a < b) ⊎ (b ≤ a)
below_or a b = grind arith

module _ (shape : GuestShape) (actor vcpu : ℕ) (noted : NotedOf) (targets : ℕ → List (Option ℕ)) (seen : (n : ℕ) → n < shape.lpis → IsSeen vcpu (targets (8192 + n)) (seen_at noted n)) (some : (id : ℕ) → (target : Option ℕ) × Contains (targets id) target)
    (is_on : Bool) (piece : List Happened) (is : IsRisen shape actor vcpu noted is_on piece) where
  abbrev mine : View
  mine = rising_by is_on vcpu piece

  record IsGood (id : ℕ) : Type 0 where
    target : Option ℕ
    there : Contains (targets id) target
    good : still_of shape vcpu mine ≡ false → (n : ℕ) → id ≡ 8192 + n → n < shape.lpis → (is_number vcpu target && is_in_table shape mine vcpu (8192 + n)) ≡ rises shape vcpu mine n

  any_good : (id : ℕ) → ((n : ℕ) → id ≡ 8192 + n → n < shape.lpis → ⊥) → IsGood id
  any_good id none = record { target = (some id).0; there = (some id).1; good = λ still n e lt. absurd (none n e lt) }

  at_good : (n : ℕ) → n < shape.lpis → IsGood (8192 + n)
  at_good n lt = of (still_of shape vcpu mine) refl
    where
      in_it : Bool
      in_it = is_in_table shape mine vcpu (8192 + n)

      -- only this number has the LPI
      for_it : (target : Option ℕ) → Contains (targets (8192 + n)) target → (is_number vcpu target && is_in_table shape mine vcpu (8192 + n)) ≡ rises shape vcpu mine n → IsGood (8192 + n)
      for_it target there good = record {
        target = target;
        there = there;
        good = λ still m e lt. let same : n ≡ m = omega (arith, e) in subst (λ k. (is_number vcpu target && is_in_table shape mine vcpu (8192 + k)) ≡ rises shape vcpu mine k) same good;
      }

      missed : is_touched piece (8192 + n) ≡ false → (b : Bool) → is_in_table shape mine vcpu (8192 + n) ≡ b → (not b || (seen_at noted n).is_other) ≡ true → IsGood (8192 + n)
      missed e true i h =
          let one = (seen n lt).other.0 h in
          for_it one.0 one.1
          (ap (λ b. b && is_in_table shape mine vcpu (8192 + n)) (not_number vcpu one.0 one.2 ∙ sym (number_own vcpu (is_touched piece (8192 + n)) ∙ e)))
      missed e false i h = for_it (some (8192 + n)).0 (some (8192 + n)).1 (and_off (is_number vcpu (some (8192 + n)).0) (is_in_table shape mine vcpu (8192 + n)) i ∙ sym (and_off (is_number vcpu (mine.targets (8192 + n))) (is_in_table shape mine vcpu (8192 + n)) i))

      by_touch : (b : Bool) → is_touched piece (8192 + n) ≡ b → cond b (seen_at noted n).is_own (not (is_in_table shape mine vcpu (8192 + n)) || (seen_at noted n).is_other) ≡ true → IsGood (8192 + n)
      by_touch true e h =
          for_it (Some vcpu) ((seen n lt).own.0 h) (ap (λ b. b && is_in_table shape mine vcpu (8192 + n)) (number_own vcpu true ∙ sym (number_own vcpu (is_touched piece (8192 + n)) ∙ e)))
      by_touch false e h = missed e (is_in_table shape mine vcpu (8192 + n)) refl h

      of : (b : Bool) → still_of shape vcpu mine ≡ b → IsGood (8192 + n)
      of true e = record { target = (some (8192 + n)).0; there = (some (8192 + n)).1; good = λ still m e' lt. absurd (cc) }
      of false e =
          let all = or_cases (stays is_on vcpu piece) (list_all (is_settled shape is_on vcpu noted piece) (range_with_len 0 shape.lpis)) is.settled in
          elim all [
            | inl still ↦ absurd (cc)
            | inr settled ↦
                by_touch (is_touched piece (8192 + n)) refl (range_all (is_settled shape is_on vcpu noted piece) 0 shape.lpis n settled (omega arith) (omega (arith, lt)))
          ]

  good_at : (id : ℕ) → IsGood id
  good_at id = elim (below_or id 8192) [
    | inl low ↦ any_good id (λ n e lt. omega (arith, low, e))
    | inr high ↦ of high (below_or (id - 8192) shape.lpis)
  ]
    where
      of : 8192 ≤ id → (id - 8192 < shape.lpis) ⊎ (shape.lpis ≤ id - 8192) → IsGood id
      of high (inl lt) = let same : 8192 + (id - 8192) ≡ id = omega (arith, high) in subst IsGood same (at_good (id - 8192) lt)
      of high (inr ge) = any_good id (λ n e lt. omega (arith, ge, e, lt))

  abbrev chosen : View
  chosen = record (rising_by is_on vcpu piece) { targets = λ id. (good_at id).target }

  held_chosen : (place : Place) → held_at chosen place ≡ held_at mine place
  held_chosen (Word word) = refl
  held_chosen QueuePlace = refl
  held_chosen Ctlr = refl
  held_chosen (Lpis _) = refl

  pub choice : IsChosen shape actor vcpu targets is_on piece
  choice = record {
    view = chosen;
    lpis = refl;
    there = λ id. (good_at id).there;
    made = record {
      events_are = is.made.events_are ∙ sym (pended_same shape vcpu mine chosen refl (λ still n lt. (good_at (8192 + n)).good still n refl lt));
      found = hands_all mine chosen (named_of (Some actor) piece) (ap (list_all is_told) is.made.events_are ∙ all_told shape vcpu mine) (λ key h. refl) (λ word h. refl) is.made.found;
      reads = All-weaker (IsReadSo mine piece) (IsReadSo chosen piece) (λ place read. subst (λ f. IsLastRead place f piece) (sym (held_chosen place)) read) (cond is_on [] (table_places shape mine vcpu)) is.made.reads;
    };
  }
