-- Writes that set EnableLPIs: what may still become one does so by further events.
use Rattle.std.proofs.Common.{◌≡◌, ◌⊎◌, ℕ, zero, suc, ◌+◌, ◌-◌, ◌*◌, ◌/◌, ◌%◌, ◌^◌, ◌<◌, ◌≤◌, ◌&&◌, ◌||◌, ◌==◌, not, nat_lt, nat_le, Bool, true, false, cond, List, [], ◌∷◌, ◌++◌, map, fold, replicate, slice_index_or, Contains, Option, Some, None, refl, sym, ap, ap₂, ◌∙◌, subst, arith, inl, inr, append_assoc, append-nil}
use Rattle.std.specs.List.{list_all, list_any}
use Rattle.std.specs.Option.{option_map_or}
use Rattle.std.specs.Int.{bit_at}
use Rattle.std.proofs.lemmas.Bool.{and_parts, and_from}
use Rattle.std.proofs.lemmas.Grind.{common_steps}
use Rattle.std.proofs.lemmas.List.Elements.{All-nil, All-same, Contains-append_left, Contains-push}
use Rattle.std.proofs.lemmas.Nat.Bits.{bit_at_cat_low}
use Rattle.std.proofs.lemmas.Nat.{shr-shr}
use Rattle.history_turns.specs.Words.{Lpi, Redist, Mem, GuestShape, Irq, Target, is_number, has_bit, has_interrupt, place_of, set_of, target_in}
use Rattle.history_turns.specs.Registers.{Part, extracted, pending_address}
use Rattle.history_turns.specs.GicRmap.Map.{decoded as redist_decoded}
use Rattle.history_turns.specs.Calls.{Enable, Access, Happened, View, Place, PlainWord, Ram, Pendbaser, IsLastRead, held_at, named_of, is_in_table, memory_at, pended_events, table_places, sets_lpis, opening_irq}
use Rattle.history_turns.specs.GicCall.declared.event.Found.TheVariants.{Lpis as FoundLpis}
use Rattle.history_turns.specs.Histories.{Ideal, Call, seeing, targets_in, is_passed}
use Rattle.history_turns.specs.LegalLists.Legal.{Note, Made, Sees, noting, signalling, IsBegun, unseen}
use Rattle.history_commands.proofs.GicCall.GicBits.SetLemmas.{has_bit-set_of}
use Rattle.history_turns.specs.HistoryCalls.Exact.{is_told}
use Rattle.history_turns.specs.HistoryCalls.Found.{stores, found_by}
use Rattle.history_commands.proofs.CountLemmas.{named_more}
use Rattle.history_commands.proofs.ExactLaw.{events_in, Hands, hands_all, here, reading, notes_of, reading_named, reads_last}
use Rattle.history_turns.specs.Laws.{EnablingCallsAreExact}
use Rattle.history_turns.specs.Noted.{NotedOf, seen_at, place_by, IsSeen}
use Rattle.history_turns.specs.Risen.{is_touched, stored_in, place_after, touch_in, may_be_touched, IsRising, IsRisingFrom, MayRise}
use Rattle.history_turns.specs.Walked.{from_named, is_idle}
use Rattle.history_turns.proofs.NamedLemmas.{from_append, from_later, idle_none}
use Rattle.history_turns.proofs.RiseLemmas.{touch_of, touch_if, rises, rest_of, none_stored, filter_map_same, range_all, all_told}
use Rattle.history_turns.proofs.RiseLaw.{IsChosen, number_own, below_or}
use Rattle.history_turns.proofs.RiseCalls.{IsAfter, chosen_after, after_ended, ended_rises, rises_ended, stored_as, as_stored}
use Rattle.history_turns.proofs.NoteLemmas.{not_under}
use Rattle.history_turns.proofs.RisingLaw.{has_none, place_is, begun_rises}

-- A pending table that has the bits of the LPIs that are touched.

abbrev bits_of : List Happened → PlainWord → ℕ
bits_of piece (Ram index) = set_of (λ bit. is_touched piece (64 * index + bit)) 64
bits_of piece word = 0

abbrev table_of : List Happened → (ℕ → Option ℕ) → View
table_of piece targets = record unseen { irqs = (found_by piece).irqs; words = bits_of piece; targets = targets }

-- a bit of a part is the word's
low_bit : (value bit : ℕ) → bit < 8 → bit_at (value % 2 ^ 8) bit ≡ bit_at value bit
low_bit value bit lt =
    let whole : value / 2 ^ 8 * 2 ^ 8 + value % 2 ^ 8 ≡ value = omega arith in
    sym (bit_at_cat_low (value / 2 ^ 8) 8 (value % 2 ^ 8) bit lt) ∙ ap (λ v. bit_at v bit) whole

high_bit : (value shift bit : ℕ) → bit_at (value / 2 ^ shift) bit ≡ bit_at value (shift + bit)
high_bit value shift bit = ap (λ x. x % 2) (shr-shr value shift bit)

part_bit : (word shift bit : ℕ) → bit < 8 → has_bit (word / 2 ^ shift % 2 ^ 8) bit ≡ has_bit word (shift + bit)
part_bit word shift bit lt = ap (λ b. b == 1) (low_bit (word / 2 ^ shift) bit lt ∙ high_bit word shift bit)

le_of : (a b : ℕ) → nat_le a b ≡ true → a ≤ b
le_of a b h = grind (arith, common_steps, h)

not_le_of : (a b : ℕ) → nat_le a b ≡ false → b < a
not_le_of a b h = grind (arith, common_steps, h)

le_from : (a b : ℕ) → a ≤ b → nat_le a b ≡ true
le_from a b h = grind (arith, common_steps, h)

lt_from : (a b : ℕ) → a < b → nat_lt a b ≡ true
lt_from a b h = grind (arith, common_steps, h)

lt_of : (a b : ℕ) → nat_lt a b ≡ true → a < b
lt_of a b h = grind (arith, common_steps, h)

not_lt_of : (a b : ℕ) → nat_lt a b ≡ false → b ≤ a
not_lt_of a b h = grind (arith, common_steps, h)

same_number : (id : ℕ) → 64 * (id / 8 / 8) + (8 * (id / 8 % 8) + id % 8) ≡ id
same_number id = omega arith

within_word : (id : ℕ) → 8 * (id / 8 % 8) + id % 8 < 64
within_word id = omega arith

-- an LPI has its bit exactly where it is touched, if memory has it
touched_in : (shape : GuestShape) (piece : List Happened) (targets : ℕ → Option ℕ) (vcpu id : ℕ) → is_in_table shape (table_of piece targets) vcpu id ≡ (nat_lt id (8 * shape.ram) && is_touched piece id)
touched_in shape piece targets vcpu id = ap (λ a. has_bit (memory_at shape view a 1) (id % 8)) base ∙ of (nat_le (id / 8 + 1) shape.ram) refl
  where
    view : View
    view = table_of piece targets

    base : (pending_address (view.words (Pendbaser vcpu)) id).0 ≡ id / 8
    base = omega arith

    word : ℕ
    word = set_of (λ bit. is_touched piece (64 * (id / 8 / 8) + bit)) 64

    part : Part
    part = record { index = id / 8 / 8; shift = 8 * (id / 8 % 8); bits = 8 * 1 }

    aligned : (id / 8 % 1 == 0) ≡ true
    aligned = let one : id / 8 % 1 ≡ 0 = omega arith in grind (arith, common_steps, one)

    memory : (b : Bool) → nat_le (id / 8 + 1) shape.ram ≡ b → memory_at shape view (id / 8) 1 ≡ option_map_or (λ part. extracted (view.words (Ram part.index)) part) (cond b (Some part) None) 0
    memory b e = ap (λ c. option_map_or (λ part. extracted (view.words (Ram part.index)) part) (cond c (Some part) None) 0) (ap₂ (λ x y. x && y) aligned e)

    of : (b : Bool) → nat_le (id / 8 + 1) shape.ram ≡ b → has_bit (memory_at shape view (id / 8) 1) (id % 8) ≡ (nat_lt id (8 * shape.ram) && is_touched piece id)
    of true e =
        ap (λ m. has_bit m (id % 8)) (memory true e)
        ∙ part_bit word (8 * (id / 8 % 8)) (id % 8) (omega arith)
        ∙ has_bit-set_of (λ bit. is_touched piece (64 * (id / 8 / 8) + bit)) 64 (8 * (id / 8 % 8) + id % 8)
        ∙ ap₂ (λ x y. x && y) (lt_from (8 * (id / 8 % 8) + id % 8) 64 (within_word id)) (ap (is_touched piece) (same_number id))
        ∙ ap (λ b. b && is_touched piece id) (sym (lt_from id (8 * shape.ram) (let in_it = le_of (id / 8 + 1) shape.ram e in omega (arith, in_it))))
    of false e =
        ap (λ m. has_bit m (id % 8)) (memory false e)
        ∙ has_none (id % 8)
        ∙ ap (λ b. b && is_touched piece id) (sym (not_under id (8 * shape.ram) (let out = not_le_of (id / 8 + 1) shape.ram e in omega (arith, out))))

-- Further events.

-- a guest in which all LPIs are for a vCPU
abbrev for_all : ℕ → ℕ → Ideal
for_all vcpu lpis =
    record here {
      guest =
          record here.guest {
            shape = record { vcpus = 0; spis = 0; espis = 0; devices = 0; lpis = lpis; ram = 0 };
            irqs = replicate lpis (record (opening_irq true (Lpi 8192)) { route = Target (Some vcpu) });
          };
    }

at_same : {X : Type 0} (n k : ℕ) (x d : X) → k < n → slice_index_or (replicate n x) k d ≡ x
at_same zero k x d lt = absurd (omega (arith, lt))
at_same (suc n) zero x d lt = refl
at_same (suc n) (suc k) x d lt = at_same n k x d (omega (arith, lt))

for_it : (vcpu lpis n : ℕ) → n < lpis → targets_in (for_all vcpu lpis) (8192 + n) ≡ Some vcpu
for_it vcpu lpis n lt = ap (λ (i : Irq). target_in i.route shape) irq_is
  where
    shape : GuestShape
    shape = record { vcpus = 0; spis = 0; espis = 0; devices = 0; lpis = lpis; ram = 0 }

    irq : Irq
    irq = record (opening_irq true (Lpi 8192)) { route = Target (Some vcpu) }

    there : has_interrupt shape (Lpi (8192 + n)) ≡ true
    there = and_from (nat_le 8192 (8192 + n)) (nat_lt (8192 + n) (8192 + lpis)) (le_from 8192 (8192 + n) (omega arith)) (lt_from (8192 + n) (8192 + lpis) (omega (arith, lt)))

    at : place_of shape (Lpi (8192 + n)) ≡ n
    at = omega arith

    irq_is : cond (has_interrupt shape (Lpi (8192 + n))) (slice_index_or (replicate lpis irq) (place_of shape (Lpi (8192 + n))) (opening_irq false (Lpi (8192 + n)))) (opening_irq false (Lpi (8192 + n))) ≡ irq
    irq_is =
        ap (λ b. cond b (slice_index_or (replicate lpis irq) (place_of shape (Lpi (8192 + n))) (opening_irq false (Lpi (8192 + n)))) (opening_irq false (Lpi (8192 + n)))) there
        ∙ ap (λ k. slice_index_or (replicate lpis irq) k (opening_irq false (Lpi (8192 + n)))) at ∙ at_same lpis n irq (opening_irq false (Lpi (8192 + n))) lt

-- reads change nothing of what was noted
record IsReading (call later : Call) (more : List Happened) : Type 0 where
  operation : later.operation ≡ call.operation
  piece : later.piece ≡ call.piece ++ more
  targets : (id : ℕ) → later.targets id ≡ call.targets id

read_all : (view : View) (places : List Place) (call : Call) → IsReading call (fold noting call (notes_of (map (reading view) places))) (map (reading view) places)
read_all view [] call = record { operation = refl; piece = sym (append-nil call.piece); targets = λ id. refl }
read_all view (place ∷ places) call =
    let next : Call = record call { piece = call.piece ++ reading view place ∷ [] } in
    let is = read_all view places next in
    record { operation = is.operation; piece = is.piece ∙ append_assoc call.piece (reading view place ∷ []) (map (reading view) places); targets = is.targets }

module _ (shape : GuestShape) (actor vcpu : ℕ) (targets : ℕ → List (Option ℕ)) (some : (id : ℕ) → (target : Option ℕ) × Contains (targets id) target) where
  abbrev who : Option ℕ
  who = Some actor

  -- EnableLPIs was 1 before
  on_chosen : (rest : List Happened) → named_of (Some actor) rest ≡ [] → IsChosen shape actor vcpu targets true rest
  on_chosen rest none = record {
    view = record unseen { lpis = λ other. true; targets = λ id. (some id).0 };
    lpis = refl;
    there = λ id. (some id).1;
    made = record {
      events_are = ap events_in none;
      found = All-same (Hands (record unseen { lpis = λ other. true; targets = λ id. (some id).0 })) (named_of who rest) [] none (All-nil (Hands (record unseen { lpis = λ other. true; targets = λ id. (some id).0 })));
      reads = All-nil (λ (place : Place). IsLastRead place (held_at (record unseen { lpis = λ other. true; targets = λ id. (some id).0 }) place) rest);
    };
  }

  -- it was 0, and what was read since says so
  module _ (noted : NotedOf) (rest : List Happened) (is : IsRising shape actor noted rest) (own : (n : ℕ) → n < shape.lpis → is_touched rest (8192 + n) ≡ true → Contains (targets (8192 + n)) (Some vcpu)) where
    record IsPick (id : ℕ) : Type 0 where
      target : Option ℕ
      there : Contains (targets id) target
      good : (n : ℕ) → id ≡ 8192 + n → n < shape.lpis → is_touched rest id ≡ true → target ≡ Some vcpu

    any_pick : (id : ℕ) → ((n : ℕ) → id ≡ 8192 + n → n < shape.lpis → ⊥) → IsPick id
    any_pick id none = record { target = (some id).0; there = (some id).1; good = λ n e lt h. absurd (none n e lt) }

    at_pick : (n : ℕ) → n < shape.lpis → IsPick (8192 + n)
    at_pick n lt = of (is_touched rest (8192 + n)) refl
      where
        of : (b : Bool) → is_touched rest (8192 + n) ≡ b → IsPick (8192 + n)
        of true e = record { target = Some vcpu; there = own n lt e; good = λ m same below h. refl }
        of false e = record { target = (some (8192 + n)).0; there = (some (8192 + n)).1; good = λ m same below h. absurd (cc) }

    pick_at : (id : ℕ) → IsPick id
    pick_at id = elim (below_or id 8192) [
      | inl low ↦ any_pick id (λ n e lt. omega (arith, low, e))
      | inr high ↦ of high (below_or (id - 8192) shape.lpis)
    ]
      where
        of : 8192 ≤ id → (id - 8192 < shape.lpis) ⊎ (shape.lpis ≤ id - 8192) → IsPick id
        of high (inl lt) = let same : 8192 + (id - 8192) ≡ id = omega (arith, high) in subst IsPick same (at_pick (id - 8192) lt)
        of high (inr ge) = any_pick id (λ n e lt. omega (arith, ge, e, lt))

    abbrev table : View
    table = table_of rest (λ id. (pick_at id).target)

    abbrev places : List Place
    places = table_places shape table vcpu

    abbrev reads : List Happened
    reads = map (reading table) places

    named : named_of (Some actor) (rest ++ reads) ≡ named_of (Some actor) rest
    named = named_more who rest reads ∙ ap (λ xs. named_of who rest ++ xs) (reading_named table who places) ∙ append-nil (named_of who rest)

    up : (n : ℕ) → n < shape.lpis → is_touched rest (8192 + n) ≡ rises shape vcpu table n
    up n lt = of (is_touched rest (8192 + n)) refl ∙ ap (λ b. is_number vcpu (table.targets (8192 + n)) && b) (sym (touched_in shape rest (λ id. (pick_at id).target) vcpu (8192 + n)))
      where
        low : is_touched rest (8192 + n) ≡ true → nat_lt (8192 + n) (8 * shape.ram) ≡ true
        low e =
            (and_parts (nat_lt (8192 + n) (8 * shape.ram)) ((seen_at noted n).is_own || not (nat_lt (8192 + n) (place_after rest)))
            (ap (λ b. not b || (nat_lt (8192 + n) (8 * shape.ram) && ((seen_at noted n).is_own || not (nat_lt (8192 + n) (place_after rest))))) (sym e) ∙ range_all (may_be_touched shape noted rest) 0 shape.lpis n is.may (omega arith) (omega (arith, lt)))).0

        of : (b : Bool) → is_touched rest (8192 + n) ≡ b → is_touched rest (8192 + n) ≡ (is_number vcpu (table.targets (8192 + n)) && (nat_lt (8192 + n) (8 * shape.ram) && is_touched rest (8192 + n)))
        of true e =
            e
            ∙ sym
            (ap₂ (λ x y. x && y) (ap (is_number vcpu) ((pick_at (8192 + n)).good n refl lt e) ∙ number_own vcpu true) (ap₂ (λ x y. x && y) (low e) e))
        of false e = e ∙ sym (off (is_number vcpu (table.targets (8192 + n))) (nat_lt (8192 + n) (8 * shape.ram)) (is_touched rest (8192 + n)) e)
          where
            off : (x y z : Bool) → z ≡ false → (x && (y && z)) ≡ false
            off true true z h = h
            off true false z h = refl
            off false y z h = refl

    events : events_in (named_of (Some actor) rest) ≡ pended_events shape table vcpu
    events =
        is.made.events_are ∙ filter_map_same (touch_in rest) (touch_if (rises shape vcpu table)) 0 shape.lpis (λ n low high. ap (λ b. cond b (Some (touch_of n)) None) (up n (omega (arith, high))))
        ∙ ap (rest_of shape vcpu table) (sym (has_none 62))

    off_chosen : IsChosen shape actor vcpu targets false (rest ++ reads)
    off_chosen = record {
      view = table;
      lpis = refl;
      there = λ id. (pick_at id).there;
      made = record {
        events_are = ap events_in named ∙ events;
        found =
            All-same (Hands table) (named_of who (rest ++ reads)) (named_of who rest) named
            (hands_all (found_by rest) table (named_of who rest) (ap (list_all is_told) events ∙ all_told shape vcpu table) (λ key h. refl) (λ word h. absurd (none_of word h)) is.made.found);
        reads = reads_last table places rest;
      };
    }
      where
        none_of : (word : PlainWord) → list_any (stores word) (events_in (named_of (Some actor) rest)) ≡ true → ⊥
        none_of word h = let none = none_stored shape vcpu table word in let same = ap (list_any (stores word)) events in absurd (cc)

module _ (shape : GuestShape) (actor vcpu offset size : ℕ) (write : Option ℕ) (sets : sets_lpis shape (redist_decoded offset size) write ≡ true) (doer : nat_lt actor shape.vcpus ≡ true) (noted : NotedOf) (call : Call) (same : call.operation ≡ Access (Mem (Redist vcpu) offset size write))
    (place : call.place ≡ place_by call.piece) (seen : (n : ℕ) → n < shape.lpis → IsSeen vcpu (call.targets (8192 + n)) (seen_at noted n)) (some : (id : ℕ) → (target : Option ℕ) × Contains (call.targets id) target) (signals : Bool) where
  ends : (notes : List Note) → IsAfter shape actor vcpu (fold noting call notes).targets (fold noting call notes).piece → (fold noting call notes).operation ≡ call.operation → IsBegun signals shape actor call
  ends notes after operation = record { notes = notes; answer = None; ended = after_ended shape actor vcpu offset size write sets doer (fold noting call notes) (operation ∙ same) None (fold signalling signals notes) after refl }

  not_begun : from_named (Some actor) call.piece ≡ [] → IsBegun signals shape actor call
  not_begun e =
      let enable : Happened = record { event = Enable vcpu; found = FoundLpis true } in
      let notes : List Note = Made false here (Enable vcpu) (FoundLpis true) ∷ Sees here ∷ [] in
      let last : Call = fold noting call notes in
      let some' : (id : ℕ) → (target : Option ℕ) × Contains (last.targets id) target = λ id. (
        targets_in here id,
        subst (λ b. Contains (cond b [] ([] ++ targets_in here id ∷ [])) (targets_in here id)) (sym (not_under id 0 (omega arith))) (Contains-push [] (targets_in here id)),
      ) in
      ends notes
      (chosen_after shape actor vcpu last.targets true last.piece enable [] (from_later (Some actor) call.piece (enable ∷ []) e) (stored_as vcpu (Enable vcpu) (FoundLpis true) true refl refl) (on_chosen shape actor vcpu last.targets some' [] refl))
      refl

  was_on : (one : Happened) (rest : List Happened) → from_named (Some actor) call.piece ≡ one ∷ rest → stored_in vcpu one.event one.found ≡ Some true → is_idle (Some actor) rest ≡ true → IsBegun signals shape actor call
  was_on one rest e stored idle = ends [] (chosen_after shape actor vcpu call.targets true call.piece one rest e stored (on_chosen shape actor vcpu call.targets some rest (idle_none (Some actor) rest idle))) refl

  was_off : (one : Happened) (rest : List Happened) → from_named (Some actor) call.piece ≡ one ∷ rest → stored_in vcpu one.event one.found ≡ Some false → IsRising shape actor noted rest → IsBegun signals shape actor call
  was_off one rest e stored is =
      ends notes
      (chosen_after shape actor vcpu last.targets false last.piece one (rest ++ more) (ap (from_named (Some actor)) read.piece ∙ from_append (Some actor) call.piece more one rest e) stored
      (record { view = pick.view; lpis = pick.lpis; there = λ id. subst (λ ts. Contains ts (pick.view.targets id)) (sym (read.targets id)) (pick.there id); made = pick.made }))
      read.operation
    where
      middle : Call
      middle = seeing (for_all vcpu shape.lpis) call

      some' : (id : ℕ) → (target : Option ℕ) × Contains (middle.targets id) target
      some' id = ((some id).0, of (is_passed call.place id))
        where
          of : (b : Bool) → Contains (cond b (call.targets id) (call.targets id ++ targets_in (for_all vcpu shape.lpis) id ∷ [])) (some id).0
          of true = (some id).1
          of false = Contains-append_left (call.targets id) (targets_in (for_all vcpu shape.lpis) id ∷ []) (some id).0 (some id).1

      own : (n : ℕ) → n < shape.lpis → is_touched rest (8192 + n) ≡ true → Contains (middle.targets (8192 + n)) (Some vcpu)
      own n lt h = of (is_passed call.place (8192 + n)) refl
        where
          may : ((seen_at noted n).is_own || not (nat_lt (8192 + n) (place_after rest))) ≡ true
          may =
              (and_parts (nat_lt (8192 + n) (8 * shape.ram)) ((seen_at noted n).is_own || not (nat_lt (8192 + n) (place_after rest)))
              (ap (λ b. not b || (nat_lt (8192 + n) (8 * shape.ram) && ((seen_at noted n).is_own || not (nat_lt (8192 + n) (place_after rest))))) (sym h) ∙ range_all (may_be_touched shape noted rest) 0 shape.lpis n is.may (omega arith) (omega (arith, lt)))).1

          passed : is_passed call.place (8192 + n) ≡ nat_lt (8192 + n) (place_after rest)
          passed = ap (λ o. is_passed o (8192 + n)) (place_is shape actor vcpu offset size write sets doer noted call same place seen one rest e (as_stored vcpu one.event one.found false stored).0)

          of : (b : Bool) → is_passed call.place (8192 + n) ≡ b → Contains (cond b (call.targets (8192 + n)) (call.targets (8192 + n) ++ targets_in (for_all vcpu shape.lpis) (8192 + n) ∷ [])) (Some vcpu)
          of true k = (seen n lt).own.0 (or_off (seen_at noted n).is_own (nat_lt (8192 + n) (place_after rest)) (sym passed ∙ k) may)
            where
              or_off : (x y : Bool) → y ≡ true → (x || not y) ≡ true → x ≡ true
              or_off true y a h = refl
              or_off false true a h = absurd (cc)
              or_off false false a h = absurd (cc)
          of false k =
              subst (Contains (call.targets (8192 + n) ++ targets_in (for_all vcpu shape.lpis) (8192 + n) ∷ [])) (for_it vcpu shape.lpis n lt)
              (Contains-push (call.targets (8192 + n)) (targets_in (for_all vcpu shape.lpis) (8192 + n)))

      view : View
      view = table shape actor vcpu middle.targets some' noted rest is own

      more : List Happened
      more = map (reading view) (table_places shape view vcpu)

      notes : List Note
      notes = Sees (for_all vcpu shape.lpis) ∷ notes_of more

      last : Call
      last = fold noting middle (notes_of more)

      read : IsReading middle last more
      read = read_all view (table_places shape view vcpu) middle

      pick : IsChosen shape actor vcpu middle.targets false (rest ++ more)
      pick = off_chosen shape actor vcpu middle.targets some' noted rest is own

  pub rises_begun : MayRise shape actor vcpu noted call.piece → IsBegun signals shape actor call
  rises_begun is = of (from_named (Some actor) call.piece) refl is
    where
      of : (from : List Happened) → from_named (Some actor) call.piece ≡ from → IsRisingFrom shape actor vcpu noted from → IsBegun signals shape actor call
      of [] e h = not_begun e
      of (one ∷ rest) e (true, stored, may) = was_on one rest e stored may
      of (one ∷ rest) e (false, stored, may) = was_off one rest e stored may

pub exact : EnablingCallsAreExact
exact shape actor vcpu offset size write piece noted call sets doer is = record {
  ended = λ signals answer. (
    ended_rises shape actor vcpu offset size write sets doer call is.of.operation_is answer signals noted (is.has sets),
    λ h. rises_ended shape actor vcpu offset size write sets doer call is.of.operation_is answer signals noted (is.has sets) is.of.opened.seen h.0 h.1,
  );
  begun = λ signals. (begun_rises shape actor vcpu offset size write sets doer noted call is.of.operation_is is.place (is.has sets) signals, rises_begun shape actor vcpu offset size write sets doer noted call is.of.operation_is is.place (is.has sets) is.of.opened.seen signals);
}
