-- Writes that set EnableLPIs: what one made can still become the call exactly where it says so itself, with what the call noted.
use Rattle.std.proofs.Common.{◌≡◌, ℕ, ◌+◌, ◌*◌, ◌/◌, ◌%◌, ◌<◌, ◌≤◌, ◌&&◌, ◌||◌, ◌==◌, not, nat_lt, nat_le, Bool, true, false, cond, List, [], ◌∷◌, ◌++◌, fold, All, Contains, Option, Some, None, refl, sym, ap, ◌∙◌, subst, arith}
use Rattle.std.specs.List.{list_all}
use Rattle.std.specs.Option.{option_map_or}
use Rattle.std.proofs.lemmas.Bool.{and_parts, and_from, or_left, or_right}
use Rattle.std.proofs.lemmas.Grind.{common_steps}
use Rattle.std.proofs.lemmas.List.{map-append}
use Rattle.std.proofs.lemmas.List.Sums.{fold-append}
use Rattle.std.proofs.lemmas.List.Folds.{list_all-append}
use Rattle.std.proofs.lemmas.Nat.Bits.{bit_at-zero}
use Rattle.history_turns.specs.Words.{Redist, Mem, GuestShape, is_number, has_bit}
use Rattle.history_turns.specs.Registers.{Part, extracted, pending_address}
use Rattle.history_turns.specs.GicRmap.Map.{decoded as redist_decoded}
use Rattle.history_turns.specs.Calls.{Event, Enable, Access, Happened, View, Ram, Pendbaser, Makes, named_of, is_in_table, is_table_zero, pended_events, table_places, sets_lpis}
use Rattle.history_turns.specs.Histories.{Call}
use Rattle.history_turns.specs.LegalLists.Legal.{noting, signalling, IsBegun}
use Rattle.history_commands.proofs.MadeLemmas.{notes_as}
use Rattle.history_turns.specs.HistoryCalls.Exact.{is_told}
use Rattle.history_turns.specs.HistoryCalls.Found.{found_by}
use Rattle.history_commands.proofs.CountLemmas.{named_more}
use Rattle.history_commands.proofs.ExactLaw.{events_in, Hands, hands_all, first_of}
use Rattle.history_commands.proofs.FoundLemmas.{touch_found, store_found}
use Rattle.history_turns.specs.Noted.{NotedOf, seen_at, IsSeen, place_by, placing}
use Rattle.history_turns.specs.Risen.{is_touched, stored_in, place_after, may_be_touched, MayRiseFrom, IsRisingFrom, MayRise}
use Rattle.history_turns.specs.Walked.{from_named}
use Rattle.history_turns.proofs.NamedLemmas.{from_first, from_append, none_idle}
use Rattle.history_turns.proofs.RiseLemmas.{rises, still_of, rest_of, all_range, all_told}
use Rattle.history_turns.proofs.RiseLaw.{number_is}
use Rattle.history_turns.proofs.RiseCalls.{IsAfter, IsSplit, split_after, ended_after, as_stored}
use Rattle.history_turns.proofs.RisingLemmas.{bit_of, pended_are, made_are, touched_bit, last_ones, coming_named, placing_all, placing_beside, place_folds}
use Rattle.history_turns.proofs.NoteLemmas.{events_noted, noted_all, kept}

happened_head : (x y : Happened) (xs ys : List Happened) → x ∷ xs ≡ y ∷ ys → x ≡ y
happened_head x y xs ys h = cc

happened_tail : (x y : Happened) (xs ys : List Happened) → x ∷ xs ≡ y ∷ ys → xs ≡ ys
happened_tail x y xs ys h = cc

no_events : (named : List Happened) (later : List Event) → events_in named ++ later ≡ [] → named ≡ []
no_events [] later h = refl
no_events (one ∷ named) later h = absurd (cc)

-- an LPI that has its bit in a table has it in memory
in_ram : (address id ram : ℕ) → address ≤ ram → id / 8 < address → nat_lt id (8 * ram) ≡ true
in_ram address id ram low high = let there : id < 8 * ram = omega (arith, low, high) in grind (arith, common_steps, there)

le_of : (a b : ℕ) → nat_le a b ≡ true → a ≤ b
le_of a b h = grind (arith, common_steps, h)

pub has_none : (bit : ℕ) → has_bit 0 bit ≡ false
has_none bit = ap (λ b. b == 1) (bit_at-zero bit)

table_low : (base id : ℕ) → id / 8 < base + id / 8 + 1
table_low base id = omega arith

bit_in_ram : (shape : GuestShape) (view : View) (vcpu id : ℕ) → is_in_table shape view vcpu id ≡ true → nat_lt id (8 * shape.ram) ≡ true
bit_in_ram shape view vcpu id h = of (address % 1 == 0) (nat_le (address + 1) shape.ram) refl h
  where
    address : ℕ
    address = (pending_address (view.words (Pendbaser vcpu)) id).0

    part : Part
    part = record { index = address / 8; shift = 8 * (address % 8); bits = 8 * 1 }

    of : (a b : Bool) → nat_le (address + 1) shape.ram ≡ b → has_bit (option_map_or (λ part. extracted (view.words (Ram part.index)) part) (cond (a && b) (Some part) None) 0) (id % 8) ≡ true → nat_lt id (8 * shape.ram) ≡ true
    of true true e k = in_ram (address + 1) id shape.ram (le_of (address + 1) shape.ram e) (table_low _ id)
    of true false e k = let none = has_none (id % 8) in absurd (cc)
    of false b e k = let none = has_none (id % 8) in absurd (cc)

-- What an open call made says so.

module _ (shape : GuestShape) (actor vcpu : ℕ) (noted : NotedOf) (view : View) (rest more : List Happened) (own : (n : ℕ) → n < shape.lpis → 8192 + n < place_after rest → view.targets (8192 + n) ≡ Some vcpu → (seen_at noted n).is_own ≡ true)
    (is : Makes (Some actor) view (pended_events shape view vcpu) (cond (view.lpis vcpu) [] (table_places shape view vcpu)) [] (rest ++ more)) where
  abbrev who : Option ℕ
  who = Some actor

  abbrev earlier : List Event
  earlier = events_in (named_of who rest)

  abbrev later : List Event
  later = events_in (named_of who more)

  named : named_of (Some actor) (rest ++ more) ≡ named_of (Some actor) rest ++ named_of (Some actor) more
  named = named_more who rest more

  pub events : events_in (named_of (Some actor) rest) ++ events_in (named_of (Some actor) more) ≡ pended_events shape view vcpu
  events = sym (map-append (λ (h : Happened). h.event) (named_of who rest) (named_of who more)) ∙ ap events_in (sym named) ∙ is.events_are

  hands : All (Hands view) (named_of (Some actor) rest)
  hands = first_of view (named_of who rest) (named_of who more) (subst (All (Hands view)) named is.found)

  told : list_all is_told (events_in (named_of (Some actor) rest)) ≡ true
  told = (and_parts (list_all is_told earlier) (list_all is_told later) (sym (list_all-append is_told earlier later) ∙ ap (list_all is_told) events ∙ all_told shape vcpu view)).0

  may_at : (n : ℕ) → n < shape.lpis → may_be_touched shape noted rest n ≡ true
  may_at n lt = of (is_touched rest (8192 + n)) refl
    where
      passed : rises shape vcpu view n ≡ true → (b : Bool) → nat_lt (8192 + n) (place_after rest) ≡ b → ((seen_at noted n).is_own || not b) ≡ true
      passed up true e =
          or_left (seen_at noted n).is_own false (own n lt (grind (arith, common_steps, e)) (number_is vcpu (view.targets (8192 + n)) (and_parts (is_number vcpu (view.targets (8192 + n))) (is_in_table shape view vcpu (8192 + n)) up).0))
      passed up false e = or_right (seen_at noted n).is_own true refl

      of : (b : Bool) → is_touched rest (8192 + n) ≡ b → (not b || (nat_lt (8192 + n) (8 * shape.ram) && ((seen_at noted n).is_own || not (nat_lt (8192 + n) (place_after rest))))) ≡ true
      of false e = refl
      of true e =
          let up = (and_parts (not (still_of shape vcpu view)) (rises shape vcpu view n) (touched_bit shape vcpu who view rest later events n lt e)).1 in
          and_from (nat_lt (8192 + n) (8 * shape.ram)) ((seen_at noted n).is_own || not (nat_lt (8192 + n) (place_after rest)))
          (bit_in_ram shape view vcpu (8192 + n) (and_parts (is_number vcpu (view.targets (8192 + n))) (is_in_table shape view vcpu (8192 + n)) up).1) (passed up (nat_lt (8192 + n) (place_after rest)) refl)

  pub may_rise_from : MayRiseFrom shape actor noted (view.lpis vcpu) rest
  may_rise_from = of (view.lpis vcpu) refl
    where
      of : (b : Bool) → view.lpis vcpu ≡ b → MayRiseFrom shape actor noted b rest
      of true e = none_idle who rest (no_events (named_of who rest) later (events ∙ ap (λ b. rest_of shape vcpu view (b || is_table_zero (view.words (Pendbaser vcpu)))) e))
      of false e = record {
        made = record {
          events_are = made_are shape vcpu who view rest later events;
          found = hands_all view (found_by rest) (named_of who rest) told (λ key h. touch_found who view rest hands key h) (λ word h. store_found who view rest hands word h) hands;
        };
        may = all_range (may_be_touched shape noted rest) 0 shape.lpis (λ n low high. may_at n (omega (arith, high)));
      }

module _ (shape : GuestShape) (actor vcpu offset size : ℕ) (write : Option ℕ) (sets : sets_lpis shape (redist_decoded offset size) write ≡ true) (doer : nat_lt actor shape.vcpus ≡ true) (noted : NotedOf) (call : Call) (same : call.operation ≡ Access (Mem (Redist vcpu) offset size write))
    (place : call.place ≡ place_by call.piece) (seen : (n : ℕ) → n < shape.lpis → IsSeen vcpu (call.targets (8192 + n)) (seen_at noted n)) where
  -- the LPI to which it has come
  pub place_is : (one : Happened) (rest : List Happened) → from_named (Some actor) call.piece ≡ one ∷ rest → one.event ≡ Enable vcpu → call.place ≡ Some (place_after rest)
  place_is one rest e event =
      let first = from_first (Some actor) call.piece one rest e in
      place ∙ ap (λ p. fold placing None (events_in p)) first.split ∙ ap (fold placing None) (map-append (λ (h : Happened). h.event) first.before (one ∷ rest)) ∙ fold-append placing None (events_in first.before) (one.event ∷ events_in rest)
      ∙ ap (λ o. fold placing (placing o one.event) (events_in rest)) (placing_beside (Some actor) None first.before first.none) ∙ ap (λ x. fold placing (placing None x) (events_in rest)) event ∙ placing_all 0 (events_in rest) ∙ ap Some (sym (place_folds 0 rest))

  pub begun_rises : (signals : Bool) → IsBegun signals shape actor call → MayRise shape actor vcpu noted call.piece
  begun_rises signals is = of (from_named (Some actor) call.piece) refl
    where
      last : Call
      last = fold noting call is.notes

      more : List Happened
      more = events_noted is.notes

      after : IsAfter shape actor vcpu last.targets last.piece
      after = (ended_after shape actor vcpu offset size write sets doer last ((notes_as call is.notes).operation ∙ same) is.answer (fold signalling signals is.notes) is.ended).0

      split : IsSplit shape actor vcpu after.view last.piece
      split = split_after shape actor vcpu after.view last.piece after.made

      of : (from : List Happened) → from_named (Some actor) call.piece ≡ from → IsRisingFrom shape actor vcpu noted from
      of [] e = tt
      of (one ∷ rest) e =
          let both : one ∷ (rest ++ more) ≡ split.one ∷ split.rest = sym (from_append (Some actor) call.piece more one rest e) ∙ ap (from_named (Some actor)) (sym (noted_all call is.notes)) ∙ split.from in
          let head : one ≡ split.one = happened_head one split.one (rest ++ more) split.rest both in
          let stored = ap (λ (h : Happened). stored_in vcpu h.event h.found) head ∙ split.stored in
          let made : Makes (Some actor) after.view (pended_events shape after.view vcpu) (cond (after.view.lpis vcpu) [] (table_places shape after.view vcpu)) [] (rest ++ more) =
          subst (Makes (Some actor) after.view (pended_events shape after.view vcpu) (cond (after.view.lpis vcpu) [] (table_places shape after.view vcpu)) []) (sym (happened_tail one split.one (rest ++ more) split.rest both)) split.made in
          let here = place_is one rest e (as_stored vcpu one.event one.found (after.view.lpis vcpu) stored).0 in
          let all = sym (map-append (λ (h : Happened). h.event) (named_of (Some actor) rest) (named_of (Some actor) more)) ∙ ap events_in (sym (named_more (Some actor) rest more)) ∙ made.events_are ∙ pended_are shape vcpu after.view in
          let above = last_ones (bit_of shape vcpu after.view) 0 shape.lpis 0 (events_in (named_of (Some actor) rest)) (events_in (named_of (Some actor) more)) (omega arith) all in
          let low : place_after rest < 8192 + above.start = subst (λ p. p < 8192 + above.start) (sym (place_folds 0 rest ∙ coming_named (Some actor) 0 rest)) above.above in (
            after.view.lpis vcpu,
            stored,
            may_rise_from shape actor vcpu noted after.view rest more
                (λ n lt passed target.
                (seen n lt).own.1
                (subst (λ ts. Contains ts (Some vcpu)) (kept (Some actor) (bit_of shape vcpu after.view) is.notes call (place_after rest) above.start above.count here low above.rest (8192 + n) passed)
                (subst (Contains (last.targets (8192 + n))) target (after.there (8192 + n)))))
                made,
          )
