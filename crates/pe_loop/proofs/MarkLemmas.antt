-- The marks of what is left.
use Rattle.std.proofs.Common.{◌≡◌, ◌≢◌, ℕ, zero, suc, min, ◌+◌, ◌-◌, ◌*◌, ◌/◌, ◌%◌, ◌^◌, ◌<◌, ◌≤◌, ◌==◌, ◌&&◌, ◌⊎◌, inl, inr, nat_eq, Bool, true, false, if◌then◌else◌, IsTrue, List, [], ◌∷◌, ◌++◌, map, length, Some, None, slice_index_or, bit_and, refl, sym, ap, subst, ◌∙◌, arith}
use Rattle.std.specs.Int.{bit_at, bit_not, w64}
use Rattle.std.specs.List.{find, list_all, range_with_len}
use Rattle.std.proofs.lemmas.Bool.{eqb-true, eq-eqb, cases_lt, cases_eq, false_from_ne_true}
use Rattle.std.specs.Option.{option_map_or}
use Rattle.std.proofs.lemmas.List.{map-append, get_or-set_same}
use Rattle.std.proofs.lemmas.List.Sums.{fold-append}
use Rattle.std.proofs.lemmas.Nat.{pow_below}
use Rattle.std.proofs.lemmas.Nat.Bits.{bit_at-zero, bit_at-lt, bit_at_and, bit_at_not, bit_at-pow_same, same_from_bits_below}
use Rattle.port_call.specs.Words.{Key, is_of_vcpu, has_bit, is_same_key, GuestShape}
use Rattle.port_call.specs.Core.{Cands, MarkSet, is_cand, has_no_cand, owes_no_mark, no_vcpus, without_cand, without_mark, without_vcpu, settled, is_vcpu, Local, Mark, index_bit, index_bits, Seen, IsPort, AddsStep, made_by, shape_of, AreCands, makes, Progress, progressed, progress_of, stepped, IsProper, IsProperStep, Scan, idle, claiming, ended_scan, scan_allows}
use Rattle.port_call.specs.Registers.{Targets}
use Rattle.port_call.proofs.PortCore.PortLemmas.{adds_join}
use Rattle.port_call.proofs.CoreProper.PartLemmas.{proper_append}
use Rattle.port_call.proofs.PieceLemmas.{seen_nil}
use Rattle.port_call.proofs.SettleLemmas.{handed_none}
use Rattle.port_call.proofs.TryLemmas.{none_append}
use Rattle.port_call.proofs.TurnLemmas.{events_then}
use Rattle.pe_loop.specs.Candidates.{EndsBefore}
use Rattle.pe_loop.specs.Scanning.{told_by}
use Rattle.pe_loop.specs.Marking.{claimed_by, IsMarking, MarksRest}
use Rattle.pe_loop.specs.Steps.{is_mark}
use Rattle.pe_loop.proofs.CountLemmas.{quiet_append}
use Rattle.pe_loop.proofs.StepLemmas.{are_append}
use Rattle.port_call.proofs.CoreProper.CandLemmas.{cand_same}
use Rattle.port_call.proofs.CoreProper.SearchLemmas.{found_in, found_nowhere}

-- A candidate less.

word_out : (word bit : ℕ) → bit < 64 → has_bit (bit_and word (bit_not w64 (2 ^ bit))) bit ≡ false
word_out word bit h =
    let out : bit_at (bit_not w64 (2 ^ bit)) bit ≡ 1 - bit_at (2 ^ bit) bit = bit_at_not w64 (2 ^ bit) bit (pow_below bit 64 h) h in
    let one = bit_at-pow_same bit in
    let both = bit_at_and word (bit_not w64 (2 ^ bit)) bit in
    ap (λ b. nat_eq b 1) (low (bit_at word bit) (bit_at (bit_not w64 (2 ^ bit)) bit) (bit_at (bit_and word (bit_not w64 (2 ^ bit))) bit) both (omega (arith, out, one)))
  where
    low : (a b m : ℕ) → m ≡ min a b → b ≡ 0 → m ≡ 0
    low a b m e z = omega (arith, e, z)

-- it is out, and no other came
pub cand_out : (cands : Cands) (bit : ℕ) → bit / 64 < length cands.words → is_cand (without_cand cands bit) bit ≡ false
cand_out cands bit within =
    let word = slice_index_or cands.words (bit / 64) 0 in
    ap (λ word. has_bit word (bit % 64)) (get_or-set_same cands.words (bit / 64) (bit_and word (bit_not w64 (2 ^ (bit % 64)))) 0 within) ∙ word_out word (bit % 64) (omega arith)

pub cand_kept : (cands : Cands) (bit i : ℕ) → bit / 64 < length cands.words → i ≢ bit → is_cand cands i ≡ false → is_cand (without_cand cands bit) i ≡ false
cand_kept cands bit i within differ out = cand_same cands bit i within differ ∙ out

-- no bit, no candidate
all_zero : (words : List ℕ) → ((i : ℕ) → i < length words → slice_index_or words i 0 ≡ 0) → IsTrue (list_all (λ word. word == 0) words)
all_zero [] h = refl
all_zero (word ∷ words) h =
    ap (λ b. b && list_all (λ word. word == 0) words) (eq-eqb word 0 (h 0 (omega arith))) ∙ all_zero words (λ i l. h (suc i) (omega (arith, l)))

pub none_left : (cands : Cands) → length cands.words ≡ 96 → ((i : ℕ) → i < 96 → slice_index_or cands.words i 0 < 2 ^ 64) → ((i : ℕ) → i < 6144 → is_cand cands i ≡ false) → IsTrue (list_all (λ word. word == 0) cands.words)
none_left cands each fit none =
    all_zero cands.words (λ i l. same_from_bits_below 64 (slice_index_or cands.words i 0) 0 (fit i (omega (arith, l, each))) (omega arith) (λ j small. bit_zero i j (omega (arith, l, each)) small ∙ sym (bit_at-zero j)))
  where
    zero_is : (n : ℕ) → n < 2 → nat_eq n 1 ≡ false → n ≡ 0
    zero_is zero l e = refl
    zero_is (suc zero) l e = absurd (cc)
    zero_is (suc (suc n)) l e = absurd (omega (arith, l))

    bit_zero : (i j : ℕ) → i < 96 → j < 64 → bit_at (slice_index_or cands.words i 0) j ≡ 0
    bit_zero i j l small =
        let quotient : (64 * i + j) / 64 ≡ i = omega (arith, small) in
        let rest : (64 * i + j) % 64 ≡ j = omega (arith, small) in
        zero_is (bit_at (slice_index_or cands.words i 0) j) (bit_at-lt (slice_index_or cands.words i 0) j)
        (ap (λ q. has_bit (slice_index_or cands.words q 0) j) (sym quotient) ∙ ap (has_bit (slice_index_or cands.words ((64 * i + j) / 64) 0)) (sym rest) ∙ none (64 * i + j) (omega (arith, l, small)))

-- A mark.

-- the vCPU's own candidate of an interrupt is settled by its mark
pub marks_out : (shape : GuestShape) (vcpu : ℕ) (key : Key) (cands : Cands) → is_vcpu shape vcpu ≡ true → IsTrue (is_of_vcpu vcpu key) → settled shape vcpu key cands ≡ without_cand cands (index_bit shape key)
marks_out shape vcpu key cands is own = ap (λ b. if b && is_of_vcpu vcpu key then without_cand cands (index_bit shape key) else cands) is ∙ ap (λ b. if b then without_cand cands (index_bit shape key) else cands) own

mark_proper : (shape : GuestShape) (actor : ℕ) (p : Progress) (key : Key) → p.scan ≡ claiming [] [] → is_cand p.local.cands (index_bit shape key) ≡ true → IsProperStep shape actor p (Mark key actor)
mark_proper shape actor p key e cand =
    let At : Scan → Type 0 = λ scan. IsTrue (scan_allows shape actor p.local scan (Mark key actor)) in
    record {
      scan = subst At (sym e) (ap (λ b. b && is_cand p.local.cands (index_bit shape key)) (eq-eqb actor actor refl) ∙ cand);
      trap = refl;
      failed = refl;
      far = refl;
      refill = refl;
      want = refl;
      seen = refl;
    }

-- a scan with something left to mark goes on
some_left : (local : Local) → has_no_cand local ≡ false → ended_scan local (claiming [] []) ≡ claiming [] []
some_left local e = ap (λ b. if b then idle else claiming [] []) e

not_none : (words : List ℕ) (i j : ℕ) → has_bit (slice_index_or words i 0) j ≡ true → list_all (λ word. word == 0) words ≡ false
not_none [] i j e = absurd (differ (has_bit 0 j) e (ap (λ n. nat_eq n 1) (bit_at-zero j)))
  where
    differ : (b : Bool) → b ≡ true → b ≡ false → ⊥
    differ b t f = cc
not_none (word ∷ words) zero j e = ap (λ b. b && list_all (λ word. word == 0) words) (false_from_ne_true (word == 0) (λ z. differ (has_bit word j) e (ap (λ n. has_bit n j) (eqb-true word 0 z) ∙ ap (λ n. nat_eq n 1) (bit_at-zero j))))
  where
    differ : (b : Bool) → b ≡ true → b ≡ false → ⊥
    differ b t f = cc
not_none (word ∷ words) (suc i) j e = and_false (word == 0) (list_all (λ word. word == 0) words) (not_none words i j e)
  where
    and_false : (a b : Bool) → b ≡ false → (a && b) ≡ false
    and_false true b e = e
    and_false false b e = refl

pub no_marks : (seen : Seen) → IsMarking seen seen 0
no_marks seen =
    record {
      part = [];
      adds = record { new_is = sym (seen_nil seen) };
      steps_are = refl;
      same = refl;
      none_taken = refl;
      quiet = refl;
      silent = refl;
      proper = λ p. tt;
      goes_on = λ p. refl;
      none = λ i l. absurd (omega (arith, l));
    }

-- one that owes no mark owes none after another
marks_same : (key : Key) (vcpu : ℕ) (marks : MarkSet) → marks.vcpus ≡ no_vcpus → without_mark key vcpu marks ≡ marks
marks_same key vcpu marks none = of (option_map_or (λ owed. is_same_key owed key) marks.key false)
  where
    with_set : Targets → MarkSet
    with_set set = record marks { vcpus = set }

    of : (b : Bool) → (if b then record marks { vcpus = without_vcpu marks.vcpus vcpu } else marks) ≡ marks
    of true = ap (λ set. record marks { vcpus = without_vcpu set vcpu }) none ∙ ap (λ set. record marks { vcpus = set }) (sym none)
    of false = refl

pub one_mark :
    (old now new : Seen) (from bit found : ℕ) (key : Key) → is_vcpu (shape_of old) old.actor ≡ true → old.local.marks.vcpus ≡ no_vcpus → AreCands (shape_of old) now.local.cands.words
    → find (is_cand now.local.cands) (range_with_len from (index_bits (shape_of old) - from)) ≡ Some bit → bit < 6144 → index_bit (shape_of old) key ≡ bit → IsTrue (is_of_vcpu old.actor key) → IsMarking old now from → AddsStep now new (Mark key old.actor) found
    → IsMarking old new (bit + 1)
one_mark old now new from bit found key vcpu marks are first small bit_is own so add =
    let shape = shape_of old in
    let actor = old.actor in
    let made = made_by now (Mark key actor) found add.tables in
    let is = so.adds.new_is in
    let search = found_in (is_cand now.local.cands) from (index_bits shape - from) bit first in
    let each = are.each in
    let within : bit / 64 < length now.local.cands.words = omega (arith, small, each) in
    let left : has_no_cand now.local ≡ false = not_none now.local.cands.words (bit / 64) (bit % 64) search.passes in
    let marks_now : now.local.marks.vcpus ≡ no_vcpus = ap (λ local. local.marks.vcpus) so.same ∙ marks in
    let make : MarkSet → Cands → Local = λ marks cands. record now.local { marks = marks; cands = cands } in
    let cands_by : Seen → Cands = λ seen. if actor == seen.actor then settled (shape_of seen) seen.actor key now.local.cands else now.local.cands in
    let cands_is : cands_by now ≡ without_cand now.local.cands bit
    = ap cands_by is ∙ ap (λ b. if b then settled shape actor key now.local.cands else now.local.cands) (eq-eqb actor actor refl) ∙ marks_out shape actor key now.local.cands vcpu own ∙ ap (without_cand now.local.cands) bit_is in
    let local : new.local ≡ make now.local.marks (without_cand now.local.cands bit)
    = ap (λ seen. seen.local) add.adds.new_is ∙ ap (λ marks. make marks (cands_by now)) (marks_same key actor now.local.marks marks_now) ∙ ap (make now.local.marks) cands_is in
    let claim_is : (p : Progress) → claimed_by now p ≡ record (told_by now p) { scan = claiming [] [] } = λ p. ap (λ scan. record (told_by now p) { scan = scan }) (some_left now.local left) in
    let cand_there : is_cand now.local.cands (index_bit shape key) ≡ true = ap (is_cand now.local.cands) bit_is ∙ search.passes in
    let next : GuestShape → ℕ → Progress → Progress = λ shape actor p. stepped shape actor made p in
    let back : Local → Local = λ local. record local { cands = old.local.cands } in
    record {
      part = so.part ++ made ∷ [];
      adds = adds_join old now new so.part (made ∷ []) so.adds add.adds;
      steps_are = are_append is_mark so.part (made ∷ []) so.steps_are refl;
      same = ap back local ∙ so.same;
      none_taken = none_append so.part (made ∷ []) so.none_taken (ap (λ b. b && true) (handed_none (Mark key actor) found now add.tables refl add.handed));
      quiet = quiet_append so.part (made ∷ []) so.quiet refl;
      silent = events_then old now so.part (made ∷ []) so.adds ∙ ap (λ events. events ++ []) so.silent;
      proper = λ p.
          let q = claimed_by old p in
          let step = mark_proper shape actor (record (told_by now p) { scan = claiming [] [] }) key refl cand_there in
          let Step : Progress → Type 0 = λ p. IsProperStep shape actor p (Mark key actor) in
          subst (IsProper shape actor q) (sym (map-append makes so.part (made ∷ [])))
          ((proper_append shape actor q (map makes so.part) (makes made ∷ [])).1 (so.proper p, (subst Step (sym (so.goes_on p ∙ claim_is p)) step, tt)));
      goes_on = λ p.
          let q = claimed_by old p in
          ap (progress_of shape actor q) (map-append makes so.part (made ∷ [])) ∙ fold-append (progressed shape actor) q (map makes so.part) (makes made ∷ [])
          ∙ ap (next shape actor) (so.goes_on p ∙ claim_is p)
          ∙ ap (λ seen. next (shape_of seen) seen.actor (record (told_by now p) { scan = claiming [] [] })) (sym is)
          ∙ ap (λ seen. claimed_by seen p) (sym add.adds.new_is);
      none = λ i l. ap (λ local. is_cand local.cands i) local ∙ out i l (cases_eq i bit) (cases_lt i from);
    }
  where
    out : (i : ℕ) → i < bit + 1 → (i ≡ bit) ⊎ (i ≢ bit) → (i < from) ⊎ (from ≤ i) → is_cand (without_cand now.local.cands bit) i ≡ false
    out i l (inl same) where_is = let each = are.each in ap (is_cand (without_cand now.local.cands bit)) same ∙ cand_out now.local.cands bit (omega (arith, small, each))
    out i l (inr other) (inl before) = let each = are.each in cand_kept now.local.cands bit i (omega (arith, small, each)) other (so.none i before)
    out i l (inr other) (inr after) =
        let each = are.each in
        cand_kept now.local.cands bit i (omega (arith, small, each)) other ((found_in (is_cand now.local.cands) from (index_bits (shape_of old) - from) bit first).first i after (omega (arith, l, other)))

-- The end.

pub all_marked : (old now : Seen) (from : ℕ) → AreCands (shape_of old) now.local.cands.words → find (is_cand now.local.cands) (range_with_len from (index_bits (shape_of old) - from)) ≡ None → EndsBefore (index_bits (shape_of old)) now.local.cands → IsMarking old now from
    → MarksRest old now
all_marked old now from are none ends so =
    record {
      from = from;
      marking = so;
      none = none_left now.local.cands are.each (λ i l. (are.bits i l).fits) (λ i l. out i l (cases_lt i from) (cases_lt i (index_bits (shape_of old))));
    }
  where
    out : (i : ℕ) → i < 6144 → (i < from) ⊎ (from ≤ i) → (i < index_bits (shape_of old)) ⊎ (index_bits (shape_of old) ≤ i) → is_cand now.local.cands i ≡ false
    out i l (inl before) end = so.none i before
    out i l (inr after) (inl within) = found_nowhere (is_cand now.local.cands) from (index_bits (shape_of old) - from) none i after (omega (arith, after, within))
    out i l (inr after) (inr past) = ends i past l

-- no candidate is past the bits of the index
pub ends_before : (shape : GuestShape) (cands : Cands) → AreCands shape cands.words → EndsBefore (index_bits shape) cands
ends_before shape cands are i past small = false_from_ne_true (is_cand cands i) (λ e. let less = (are.bits (i / 64) (omega (arith, small))).bits (i % 64) (omega arith) e in let split : 64 * (i / 64) + i % 64 ≡ i = omega arith in omega (arith, less, split, past))

-- The loop.

are_cands : (old now : Seen) (from : ℕ) → IsPort now → IsMarking old now from → AreCands (shape_of old) now.local.cands.words
are_cands old now from port so = subst (λ shape. AreCands shape now.local.cands.words) (ap shape_of so.adds.new_is) port.local.cands

pub mark_more :
    (old now new : Seen) (from end bit found vcpu : ℕ) (key : Key) → is_vcpu (shape_of old) old.actor ≡ true → IsTrue (owes_no_mark old.local) → IsPort now → vcpu ≡ old.actor → end ≡ index_bits (shape_of old) → end ≤ 6112
    → find (is_cand now.local.cands) (range_with_len from (end - from)) ≡ Some bit → bit < end → index_bit (shape_of old) key ≡ bit → IsTrue (is_of_vcpu vcpu key) → IsMarking old now from → AddsStep now new (Mark key vcpu) found → IsMarking old new (bit + 1)
mark_more old now new from end bit found vcpu key is owes port vcpu_is end_is few first less bit_is own so add =
    let set : ℕ → Targets = λ n. record { 0 = n } in
    one_mark old now new from bit found key is (ap set (eqb-true old.local.marks.vcpus.0 0 owes)) (are_cands old now from port so)
    (ap (λ end. find (is_cand now.local.cands) (range_with_len from (end - from))) (sym end_is) ∙ first)
    (omega (arith, less, few)) bit_is (ap (λ vcpu. is_of_vcpu vcpu key) (sym vcpu_is) ∙ own) so (subst (λ vcpu. AddsStep now new (Mark key vcpu) found) vcpu_is add)

pub marked_all : (old now : Seen) (from end : ℕ) → IsPort now → end ≡ index_bits (shape_of old) → find (is_cand now.local.cands) (range_with_len from (end - from)) ≡ None → IsMarking old now from → MarksRest old now
marked_all old now from end port end_is none so =
    let are = are_cands old now from port so in
    all_marked old now from are (ap (λ end. find (is_cand now.local.cands) (range_with_len from (end - from))) (sym end_is) ∙ none) (ends_before (shape_of old) now.local.cands are) so
