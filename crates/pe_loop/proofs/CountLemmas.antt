-- How many pass a test.
use Rattle.std.proofs.Common.{◌≡◌, ◌≢◌, ℕ, zero, suc, ◌+◌, ◌-◌, ◌*◌, ◌/◌, ◌%◌, ◌<◌, ◌≤◌, ◌==◌, ◌&&◌, Bool, true, false, cond, IsTrue, List, [], ◌∷◌, ◌++◌, length, filter, slice_index_or, bit_or, length-append, Some, refl, ap, ◌∙◌, arith}
use Rattle.std.specs.Int.Bits.{or_zero_l}
use Rattle.std.specs.List.{find, list_all, range_with_len}
use Rattle.std.proofs.lemmas.Bool.{and_parts, eqb-true}
use Rattle.std.proofs.lemmas.List.{get_or-set_same, get_or-set_other}
use Rattle.std.proofs.lemmas.List.Elements.{filter-append}
use Rattle.std.proofs.lemmas.List.Folds.{list_all-append}
use Rattle.std.proofs.lemmas.List.Sums.{sum_by-append}
use Rattle.port_call.specs.Words.{has_bit}
use Rattle.port_call.specs.Core.{Cands, Made, CoreStep, Look, Raise, Claim, GiveBack, Release, Poll, Kick, Touch, Want, WireUp, WireDown, EnableLpis, RamLook, RamPut, CtlrTake, CtlrEnd, TurnTake, CommandDone, TurnRelease, Mark, TakeIndex, LineEnter, LineLeave, LineFill, LineClose, Irq, Vcpu, Index, Queue, Ctlr, Plain, Line, is_cand, with_cand_word}
use Rattle.pe_loop.specs.Counting.{count_from, is_irq_look, looks_in, bits_in, bits_found, bits_taken, is_quiet, are_quiet, AreTaken}

-- Steps.

pub and_true : (a b : Bool) → IsTrue a → IsTrue b → (a && b) ≡ true
and_true true true h k = refl
and_true true false h k = absurd (cc)
and_true false b h k = absurd (cc)

pub quiet_append : (early late : List Made) → IsTrue (are_quiet early) → IsTrue (are_quiet late) → IsTrue (are_quiet (early ++ late))
quiet_append early late one two = list_all-append (λ made. is_quiet made.step) early late ∙ and_true (are_quiet early) (are_quiet late) one two

pub looks_append : (early late : List Made) → looks_in (early ++ late) ≡ looks_in early + looks_in late
looks_append early late = ap (λ part. length part) (filter-append (λ made. is_irq_look made.step) early late) ∙ length-append (filter (λ made. is_irq_look made.step) early) (filter (λ made. is_irq_look made.step) late)

pub taken_append : (early late : List Made) → bits_taken (early ++ late) ≡ bits_taken early + bits_taken late
taken_append early late = sum_by-append (λ made. bits_found made.step made.found) early late

pub taken_one : (made : Made) → bits_taken (made ∷ []) ≡ bits_found made.step made.found
taken_one made = let sums : bits_taken (made ∷ []) ≡ 0 + bits_found made.step made.found = refl in omega (arith, sums)

quiet_step : (step : CoreStep) (found : ℕ) → IsTrue (is_quiet step) → (is_irq_look step ≡ false) × (bits_found step found ≡ 0)
quiet_step (Look (Irq key)) found h = absurd (cc)
quiet_step (TakeIndex word) found h = absurd (cc)
quiet_step (Look (Vcpu v)) found h = (refl, refl)
quiet_step (Look (Index v w)) found h = (refl, refl)
quiet_step (Look Queue) found h = (refl, refl)
quiet_step (Look Ctlr) found h = (refl, refl)
quiet_step (Look (Plain i)) found h = (refl, refl)
quiet_step (Look (Line n)) found h = (refl, refl)
quiet_step (Raise key) found h = (refl, refl)
quiet_step (Claim key seen) found h = (refl, refl)
quiet_step (GiveBack key back) found h = (refl, refl)
quiet_step (Release key) found h = (refl, refl)
quiet_step (Poll reg write) found h = (refl, refl)
quiet_step (Kick v) found h = (refl, refl)
quiet_step (Touch key seen kind) found h = (refl, refl)
quiet_step (Want key) found h = (refl, refl)
quiet_step (WireUp key) found h = (refl, refl)
quiet_step (WireDown key) found h = (refl, refl)
quiet_step (EnableLpis v) found h = (refl, refl)
quiet_step (RamLook i) found h = (refl, refl)
quiet_step (RamPut i seen value) found h = (refl, refl)
quiet_step (CtlrTake seen value) found h = (refl, refl)
quiet_step CtlrEnd found h = (refl, refl)
quiet_step (TurnTake seen) found h = (refl, refl)
quiet_step (CommandDone offset stalled ending) found h = (refl, refl)
quiet_step TurnRelease found h = (refl, refl)
quiet_step (Mark key v) found h = (refl, refl)
quiet_step (LineEnter n seen) found h = (refl, refl)
quiet_step (LineLeave n) found h = (refl, refl)
quiet_step (LineFill n device event lpi) found h = (refl, refl)
quiet_step (LineClose n) found h = (refl, refl)

pub quiet_none : (part : List Made) → IsTrue (are_quiet part) → (looks_in part ≡ 0) × (bits_taken part ≡ 0)
quiet_none [] h = (refl, refl)
quiet_none (made ∷ part) h =
    let parts = and_parts (is_quiet made.step) (are_quiet part) h in
    let one = quiet_step made.step made.found parts.0 in
    let rest = quiet_none part parts.1 in
    let later = filter (λ made. is_irq_look made.step) part in
    let first = one.1 in
    let more = rest.1 in
    let sums = taken_append (made ∷ []) part in
    let single = taken_one made in
    (ap (λ b. length (cond b (made ∷ later) later)) one.0 ∙ rest.0, omega (arith, sums, single, first, more))

-- Counts.

pub count_split : (test : ℕ → Bool) (from m n : ℕ) → count_from test from (m + n) ≡ count_from test from m + count_from test (from + m) n
count_split test from zero n =
    let all : 0 + n ≡ n = omega arith in
    let here : from ≡ from + 0 = omega arith in
    let same : count_from test from n ≡ count_from test (from + 0) n = ap (λ k. count_from test k n) here in
    ap (count_from test from) all ∙ same ∙ omega arith
count_split test from (suc m) n =
    let all : suc m + n ≡ suc (m + n) = omega arith in
    ap (count_from test from) all ∙ of (test from) (count_split test (from + 1) m n) (omega arith)
  where
    of : (b : Bool) → count_from test (from + 1) (m + n) ≡ count_from test (from + 1) m + count_from test (from + 1 + m) n → from + 1 + m ≡ from + suc m
        → length (cond b (from ∷ filter test (range_with_len (from + 1) (m + n))) (filter test (range_with_len (from + 1) (m + n)))) ≡ length (cond b (from ∷ filter test (range_with_len (from + 1) m)) (filter test (range_with_len (from + 1) m))) + count_from test (from + suc m) n
    of true e same = let last = ap (λ k. count_from test k n) same in omega (arith, e, last)
    of false e same = let last = ap (λ k. count_from test k n) same in omega (arith, e, last)

pub count_same : (test other : ℕ → Bool) (from n : ℕ) → ((i : ℕ) → from ≤ i → i < from + n → test i ≡ other i) → count_from test from n ≡ count_from other from n
count_same test other from zero h = refl
count_same test other from (suc n) h =
    of (test from) (other from) (h from (omega arith) (omega arith)) (count_same test other (from + 1) n (λ i above below. h i (omega (arith, above)) (omega (arith, below))))
  where
    of : (a b : Bool) → a ≡ b → count_from test (from + 1) n ≡ count_from other (from + 1) n
        → length (cond a (from ∷ filter test (range_with_len (from + 1) n)) (filter test (range_with_len (from + 1) n))) ≡ length (cond b (from ∷ filter other (range_with_len (from + 1) n)) (filter other (range_with_len (from + 1) n)))
    of true true e rest = omega (arith, rest)
    of false false e rest = rest
    of true false e rest = absurd (cc)
    of false true e rest = absurd (cc)

pub count_none : (test : ℕ → Bool) (from n : ℕ) → ((i : ℕ) → from ≤ i → i < from + n → test i ≡ false) → count_from test from n ≡ 0
count_none test from zero h = refl
count_none test from (suc n) h =
    ap (λ b. length (cond b (from ∷ filter test (range_with_len (from + 1) n)) (filter test (range_with_len (from + 1) n)))) (h from (omega arith) (omega arith))
    ∙ count_none test (from + 1) n (λ i above below. h i (omega (arith, above)) (omega (arith, below)))

pub count_shift : (test : ℕ → Bool) (by from n : ℕ) → count_from test (by + from) n ≡ count_from (λ i. test (by + i)) from n
count_shift test by from zero = refl
count_shift test by from (suc n) = let next : by + from + 1 ≡ by + (from + 1) = omega arith in of (test (by + from)) (ap (λ k. count_from test k n) next ∙ count_shift test by (from + 1) n)
  where
    of : (b : Bool) → count_from test (by + from + 1) n ≡ count_from (λ i. test (by + i)) (from + 1) n
        → length (cond b ((by + from) ∷ filter test (range_with_len (by + from + 1) n)) (filter test (range_with_len (by + from + 1) n)))
        ≡ length (cond b (from ∷ filter (λ i. test (by + i)) (range_with_len (from + 1) n)) (filter (λ i. test (by + i)) (range_with_len (from + 1) n)))
    of true e = omega (arith, e)
    of false e = e

-- the first that passes, and those after it
pub count_first : (test : ℕ → Bool) (from n bit : ℕ) → find test (range_with_len from n) ≡ Some bit → count_from test from n ≡ 1 + count_from test (bit + 1) (from + n - (bit + 1))
count_first test from zero bit e = absurd (cc)
count_first test from (suc n) bit e = of (test from) e (λ later. count_first test (from + 1) n bit later)
  where
    some_is : (one other : ℕ) → Some one ≡ Some other → one ≡ other
    some_is one other e = cc

    of : (b : Bool) → cond b (Some from) (find test (range_with_len (from + 1) n)) ≡ Some bit → (find test (range_with_len (from + 1) n) ≡ Some bit → count_from test (from + 1) n ≡ 1 + count_from test (bit + 1) (from + 1 + n - (bit + 1)))
        → length (cond b (from ∷ filter test (range_with_len (from + 1) n)) (filter test (range_with_len (from + 1) n))) ≡ 1 + count_from test (bit + 1) (from + suc n - (bit + 1))
    of true e later =
        let is : from ≡ bit = some_is from bit e in
        let rest : count_from test (from + 1) n ≡ count_from test (bit + 1) (from + suc n - (bit + 1)) = (let here : from + 1 ≡ bit + 1 = omega (arith, is) in let left : n ≡ from + suc n - (bit + 1) = omega (arith, is) in ap (λ k. count_from test k n) here ∙ ap (count_from test (bit + 1)) left) in
        omega (arith, rest)
    of false e later = let same : from + 1 + n - (bit + 1) ≡ from + suc n - (bit + 1) = omega arith in later e ∙ ap (λ k. 1 + count_from test (bit + 1) k) same

-- The words of the index.

pub none_taken_at : (cands : Cands) → IsTrue (list_all (λ word. word == 0) cands.words) → AreTaken cands 0 0
none_taken_at cands none = record { count = refl; rest = λ i above. zero_at cands.words i none }
  where
    zero_at : (words : List ℕ) (i : ℕ) → IsTrue (list_all (λ word. word == 0) words) → slice_index_or words i 0 ≡ 0
    zero_at [] zero h = refl
    zero_at [] (suc i) h = refl
    zero_at (word ∷ words) zero h = eqb-true word 0 (and_parts (word == 0) (list_all (λ word. word == 0) words) h).0
    zero_at (word ∷ words) (suc i) h = zero_at words i (and_parts (word == 0) (list_all (λ word. word == 0) words) h).1

-- a bit of a word
in_word : (cands : Cands) (word i : ℕ) → i < 64 → is_cand cands (64 * word + i) ≡ has_bit (slice_index_or cands.words word 0) i
in_word cands word i l =
    let quotient : (64 * word + i) / 64 ≡ word = omega (arith, l) in
    let rest : (64 * word + i) % 64 ≡ i = omega (arith, l) in
    ap (λ n. has_bit (slice_index_or cands.words n 0) ((64 * word + i) % 64)) quotient ∙ ap (has_bit (slice_index_or cands.words word 0)) rest

pub taken_more : (cands : Cands) (word found bits : ℕ) → word < length cands.words → AreTaken cands word bits → AreTaken (with_cand_word cands word found) (word + 1) (bits + bits_in found)
unfolding bits_in
taken_more cands word found bits within so =
    let after = with_cand_word cands word found in
    let here : slice_index_or after.words word 0 ≡ found
    = get_or-set_same cands.words word (bit_or (slice_index_or cands.words word 0) found) 0 within ∙ ap (λ old. bit_or old found) (so.rest word (omega arith)) ∙ or_zero_l found in
    let split : 64 * (word + 1) ≡ 64 * word + 64 = omega arith in
    let start : 0 + 64 * word ≡ 64 * word + 0 = omega arith in
    let low : count_from (is_cand after) 0 (64 * word) ≡ count_from (is_cand cands) 0 (64 * word)
    = count_same (is_cand after) (is_cand cands) 0 (64 * word) (λ i above below. let differ : i / 64 ≢ word = (λ e. omega (arith, e, below)) in ap (λ word. has_bit word (i % 64)) (get_or-set_other cands.words word (i / 64) (bit_or (slice_index_or cands.words word 0) found) 0 differ)) in
    let high : count_from (is_cand after) (0 + 64 * word) 64 ≡ bits_in found
    = ap (λ k. count_from (is_cand after) k 64) start ∙ count_shift (is_cand after) (64 * word) 0 64
    ∙ count_same (λ i. is_cand after (64 * word + i)) (has_bit found) 0 64 (λ i above below. in_word after word i (omega (arith, below)) ∙ ap (λ word. has_bit word i) here) in
    let all : count_from (is_cand after) 0 (64 * (word + 1)) ≡ count_from (is_cand after) 0 (64 * word) + count_from (is_cand after) (0 + 64 * word) 64
    = ap (count_from (is_cand after) 0) split ∙ count_split (is_cand after) 0 (64 * word) 64 in
    let before = so.count in
    record {
      count = omega (arith, all, low, high, before);
      rest = λ i above. get_or-set_other cands.words word i (bit_or (slice_index_or cands.words word 0) found) 0 (λ e. omega (arith, e, above)) ∙ so.rest i (omega (arith, above));
    }
