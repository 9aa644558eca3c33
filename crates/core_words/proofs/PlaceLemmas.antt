-- The places of the words of a guest: each word that is there has a place, and stands there.
use Rattle.std.proofs.Common.{◌≡◌, ℕ, Bool, true, false, ◌+◌, ◌-◌, ◌*◌, ◌/◌, ◌%◌, ◌==◌, ◌<◌, ◌≤◌, nat_lt, nat_le, nat_eq, if◌then◌else◌, IsTrue, IfSome, Some, None, refl, sym, ap, ◌∙◌, arith, rules}
use Rattle.std.proofs.lemmas.Grind.{common_steps}
use Rattle.std.proofs.lemmas.Option.{same_Some}
use Rattle.std.proofs.Math.Nat.{div-lt_iff_lt-mul}
use Rattle.std.proofs.lemmas.Nat.{div-mul-add, mod-mul-add, mul-add-lt}
use Rattle.std.proofs.Math.Nat.{add-zero, mul_comm}
use Rattle.std.proofs.lemmas.Bool.{lt-ltb, le-ltb, eq-eqb, ne_eqb, le-leb, cond-true, cond-false, and_parts, ltb-true}
use Rattle.ideal_guest.specs.Words.{GuestShape, IsShape, interrupt_count, place_of}
use Rattle.ideal_guest.specs.Calls.{plain_count}
use Rattle.ideal_guest.proofs.GicOpen.KeyLemmas.{place_within, key_at_place}
use Rattle.core_words.specs.declared.word_id.WordId.{WordId}
use Rattle.core_words.specs.declared.word_id.WordId.TheVariants.{Irq, Vcpu, Index, Queue, Ctlr, Plain, Line}
use Rattle.core_words.specs.Place.{index_words, whole_lines, plain_from, blocks_from, block_words, block_of, line_count, lines_from, word_count, has_word, place_of_word, word_in_block, word_in_blocks, word_in_lines, word_at}

-- whole lines have all the words
pub lines_hold : (n : ℕ) → n ≤ whole_lines n
lines_hold n = omega arith

-- The word at a place.

-- a place that is past the plain words
past_plains : (shape : GuestShape) (p : ℕ) → blocks_from shape ≤ p → word_at shape p ≡ (if nat_lt p (lines_from shape) then word_in_blocks shape (p - blocks_from shape) else word_in_lines (p - lines_from shape))
past_plains shape p past =
    let hold = lines_hold (plain_from shape + plain_count shape) in
    cond-false (nat_lt p (interrupt_count shape)) _ _ (le-ltb p (interrupt_count shape) (omega (arith, hold, past)))
    ∙ cond-false (nat_eq p (interrupt_count shape)) _ _ (ne_eqb p (interrupt_count shape) (λ e. omega (arith, e, hold, past)))
    ∙ cond-false (nat_eq p (interrupt_count shape + 1)) _ _ (ne_eqb p (interrupt_count shape + 1) (λ e. omega (arith, e, hold, past)))
    ∙ cond-false (nat_lt p (plain_from shape + plain_count shape)) _ _ (le-ltb p (plain_from shape + plain_count shape) (omega (arith, hold, past)))
    ∙ cond-false (nat_lt p (blocks_from shape)) _ _ (le-ltb p (blocks_from shape) past)

-- a place in a block of a vCPU comes before the lines
in_blocks : (shape : GuestShape) (vcpu within : ℕ) → vcpu < shape.vcpus → within < block_words shape → block_of shape vcpu + within < lines_from shape
in_blocks shape vcpu within there h =
    let lt = mul-add-lt vcpu (block_words shape) within shape.vcpus there h in
    omega (arith, lt, mul_comm (block_words shape) shape.vcpus)

-- a place among the blocks
at_blocks : (shape : GuestShape) (vcpu within : ℕ) → vcpu < shape.vcpus → within < block_words shape → word_at shape (block_of shape vcpu + within) ≡ word_in_block shape vcpu within
at_blocks shape vcpu within there h =
    let size = block_words shape in
    let p = block_of shape vcpu + within in
    let back : p - blocks_from shape ≡ vcpu * size + within = omega arith in
    past_plains shape p (omega arith)
    ∙ cond-true (nat_lt p (lines_from shape)) _ _ (lt-ltb p (lines_from shape) (in_blocks shape vcpu within there h))
    ∙ ap (word_in_blocks shape) back
    ∙ ap (λ v. word_in_block shape v ((vcpu * size + within) % size)) (div-mul-add vcpu size within h)
    ∙ ap (word_in_block shape vcpu) (mod-mul-add vcpu size within h)

-- a place among the lines
at_lines : (shape : GuestShape) (line : ℕ) → word_at shape (lines_from shape + line * 8) ≡ Some (Line line)
at_lines shape line =
    let p = lines_from shape + line * 8 in
    let back : p - lines_from shape ≡ line * 8 = omega arith in
    past_plains shape p (omega arith)
    ∙ cond-false (nat_lt p (lines_from shape)) _ _ (le-ltb p (lines_from shape) (omega arith))
    ∙ ap word_in_lines back
    ∙ cond-true (nat_eq (line * 8 % 8) 0) _ _ (eq-eqb (line * 8 % 8) 0 (omega arith))
    ∙ ap (λ n. Some (Line n)) (omega arith)

-- a word of an index in its vCPU's block
index_there : (shape : GuestShape) (vcpu word : ℕ) → word < index_words shape → word_in_block shape vcpu (1 + word) ≡ Some (Index vcpu word)
index_there shape vcpu word small =
    cond-false (nat_eq (1 + word) 0) _ _ (ne_eqb (1 + word) 0 (λ e. omega (arith, e)))
    ∙ cond-true (nat_le (1 + word) (index_words shape)) _ _ (le-leb (1 + word) (index_words shape) (omega (arith, small)))
    ∙ ap (λ n. Some (Index vcpu n)) (omega arith)

pub word_at_place : (shape : GuestShape) (word : WordId) → IsShape shape → IsTrue (has_word shape word) → word_at shape (place_of_word shape word) ≡ Some word
word_at_place shape (Irq key) is there =
    cond-true (nat_lt (place_of shape key) (interrupt_count shape)) _ _ (lt-ltb (place_of shape key) (interrupt_count shape) (place_within shape key is there)) ∙ ap (λ k. Some (Irq k)) (key_at_place shape key is there)
word_at_place shape Queue is there = grind (arith, common_steps)
word_at_place shape Ctlr is there = grind (arith, common_steps)
word_at_place shape (Plain index) is there = grind (arith, common_steps)
word_at_place shape (Vcpu vcpu) is there = ap (word_at shape) (sym (add-zero (block_of shape vcpu))) ∙ at_blocks shape vcpu 0 (ltb-true vcpu shape.vcpus there) (omega (arith, lines_hold (1 + index_words shape)))
word_at_place shape (Index vcpu word) is there =
    let both = and_parts (nat_lt vcpu shape.vcpus) (nat_lt word (index_words shape)) there in
    let small : word < index_words shape = ltb-true word (index_words shape) both.1 in
    at_blocks shape vcpu (1 + word) (ltb-true vcpu shape.vcpus both.0) (omega (arith, small, lines_hold (1 + index_words shape))) ∙ index_there shape vcpu word small
word_at_place shape (Line line) is there = at_lines shape line

-- A word that is there has a place below the number of places.

before_blocks : (shape : GuestShape) (place : ℕ) → place < plain_from shape + plain_count shape → place < word_count shape
before_blocks shape place h = let hold = lines_hold (plain_from shape + plain_count shape) in omega (arith, hold)

pub place_of_word_within : (shape : GuestShape) (word : WordId) → IsShape shape → IsTrue (has_word shape word) → place_of_word shape word < word_count shape
place_of_word_within shape (Irq key) is there = let lt = place_within shape key is there in before_blocks shape (place_of shape key) (omega (arith, lt))
place_of_word_within shape Queue is there = before_blocks shape (interrupt_count shape) (omega arith)
place_of_word_within shape Ctlr is there = before_blocks shape (interrupt_count shape + 1) (omega arith)
place_of_word_within shape (Plain index) is there = let lt = ltb-true index (plain_count shape) there in before_blocks shape (plain_from shape + index) (omega (arith, lt))
place_of_word_within shape (Vcpu vcpu) is there =
    let lt = in_blocks shape vcpu 0 (ltb-true vcpu shape.vcpus there) (omega (arith, lines_hold (1 + index_words shape))) in omega (arith, lt)
place_of_word_within shape (Index vcpu word) is there =
    let both = and_parts (nat_lt vcpu shape.vcpus) (nat_lt word (index_words shape)) there in
    let small : word < index_words shape = ltb-true word (index_words shape) both.1 in
    let lt = in_blocks shape vcpu (1 + word) (ltb-true vcpu shape.vcpus both.0) (omega (arith, small, lines_hold (1 + index_words shape))) in
    omega (arith, lt)
place_of_word_within shape (Line line) is there = let lt = ltb-true line (line_count shape) there in omega (arith, lt)

-- two words at one place are one
pub word_same : (shape : GuestShape) (v w : WordId) → IsShape shape → IsTrue (has_word shape v) → IsTrue (has_word shape w) → place_of_word shape v ≡ place_of_word shape w → v ≡ w
word_same shape v w is h i e = same_Some v w (sym (word_at_place shape v is h) ∙ ap (word_at shape) e ∙ word_at_place shape w is i)

-- the word at a place among the blocks is one of the guest's
pub blocks_there : (shape : GuestShape) (place : ℕ) → IsShape shape → place < shape.vcpus * block_words shape → IfSome (word_in_blocks shape place) (λ word. IsTrue (has_word shape word))
blocks_there shape place is within = in_block (place / block_words shape) (place % block_words shape) few
  where
    few : place / block_words shape < shape.vcpus
    few = let some : 0 < block_words shape = omega arith in (div-lt_iff_lt-mul some).1 within

    in_block : (vcpu inner : ℕ) → vcpu < shape.vcpus → IfSome (word_in_block shape vcpu inner) (λ word. IsTrue (has_word shape word))
    in_block vcpu inner h = by_zero (inner == 0) refl
      where
        by_index : (b : Bool) → nat_le inner (index_words shape) ≡ b → (inner == 0) ≡ false → IfSome (if b then Some (Index vcpu (inner - 1)) else None) (λ word. IsTrue (has_word shape word))
        by_index true l z = search rules
        by_index false l z = search rules

        by_zero : (b : Bool) → (inner == 0) ≡ b → IfSome (if b then Some (Vcpu vcpu) else (if nat_le inner (index_words shape) then Some (Index vcpu (inner - 1)) else None)) (λ word. IsTrue (has_word shape word))
        by_zero true z = search rules
        by_zero false z = by_index (nat_le inner (index_words shape)) refl z

-- and so the word at a place among the lines
pub lines_there : (shape : GuestShape) (place : ℕ) → place < line_count shape * 8 → IfSome (word_in_lines place) (λ word. IsTrue (has_word shape word))
lines_there shape place within = of (place % 8 == 0)
  where
    of : (b : Bool) → IfSome (if b then Some (Line (place / 8)) else None) (λ word. IsTrue (has_word shape word))
    of true = lt-ltb (place / 8) (line_count shape) (omega (arith, within))
    of false = tt
