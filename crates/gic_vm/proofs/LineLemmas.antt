-- The lines of vCPUs, one after the other.
use Rattle.std.proofs.Common.{◌≡◌, ℕ, ◌+◌, ◌*◌, ◌%◌, ◌^◌, ◌<◌, ◌≤◌, zero, suc, if◌then◌else◌, Bool, true, false, not, List, length, slice_set, refl, sym, ap, ◌∙◌, arith}
use Rattle.std.proofs.Math.Pow.{pow_mono}
use Rattle.std.proofs.lemmas.List.{get_or-set_other}
use Rattle.ideal_guest.proofs.GicBits.SetLemmas.{set_of-below}
use Rattle.gic_line.specs.declared.lines.Lines.{Lines}
use Rattle.gic_vm.specs.Lines.{is_same_lines, lines_in, down, changed_of}
use Rattle.guest_memory.proofs.ListLemmas.{put_next}

-- one more number of a set fits a word
pub sum_fits : (x n : ℕ) → n < 32 → x < 2 ^ n → x + 1 * 2 ^ n % 2 ^ 32 < 2 ^ 32
sum_fits x n h few = let at_most : 2 ^ n ≤ 2 ^ 31 = pow_mono {j = 31} (omega (arith, h)) in omega (arith, at_most)

-- the bit of a number below 32
pub bit_small : (n : ℕ) → n < 32 → 1 * 2 ^ n % 2 ^ 32 ≡ 2 ^ n
bit_small n h = let at_most : 2 ^ n ≤ 2 ^ 31 = pow_mono {j = 31} (omega (arith, h)) in omega (arith, at_most)

next : (n : ℕ) → suc n ≡ n + 1
next n = omega arith

-- the set of those whose lines differ, with the next one, whose lines differ or do not
pub changed_more : (before after : ℕ → Lines) (n set more : ℕ) → n < 32 → set ≡ changed_of before after n → not (is_same_lines (before n) (after n)) ≡ true → more ≡ set + 1 * 2 ^ n % 2 ^ 32 → more ≡ changed_of before after (n + 1)
changed_more before after n set more few is differs one =
    one ∙ ap (λ (bit : ℕ). set + bit) (bit_small n few) ∙ ap (λ (old : ℕ). old + 2 ^ n) is ∙ ap (λ (b : Bool). changed_of before after n + (if b then 2 ^ n else 0)) (sym differs) ∙ ap (changed_of before after) (next n)

pub changed_same : (before after : ℕ → Lines) (n set more : ℕ) → set ≡ changed_of before after n → not (is_same_lines (before n) (after n)) ≡ false → more ≡ set → more ≡ changed_of before after (n + 1)
changed_same before after n set more is same none =
    none ∙ is ∙ no_more (changed_of before after n) ∙ ap (λ (b : Bool). changed_of before after n + (if b then 2 ^ n else 0)) (sym same) ∙ ap (changed_of before after) (next n)
  where
    no_more : (m : ℕ) → m ≡ m + 0
    no_more m = omega arith

-- it fits as many bits
pub changed_below : (before after : ℕ → Lines) (n : ℕ) → changed_of before after n < 2 ^ n
changed_below before after n = set_of-below (λ vcpu. not (is_same_lines (before vcpu) (after vcpu))) n

-- it is the same where the lines before are
pub changed_alike : (one other after : ℕ → Lines) (n : ℕ) → ((i : ℕ) → i < n → one i ≡ other i) → changed_of one after n ≡ changed_of other after n
changed_alike one other after zero alike = refl
changed_alike one other after (suc n) alike =
    ap (λ (set : ℕ). set + (if not (is_same_lines (one n) (after n)) then 2 ^ n else 0)) (changed_alike one other after n (λ i h. alike i (omega (arith, h))))
    ∙ ap (λ (line : Lines). changed_of other after n + (if not (is_same_lines line (after n)) then 2 ^ n else 0)) (alike n (omega arith))

-- whether the lines differ of which one is what the list has and the other what is now
pub differ_is : (lines old : List Lines) (n : ℕ) (now is : Lines) (answer : Bool) → answer ≡ not (is_same_lines (lines_in lines n) now) → lines_in lines n ≡ lines_in old n → now ≡ is → not (is_same_lines (lines_in old n) is) ≡ answer
differ_is lines old n now is answer e before same =
    ap (λ (line : Lines). not (is_same_lines (lines_in old n) line)) (sym same) ∙ ap (λ (line : Lines). not (is_same_lines line now)) (sym before) ∙ sym e

-- one more of a list is as it is to be
pub lines_now : (lines : List Lines) (n : ℕ) (line : Lines) (to_be : ℕ → Lines) → n < length lines → line ≡ to_be n → ((i : ℕ) → i < n → lines_in lines i ≡ to_be i) → (i : ℕ) → i < n + 1 → lines_in (slice_set lines n line) i ≡ to_be i
lines_now lines n line to_be room is below = put_next lines n line down to_be room is below

-- those behind it are as they were
pub lines_before : (lines old : List Lines) (n : ℕ) (line : Lines) → ((i : ℕ) → n ≤ i → lines_in lines i ≡ lines_in old i) → (i : ℕ) → n + 1 ≤ i → lines_in (slice_set lines n line) i ≡ lines_in old i
lines_before lines old n line above i h = get_or-set_other lines n i line down (λ same. omega (arith, h, same)) ∙ above i (omega (arith, h))
