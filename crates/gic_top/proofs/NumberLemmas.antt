-- The numbers that words write.
use Rattle.std.proofs.Common.{◌≡◌, ℕ, zero, suc, ◌^◌, ◌<◌, ◌≤◌, ◌&&◌, nat_le, lit<, List, length, get_or, Bool, true, false, if◌then◌else◌, decimal, Some, None, Result, Ok, Err, inl, inr, refl, sym, ap, subst, arith}
use Rattle.std.specs.Bool.{IsTrue, then_some}
use Rattle.std.specs.Str.{bytes_eq}
use Rattle.std.specs.Str.Parse.{AllDigits, digits_value, ParsesUnsigned}
use Rattle.std.specs.Int.{IsInRange}
use Rattle.std.proofs.lemmas.Bool.{and_parts, cond-false, false_from_ne_true}
use Rattle.std.proofs.lemmas.Bool.Decides.{nat_tests}
use Rattle.std.proofs.lemmas.Slice.Eq.{bytes_eq-Decides}
use Rattle.std.proofs.lemmas.Fmt.{decimal_is_IsNumeral, decimal_digit, decimal_nonempty, first_decimal, decimal-digits_value, parse-decimal}
use Rattle.std.proofs.lemmas.Str.Parse.{IsNumeralModel, numerals_by_value, tells_digits, digit_at, parse_plain}
use Rattle.gic_top.specs.Command.{number_in, IsPadded}

own : IsNumeralModel (AllDigits 10) (digits_value 10)
own = numerals_by_value (AllDigits 10) tells_digits

-- what passes the test of a number is written as it
writes : (most number : ℕ) (word : List ℕ) → (nat_le number most && bytes_eq word (decimal number)) ≡ true → (number ≤ most) × (word ≡ decimal number)
writes most number word passes =
    let parts = and_parts (nat_le number most) (bytes_eq word (decimal number)) passes in
    (grind (arith, nat_tests), grind (arith, bytes_eq-Decides))

-- a word that no number is written as
unwritten : (most : ℕ) (word : List ℕ) → ((number : ℕ) → number ≤ most → word ≡ decimal number → ⊥) → number_in most word ≡ None
unwritten most word none =
    cond-false (nat_le (digits_value 10 word) most && bytes_eq word (decimal (digits_value 10 word))) (Some (digits_value 10 word)) None
    (false_from_ne_true _ (λ passes. let written = writes most (digits_value 10 word) word passes in none (digits_value 10 word) written.0 written.1))

-- no number is written with a plus or with zeros before it
not_padded : (number : ℕ) (word : List ℕ) → number < 2 ^ 64 → word ≡ decimal number → IsPadded word → ⊥
not_padded number word fits is (inl plus) =
    let first : IsInRange 48 57 (get_or (decimal number) 0 0) = digit_at (decimal number) 0 (decimal_is_IsNumeral number fits).0.1 (decimal_nonempty number fits) in
    let same : get_or (decimal number) 0 0 ≡ 43 = rw is at plus in
    omega (arith, first, same)
not_padded zero word fits is (inr more) = omega (arith, ap length is, ap length (decimal_digit 0 (lit< tt)), more.1)
not_padded (suc number) word fits is (inr more) =
    let first = first_decimal (suc number) (omega arith) fits in
    let same : get_or (decimal (suc number)) 0 0 ≡ 48 = rw is at more.0 in
    omega (arith, first, same)

pub padded : (most : ℕ) (word : List ℕ) → most < 2 ^ 64 → IsPadded word → None ≡ number_in most word
padded most word fits begins = sym (unwritten most word (λ number within is. not_padded number word (omega arith) is begins))

pub plain : (word bytes : List ℕ) → bytes ≡ word → (IsPadded bytes → IsTrue false) → IsPadded word → ⊥
plain word bytes same none begins = let never : false ≡ true = none (subst IsPadded (sym same) begins) in cc

pub refused : (most : ℕ) (word : List ℕ) → most < 2 ^ 64 → ParsesUnsigned {E = ℕ} 64 10 word (Err 0) → None ≡ number_in most word
refused most word fits parse =
    sym
    (unwritten most word
    (λ number within is. let both : ◌≡◌ {A = Result ℕ ℕ} (Err 0) (Ok number) = parse-decimal 64 number word (Err 0) (omega arith) (omega arith) is parse in absurd cc))

-- where the word is written as the number, the test of the bound alone is left
only_most : (most number : ℕ) (b : Bool) → b ≡ true → then_some (nat_le number most) number ≡ (if nat_le number most && b then Some number else None)
only_most most number b holds = subst (λ (c : Bool). then_some (nat_le number most) number ≡ (if nat_le number most && c then Some number else None)) (sym holds) (and_true (nat_le number most))
  where
    and_true : (a : Bool) → then_some a number ≡ (if a && true then Some number else None)
    and_true true = refl
    and_true false = refl

pub read : (most number : ℕ) (word : List ℕ) → (IsPadded word → ⊥) → ParsesUnsigned {E = ℕ} 64 10 word (Ok number) → then_some (nat_le number most) number ≡ number_in most word
read most number word plain parse =
    let reads = parse_plain own {E = ℕ} 64 word (Ok number) parse (λ plus. plain (inl plus)) in
    let value = digits_value 10 word in
    let short : get_or word 0 0 ≡ 48 → length word ≡ 1 = λ first. one_long word reads.0.1 (λ longer. plain (inr (first, longer))) in
    let same : decimal value ≡ word = decimal-digits_value own word reads.0.0 reads.0.1 short reads.0.2 in
    let written : bytes_eq word (decimal value) ≡ true = (let back = sym same in grind (arith, bytes_eq-Decides)) in
    subst (λ (n : ℕ). then_some (nat_le n most) n ≡ number_in most word) (sym reads.1) (only_most most value (bytes_eq word (decimal value)) written)
  where
    one_long : (w : List ℕ) → 0 < length w → (1 < length w → ⊥) → length w ≡ 1
    one_long w some not_more = grind arith
