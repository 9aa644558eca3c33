-- Digits that are read one after the other, in 32 bits.
use Rattle.std.proofs.Common.{◌≡◌, ℕ, ◌+◌, ◌*◌, ◌<◌, List, [], ◌∷◌, length, drop, get_or, Bool, true, false, cond, min, Option, Some, None, option_map, option_and_then, refl, ap, sym, ◌∙◌, add-one, drop-cons, arith}
use Rattle.scn_read.specs.Narrow.{narrowed}
use Rattle.trace_read.specs.Name.{digit, digits}

-- what digits spell after others, in 32 bits
abbrev pub digits_from : ℕ → List ℕ → Option ℕ
digits_from high bytes = option_map narrowed (digits high bytes)

-- the greatest number stands for all that are greater, also where a digit comes behind it
pub narrowed_twice : (n : ℕ) → narrowed (narrowed n) ≡ narrowed n
narrowed_twice n = omega arith

step : (high d : ℕ) → narrowed (10 * narrowed high + d) ≡ narrowed (10 * high + d)
step high d = omega arith

narrowed_after : (high : ℕ) (cs : List ℕ) → ((n : ℕ) → digits_from (narrowed n) cs ≡ digits_from n cs) → (d : Option ℕ)
    → option_map narrowed (option_and_then (λ d. digits (10 * narrowed high + d) cs) d) ≡ option_map narrowed (option_and_then (λ d. digits (10 * high + d) cs) d)
narrowed_after high cs same None = refl
narrowed_after high cs same (Some d) = sym (same (10 * narrowed high + d)) ∙ ap (λ n. digits_from n cs) (step high d) ∙ same (10 * high + d)

narrowed_first : (high : ℕ) (bytes : List ℕ) → digits_from (narrowed high) bytes ≡ digits_from high bytes
narrowed_first high [] = ap Some (narrowed_twice high)
narrowed_first high (c ∷ cs) = narrowed_after high cs (λ n. narrowed_first n cs) (digit c)

-- a digit, and those behind it
pub digits_more : (number after : ℕ) (bytes : List ℕ) (i d : ℕ) (whole : Option ℕ) → i < length bytes → digit (get_or bytes i 0) ≡ Some d → after ≡ narrowed (10 * number + d)
    → digits_from number (drop i bytes) ≡ whole → digits_from after (drop (i + 1) bytes) ≡ whole
digits_more number after bytes i d whole within found now so_far =
    let item : drop i bytes ≡ get_or bytes i 0 ∷ drop (i + 1) bytes = rw add-one (drop-cons bytes i 0 within) in
    let behind : digits_from number (get_or bytes i 0 ∷ drop (i + 1) bytes) ≡ whole = rw item at so_far in
    let read : digits_from (10 * number + d) (drop (i + 1) bytes) ≡ whole = rw found at behind in
    rw now (narrowed_first (10 * number + d) (drop (i + 1) bytes) ∙ read)
