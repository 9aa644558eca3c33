-- One more register and its bit.
use Rattle.std.proofs.Common.{◌≡◌, ◌≤◌, ◌<◌, ◌+◌, ◌*◌, ◌^◌, ◌%◌, ℕ, suc, Bool, true, false, List, ◌∷◌, length, drop, get_or, sym, ap, ◌∙◌, subst, arith}
use Rattle.std.proofs.Math.Seq.{drop-cons}
use Rattle.std.proofs.Math.Pow.{pow_mono}
use Rattle.std.proofs.Math.Nat.{pow-suc}
use Rattle.floor_words.specs.Words.{bit_of}
use Rattle.gic_lr.specs.Status.{bits_where}

-- the bits of the registers before a place, with those from it on, give the bits of all
pub record Kept (is_so : ℕ → Bool) (words : List ℕ) (place bits : ℕ) : Type 0 where
  pub read : bits + 2 ^ place * bits_where is_so (drop place words) ≡ bits_where is_so words
  pub few : bits < 2 ^ place

-- the weight of a place
twice : (place : ℕ) → 2 ^ (place + 1) ≡ 2 ^ place * 2
twice place = ap (λ n. 2 ^ n) (omega arith) ∙ pow-suc 2 place

-- it fits the status register
fits : (place : ℕ) → place < 16 → 1 * 2 ^ place % 65536 ≡ 2 ^ place
fits place h = let at_most : 2 ^ place ≤ 2 ^ 15 = pow_mono {j = 15} (omega (arith, h)) in omega (arith, at_most)

joined : (p rest bits : ℕ) (so : Bool) → bits + bit_of so * p + p * 2 * rest ≡ bits + p * (bit_of so + 2 * rest)
joined p rest bits true = omega arith
joined p rest bits false = omega arith

below : (p bits : ℕ) (so : Bool) → bits < p → bits + bit_of so * p < p * 2
below p bits true h = omega (arith, h)
below p bits false h = omega (arith, h)

kept_more : (is_so : ℕ → Bool) (words : List ℕ) (place bits after : ℕ) → place < length words → Kept is_so words place bits → after ≡ bits + bit_of (is_so (get_or words place 0)) * 2 ^ place → Kept is_so words (place + 1) after
kept_more is_so words place bits after within kept is =
    let p = 2 ^ place in
    let so = is_so (get_or words place 0) in
    let rest = bits_where is_so (drop (place + 1) words) in
    let next : suc place ≡ place + 1 = omega arith in
    let cut : drop place words ≡ get_or words place 0 ∷ drop (place + 1) words = drop-cons words place 0 within ∙ ap (λ n. get_or words place 0 ∷ drop n words) next in
    subst (Kept is_so words (place + 1)) (sym is)
    (record {
      read =
          ap (λ n. bits + bit_of so * p + n * rest) (twice place)
          ∙ joined p rest bits so
          ∙ ap (λ left. bits + p * bits_where is_so left) (sym cut)
          ∙ kept.read;
      few = subst (λ n. bits + bit_of so * p < n) (sym (twice place)) (below p bits so kept.few);
    })

pub kept_set : (is_so : ℕ → Bool) (words : List ℕ) (place bits after : ℕ) → length words ≤ 16 → place < length words → Kept is_so words place bits → is_so (get_or words place 0) ≡ true → after ≡ bits + 1 * 2 ^ place % 65536 → Kept is_so words (place + 1) after
kept_set is_so words place bits after few within kept so is =
    kept_more is_so words place bits after within kept
    (is ∙ ap (λ n. bits + n) (fits place (omega (arith, few, within))) ∙ set (is_so (get_or words place 0)) so)
  where
    set : (b : Bool) → b ≡ true → bits + 2 ^ place ≡ bits + bit_of b * 2 ^ place
    set true e = omega arith
    set false e = absurd (cc)

pub kept_clear : (is_so : ℕ → Bool) (words : List ℕ) (place bits after : ℕ) → place < length words → Kept is_so words place bits → is_so (get_or words place 0) ≡ false → after ≡ bits → Kept is_so words (place + 1) after
kept_clear is_so words place bits after within kept so is = kept_more is_so words place bits after within kept (is ∙ clear (is_so (get_or words place 0)) so)
  where
    clear : (b : Bool) → b ≡ false → bits ≡ bits + bit_of b * 2 ^ place
    clear false e = omega arith
    clear true e = absurd (cc)
