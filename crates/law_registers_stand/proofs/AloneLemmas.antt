-- Registers with one interrupt in list register 0, or none.
use Rattle.std.proofs.Common.{◌≡◌, ℕ, zero, suc, ◌<◌, ◌≤◌, true, false, ◌∷◌, get_or, length, replicate, Option, Some, None, refl, sym, ap, subst, ◌∙◌, arith}
use Rattle.std.proofs.lemmas.List.{get_or-take, get_or-replicate, length-take}
use Rattle.law_core_is_history.specs.Lists.{HoldCpu, Seen, seen_in, listed_of, is_live, packed, Choice, word_of}
use Rattle.law_core_is_history.proofs.GicIcv.PlaceLemmas.{not_live}
use Rattle.law_core_is_history.specs.Registers.{CpuRec}
use Rattle.law_core_is_history.specs.Core.{alone}
use Rattle.law_registers_stand.proofs.ShowLemmas.{lives, Shows}

pub alone_holds : (choice : Option Choice) (cpu : CpuRec) (n : ℕ) → HoldCpu (alone choice cpu n) cpu
alone_holds choice cpu n = record { enabled = refl; vmcr = refl; ap0 = refl; ap1 = refl }

module _ (choice : Option Choice) (cpu : CpuRec) (n : ℕ) (some : 1 ≤ n) (few : n ≤ 16) (P : Seen → Type 0) (only : (c : Choice) → choice ≡ Some c → P (seen_in (packed c.entry))) (whole : (s : Seen) → lives s ≡ true → P s → (c : Choice) × (choice ≡ Some c) × (seen_in (packed c.entry) ≡ s)) where
  long : length (listed_of (alone choice cpu n)) ≡ n
  long = let cut = length-take n (word_of choice ∷ replicate 15 0) in omega (arith, cut, few)

  word_at : (place : ℕ) → place < length (listed_of (alone choice cpu n)) → get_or (listed_of (alone choice cpu n)) place 0 ≡ get_or (word_of choice ∷ replicate 15 0) place 0
  word_at place within = get_or-take n (word_of choice ∷ replicate 15 0) place 0 (omega (arith, within, long))

  later_zero : (place : ℕ) → suc place < length (listed_of (alone choice cpu n)) → get_or (listed_of (alone choice cpu n)) (suc place) 0 ≡ 0
  later_zero place within = word_at (suc place) within ∙ get_or-replicate 15 place 0 0 (omega (arith, within, long, few))

  dead : (place id : ℕ) → suc place < length (listed_of (alone choice cpu n)) → is_live id (seen_in (get_or (listed_of (alone choice cpu n)) (suc place) 0)) ≡ true → ⊥
  dead place id within live = let no : true ≡ false = sym live ∙ ap (λ word. is_live id (seen_in word)) (later_zero place within) ∙ not_live id in cc

  first : (id : ℕ) (o : Option Choice) → choice ≡ o → is_live id (seen_in (word_of o)) ≡ true → P (seen_in (word_of o))
  first id None e live = absurd (let no : true ≡ false = sym live ∙ not_live id in cc)
  first id (Some c) e live = only c e

  at : (place id : ℕ) → place < length (listed_of (alone choice cpu n)) → is_live id (seen_in (get_or (listed_of (alone choice cpu n)) place 0)) ≡ true → P (seen_in (get_or (listed_of (alone choice cpu n)) place 0))
  at zero id within live = subst (λ word. P (seen_in word)) (sym (word_at 0 within)) (first id choice refl (ap (λ word. is_live id (seen_in word)) (sym (word_at 0 within)) ∙ live))
  at (suc place) id within live = absurd (dead place id within live)

  both : (id j k : ℕ) → j < length (listed_of (alone choice cpu n)) → k < length (listed_of (alone choice cpu n)) → is_live id (seen_in (get_or (listed_of (alone choice cpu n)) j 0)) ≡ true → is_live id (seen_in (get_or (listed_of (alone choice cpu n)) k 0)) ≡ true → j ≡ k
  both id zero zero l m f g = refl
  both id zero (suc k) l m f g = absurd (dead k id m g)
  both id (suc j) k l m f g = absurd (dead j id l f)

  pub alone_shows : Shows (listed_of (alone choice cpu n)) P
  alone_shows = record {
    only = at;
    whole = λ s h p.
        let c = whole s h p in
        let within : 0 < length (listed_of (alone choice cpu n)) = omega (arith, long, some) in
        (0, within, ap seen_in (word_at 0 within) ∙ ap (λ o. seen_in (word_of o)) c.1 ∙ c.2);
    once = both;
  }
