-- Actors' own states that steps leave are valid.
use Rattle.std.proofs.Common.{◌≡◌, ℕ, ◌/◌, ◌%◌, ◌^◌, ◌<◌, ◌==◌, ◌&&◌, ◌⊎◌, inl, inr, min, max, Bool, true, false, cond, nat_eq, IsTrue, List, [], ◌∷◌, length, get_or, set, bit_and, bit_or, Option, Some, None, lit<, refl, sym, ap, subst, ◌∙◌, arith}
use Rattle.std.specs.Int.{bit_at, bit_not, w32}
use Rattle.std.specs.Option.{option_map_or}
use Rattle.std.specs.List.{list_all}
use Rattle.std.proofs.lemmas.Bool.{both_ways, eqb-true, eq-eqb, ltb-true, cases_eq}
use Rattle.std.proofs.lemmas.Grind.{common_steps}
use Rattle.std.proofs.lemmas.List.{get_or-set_same, get_or-set_other, length-set}
use Rattle.std.proofs.lemmas.Nat.{and_le_l, or_lt, pow_pos, pow_below}
use Rattle.std.proofs.lemmas.Nat.Bits.{bit_at_and, bit_at_or, bit_at-lt, bit_at-pow_other, bit_at-zero}
use Rattle.core_words.specs.Words.{has_bit, GuestShape, Key, Private, Spi, Lpi, IsShape, has_interrupt, is_of_vcpu, is_same_key}
use Rattle.core_words.specs.Registers.{Targets}
use Rattle.port_core.specs.declared.owed.Cands.{Cands}
use Rattle.port_core.specs.declared.local.Local.{Local}
use Rattle.port_core.specs.declared.owed.MarkSet.{MarkSet}
use Rattle.port_core.specs.Local.{without_vcpu, without_mark, no_vcpus, with_vcpu, with_all, is_vcpu, settled, with_cand_word, without_cand, owing}
use Rattle.core_words.specs.Place.{index_bits, index_bit}
use Rattle.port_core.specs.Valid.{HasNone, IsIndexWord, AreVcpus, AreCands, AreMarks, IsLocal}
use Rattle.port_core.proofs.AtLemmas.{AreAt}
use Rattle.port_core.proofs.OwnLemmas.{IsTold}

-- Bits.

-- a bit of an intersection is in the first, and one of a union in one of both
pub and_bit : (a b i : ℕ) → IsTrue (has_bit (bit_and a b) i) → IsTrue (has_bit a i)
and_bit a b i h = eq-eqb (bit_at a i) 1 (least (bit_at a i) (bit_at b i) (bit_at-lt a i) (sym (bit_at_and a b i) ∙ eqb-true (bit_at (bit_and a b) i) 1 h))
  where
    least : (x y : ℕ) → x < 2 → min x y ≡ 1 → x ≡ 1
    least x y l e = omega arith

pub or_bit : (a b i : ℕ) → IsTrue (has_bit (bit_or a b) i) → IsTrue (has_bit a i) ⊎ IsTrue (has_bit b i)
or_bit a b i h = most (bit_at a i) (bit_at b i) (sym (bit_at_or a b i) ∙ eqb-true (bit_at (bit_or a b) i) 1 h)
  where
    most : (x y : ℕ) → max x y ≡ 1 → (nat_eq x 1 ≡ true) ⊎ (nat_eq y 1 ≡ true)
    most x y e = elim (cases_eq x 1) [ inl same ↦ inl (eq-eqb x 1 same) | inr differ ↦ inr (eq-eqb y 1 (omega arith)) ]

pub pow_bit : (k i : ℕ) → IsTrue (has_bit (2 ^ k) i) → i ≡ k
pow_bit k i h = elim (cases_eq i k) [ inl same ↦ same | inr differ ↦ (let none : bit_at (2 ^ k) i ≡ 0 = bit_at-pow_other k i differ in absurd (omega (arith, none, eqb-true (bit_at (2 ^ k) i) 1 h))) ]

pub no_bit : (i : ℕ) → IsTrue (has_bit 0 i) → ⊥
no_bit i h = let none : bit_at 0 i ≡ 0 = bit_at-zero i in omega (arith, none, eqb-true (bit_at 0 i) 1 h)

-- An actor that is no vCPU has neither interrupts nor candidates.

pub none_kept : (before after : Local) → after.at ≡ before.at → after.cands.words ≡ before.cands.words → HasNone before → HasNone after
none_kept before after at cands has = record { at = at ∙ has.at; cands = ap (list_all (λ word. word == 0)) cands ∙ has.cands }

pub settled_device : (shape : GuestShape) (actor : ℕ) (key : Key) (cands : Cands) → is_vcpu shape actor ≡ false → (settled shape actor key cands).words ≡ cands.words
settled_device shape actor key cands e = ap (λ b. (cond (b && is_of_vcpu actor key) (without_cand cands (index_bit shape key)) cands).words) e

pub vcpu_only : (shape : GuestShape) (actor : ℕ) (local : Local) → IsTrue (is_vcpu shape actor) → is_vcpu shape actor ≡ false → HasNone local
vcpu_only shape actor local is e = absurd (both_ways (is_vcpu shape actor) e is)

-- What an actor owes.

-- each is a vCPU of the guest that the interrupt can get to, or none
abbrev pub AreTold : GuestShape → Key → List (Option ℕ) → Type 0
AreTold shape key [] = Unit {0}
AreTold shape key (vcpu ∷ vcpus) = IsTold shape key vcpu × AreTold shape key vcpus

with_all_within : (shape : GuestShape) (key : Key) (set : Targets) (vcpus : List (Option ℕ)) → AreVcpus shape set.0 → AreTold shape key vcpus → AreVcpus shape (with_all set vcpus).0
with_all_within shape key set [] h told = h
with_all_within shape key set (None ∷ vcpus) h told = with_all_within shape key set vcpus h told.1
with_all_within shape key set (Some v ∷ vcpus) h told = with_all_within shape key (with_vcpu set v) vcpus (or_lt shape.vcpus set.0 (2 ^ v) h (pow_below v shape.vcpus (ltb-true v shape.vcpus told.0.there))) told.1

with_all_own : (shape : GuestShape) (key : Key) (set : Targets) (vcpus : List (Option ℕ)) → ((v : ℕ) → v < shape.vcpus → IsTrue (has_bit set.0 v) → IsTrue (is_of_vcpu v key)) → AreTold shape key vcpus
    → (v : ℕ) → v < shape.vcpus → IsTrue (has_bit (with_all set vcpus).0 v) → IsTrue (is_of_vcpu v key)
with_all_own shape key set [] own told = own
with_all_own shape key set (None ∷ vcpus) own told = with_all_own shape key set vcpus own told.1
with_all_own shape key set (Some v ∷ vcpus) own told =
    with_all_own shape key (with_vcpu set v) vcpus
    (λ w l h. elim (or_bit set.0 (2 ^ v) w h) [ inl old ↦ own w l old | inr new ↦ subst (λ n. IsTrue (is_of_vcpu n key)) (sym (pow_bit v w new)) told.0.own ]) told.1

-- an actor that owes these kicks besides, and these marks
pub local_owing : (shape : GuestShape) (actor : ℕ) (kicks : List (Option ℕ)) (key : Key) (marks : List (Option ℕ)) (local : Local) → IsTrue (has_interrupt shape key) → AreTold shape key kicks → AreTold shape key marks → IsLocal shape actor local
    → IsLocal shape actor (owing kicks key marks local)
local_owing shape actor kicks key marks local there kicked marked is =
    record {
      points = is.points;
      levels = is.levels;
      at = is.at;
      once = is.once;
      room = is.room;
      owes = with_all_within shape key local.owes kicks is.owes kicked;
      marks_are = with_all_within shape key no_vcpus marks (pow_pos shape.vcpus) marked;
      marks = (there, with_all_own shape key no_vcpus marks (λ v l h. absurd (no_bit v h)) marked);
      cands = is.cands;
      line = is.line;
      shut = is.shut;
      idle = is.idle;
      device = λ e. none_kept local (owing kicks key marks local) refl refl (is.device e);
    }

-- fewer vCPUs, and fewer marks
pub fewer_vcpus : (shape : GuestShape) (set mask : ℕ) → AreVcpus shape set → AreVcpus shape (bit_and set mask)
fewer_vcpus shape set mask h = let less = and_le_l set mask in omega (arith, less, h)

pub fewer_marks : (shape : GuestShape) (key : Option Key) (set mask : ℕ) → AreMarks shape key set → AreMarks shape key (bit_and set mask)
fewer_marks shape None set mask h = let less = and_le_l set mask in omega (arith, less, h)
fewer_marks shape (Some key) set mask h = (h.0, λ v l b. h.1 v l (and_bit set mask v b))

pub marks_done : (shape : GuestShape) (key : Key) (vcpu : ℕ) (marks : MarkSet) → AreVcpus shape marks.vcpus.0 → AreMarks shape marks.key marks.vcpus.0
    → AreVcpus shape (without_mark key vcpu marks).vcpus.0 × AreMarks shape (without_mark key vcpu marks).key (without_mark key vcpu marks).vcpus.0
marks_done shape key vcpu marks within are = of (option_map_or (λ owed. is_same_key owed key) marks.key false)
  where
    of : (b : Bool)
        → AreVcpus shape (cond b (record marks { vcpus = without_vcpu marks.vcpus vcpu }) marks).vcpus.0
        × AreMarks shape (cond b (record marks { vcpus = without_vcpu marks.vcpus vcpu }) marks).key (cond b (record marks { vcpus = without_vcpu marks.vcpus vcpu }) marks).vcpus.0
    of true = (fewer_vcpus shape marks.vcpus.0 (bit_not w32 (2 ^ vcpu)) within, fewer_marks shape marks.key marks.vcpus.0 (bit_not w32 (2 ^ vcpu)) are)
    of false = (within, are)

-- Candidates.

pub zero_index : (shape : GuestShape) (number : ℕ) → IsIndexWord shape number 0
zero_index shape number = record { fits = lit< tt; bits = λ bit l h. absurd (no_bit bit h) }

pub fewer_index : (shape : GuestShape) (number word mask : ℕ) → IsIndexWord shape number word → IsIndexWord shape number (bit_and word mask)
fewer_index shape number word mask is = record { fits = (let less = and_le_l word mask in let fits = is.fits in omega (arith, less, fits)); bits = λ bit l h. is.bits bit l (and_bit word mask bit h) }

pub both_index : (shape : GuestShape) (number a b : ℕ) → IsIndexWord shape number a → IsIndexWord shape number b → IsIndexWord shape number (bit_or a b)
both_index shape number a b is are =
    record { fits = or_lt 64 a b is.fits are.fits; bits = λ bit l h. elim (or_bit a b bit h) [ inl old ↦ is.bits bit l old | inr new ↦ are.bits bit l new ] }

pub one_index : (shape : GuestShape) (bit : ℕ) → bit < index_bits shape → IsIndexWord shape (bit / 64) (2 ^ (bit % 64))
one_index shape bit there =
    record { fits = pow_below (bit % 64) 64 (omega arith); bits = λ i l h. let same : i ≡ bit % 64 = pow_bit (bit % 64) i h in omega (arith, same, there) }

cands_set : (shape : GuestShape) (words : List ℕ) (n word : ℕ) → AreCands shape words → (n < 96 → IsIndexWord shape n word) → AreCands shape (set words n word)
cands_set shape words n word are is =
    record {
      each = length-set words n word ∙ are.each;
      bits = λ number l.
          elim (cases_eq number n) [
            | inl same ↦
                (let here : n < 96 = omega (arith, same, l) in
                let within : n < length words = omega (arith, here, are.each) in
                subst (λ k. IsIndexWord shape k (get_or (set words n word) k 0)) (sym same) (subst (IsIndexWord shape n) (sym (get_or-set_same words n word 0 within)) (is here)))
            | inr differ ↦ subst (IsIndexWord shape number) (sym (get_or-set_other words n number word 0 differ)) (are.bits number l)
          ];
    }

pub cands_settled : (shape : GuestShape) (actor : ℕ) (key : Key) (cands : Cands) → AreCands shape cands.words → AreCands shape (settled shape actor key cands).words
cands_settled shape actor key cands are = of (is_vcpu shape actor && is_of_vcpu actor key)
  where
    of : (b : Bool) → AreCands shape (cond b (without_cand cands (index_bit shape key)) cands).words
    of true = cands_set shape cands.words (index_bit shape key / 64) _ are (λ l. fewer_index shape (index_bit shape key / 64) _ _ (are.bits (index_bit shape key / 64) l))
    of false = are

pub cands_taken : (shape : GuestShape) (cands : Cands) (word found : ℕ) → IsIndexWord shape word found → AreCands shape cands.words → AreCands shape (with_cand_word cands word found).words
cands_taken shape cands word found is are = cands_set shape cands.words word _ are (λ l. both_index shape word (get_or cands.words word 0) found (are.bits word l) is)

-- the bit of an interrupt is one of the index
pub bit_there : (shape : GuestShape) (key : Key) → IsShape shape → IsTrue (has_interrupt shape key) → index_bit shape key < index_bits shape
bit_there shape (Private v i) is there = grind (arith, common_steps)
bit_there shape (Spi i) is there = grind (arith, common_steps)
bit_there shape (Lpi i) is there = grind (arith, common_steps)

-- States with other parts.

pub at_of : (shape : GuestShape) (actor : ℕ) (local : Local) → IsLocal shape actor local → AreAt shape actor local.at
at_of shape actor local is = record { each = is.at; once = is.once; room = is.room }
