-- The doublewords of a command, as they were read.
use Rattle.std.proofs.Common.{◌≡◌, ◌↔◌, ℕ, IsTrue, Bool, true, false, List, [], ◌∷◌, ◌++◌, map, All, Some, None, sym, ap, ◌∙◌, append_assoc, append-nil}
use Rattle.std.specs.Option.{option_map_or}
use Rattle.std.proofs.lemmas.List.{map-append}
use Rattle.std.proofs.lemmas.List.Elements.{All-nil, All-cons, All-head, All-tail, All-append}
use Rattle.history_commands.specs.Words.{GuestShape}
use Rattle.history_commands.specs.Registers.{Part as MemoryPart, part_of}
use Rattle.history_commands.specs.Calls.{Happened, Place, Ram, memory_places}
use Rattle.history_commands.specs.GicCall.declared.event.Place.TheVariants.{Word}

-- the place of an access of memory
pub place_is : (shape : GuestShape) (address size : ℕ) (part : MemoryPart) → part_of address size shape.ram ≡ Some part → Word (Ram part.index) ∷ [] ≡ memory_places shape address size
place_is shape address size part is = sym (ap (λ o. option_map_or (λ (part : MemoryPart). Word (Ram part.index) ∷ []) o []) is)

pub no_place : (shape : GuestShape) (address size : ℕ) → part_of address size shape.ram ≡ None → memory_places shape address size ≡ []
no_place shape address size is = ap (λ o. option_map_or (λ (part : MemoryPart). Word (Ram part.index) ∷ []) o []) is

-- All of two lists.

pub all_first : {X : Type 0} (P : X → Type 0) (xs ys : List X) → All P (xs ++ ys) → All P xs
all_first P [] ys all = All-nil P
all_first P (x ∷ xs) ys all = All-cons P x xs (All-head P x (xs ++ ys) all) (all_first P xs ys (All-tail P x (xs ++ ys) all))

pub all_second : {X : Type 0} (P : X → Type 0) (xs ys : List X) → All P (xs ++ ys) → All P ys
all_second P [] ys all = all
all_second P (x ∷ xs) ys all = all_second P xs ys (All-tail P x (xs ++ ys) all)

-- one test of two lists, where the first holds or does not
pub both_hold : {X : Type 0} (P : X → Type 0) (xs ys : List X) (a b : Bool) → IsTrue a ↔ All P xs → IsTrue b ↔ All P ys → a ≡ true → IsTrue b ↔ All P (xs ++ ys)
both_hold P xs ys a b first second is = (λ h. All-append P xs ys (first.0 is) (second.0 h), λ all. second.1 (all_second P xs ys all))

pub first_fails : {X : Type 0} (P : X → Type 0) (xs ys : List X) (a b : Bool) → IsTrue a ↔ All P xs → a ≡ false → b ≡ false → IsTrue b ↔ All P (xs ++ ys)
first_fails P xs ys a b first is none = (λ h. absurd (cc), λ all. let h : IsTrue a = first.1 (all_first P xs ys all) in absurd (cc))

-- two and two are four
pub four : {X : Type 0} (p q r s : List X) → (p ++ q) ++ (r ++ s) ≡ p ++ (q ++ (r ++ (s ++ [])))
four p q r s = append_assoc p q (r ++ s) ∙ ap (λ x. p ++ (q ++ (r ++ x))) (sym (append-nil s))

-- lists that grew four times
pub pushed_four : (f : Place → Happened) (p q r s : List Place) (w x y z : List Happened) → w ≡ [] ++ map f p → x ≡ w ++ map f q → y ≡ x ++ map f r → z ≡ y ++ map f s → z ≡ map f (p ++ (q ++ (r ++ (s ++ []))))
pushed_four f p q r s w x y z a b c d =
    d ∙ ap (λ l. l ++ map f s) (c ∙ ap (λ l. l ++ map f r) (b ∙ ap (λ l. l ++ map f q) a ∙ sym (map-append f p q)) ∙ sym (map-append f (p ++ q) r)) ∙ sym (map-append f ((p ++ q) ++ r) s)
    ∙ ap (map f) (append_assoc (p ++ q) r s ∙ four p q r s)
