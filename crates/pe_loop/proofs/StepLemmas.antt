-- Steps of a kind, some after others.
use Rattle.std.proofs.Common.{◌≡◌, ℕ, ◌&&◌, ◌||◌, not, Bool, true, false, IsTrue, List, [], ◌∷◌, ◌++◌, map, if◌then◌else◌, refl, ap, ◌∙◌}
use Rattle.std.proofs.lemmas.List.Folds.{list_all-append}
use Rattle.port_call.specs.Core.{Made, CoreStep, TakeIndex}
use Rattle.port_call.specs.Piece.{steps_of}
use Rattle.pe_loop.specs.Steps.{all_are, all_hit, is_hit, is_search}
use Rattle.pe_loop.proofs.CountLemmas.{and_true}

pub are_append : (test : CoreStep → Bool) (early late : List Made) → IsTrue (all_are test early) → IsTrue (all_are test late) → IsTrue (all_are test (early ++ late))
are_append test early late one two = list_all-append (λ (made : Made). test made.step) early late ∙ and_true (all_are test early) (all_are test late) one two

pub hit_append : (early late : List Made) → all_hit (early ++ late) ≡ (all_hit early && all_hit late)
hit_append early late = list_all-append (λ (made : Made). is_hit made.step made.found) early late

-- words of the index
pub takes_search : (part : List Made) (words : List ℕ) → steps_of part ≡ map TakeIndex words → IsTrue (all_are is_search part)
takes_search [] words e = refl
takes_search (made ∷ part) [] e = absurd (cc)
takes_search (made ∷ part) (word ∷ words) e =
    let first : made.step ≡ TakeIndex word = cc in
    let rest : steps_of part ≡ map TakeIndex words = cc in
    and_true (is_search made.step) (all_are is_search part) (ap is_search first) (takes_search part words rest)

-- Tests.

pub and_one : (b : Bool) → (b && true) ≡ b
and_one true = refl
and_one false = refl

pub not_both : (a b : Bool) → (not a || not b) ≡ not (a && b)
not_both true b = refl
not_both false b = refl

pub or_none : (b : Bool) → (b || false) ≡ b
or_none true = refl
or_none false = refl

pub turned : {A : Type 0} (b : Bool) (x y : A) → (if not b then x else y) ≡ (if b then y else x)
turned true x y = refl
turned false x y = refl
