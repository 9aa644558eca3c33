-- The numbers of a list, one after the other, and the registers that they are.
use Rattle.std.proofs.Common.{◌≡◌, ℕ, zero, suc, ◌+◌, ◌-◌, ◌<◌, ◌≤◌, ◌==◌, List, [], ◌∷◌, ◌++◌, map, take, drop, length, get_or, Bool, true, if◌then◌else◌, Option, Some, None, option_map, option_and_then, refl, sym, ap, ◌∙◌, arith}
use Rattle.std.proofs.lemmas.Grind.{common_steps}
use Rattle.std.proofs.lemmas.List.{append-nil, append_assoc, drop_all, drop_more}
use Rattle.serde_json.specs.View.{view}
use Rattle.serde_json.specs.declared.value.Value.{Value}
use Rattle.gic_vm.specs.GuestMemory.declared.base.Bases.{Bases}
use Rattle.image_read.specs.GicResume.ScnRead.JsonField.Field.{number_of}
use Rattle.vm_saved.specs.Reading.{numbers_in, bases_of}

-- those from a place on are the one of the place and those after it
split : (values : List Value) (i : ℕ) (value : Value) → i < length values → value ≡ get_or values i value
    → numbers_in (map view (drop i values)) ≡ option_and_then (λ n. option_map (λ ns. n ∷ ns) (numbers_in (map view (drop (i + 1) values)))) (number_of (view value))
split values i value there is = ap (λ rest. numbers_in (map view rest)) (drop_more values i value there ∙ ap (λ first. first ∷ drop (i + 1) values) (sym is))

pub numbers_first : (whole : Option (List ℕ)) → whole ≡ option_map (λ rest. [] ++ rest) whole
numbers_first None = refl
numbers_first (Some ns) = refl

joined : (before : List ℕ) (n : ℕ) (rest : Option (List ℕ)) → option_map (λ ns. before ++ ns) (option_map (λ ns. n ∷ ns) rest) ≡ option_map (λ ns. (before ++ n ∷ []) ++ ns) rest
joined before n None = refl
joined before n (Some ns) = ap Some (sym (append_assoc before (n ∷ []) ns))

pub numbers_more : (before : List ℕ) (values : List Value) (i : ℕ) (value : Value) (n : ℕ) (whole : Option (List ℕ)) → i < length values → value ≡ get_or values i value → number_of (view value) ≡ Some n
    → whole ≡ option_map (λ ns. before ++ ns) (numbers_in (map view (drop i values))) → whole ≡ option_map (λ ns. (before ++ n ∷ []) ++ ns) (numbers_in (map view (drop (i + 1) values)))
numbers_more before values i value n whole there is found so_far =
    let rest = numbers_in (map view (drop (i + 1) values)) in
    so_far
    ∙ ap (option_map (λ ns. before ++ ns)) (split values i value there is ∙ ap (option_and_then (λ n. option_map (λ ns. n ∷ ns) rest)) found)
    ∙ joined before n rest

pub numbers_none : (before : List ℕ) (values : List Value) (i : ℕ) (value : Value) (whole : Option (List ℕ)) → i < length values → value ≡ get_or values i value → number_of (view value) ≡ None
    → whole ≡ option_map (λ ns. before ++ ns) (numbers_in (map view (drop i values))) → whole ≡ None
numbers_none before values i value whole there is none so_far =
    let rest = numbers_in (map view (drop (i + 1) values)) in
    so_far ∙ ap (option_map (λ ns. before ++ ns)) (split values i value there is ∙ ap (option_and_then (λ n. option_map (λ ns. n ∷ ns) rest)) none)

pub numbers_done : (before : List ℕ) (values : List Value) (i : ℕ) (whole : Option (List ℕ)) → length values ≤ i → whole ≡ option_map (λ ns. before ++ ns) (numbers_in (map view (drop i values))) → whole ≡ Some before
numbers_done before values i whole past so_far =
    so_far ∙ ap (λ rest. option_map (λ ns. before ++ ns) (numbers_in (map view rest))) (drop_all i values past) ∙ ap Some (append-nil before)

-- ---- registers

pub same_number : (n m : ℕ) → n ≡ m → (n == m) ≡ true
same_number n m e = grind (arith, common_steps, e)

abbrev pub as_bases : ℕ → List ℕ → List ℕ → Bases
as_bases queue properties pending = record { queue = queue; properties = properties; pending = pending }

take_twice : (n m : ℕ) (xs : List ℕ) → n ≤ m → take n (take m xs) ≡ take n xs
take_twice zero m xs few = refl
take_twice (suc n) zero xs few = absurd (omega (arith, few))
take_twice (suc n) (suc m) [] few = refl
take_twice (suc n) (suc m) (x ∷ xs) few = ap (λ rest. x ∷ rest) (take_twice n m xs (omega (arith, few)))

-- they are these numbers
pub registers_are : (numbers : List ℕ) (queue : ℕ) (properties pending : List ℕ) → length numbers ≡ 65 → queue ≡ get_or numbers 0 0 → properties ≡ take 32 (take (length numbers - 1) (drop 1 numbers))
    → pending ≡ take 32 (take (length numbers - 33) (drop 33 numbers)) → Some (as_bases queue properties pending) ≡ bases_of numbers
registers_are numbers queue properties pending many q p r =
    ap (λ (n : ℕ). Some (as_bases n properties pending)) q
    ∙ ap (λ (ns : List ℕ). Some (as_bases (get_or numbers 0 0) ns pending)) (p ∙ take_twice 32 (length numbers - 1) (drop 1 numbers) (omega (arith, many)))
    ∙ ap (λ (ns : List ℕ). Some (as_bases (get_or numbers 0 0) (take 32 (drop 1 numbers)) ns)) (r ∙ take_twice 32 (length numbers - 33) (drop 33 numbers) (omega (arith, many)))
    ∙ ap (λ (b : Bool). if b then Some (as_bases (get_or numbers 0 0) (take 32 (drop 1 numbers)) (take 32 (drop 33 numbers))) else None) (sym (same_number (length numbers) 65 many))
