-- Lists that are read element by element.
use Rattle.std.proofs.Common.{◌≡◌, ℕ, zero, suc, ◌+◌, ◌<◌, ◌≤◌, ◌++◌, Some, List, [], ◌∷◌, All, length, get_or, map, take, refl, sym, ap, subst, ◌∙◌, arith}
use Rattle.std.proofs.lemmas.Option.{same_Some}
use Rattle.std.proofs.lemmas.List.{take_all, length-map}
use Rattle.std.proofs.lemmas.List.Elements.{All-head, All-tail}
use Rattle.serde_json.specs.Data.{Data, array}
use Rattle.serde_json.specs.View.{items_of}
use Rattle.json_field.specs.Field.{list_of}
use Rattle.json_field.proofs.FieldLemmas.{elements-items_of}
use Rattle.gic_resume.specs.GicSave.Cell.{list_data}
use Rattle.image_read.proofs.RowLemmas.{row_is}

module _ {X V : Type 0} (written : X → Data) (seen : V → Data) (P : X → Type 0) where
  -- the element of a list that was written as the value at an index
  pub record Nth (xs : List X) (i : ℕ) (v : V) : Type 0 where
    pub element : X
    pub same : written element ≡ seen v
    pub can : P element
    pub more : take (suc i) xs ≡ take i xs ++ element ∷ []

  head_same : (x : X) (xs : List X) (v : V) (vs : List V) → map written (x ∷ xs) ≡ map seen (v ∷ vs) → written x ≡ seen v
  head_same x xs v vs e = ap (λ ds. get_or ds 0 (written x)) e

  tail_same : (x : X) (xs : List X) (v : V) (vs : List V) → map written (x ∷ xs) ≡ map seen (v ∷ vs) → map written xs ≡ map seen vs
  tail_same x xs v vs e = ap (λ ds. rest ds) e
    where
      rest : List Data → List Data
      rest [] = []
      rest (d ∷ ds) = ds

  pub as_long : (xs : List X) (vs : List V) → map written xs ≡ map seen vs → length xs ≡ length vs
  as_long xs vs e = sym (length-map xs written) ∙ ap length e ∙ length-map vs seen

  pub nth : (xs : List X) (vs : List V) (i : ℕ) (d : V) → All P xs → map written xs ≡ map seen vs → i < length vs → Nth xs i (get_or vs i d)
  nth [] [] i d all e below = absurd (omega arith)
  nth [] (v ∷ vs) i d all e below = let long = as_long [] (v ∷ vs) e in absurd (omega (arith, long))
  nth (x ∷ xs) [] i d all e below = absurd (omega arith)
  nth (x ∷ xs) (v ∷ vs) zero d all e below = record { element = x; same = head_same x xs v vs e; can = All-head P x xs all; more = refl }
  nth (x ∷ xs) (v ∷ vs) (suc i) d all e below =
      let further = nth xs vs i d (All-tail P x xs all) (tail_same x xs v vs e) (omega arith) in
      record { element = further.element; same = further.same; can = further.can; more = ap (λ ys. x ∷ ys) further.more }

  pub nth_of : (xs : List X) (vs : List V) (i : ℕ) (v : V) → v ≡ get_or vs i v → All P xs → map written xs ≡ map seen vs → i < length vs → Nth xs i v
  nth_of xs vs i v is all e below = subst (Nth xs i) (sym is) (nth xs vs i v all e below)

  next_index : (i : ℕ) → suc i ≡ i + 1
  next_index i = omega arith

  pub grown_only : (list new xs : List X) (i : ℕ) (v : V) (x : X) (there : Nth xs i v) → take i xs ≡ list → x ≡ there.element → new ≡ list ++ x ∷ [] → take (i + 1) xs ≡ new
  grown_only list new xs i v x there so_far same now =
      ap (λ n. take n xs) (sym (next_index i)) ∙ there.more ∙ ap (λ ys. ys ++ there.element ∷ []) so_far ∙ ap (λ y. list ++ y ∷ []) (sym same) ∙ sym now

  map_push : (xs : List X) (x : X) → map written (xs ++ x ∷ []) ≡ map written xs ++ written x ∷ []
  map_push [] x = refl
  map_push (y ∷ ys) x = ap (λ ds. written y ∷ ds) (map_push ys x)

  seen_more : (vs : List V) (i : ℕ) (d : V) → i < length vs → map seen (take (suc i) vs) ≡ map seen (take i vs) ++ seen (get_or vs i d) ∷ []
  seen_more [] i d below = absurd (omega arith)
  seen_more (v ∷ vs) zero d below = refl
  seen_more (v ∷ vs) (suc i) d below = ap (λ ds. seen v ∷ ds) (seen_more vs i d (omega arith))

  pub grown_told : (list new : List X) (vs : List V) (i : ℕ) (d : V) (x : X) → map written list ≡ map seen (take i vs) → written x ≡ seen (get_or vs i d) → new ≡ list ++ x ∷ [] → i < length vs → map written new ≡ map seen (take (i + 1) vs)
  grown_told list new vs i d x so_far same now below =
      ap (map written) now ∙ map_push list x ∙ ap (λ ds. ds ++ written x ∷ []) so_far ∙ ap (λ y. map seen (take i vs) ++ y ∷ []) same ∙ sym (seen_more vs i d below) ∙ ap (λ n. map seen (take n vs)) (next_index i)

  pub whole_told : (list : List X) (vs : List V) (i : ℕ) (value : Data) → Some (map seen vs) ≡ list_of value → map written list ≡ map seen (take i vs) → length vs ≤ i → list_data written list ≡ value
  whole_told list vs i value is so_far all =
      ap (λ ds. array (items_of ds)) (so_far ∙ ap (map seen) (take_all i vs all)) ∙ row_is value (map seen vs) (sym is)

  -- an array of what was written has just what was seen
  pub same_elements : (xs : List X) (vs : List V) (value : Data) → Some (map seen vs) ≡ list_of value → list_data written xs ≡ value → map written xs ≡ map seen vs
  same_elements xs vs value is e = same_Some (map written xs) (map seen vs) (ap Some (sym (elements-items_of (map written xs))) ∙ ap list_of e ∙ sym is)

  pub whole_only : (list xs : List X) (vs : List V) (i : ℕ) → take i xs ≡ list → map written xs ≡ map seen vs → length vs ≤ i → list ≡ xs
  whole_only list xs vs i so_far e all = let long = as_long xs vs e in sym so_far ∙ take_all i xs (omega (arith, all, long))
