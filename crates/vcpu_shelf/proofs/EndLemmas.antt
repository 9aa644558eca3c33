-- The shelf as it opens, and as it is closed.
use Rattle.std.proofs.Common.{◌≡◌, ◌⊎◌, inl, inr, ℕ, zero, suc, ◌+◌, ◌<◌, ◌≤◌, Bool, true, false, IsTrue, List, [], ◌∷◌, ◌++◌, map, length, take, get_or, set, Option, Some, None, refl, sym, ap, subst, ◌∙◌, arith}
use Rattle.std.proofs.lemmas.Bool.{cases_eq, cases_lt}
use Rattle.std.proofs.lemmas.List.{length-map, length-set, get_or-set_same, get_or-set_other, get_or_past}
use Rattle.std.specs.Prelude.{slice_get, Vec}
use Rattle.std.specs.declared.alloc.Global.{Global}
use mathlib.Core.Option.{Option as Slot, some, some-injective, some-ne-none}
use lib.ListN.{get_elem?}
use Rattle.atomic_table.specs.Table.{Final, Seen, opening}
use Rattle.vcpu_shelf.specs.declared.view.View.{View}
use Rattle.vcpu_shelf.specs.Answer.{AreInPlace, AreBack}
use Rattle.vcpu_shelf.specs.Reserve.{HasRoom, IsReserve}
use Rattle.vcpu_shelf.specs.Rule.{IsPlace, AreViews, IsShelf}
use Rattle.vcpu_shelf.specs.View.{is_found_finished, no_view}
use Rattle.vcpu_shelf.specs.Word.{is_finished, stored_word}
use Rattle.vcpu_shelf.proofs.RuleLemmas.{at_index}
use Rattle.vcpu_shelf.proofs.WordLemmas.{stored_state, stored_not_taken, stored_done, stored_next, finished_not_taken}

-- The first view alone.
only : (id : ℕ) (view : View) → get_elem? (no_view ∷ []) id ≡ some view → no_view ≡ view
only zero view at = some-injective no_view view at
only (suc id) view at = absurd (some-ne-none view (sym at))

opening_views : (words : List ℕ) → AreViews words (no_view ∷ [])
opening_views words =
    record {
      finished = λ id place view at found. let never : false ≡ true = subst (λ (v : View). IsTrue (is_found_finished place v.deeds)) (sym (only id view at)) found in absurd (cc);
      taken = λ id place view at out. let never : None ≡ Some place = ap (λ (v : View). v.out) (only id view at) ∙ out in absurd (cc);
      apart = λ one other place view more at there out too. let never : None ≡ Some place = ap (λ (v : View). v.out) (only one view at) ∙ out in absurd (cc);
    }

module _ {T : Type 0} (place_of next_of : T → ℕ) (done_of : T → Bool) where
  abbrev word_of : T → ℕ
  word_of traveller = stored_word (done_of traveller) (next_of traveller)

  -- what stands at a place at first
  record Opens (all : List T) (at : ℕ) (slot : Slot (Option T)) : Type 0 where
    traveller : T
    there : slice_get all at ≡ Some traveller
    slot_is : some (Some traveller) ≡ slot
    word : word_of traveller ≡ get_or (map word_of all) at 0

  opens_at : (all : List T) (place : ℕ) (slot : Slot (Option T)) → get_elem? (map some (map (λ (t : T). Some t) all)) place ≡ some slot → Opens all place slot
  opens_at [] place slot at = absurd (some-ne-none slot (sym at))
  opens_at (one ∷ all) zero slot at = record { traveller = one; there = refl; slot_is = some-injective (some (Some one)) slot at; word = refl }
  opens_at (one ∷ all) (suc place) slot at = let later = opens_at all place slot at in record { traveller = later.traveller; there = later.there; slot_is = later.slot_is; word = later.word }

  pub opens : (all : List T) (places : ℕ) (words : List ℕ) (slots : List (Option T)) → places ≡ length all → AreInPlace place_of all → words ≡ map word_of all → slots ≡ map (λ (t : T). Some t) all
      → IsShelf place_of next_of done_of places (opening words slots no_view)
  opens all places words slots count placed words_are slots_are =
      record {
        words = ap (λ (ws : List ℕ). length ws) words_are ∙ length-map all word_of ∙ sym count;
        homes = length-map slots (λ (o : Option T). some o) ∙ ap (λ (os : List (Option T)). length os) slots_are ∙ length-map all (λ (t : T). Some t) ∙ sym count;
        each = λ place slot at.
            let is = opens_at all place slot (subst (λ (os : List (Option T)). get_elem? (map some os) place ≡ some slot) slots_are at) in
            let word : word_of is.traveller ≡ get_or words place 0 = is.word ∙ ap (λ (ws : List ℕ). get_or ws place 0) (sym words_are) in
            subst (λ (n : ℕ). IsPlace place_of next_of done_of place n slot) word
            (subst (λ (s : Slot (Option T)). IsPlace place_of next_of done_of place (word_of is.traveller) s) is.slot_is
            record {
              state = stored_state (done_of is.traveller) (next_of is.traveller);
              home = λ _. record { traveller = is.traveller; there = refl; place = placed place is.traveller is.there; next = stored_next (done_of is.traveller) (next_of is.traveller); done = stored_done (done_of is.traveller) (next_of is.traveller) };
              away = λ yes. let both : true ≡ false = sym yes ∙ stored_not_taken (done_of is.traveller) (next_of is.traveller) in absurd (cc);
            });
        views = opening_views words;
      }

  -- what is at home at the end lies in the slots
  in_slots : {A : Type 0} (l : List A) (i : ℕ) (a : A) → get_elem? l i ≡ some a → slice_get l i ≡ Some a
  in_slots {A = A} [] i a at = absurd (some-ne-none a (sym at))
  in_slots {A = A} (x ∷ xs) zero a at = ap (λ (y : A). Some y) (some-injective x a at)
  in_slots {A = A} (x ∷ xs) (suc i) a at = in_slots xs i a at

  pub closes : (places id : ℕ) (view : View) (words : List ℕ) (slots : List (Option T)) → Final (Seen (λ s. IsShelf place_of next_of done_of places s) id view) words slots
      → ((place : ℕ) → place < places → IsTrue (is_found_finished place view.deeds)) → AreBack place_of done_of places slots
  closes places id view words slots final saw =
      let s = final.0 in
      let rule = final.1.0 in
      record {
        count = sym final.3 ∙ rule.homes;
        each = λ place there.
            let finished : IsTrue (is_finished (get_or s.words place 0)) = rule.views.finished id place view final.1.1 (saw place there) in
            let at = at_index s.homes place (subst (λ n. place < n) (sym rule.homes) there) in
            let home = (rule.each place at.0 at.1).home (finished_not_taken (get_or s.words place 0) finished) in
            record {
              traveller = home.traveller;
              there = in_slots slots place (Some home.traveller) (final.4 place (Some home.traveller) (at.1 ∙ ap (λ (x : Slot (Option T)). some x) home.there));
              at = home.place;
              done = home.done ∙ finished;
            };
      }

-- The slots are emptied one after the other.
take_next : {A : Type 0} (l : List A) (n : ℕ) (a : A) → get_elem? l n ≡ some a → take (n + 1) l ≡ take n l ++ a ∷ []
take_next {A = A} [] n a at = absurd (some-ne-none a (sym at))
take_next {A = A} (x ∷ xs) zero a at = ap (λ (y : A). y ∷ []) (some-injective x a at)
take_next {A = A} (x ∷ xs) (suc n) a at = let e : suc n + 1 ≡ suc (n + 1) = omega arith in ap (λ (k : ℕ). take k (x ∷ xs)) e ∙ ap (λ (ys : List A). x ∷ ys) (take_next xs n a at)

-- one more element was moved
pub moved_more : {A : Type 0} (moved more items after : List A) (place : ℕ) (a : A) → more ≡ moved ++ a ∷ [] → moved ≡ take place items → get_elem? items place ≡ some a → after ≡ items → more ≡ take (place + 1) after
moved_more {A = A} moved more items after place a pushed is at same =
    pushed ∙ ap (λ (xs : List A). xs ++ a ∷ []) is ∙ sym (take_next items place a at) ∙ ap (λ (xs : List A). take (place + 1) xs) (sym same)

pub gone_more : (filled : List Bool) (place : ℕ) → ((k : ℕ) → k < place → get_or filled k false ≡ false) → (k : ℕ) → k < place + 1 → get_or (set filled place false) k false ≡ false
gone_more filled place gone k below =
    elim (cases_eq k place) [
      | inl here ↦ subst (λ (i : ℕ). get_or (set filled place false) i false ≡ false) (sym here) (set_false (cases_lt place (length filled)))
      | inr else ↦ (get_or-set_other filled place k false false else ∙ gone k (omega arith))
    ]
  where
    set_false : (place < length filled) ⊎ (length filled ≤ place) → get_or (set filled place false) place false ≡ false
    set_false (inl there) = get_or-set_same filled place false false there
    set_false (inr past) = get_or_past (set filled place false) place false (subst (λ n. n ≤ place) (sym (length-set filled place false)) past)

pub left_more : (filled : List Bool) (place count : ℕ) → ((k : ℕ) → place ≤ k → k < count → get_or filled k false ≡ true) → (k : ℕ) → place + 1 ≤ k → k < count → get_or (set filled place false) k false ≡ true
left_more filled place count left k above below = get_or-set_other filled place k false false (λ same. omega arith) ∙ left k (omega arith) below

-- The vector that is kept.
pub has_reserve : {T : Type 0} (places : ℕ) (slots : List (Vec (Option T) Global)) (room : Vec (Option T) Global) → slots ≡ room ∷ [] → HasRoom places room → IsReserve places (opening [] slots (tt {0}))
has_reserve {T} places slots room is fits = record { room = room; there = ap (λ (all : List (Vec (Option T) Global)). get_elem? (map some all) 0) is; fits = fits }
