-- Each step of a seat keeps the rule of the shelf.
use Rattle.std.proofs.Common.{◌≡◌, ◌≢◌, inl, inr, ℕ, zero, suc, ◌<◌, ◌==◌, Bool, true, false, cond, IsTrue, List, [], ◌∷◌, ◌++◌, length, get_or, set, Option, Some, None, refl, sym, ap, subst, ◌∙◌, arith}
use Rattle.std.proofs.lemmas.Bool.{eq-eqb, ne_eqb}
use Rattle.std.proofs.lemmas.List.{length-set, set-get_or}
use mathlib.Core.Option.{Option as Slot, some, none}
use lib.ListN.{get_elem?}
use prog.Atomic.{either}
use Rattle.atomic_table.proofs.Lists.{at_set, set_else, exchanged}
use Rattle.atomic_table.specs.Table.{State, Me, Allows, Splits, Joins, Act, keeps, takes, gives, Valid, stepped, carried_after, put_back}
use Rattle.vcpu_shelf.specs.declared.view.Deed.TheVariants.{Looked, Tried, Stored}
use Rattle.vcpu_shelf.specs.declared.view.View.{View}
use Rattle.vcpu_shelf.specs.Rule.{IsPlace, AreViews, IsShelf, IsLooked, IsTried, IsStored}
use Rattle.vcpu_shelf.specs.View.{is_found_finished, no_view, looked, stored, joined}
use Rattle.vcpu_shelf.specs.Word.{next_in, is_free, is_taken, is_finished, stored_word, taken_word}
use Rattle.vcpu_shelf.proofs.WordLemmas.{free_not_taken, free_not_finished, taken_not_finished, taken_is, taken_state, stored_state, stored_not_taken, stored_done, stored_next, after_set}
use Rattle.vcpu_shelf.proofs.ViewLemmas.{found_in_either, found_by_look, views_more, views_split, views_join, Changes, views_change}

-- an element that is there
pub at_index : {A : Type 0} (l : List A) (i : ℕ) → i < length l → (a : A) × (get_elem? l i ≡ some a)
at_index [] i there = absurd (omega arith)
at_index (x ∷ xs) zero there = (x, refl)
at_index (x ∷ xs) (suc i) there = at_index xs i (omega arith)

module _ {T : Type 0} (place_of next_of : T → ℕ) (done_of : T → Bool) (places : ℕ) where
  abbrev Kept : State (Option T) View → Type 0
  Kept s = IsShelf place_of next_of done_of places s

  abbrev Is : ℕ → ℕ → Slot (Option T) → Type 0
  Is place word slot = IsPlace place_of next_of done_of place word slot

  -- what stands at a place
  place_at : (s : State (Option T) View) (place : ℕ) → Kept s → place < places → (slot : Slot (Option T)) × (get_elem? s.homes place ≡ some slot) × Is place (get_or s.words place 0) slot
  place_at s place rule there =
      let at = at_index s.homes place (subst (λ n. place < n) (sym rule.homes) there) in
      (at.0, at.1, rule.each place at.0 at.1)

  -- the words and slots stay, and so does the rule
  stays : (s : State (Option T) View) (words : List ℕ) (views : List View) → Kept s → words ≡ s.words → AreViews s.words views → Kept record { words = words; homes = s.homes; views = views }
  stays s words views rule same are =
      record {
        words = ap (λ (ws : List ℕ). length ws) same ∙ rule.words;
        homes = rule.homes;
        each = λ place slot at. subst (λ (ws : List ℕ). Is place (get_or ws place 0) slot) (sym same) (rule.each place slot at);
        views = subst (λ (ws : List ℕ). AreViews ws views) (sym same) are;
      }

  -- one place changes as a whole
  changed : (s : State (Option T) View) (place word : ℕ) (slot : Slot (Option T)) (views : List View) → Kept s → place < places → Is place word slot → AreViews (set s.words place word) views
      → Kept record { words = set s.words place word; homes = set s.homes place slot; views = views }
  changed s place word slot views rule there is are =
      let within : place < length s.words = subst (λ n. place < n) (sym rule.words) there in
      record {
        words = length-set s.words place word ∙ rule.words;
        homes = length-set s.homes place slot ∙ rule.homes;
        each = λ p h at. elim (at_set s.homes place p slot h at) [
          | inl same ↦
              after_set s.words place word p (λ n. Is p n h) within
              (λ _. subst (λ (x : Slot (Option T)). Is p word x) same.1 (subst (λ (k : ℕ). Is k word slot) (sym same.0) is))
              (λ differ. absurd (differ same.0))
          | inr else ↦ after_set s.words place word p (λ n. Is p n h) within (λ here. absurd (else.0 here)) (λ _. rule.each p h else.1)
        ];
        views = are;
      }

  pub may_look : (slots id place : ℕ) (me : Me (Option T) View) → place < places → Allows Kept slots id me place (λ n. n) (IsLooked place me)
  may_look slots id place me there s rule each seen small =
      let found = get_or s.words place 0 in
      let at = place_at s place rule there in
      let tells : (p : ℕ) → IsTrue (is_found_finished p (Looked place found ∷ [])) → IsTrue (is_finished (get_or s.words p 0)) =
      λ p h. let both = found_by_look p place found h in subst (λ (k : ℕ). IsTrue (is_finished (get_or s.words k 0))) both.0 both.1 in (
        looked place found me.0,
        keeps,
        tt,
        stays s (set s.words place found) (set s.views id (looked place found me.0)) rule (set-get_or s.words place 0) (views_more s.words s.views id me.0 (Looked place found ∷ []) rule.views seen tells),
        record { knows = refl; holds = refl; state = at.2.state },
      )

  -- a try that was lost
  lost : (s : State (Option T) View) (id place old : ℕ) (me : Me (Option T) View) → Kept s → get_elem? s.views id ≡ some me.0 → get_or s.words place 0 ≢ old
      → (w : View) × (a : Act (Option T)) × Valid s.homes me.1 a × Kept (stepped s place (get_or s.words place 0) id me.1 w a)
      × IsTried place_of next_of done_of place old me (get_or s.words place 0) (w, carried_after me.1 a)
  lost s id place old me rule seen differ =
      let found = get_or s.words place 0 in
      let next : View = record { deeds = me.0.deeds ++ Tried place old found ∷ []; out = me.0.out } in (
        next,
        keeps,
        tt,
        stays s (set s.words place found) (set s.views id next) rule (set-get_or s.words place 0) (views_more s.words s.views id me.0 (Tried place old found ∷ []) rule.views seen (λ p h. never p place old found h)),
        record {
          knows = ap (λ (b : Bool). let w : View = record { deeds = me.0.deeds ++ Tried place old found ∷ []; out = cond b (Some place) me.0.out } in w) (sym (ne_eqb found old differ));
          won = λ same. absurd (differ same);
          lost = λ _. refl;
        },
      )
    where
      never : (p place old found : ℕ) → IsTrue (is_found_finished p (Tried place old found ∷ [])) → IsTrue (is_finished (get_or s.words p 0))
      never p place old found h = let no : false ≡ true = h in absurd (cc)

  -- a try that was won takes the slot with its traveller
  won : (s : State (Option T) View) (id place old : ℕ) (me : Me (Option T) View) → place < places → IsTrue (is_free old) → Kept s → get_elem? s.views id ≡ some me.0 → get_or s.words place 0 ≡ old
      → (w : View) × (a : Act (Option T)) × Valid s.homes me.1 a × Kept (stepped s place (taken_word old) id me.1 w a)
      × IsTried place_of next_of done_of place old me (get_or s.words place 0) (w, carried_after me.1 a)
  won s id place old me there free rule seen same =
      let found = get_or s.words place 0 in
      let freed : IsTrue (is_free found) = subst (λ (n : ℕ). IsTrue (is_free n)) (sym same) free in
      let at = place_at s place rule there in
      let home = at.2.home (free_not_taken found freed) in
      let next : View = record { deeds = me.0.deeds ++ Tried place old found ∷ []; out = Some place } in
      let within : place < length s.words = subst (λ n. place < n) (sym rule.words) there in
      let changes : Changes s.words s.views place (taken_word old) id next =
      record {
        finished = λ finished. let both : true ≡ false = sym finished ∙ free_not_finished found freed in absurd (cc);
        alone = λ other view differ look out. let both : true ≡ false = sym (rule.views.taken other place view look out) ∙ free_not_taken found freed in absurd (cc);
        found = λ p h. elim (found_in_either p me.0.deeds (Tried place old found ∷ []) h) [
          | inl before ↦ rule.views.finished id p me.0 seen before
          | inr now ↦ (let no : false ≡ true = now in absurd (cc))
        ];
        out = λ p is. (let e : Some place ≡ Some p = is in cc, taken_is old);
      } in (
        next,
        takes place (Some home.traveller),
        at.1 ∙ ap (λ (x : Slot (Option T)). some x) home.there,
        changed s place (taken_word old) none (set s.views id next) rule there
            record { state = taken_state old; home = λ no. let both : true ≡ false = sym (taken_is old) ∙ no in absurd (cc); away = λ _. refl } (views_change s.words s.views place (taken_word old) id next within rule.views changes),
        record {
          knows = ap (λ (b : Bool). let w : View = record { deeds = me.0.deeds ++ Tried place old found ∷ []; out = cond b (Some place) me.0.out } in w) (sym (eq-eqb found old same));
          won = λ _. record { traveller = home.traveller; holds = refl; place = home.place; next = home.next ∙ ap next_in same; done = home.done ∙ free_not_finished found freed };
          lost = λ differ. absurd (differ same);
        },
      )

  pub may_try : (slots id place old : ℕ) (me : Me (Option T) View) → place < places → IsTrue (is_free old)
      → Allows Kept slots id me place (λ n. either (n == old) (taken_word old) n) (IsTried place_of next_of done_of place old me)
  may_try slots id place old me there free s rule each seen small =
      let found = get_or s.words place 0 in
      exchanged found old (taken_word old) (λ n. (w : View) × (a : Act (Option T)) × Valid s.homes me.1 a × Kept (stepped s place n id me.1 w a) × IsTried place_of next_of done_of place old me found (w, carried_after me.1 a))
      (λ same. won s id place old me there free rule seen same) (λ differ. lost s id place old me rule seen differ)

  pub may_store : (slots id place word : ℕ) (me : Me (Option T) View) (traveller : T) (more : List (ℕ × Option T)) → place < places → me.1 ≡ (place, Some traveller) ∷ more → me.0.out ≡ Some place → place_of traveller ≡ place
      → word ≡ stored_word (done_of traveller) (next_of traveller) → Allows Kept slots id me place (λ _. word) (λ _. IsStored place word me)
  may_store slots id place word me traveller more there holds out at is s rule each seen small =
      let next = stored place word me.0 in
      let within : place < length s.words = subst (λ n. place < n) (sym rule.words) there in
      let taken : IsTrue (is_taken (get_or s.words place 0)) = rule.views.taken id place me.0 seen out in
      let changes : Changes s.words s.views place word id next =
      record {
        finished = λ finished. let both : true ≡ false = sym finished ∙ taken_not_finished (get_or s.words place 0) taken in absurd (cc);
        alone = λ other view differ look has. differ (rule.views.apart other id place view me.0 look seen has out);
        found = λ p h. elim (found_in_either p me.0.deeds (Stored place word ∷ []) h) [
          | inl before ↦ rule.views.finished id p me.0 seen before
          | inr now ↦ (let no : false ≡ true = now in absurd (cc))
        ];
        out = λ p no. let e : None ≡ Some p = no in absurd (cc);
      } in
      let place_is : Is place word (some (Some traveller)) =
      subst (λ (n : ℕ). Is place n (some (Some traveller))) (sym is)
      record {
        state = stored_state (done_of traveller) (next_of traveller);
        home = λ _. record { traveller = traveller; there = refl; place = at; next = stored_next (done_of traveller) (next_of traveller); done = stored_done (done_of traveller) (next_of traveller) };
        away = λ yes. let both : true ≡ false = sym yes ∙ stored_not_taken (done_of traveller) (next_of traveller) in absurd (cc);
      } in (
        next,
        gives,
        tt,
        subst (λ (c : List (ℕ × Option T)). Kept record { words = set s.words place word; homes = put_back s.homes c; views = set s.views id next }) (sym holds)
            (changed s place word (some (Some traveller)) (set s.views id next) rule there place_is (views_change s.words s.views place word id next within rule.views changes)),
        record { knows = refl; holds = refl },
      )

  pub may_split : (id : ℕ) (view : View) → Splits Kept id view view no_view
  may_split id view s rule seen = stays s s.words (set s.views id view ++ no_view ∷ []) rule refl (views_split s.words s.views id view rule.views seen)

  pub may_join : (id other : ℕ) (view more : View) → Joins Kept id view other more (joined view more) no_view
  may_join id other view more s rule seen differ there =
      stays s s.words (set (set s.views id (joined view more)) other no_view) rule refl
      (views_join s.words s.views id other view more rule.views seen (sym (set_else s.views id other (joined view more) differ) ∙ there))
