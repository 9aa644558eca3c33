-- What a piece found is what a view has by which its events are made.
use Rattle.std.proofs.Common.{◌≡◌, ◌⊎◌, ℕ, zero, suc, ◌<◌, ◌||◌, not, Bool, true, false, cond, List, [], ◌∷◌, map, fold, All, Option, Some, None, refl, sym, ap, ap₂, ◌∙◌, arith, rules, inl, inr, length, get_or}
use Rattle.std.specs.List.{list_any}
use Rattle.std.specs.Option.{option_or}
use Rattle.std.proofs.lemmas.Bool.{or_cases, or_left, or_right}
use Rattle.std.proofs.lemmas.Grind.{common_steps}
use Rattle.std.proofs.lemmas.List.Elements.{All-nil, All-cons, All-head, All-tail}
use Rattle.std.proofs.lemmas.List.Sums.{fold-append}
use Rattle.std.proofs.lemmas.Option.{same_Some, none-some}
use Rattle.history_calls.specs.Words.{Key}
use Rattle.history_calls.specs.Calls.{Event, Touch, Put, Found, Record, Place, PlainWord, Ram, Propbaser, Pendbaser, ItsCtlr, Cbaser, Cwriter, Baser0, Baser1, Fault, Happened, View, HandsOut, IsLastRead, is_beside, named_of}
use Rattle.legal_lists.specs.GicCall.declared.event.Event.TheVariants.{Read}
use Rattle.legal_lists.specs.GicCall.declared.event.Place.TheVariants.{Word, Queue as QueuePlace, Ctlr, Lpis}
use Rattle.legal_lists.specs.GicCall.declared.event.Found.TheVariants.{Word as FoundWord}
use Rattle.legal_lists.proofs.GicBase.KeyLemmas.{same_key}
use Rattle.history_calls.specs.Found.{is_same_word, is_same_place, touches, stores, reads, telling, last_found, record_in, word_in, found_by}

-- Places and words.

pub same_word : (one other : PlainWord) → is_same_word one other ≡ true → one ≡ other
same_word (Ram i) (Ram j) h = ap Ram (grind (arith, common_steps, h))
same_word (Propbaser i) (Propbaser j) h = ap Propbaser (grind (arith, common_steps, h))
same_word (Pendbaser i) (Pendbaser j) h = ap Pendbaser (grind (arith, common_steps, h))
same_word ItsCtlr ItsCtlr h = refl
same_word Cbaser Cbaser h = refl
same_word Cwriter Cwriter h = refl
same_word Baser0 Baser0 h = refl
same_word Baser1 Baser1 h = refl
same_word Fault Fault h = refl
same_word one other h = absurd (cc)

pub own_word : (word : PlainWord) → is_same_word word word ≡ true
own_word (Ram i) = search rules
own_word (Propbaser i) = search rules
own_word (Pendbaser i) = search rules
own_word ItsCtlr = refl
own_word Cbaser = refl
own_word Cwriter = refl
own_word Baser0 = refl
own_word Baser1 = refl
own_word Fault = refl

pub same_place : (one other : Place) → is_same_place one other ≡ true → one ≡ other
same_place (Word word) (Word other) h = ap Word (same_word word other h)
same_place QueuePlace QueuePlace h = refl
same_place Ctlr Ctlr h = refl
same_place (Lpis i) (Lpis j) h = ap Lpis (grind (arith, common_steps, h))
same_place one other h = absurd (cc)

pub own_place : (place : Place) → is_same_place place place ≡ true
own_place (Word word) = own_word word
own_place QueuePlace = refl
own_place Ctlr = refl
own_place (Lpis i) = search rules

reads_it : (place : Place) (event : Event) → reads place event ≡ true → event ≡ Read place
reads_it place (Read other) h = ap Read (same_place other place h)
reads_it place event h = absurd (cc)

-- Lists.

pub any_at : {X : Type 0} (p : X → Bool) (xs : List X) (i : ℕ) (d : X) → i < length xs → p (get_or xs i d) ≡ true → list_any p xs ≡ true
any_at p [] i d lt h = absurd (omega arith)
any_at p (x ∷ xs) zero d lt h = or_left (p x) (list_any p xs) h
any_at p (x ∷ xs) (suc i) d lt h = or_right (p x) (list_any p xs) (any_at p xs i d (omega (arith, lt)) h)

-- an event that is named is one of the piece
pub any_named : (actor : Option ℕ) (is : Event → Bool) (piece : List Happened) → list_any is (map (λ (h : Happened). h.event) (named_of actor piece)) ≡ true → list_any (λ (h : Happened). is h.event) piece ≡ true
any_named actor is [] h = h
any_named actor is (one ∷ piece) h = of (is_beside actor one.event) h (any_named actor is piece)
  where
    named_any : Bool
    named_any = list_any is (map (λ (h : Happened). h.event) (named_of actor piece))

    of : (b : Bool) → list_any is (map (λ (h : Happened). h.event) (cond (not b) (one ∷ named_of actor piece) (named_of actor piece))) ≡ true → (named_any ≡ true → list_any (λ (h : Happened). is h.event) piece ≡ true)
        → (is one.event || list_any (λ (h : Happened). is h.event) piece) ≡ true
    of true k rest = or_right (is one.event) (list_any (λ (h : Happened). is h.event) piece) (rest k)
    of false k rest = elim (or_cases (is one.event) named_any k) [
      | inl e ↦ or_left (is one.event) (list_any (λ (h : Happened). is h.event) piece) e
      | inr e ↦ or_right (is one.event) (list_any (λ (h : Happened). is h.event) piece) (rest e)
    ]

-- what is said of the named events that are of some kind is said of all that are
pub told : (actor : Option ℕ) (is : Event → Bool) (P : Event → Found → Type 0) (Q : Found → Type 0) → ((event : Event) → is event ≡ true → is_beside actor event ≡ false) → ((event : Event) (found : Found) → is event ≡ true → P event found → Q found)
    → (piece : List Happened) → All (λ (h : Happened). P h.event h.found) (named_of actor piece) → All (λ (h : Happened). is h.event ≡ true → Q h.found) piece
told actor is P Q named then [] all = All-nil (λ (h : Happened). is h.event ≡ true → Q h.found)
told actor is P Q named then (one ∷ piece) all =
    let both = of (is_beside actor one.event) refl all in
    All-cons (λ (h : Happened). is h.event ≡ true → Q h.found) one piece both.0 (told actor is P Q named then piece both.1)
  where
    of : (b : Bool) → is_beside actor one.event ≡ b → All (λ (h : Happened). P h.event h.found) (cond (not b) (one ∷ named_of actor piece) (named_of actor piece)) → (is one.event ≡ true → Q one.found) × All (λ (h : Happened). P h.event h.found) (named_of actor piece)
    of true e k = (λ h. let n = named one.event h in absurd (cc), k)
    of false e k = (λ h. then one.event one.found h (All-head (λ (h : Happened). P h.event h.found) one (named_of actor piece) k), All-tail (λ (h : Happened). P h.event h.found) one (named_of actor piece) k)

-- The last of some kind.

pub last_same : (is : Event → Bool) (found : Found) (acc : Option Found) (piece : List Happened) → All (λ (h : Happened). is h.event ≡ true → h.found ≡ found) piece → (acc ≡ Some found) ⊎ (list_any (λ (h : Happened). is h.event) piece ≡ true)
    → fold (telling is) acc piece ≡ Some found
last_same is found acc [] all (inl e) = e
last_same is found acc [] all (inr h) = absurd (cc)
last_same is found acc (one ∷ piece) all some =
    of (is one.event) refl some (λ e. last_same is found (Some one.found) piece (All-tail Is one piece all) (inl (ap Some (All-head Is one piece all e)))) (last_same is found acc piece (All-tail Is one piece all))
  where
    Is : Happened → Type 0
    Is h = is h.event ≡ true → h.found ≡ found

    any : Bool
    any = list_any (λ (h : Happened). is h.event) piece

    step : (b : Bool) → is one.event ≡ b → fold (telling is) (cond b (Some one.found) acc) piece ≡ Some found → fold (telling is) (cond (is one.event) (Some one.found) acc) piece ≡ Some found
    step b e k = ap (λ c. fold (telling is) (cond c (Some one.found) acc) piece) e ∙ k

    of : (b : Bool) → is one.event ≡ b → (acc ≡ Some found) ⊎ ((is one.event || any) ≡ true) → (is one.event ≡ true → fold (telling is) (Some one.found) piece ≡ Some found) → ((acc ≡ Some found) ⊎ (any ≡ true) → fold (telling is) acc piece ≡ Some found)
        → fold (telling is) (cond (is one.event) (Some one.found) acc) piece ≡ Some found
    of true e some here rest = step true e (here e)
    of false e (inl k) here rest = step false e (rest (inl k))
    of false e (inr k) here rest = step false e (rest (inr (ap (λ c. c || any) (sym e) ∙ k)))

-- a piece without such an event
last_none : (is : Event → Bool) (piece : List Happened) → list_any (λ (h : Happened). is h.event) piece ≡ false → fold (telling is) None piece ≡ None
last_none is [] h = refl
last_none is (one ∷ piece) h = of (is one.event) refl h (last_none is piece)
  where
    any : Bool
    any = list_any (λ (h : Happened). is h.event) piece

    of : (b : Bool) → is one.event ≡ b → (b || any) ≡ false → (any ≡ false → fold (telling is) None piece ≡ None) → fold (telling is) (cond (is one.event) (Some one.found) None) piece ≡ None
    of true e k rest = absurd (cc)
    of false e k rest = ap (λ c. fold (telling is) (cond c (Some one.found) None) piece) e ∙ rest k

-- no named event is one, so none of the piece is
pub none_named : (actor : Option ℕ) (is : Event → Bool) → ((event : Event) → is event ≡ true → is_beside actor event ≡ false) → (piece : List Happened) → list_any is (map (λ (h : Happened). h.event) (named_of actor piece)) ≡ false
    → list_any (λ (h : Happened). is h.event) piece ≡ false
none_named actor is named [] h = refl
none_named actor is named (one ∷ piece) h = of (is_beside actor one.event) refl (is one.event) refl h (none_named actor is named piece)
  where
    any : Bool
    any = list_any (λ (h : Happened). is h.event) piece

    named_any : Bool
    named_any = list_any is (map (λ (h : Happened). h.event) (named_of actor piece))

    of : (b : Bool) → is_beside actor one.event ≡ b → (c : Bool) → is one.event ≡ c → list_any is (map (λ (h : Happened). h.event) (cond (not b) (one ∷ named_of actor piece) (named_of actor piece))) ≡ false → (named_any ≡ false → any ≡ false)
        → (is one.event || any) ≡ false
    of true e true f k rest = let n = named one.event f in absurd (cc)
    of true e false f k rest = ap (λ c. c || any) f ∙ rest k
    of false e true f k rest = let n : true ≡ false = ap (λ c. c || named_any) (sym f) ∙ k in absurd (cc)
    of false e false f k rest = ap (λ c. c || any) f ∙ rest (ap (λ c. c || named_any) (sym f) ∙ k)

-- the last read of a place
pub read_found : (place : Place) (found : Found) (piece : List Happened) → IsLastRead place found piece → last_found (reads place) piece ≡ Some found
read_found place found piece is =
    let read : Happened = record { event = Read place; found = found } in
    ap (last_found (reads place)) is.split ∙ fold-append (telling (reads place)) None is.before (read ∷ is.after)
    ∙ ap (λ b. fold (telling (reads place)) (cond b (Some found) (fold (telling (reads place)) None is.before)) is.after) (own_place place)
    ∙ last_same (reads place) found (Some found) is.after (none is.after is.last) (inl refl)
  where
    none : (after : List Happened) → All (λ (h : Happened). h.event ≡ Read place → ⊥) after → All (λ (h : Happened). reads place h.event ≡ true → h.found ≡ found) after
    none [] all = All-nil (λ (h : Happened). reads place h.event ≡ true → h.found ≡ found)
    none (one ∷ after) all =
        All-cons (λ (h : Happened). reads place h.event ≡ true → h.found ≡ found) one after
        (λ h. absurd (All-head (λ (h : Happened). h.event ≡ Read place → ⊥) one after all (reads_it place one.event h)))
        (none after (All-tail (λ (h : Happened). h.event ≡ Read place → ⊥) one after all))

abbrev NotRead : Place → Happened → Type 0
NotRead place happened = happened.event ≡ Read place → ⊥

last_of_rest : (place : Place) (found : Found) (acc : Option Found) (piece : List Happened) → fold (telling (reads place)) acc piece ≡ Some found → ((acc ≡ Some found) × All (NotRead place) piece) ⊎ IsLastRead place found piece
last_of_rest place found acc [] h = inl (h, All-nil (NotRead place))
last_of_rest place found acc (one ∷ piece) h = of (last_of_rest place found (telling (reads place) acc one) piece h)
  where
    here : (b : Bool) → reads place one.event ≡ b → cond b (Some one.found) acc ≡ Some found → All (NotRead place) piece → ((acc ≡ Some found) × All (NotRead place) (one ∷ piece)) ⊎ IsLastRead place found (one ∷ piece)
    here true e k none =
        inr (record {
          before = [];
          after = piece;
          split = ap₂ (λ (event : Event) (f : Found). let x : Happened = record { event = event; found = f } in x ∷ piece) (reads_it place one.event e) (same_Some one.found found k);
          last = none;
        })
    here false e k none = inl (k, All-cons (NotRead place) one piece (λ is. let own = ap (reads place) is ∙ own_place place in absurd (cc)) none)

    of : ((telling (reads place) acc one ≡ Some found) × All (NotRead place) piece) ⊎ IsLastRead place found piece → ((acc ≡ Some found) × All (NotRead place) (one ∷ piece)) ⊎ IsLastRead place found (one ∷ piece)
    of (inl k) = here (reads place one.event) refl k.0 k.1
    of (inr is) = inr (record { before = one ∷ is.before; after = is.after; split = ap (λ xs. one ∷ xs) is.split; last = is.last })

pub found_read : (place : Place) (found : Found) (piece : List Happened) → last_found (reads place) piece ≡ Some found → IsLastRead place found piece
found_read place found piece h = of (last_of_rest place found None piece h)
  where
    of : ((None ≡ Some found) × All (NotRead place) piece) ⊎ IsLastRead place found piece → IsLastRead place found piece
    of (inl k) = absurd (none-some found k.0)
    of (inr is) = is

-- What a view has.

touch_named : (actor : Option ℕ) (key : Key) (event : Event) → touches key event ≡ true → is_beside actor event ≡ false
touch_named actor key (Touch other touching) h = refl
touch_named actor key event h = absurd (cc)

store_named : (actor : Option ℕ) (word : PlainWord) (event : Event) → stores word event ≡ true → is_beside actor event ≡ false
store_named actor word (Put other value) h = refl
store_named actor word event h = absurd (cc)

touch_hands : (view : View) (key : Key) (event : Event) (found : Found) → touches key event ≡ true → HandsOut view event found → found ≡ Record (view.irqs key)
touch_hands view key (Touch other touching) found h is = is ∙ ap (λ k. Record (view.irqs k)) (same_key other key h)
touch_hands view key event found h is = absurd (cc)

store_hands : (view : View) (word : PlainWord) (event : Event) (found : Found) → stores word event ≡ true → HandsOut view event found → found ≡ FoundWord (view.words word)
store_hands view word (Put other value) found h is = is ∙ ap (λ w. FoundWord (view.words w)) (same_word other word h)
store_hands view word event found h is = absurd (cc)

module _ (actor : Option ℕ) (view : View) (piece : List Happened) (all : All (λ (h : Happened). HandsOut view h.event h.found) (named_of actor piece)) where
  pub touch_found : (key : Key) → list_any (touches key) (map (λ (h : Happened). h.event) (named_of actor piece)) ≡ true → (found_by piece).irqs key ≡ view.irqs key
  touch_found key h =
      let f : Found = Record (view.irqs key) in
      ap (record_in key)
      (last_same (touches key) f None piece (told actor (touches key) (HandsOut view) (λ found. found ≡ f) (touch_named actor key) (touch_hands view key) piece all) (inr (any_named actor (touches key) piece h)))

  pub store_found : (word : PlainWord) → list_any (stores word) (map (λ (h : Happened). h.event) (named_of actor piece)) ≡ true → (found_by piece).words word ≡ view.words word
  store_found word h =
      let f : Found = FoundWord (view.words word) in
      ap (λ o. word_in (option_or o (last_found (reads (Word word)) piece)))
      (last_same (stores word) f None piece (told actor (stores word) (HandsOut view) (λ found. found ≡ f) (store_named actor word) (store_hands view word) piece all) (inr (any_named actor (stores word) piece h)))

pub word_found : (actor : Option ℕ) (view : View) (piece : List Happened) (word : PlainWord) → list_any (stores word) (map (λ (h : Happened). h.event) (named_of actor piece)) ≡ false → IsLastRead (Word word) (FoundWord (view.words word)) piece → (found_by piece).words word ≡ view.words word
word_found actor view piece word none is =
    ap (λ o. word_in (option_or o (last_found (reads (Word word)) piece))) (last_none (stores word) piece (none_named actor (stores word) (store_named actor word) piece none))
    ∙ ap word_in (read_found (Word word) (FoundWord (view.words word)) piece is)
