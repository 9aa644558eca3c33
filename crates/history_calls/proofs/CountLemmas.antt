-- Events are compared one after the other.
use Rattle.std.proofs.Common.{◌≡◌, ◌↔◌, ℕ, zero, suc, IsTrue, ◌+◌, ◌<◌, not, Bool, true, false, cond, List, [], ◌∷◌, ◌++◌, map, take, drop, length, get_or, All, Option, refl, sym, ap, ◌∙◌, subst, arith, length-append, append_assoc, append-nil, take-append-drop}
use Rattle.std.proofs.lemmas.List.{map-append, take_more, drop_more, get_or_at, length-take-le}
use Rattle.std.proofs.lemmas.List.Elements.{All-nil, All-cons, All-head, All-tail, All-append, All-same, filter-append}
use Rattle.std.specs.List.{list_all}
use Rattle.std.proofs.lemmas.Bool.{and_parts}
use Rattle.history_calls.specs.Words.{Key, Irq}
use Rattle.legal_lists.specs.GicCall.declared.event.Found.TheVariants.{Word as FoundWord}
use Rattle.history_calls.specs.Calls.{Event, Touch, Put, Touching, PlainWord, Record, Found, Happened, View, HandsOut, is_beside, named_of}
use Rattle.history_calls.specs.Counted.{IsCounted}

abbrev events_in : List Happened → List Event
events_in piece = map (λ (h : Happened). h.event) piece

abbrev Hands : View → Happened → Type 0
Hands view happened = HandsOut view happened.event happened.found

pub named_more : (actor : Option ℕ) (one other : List Happened) → named_of actor (one ++ other) ≡ named_of actor one ++ named_of actor other
named_more actor one other = filter-append (λ (h : Happened). not (is_beside actor h.event)) one other

pub counted_none : (actor : Option ℕ) (view : View) (events : List Event) → IsCounted actor view events [] 0
counted_none actor view events = record { within = omega arith; events_are = refl; found = All-nil (Hands view) }

module _ (actor : Option ℕ) (view : View) (events : List Event) (piece : List Happened) (i count : ℕ) (one : Happened) (there : i < length piece) (at : get_or piece i one ≡ one) (so : IsCounted actor view events (take i piece) count) where
  taken : take (i + 1) piece ≡ take i piece ++ one ∷ []
  taken = take_more piece i one there ∙ ap (λ x. take i piece ++ x ∷ []) at

  -- an event beside those
  pub counted_beside : is_beside actor one.event ≡ true → IsCounted actor view events (take (i + 1) piece) count
  counted_beside beside =
      let named : named_of actor (take (i + 1) piece) ≡ named_of actor (take i piece) =
      ap (named_of actor) taken ∙ named_more actor (take i piece) (one ∷ []) ∙ ap (λ b. named_of actor (take i piece) ++ cond (not b) (one ∷ []) []) beside ∙ append-nil (named_of actor (take i piece)) in
      record {
        within = so.within;
        events_are = ap events_in named ∙ so.events_are;
        found = All-same (Hands view) (named_of actor (take (i + 1) piece)) (named_of actor (take i piece)) named so.found;
      }

  -- the next one of those
  pub counted_next : is_beside actor one.event ≡ false → count < length events → ((d : Event) → get_or events count d ≡ one.event) → Hands view one → IsCounted actor view events (take (i + 1) piece) (count + 1)
  counted_next beside more is hands =
      let named : named_of actor (take (i + 1) piece) ≡ named_of actor (take i piece) ++ one ∷ [] =
      ap (named_of actor) taken ∙ named_more actor (take i piece) (one ∷ []) ∙ ap (λ b. named_of actor (take i piece) ++ cond (not b) (one ∷ []) []) beside in
      record {
        within = omega (arith, more);
        events_are =
            ap events_in named ∙ map-append (λ (h : Happened). h.event) (named_of actor (take i piece)) (one ∷ []) ∙ ap (λ es. es ++ one.event ∷ []) so.events_are
            ∙ ap (λ e. take count events ++ e ∷ []) (sym (is one.event)) ∙ sym (take_more events count one.event more);
        found = All-same (Hands view) (named_of actor (take (i + 1) piece)) (named_of actor (take i piece) ++ one ∷ []) named (All-append (Hands view) (named_of actor (take i piece)) (one ∷ []) so.found (All-cons (Hands view) one [] hands (All-nil (Hands view))));
      }

  rest_named : is_beside actor one.event ≡ false → named_of actor piece ≡ named_of actor (take i piece) ++ one ∷ named_of actor (drop (i + 1) piece)
  rest_named beside =
      ap (named_of actor) (sym (take-append-drop i piece) ∙ ap (λ xs. take i piece ++ xs) (drop_more piece i one there ∙ ap (λ x. x ∷ drop (i + 1) piece) at)) ∙ named_more actor (take i piece) (one ∷ drop (i + 1) piece)
      ∙ ap (λ b. named_of actor (take i piece) ++ cond (not b) (one ∷ named_of actor (drop (i + 1) piece)) (named_of actor (drop (i + 1) piece))) beside

  -- of a whole piece of first events it is the next one
  pub must_be : is_beside actor one.event ≡ false → (rest : List Event) → events_in (named_of actor piece) ++ rest ≡ events → (count < length events) × ((d : Event) → get_or events count d ≡ one.event)
  must_be beside rest are =
      let later = events_in (named_of actor (drop (i + 1) piece)) ++ rest in
      let split : take count events ++ one.event ∷ later ≡ events =
      ap (λ es. es ++ one.event ∷ later) (sym so.events_are) ∙ sym (append_assoc (events_in (named_of actor (take i piece))) (one.event ∷ events_in (named_of actor (drop (i + 1) piece))) rest)
      ∙ ap (λ es. es ++ rest) (sym (ap events_in (rest_named beside) ∙ map-append (λ (h : Happened). h.event) (named_of actor (take i piece)) (one ∷ named_of actor (drop (i + 1) piece)))) ∙ are in
      let taken_length = length-take-le count events so.within in
      let whole = length-append (take count events) (one.event ∷ later) in
      (omega (arith, taken_length, whole, ap length split), λ d. ap (λ es. get_or es count d) (sym split) ∙ get_or_at (take count events) one.event later d count taken_length)

  -- and hands out what the view has
  pub must_hand : is_beside actor one.event ≡ false → All (Hands view) (named_of actor piece) → Hands view one
  must_hand beside all = last_of (named_of actor (take i piece)) (subst (All (Hands view)) (rest_named beside) all)
    where
      last_of : (xs : List Happened) → All (Hands view) (xs ++ one ∷ named_of actor (drop (i + 1) piece)) → Hands view one
      last_of [] h = All-head (Hands view) one (named_of actor (drop (i + 1) piece)) h
      last_of (x ∷ xs) h = last_of xs (All-tail (Hands view) x (xs ++ one ∷ named_of actor (drop (i + 1) piece)) h)

-- What an event hands out.

pub touch_hands : (view : View) (event : Event) (found : Found) (key : Key) (touching : Touching) (irq : Irq) (b : Bool) → event ≡ Touch key touching → irq ≡ view.irqs key → IsTrue b ↔ (found ≡ Record irq) → IsTrue b ↔ HandsOut view event found
touch_hands view event found key touching irq b e i h = subst (λ x. IsTrue b ↔ HandsOut view x found) (sym e) (subst (λ x. IsTrue b ↔ (found ≡ Record x)) i h)

pub put_hands : (view : View) (event : Event) (found : Found) (word : PlainWord) (stored value : ℕ) (b : Bool) → event ≡ Put word stored → value ≡ view.words word → IsTrue b ↔ (found ≡ FoundWord value) → IsTrue b ↔ HandsOut view event found
put_hands view event found word stored value b e i h = subst (λ x. IsTrue b ↔ HandsOut view x found) (sym e) (subst (λ x. IsTrue b ↔ (found ≡ FoundWord x)) i h)

pub all_at : {X : Type 0} (p : X → Bool) (xs : List X) (i : ℕ) (d : X) → list_all p xs ≡ true → i < length xs → p (get_or xs i d) ≡ true
all_at p [] i d h lt = absurd (omega (arith, lt))
all_at p (x ∷ xs) zero d h lt = (and_parts (p x) (list_all p xs) h).0
all_at p (x ∷ xs) (suc i) d h lt = all_at p xs i d (and_parts (p x) (list_all p xs) h).1 (omega (arith, lt))
