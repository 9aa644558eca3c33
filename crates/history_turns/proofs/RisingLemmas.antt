-- Touches of LPIs in rising order, of which some were made.
use Rattle.std.proofs.Common.{◌≡◌, ℕ, zero, suc, ◌+◌, ◌<◌, ◌&&◌, ◌||◌, not, Bool, true, false, cond, List, [], ◌∷◌, ◌++◌, fold, Option, Some, None, refl, sym, ap, ap₂, ◌∙◌, subst, arith}
use Rattle.std.specs.List.{list_any, cons_option, filter_map, range_with_len}
use Rattle.std.proofs.lemmas.Bool.{or_left, or_parts}
use Rattle.std.proofs.lemmas.List.Folds.{list_any-append}
use Rattle.history_turns.specs.Words.{Private, Spi, Lpi, GuestShape}
use Rattle.history_turns.specs.Calls.{Event, Enable, Touch, Reach, Take, Leave, Happened, View, is_beside, named_of, pended_events}
use Rattle.history_turns.specs.GicCall.declared.event.Event.TheVariants.{Read}
use Rattle.history_turns.specs.HistoryCalls.Found.{touches}
use Rattle.history_commands.proofs.ExactLaw.{events_in}
use Rattle.history_turns.specs.Noted.{placing}
use Rattle.history_turns.specs.Risen.{coming_to, is_touched, touch_in, touched_events}
use Rattle.history_turns.proofs.RiseLemmas.{touch_of, touch_if, touches_own, touches_other, none_below, touched_at, filter_map_same, any_same, rises, still_of, rest_of}

pub event_head : (x y : Event) (xs ys : List Event) → x ∷ xs ≡ y ∷ ys → x ≡ y
event_head x y xs ys h = cc

pub event_tail : (x y : Event) (xs ys : List Event) → x ∷ xs ≡ y ∷ ys → xs ≡ ys
event_tail x y xs ys h = cc

abbrev pub any_touch : List Event → ℕ → Bool
any_touch events number = list_any (touches (Lpi (8192 + number))) events

nothing_at : (start count : ℕ) → filter_map (touch_if (λ n. false)) (range_with_len start count) ≡ []
nothing_at start zero = refl
nothing_at start (suc count) = nothing_at (start + 1) count

-- the first ones of them are the touches of those that they touch
pub first_ones : (bit : ℕ → Bool) (start count : ℕ) (xs ys : List Event) → xs ++ ys ≡ filter_map (touch_if bit) (range_with_len start count) → xs ≡ filter_map (touch_if (any_touch xs)) (range_with_len start count)
first_ones bit start zero [] ys h = refl
first_ones bit start zero (x ∷ xs) ys h = absurd (cc)
first_ones bit start (suc count) xs ys h = of (bit start) refl xs h (λ zs k. first_ones bit (start + 1) count zs ys k)
  where
    rest : List Event
    rest = filter_map (touch_if bit) (range_with_len (start + 1) count)

    of : (b : Bool) → bit start ≡ b → (xs : List Event) → xs ++ ys ≡ cons_option (cond (bit start) (Some (touch_of start)) None) rest → ((zs : List Event) → zs ++ ys ≡ rest → zs ≡ filter_map (touch_if (any_touch zs)) (range_with_len (start + 1) count))
        → xs ≡ cons_option (cond (any_touch xs start) (Some (touch_of start)) None) (filter_map (touch_if (any_touch xs)) (range_with_len (start + 1) count))
    of true e [] k rec = sym (nothing_at (start + 1) count)
    of true e (x ∷ xs) k rec =
        let is : x ∷ (xs ++ ys) ≡ touch_of start ∷ rest = k ∙ ap (λ b. cons_option (cond b (Some (touch_of start)) None) rest) e in
        let head : x ≡ touch_of start = event_head x (touch_of start) (xs ++ ys) rest is in
        let tail : xs ≡ filter_map (touch_if (any_touch xs)) (range_with_len (start + 1) count) = rec xs (event_tail x (touch_of start) (xs ++ ys) rest is) in
        let own : any_touch (x ∷ xs) start ≡ true = or_left (touches (Lpi (8192 + start)) x) (any_touch xs start) (ap (touches (Lpi (8192 + start))) head ∙ touches_own start) in
        let same : filter_map (touch_if (any_touch (x ∷ xs))) (range_with_len (start + 1) count) ≡ filter_map (touch_if (any_touch xs)) (range_with_len (start + 1) count) =
        filter_map_same (touch_if (any_touch (x ∷ xs))) (touch_if (any_touch xs)) (start + 1) count
        (λ n low high. ap (λ b. cond (b || any_touch xs n) (Some (touch_of n)) None) (ap (touches (Lpi (8192 + n))) head ∙ touches_other n start (λ d. omega (arith, low, d)))) in
        ap₂ (λ y zs. y ∷ zs) head (tail ∙ sym same) ∙ ap (λ b. cons_option (cond b (Some (touch_of start)) None) (filter_map (touch_if (any_touch (x ∷ xs))) (range_with_len (start + 1) count))) (sym own)
    of false e xs k rec =
        let is : xs ++ ys ≡ rest = k ∙ ap (λ b. cons_option (cond b (Some (touch_of start)) None) rest) e in
        let none : any_touch xs start ≡ false =
        (or_parts (any_touch xs start) (any_touch ys start) (sym (list_any-append (touches (Lpi (8192 + start))) xs ys) ∙ ap (list_any (touches (Lpi (8192 + start)))) is ∙ none_below bit (start + 1) count start (omega arith))).0 in
        rec xs is ∙ ap (λ b. cons_option (cond b (Some (touch_of start)) None) (filter_map (touch_if (any_touch xs)) (range_with_len (start + 1) count))) (sym none)

-- those that come after some are above the LPI to which these came
pub record IsAbove (bit : ℕ → Bool) (here : ℕ) (xs ys : List Event) : Type 0 where
  pub start : ℕ
  pub count : ℕ
  pub rest : ys ≡ filter_map (touch_if bit) (range_with_len start count)
  pub above : fold coming_to here xs < 8192 + start

pub last_ones : (bit : ℕ → Bool) (start count here : ℕ) (xs ys : List Event) → here < 8192 + start → xs ++ ys ≡ filter_map (touch_if bit) (range_with_len start count) → IsAbove bit here xs ys
last_ones bit start count here [] ys low h = record { start = start; count = count; rest = h; above = low }
last_ones bit start zero here (x ∷ xs) ys low h = absurd (cc)
last_ones bit start (suc count) here (x ∷ xs) ys low h =
    of (bit start) refl (λ k. last_ones bit (start + 1) count here (x ∷ xs) ys (omega (arith, low)) k) (λ k. last_ones bit (start + 1) count (8192 + start) xs ys (omega arith) k)
  where
    rest : List Event
    rest = filter_map (touch_if bit) (range_with_len (start + 1) count)

    of : (b : Bool) → bit start ≡ b → (x ∷ (xs ++ ys) ≡ rest → IsAbove bit here (x ∷ xs) ys) → (xs ++ ys ≡ rest → IsAbove bit (8192 + start) xs ys) → IsAbove bit here (x ∷ xs) ys
    of true e skip go =
        let is : x ∷ (xs ++ ys) ≡ touch_of start ∷ rest = h ∙ ap (λ b. cons_option (cond b (Some (touch_of start)) None) rest) e in
        let head : x ≡ touch_of start = event_head x (touch_of start) (xs ++ ys) rest is in
        let more = go (event_tail x (touch_of start) (xs ++ ys) rest is) in
        record { start = more.start; count = more.count; rest = more.rest; above = subst (λ y. fold coming_to (coming_to here y) xs < 8192 + more.start) (sym head) more.above }
    of false e skip go = skip (h ∙ ap (λ b. cons_option (cond b (Some (touch_of start)) None) rest) e)

-- The LPI to which a call has come.

pub beside_coming : (actor : Option ℕ) (event : Event) (here : ℕ) → is_beside actor event ≡ true → coming_to here event ≡ here
beside_coming actor (Read place) here h = refl
beside_coming actor (Reach key vcpu) here h = refl
beside_coming actor (Take key vcpu) here h = refl
beside_coming actor (Leave key vcpu) here h = refl
beside_coming actor event here h = absurd (cc)

pub beside_placing : (actor : Option ℕ) (event : Event) (place : Option ℕ) → is_beside actor event ≡ true → placing place event ≡ place
beside_placing actor (Read place) here h = refl
beside_placing actor (Reach key vcpu) here h = refl
beside_placing actor (Take key vcpu) here h = refl
beside_placing actor (Leave key vcpu) here h = refl
beside_placing actor event here h = absurd (cc)

pub coming_named : (actor : Option ℕ) (here : ℕ) (piece : List Happened) → fold coming_to here (events_in piece) ≡ fold coming_to here (events_in (named_of actor piece))
coming_named actor here [] = refl
coming_named actor here (x ∷ piece) = of (is_beside actor x.event) refl (coming_named actor here piece) (coming_named actor (coming_to here x.event) piece)
  where
    of : (b : Bool) → is_beside actor x.event ≡ b → fold coming_to here (events_in piece) ≡ fold coming_to here (events_in (named_of actor piece))
        → fold coming_to (coming_to here x.event) (events_in piece) ≡ fold coming_to (coming_to here x.event) (events_in (named_of actor piece))
        → fold coming_to (coming_to here x.event) (events_in piece) ≡ fold coming_to here (events_in (cond (not (is_beside actor x.event)) (x ∷ named_of actor piece) (named_of actor piece)))
    of true e skip go =
        ap (λ p. fold coming_to p (events_in piece)) (beside_coming actor x.event here e) ∙ skip ∙ ap (λ b. fold coming_to here (events_in (cond (not b) (x ∷ named_of actor piece) (named_of actor piece)))) (sym e)
    of false e skip go = go ∙ ap (λ b. fold coming_to here (events_in (cond (not b) (x ∷ named_of actor piece) (named_of actor piece)))) (sym e)

pub placing_some : (here : ℕ) (event : Event) → placing (Some here) event ≡ Some (coming_to here event)
placing_some here (Enable vcpu) = refl
placing_some here (Touch (Private vcpu id) touching) = refl
placing_some here (Touch (Spi id) touching) = refl
placing_some here (Touch (Lpi id) touching) = refl
placing_some here event = refl

pub placing_all : (here : ℕ) (events : List Event) → fold placing (Some here) events ≡ Some (fold coming_to here events)
placing_all here [] = refl
placing_all here (event ∷ events) = ap (λ o. fold placing o events) (placing_some here event) ∙ placing_all (coming_to here event) events

pub placing_beside : (actor : Option ℕ) (place : Option ℕ) (piece : List Happened) → named_of actor piece ≡ [] → fold placing place (events_in piece) ≡ place
placing_beside actor place [] h = refl
placing_beside actor place (x ∷ piece) h = of (is_beside actor x.event) refl h (λ k. placing_beside actor place piece k)
  where
    of : (b : Bool) → is_beside actor x.event ≡ b → cond (not (is_beside actor x.event)) (x ∷ named_of actor piece) (named_of actor piece) ≡ [] → (named_of actor piece ≡ [] → fold placing place (events_in piece) ≡ place) → fold placing (placing place x.event) (events_in piece) ≡ place
    of true e k rec = ap (λ p. fold placing p (events_in piece)) (beside_placing actor x.event place e) ∙ rec (ap (λ b. cond (not b) (x ∷ named_of actor piece) (named_of actor piece)) (sym e) ∙ k)
    of false e k rec = let some : x ∷ named_of actor piece ≡ [] = ap (λ b. cond (not b) (x ∷ named_of actor piece) (named_of actor piece)) (sym e) ∙ k in absurd (cc)

pub place_folds : (here : ℕ) (piece : List Happened) → fold (λ p (h : Happened). coming_to p h.event) here piece ≡ fold coming_to here (events_in piece)
place_folds here [] = refl
place_folds here (x ∷ piece) = place_folds (coming_to here x.event) piece

-- By a view.

module _ (shape : GuestShape) (vcpu : ℕ) where
  abbrev pub bit_of : View → ℕ → Bool
  bit_of view number = not (still_of shape vcpu view) && rises shape vcpu view number

  pub pended_are : (view : View) → pended_events shape view vcpu ≡ filter_map (touch_if (bit_of view)) (range_with_len 0 shape.lpis)
  pended_are view = of (still_of shape vcpu view)
    where
      of : (b : Bool) → rest_of shape vcpu view b ≡ filter_map (touch_if (λ n. not b && rises shape vcpu view n)) (range_with_len 0 shape.lpis)
      of true = sym (nothing_at 0 shape.lpis)
      of false = refl

  -- what was made of its events
  pub made_are : (actor : Option ℕ) (view : View) (piece : List Happened) (later : List Event) → events_in (named_of actor piece) ++ later ≡ pended_events shape view vcpu → events_in (named_of actor piece) ≡ touched_events shape piece
  made_are actor view piece later are =
      first_ones (bit_of view) 0 shape.lpis (events_in (named_of actor piece)) later (are ∙ pended_are view)
      ∙ filter_map_same (touch_if (any_touch (events_in (named_of actor piece)))) (touch_in piece) 0 shape.lpis (λ n low high. ap (λ b. cond b (Some (touch_of n)) None) (sym (any_same shape vcpu actor n piece)))

  -- an LPI that was touched rises
  pub touched_bit : (actor : Option ℕ) (view : View) (piece : List Happened) (later : List Event) → events_in (named_of actor piece) ++ later ≡ pended_events shape view vcpu → (n : ℕ) → n < shape.lpis → is_touched piece (8192 + n) ≡ true → bit_of view n ≡ true
  touched_bit actor view piece later are n lt h =
      sym (touched_at (bit_of view) 0 shape.lpis n (omega arith) (omega (arith, lt)))
      ∙ ap (list_any (touches (Lpi (8192 + n)))) (sym (are ∙ pended_are view))
      ∙ list_any-append (touches (Lpi (8192 + n))) (events_in (named_of actor piece)) later
      ∙ or_left (any_touch (events_in (named_of actor piece)) n) (any_touch later n) (sym (any_same shape vcpu actor n piece) ∙ h)
