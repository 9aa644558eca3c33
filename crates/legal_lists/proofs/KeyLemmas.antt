-- Lists of events, by the interrupts that they are of.
use Rattle.std.proofs.Common.{◌≡◌, ℕ, suc, ◌≤◌, ◌&&◌, ◌||◌, not, nat_lt, nat_le, Bool, true, false, cond, List, [], ◌∷◌, ◌++◌, length, drop, Option, Some, None, refl, sym, ap, ◌∙◌, arith, drop_at, lt-ltb, leb-true, rules}
use Rattle.std.specs.List.{list_all, list_any, cons_option}
use Rattle.std.specs.Option.{option_map_or}
use Rattle.std.proofs.lemmas.Bool.{and_parts, and_from}
use Rattle.std.proofs.lemmas.List.Elements.{filter_map-append}
use Rattle.law_histories.specs.Words.{Key, Private, Spi, Lpi, is_same_key, intid_of}
use Rattle.law_histories.specs.Calls.{Event, Up, Down, Touch, Reach, Take, Leave, Enable, Cpu, Put, CtlrBegin, CtlrEnd, ItsBegin, Happened, is_beside, named_of}
use Rattle.law_histories.specs.GicCall.declared.event.Event.TheVariants.{Raise, Read, ItsEnd, Queue}
use Rattle.law_histories.specs.Histories.{key_in, lpi_in}
use Rattle.law_histories.proofs.SpreadLemmas.{events_of}
use Rattle.legal_lists.specs.Legal.{keys_of, gives_back}

-- an interrupt is itself
pub own_key : (key : Key) → is_same_key key key ≡ true
own_key (Private vcpu id) = search rules
own_key (Spi id) = search rules
own_key (Lpi id) = search rules

-- Where an event of an interrupt stands.

pub keys_at : (early : List Event) (event : Event) (late : List Event) (key : Key) → key_in event ≡ Some key → keys_of (early ++ event ∷ late) ≡ keys_of early ++ key ∷ keys_of late
keys_at early event late key is = filter_map-append key_in early (event ∷ late) ∙ ap (λ o. keys_of early ++ cons_option o (keys_of late)) is

pub none_at : {X : Type 0} (xs : List X) (x : X) (ys : List X) → xs ++ x ∷ ys ≡ [] → ⊥
none_at [] x ys h = absurd (cc)
none_at (y ∷ xs) x ys h = absurd (cc)

-- of interrupts in order, it is among those after as many as come before it
pub in_order : (early : List Event) (event : Event) (late : List Event) (key : Key) (keys : List Key) → key_in event ≡ Some key → keys_of (early ++ event ∷ late) ≡ keys → list_any (is_same_key key) (drop (length (keys_of early)) keys) ≡ true
in_order early event late key keys is are =
    ap (λ ks. list_any (is_same_key key) (drop (length (keys_of early)) ks)) (sym are ∙ keys_at early event late key is)
    ∙ ap (list_any (is_same_key key)) (drop_at (keys_of early) (key ∷ keys_of late) (length (keys_of early)) refl)
    ∙ ap (λ b. b || list_any (is_same_key key) (keys_of late)) (own_key key)

-- of one interrupt, it is the first
pub first_key : (early : List Event) (event : Event) (late : List Event) (key only : Key) → key_in event ≡ Some key → keys_of (early ++ event ∷ late) ≡ only ∷ [] → keys_of early ≡ []
first_key early event late key only is are = of (keys_of early) (sym (keys_at early event late key is) ∙ are)
  where
    of : (xs : List Key) → xs ++ key ∷ keys_of late ≡ only ∷ [] → xs ≡ []
    of [] h = refl
    of (x ∷ xs) h = absurd (none_at xs key (keys_of late) (ap tail h))
      where
        tail : List Key → List Key
        tail [] = []
        tail (y ∷ ys) = ys

-- LPIs in rising order, from one on.

abbrev pub is_rising : ℕ → List Key → Bool
is_rising low [] = true
is_rising low (Lpi id ∷ keys) = nat_le low id && is_rising (suc id) keys
is_rising low (Private vcpu id ∷ keys) = false
is_rising low (Spi id ∷ keys) = false

-- one of these is above all that come before it
pub record IsAbove (keys : List Key) (key : Key) : Type 0 where
  pub id : ℕ
  pub is : lpi_in key ≡ Some id
  pub above : list_all (λ one. nat_lt (intid_of one) id) keys ≡ true

rising_low : (low : ℕ) (xs : List Key) (id : ℕ) (ys : List Key) → is_rising low (xs ++ Lpi id ∷ ys) ≡ true → low ≤ id
rising_low low [] id ys h = leb-true low id (and_parts (nat_le low id) (is_rising (suc id) ys) h).0
rising_low low (Lpi one ∷ xs) id ys h =
    let both = and_parts (nat_le low one) (is_rising (suc one) (xs ++ Lpi id ∷ ys)) h in
    let first : low ≤ one = leb-true low one both.0 in
    let rest : suc one ≤ id = rising_low (suc one) xs id ys both.1 in
    omega arith
rising_low low (Private vcpu one ∷ xs) id ys h = absurd (cc)
rising_low low (Spi one ∷ xs) id ys h = absurd (cc)

rising_all : (low : ℕ) (xs : List Key) (id : ℕ) (ys : List Key) → is_rising low (xs ++ Lpi id ∷ ys) ≡ true → list_all (λ one. nat_lt (intid_of one) id) xs ≡ true
rising_all low [] id ys h = refl
rising_all low (Lpi one ∷ xs) id ys h =
    let both = and_parts (nat_le low one) (is_rising (suc one) (xs ++ Lpi id ∷ ys)) h in
    and_from (nat_lt one id) (list_all (λ other. nat_lt (intid_of other) id) xs) (lt-ltb one id (rising_low (suc one) xs id ys both.1)) (rising_all (suc one) xs id ys both.1)
rising_all low (Private vcpu one ∷ xs) id ys h = absurd (cc)
rising_all low (Spi one ∷ xs) id ys h = absurd (cc)

pub rising_at : (low : ℕ) (xs : List Key) (key : Key) (ys : List Key) → is_rising low (xs ++ key ∷ ys) ≡ true → IsAbove xs key
rising_at low xs (Lpi id) ys h = record { id = id; is = refl; above = rising_all low xs id ys h }
rising_at low xs (Private vcpu id) ys h = absurd (unlike low xs h)
  where
    unlike : (low : ℕ) (xs : List Key) → is_rising low (xs ++ Private vcpu id ∷ ys) ≡ true → ⊥
    unlike low [] h = absurd (cc)
    unlike low (Lpi one ∷ xs) h = unlike (suc one) xs (and_parts (nat_le low one) (is_rising (suc one) (xs ++ Private vcpu id ∷ ys)) h).1
    unlike low (Private other one ∷ xs) h = absurd (cc)
    unlike low (Spi one ∷ xs) h = absurd (cc)
rising_at low xs (Spi id) ys h = absurd (unlike low xs h)
  where
    unlike : (low : ℕ) (xs : List Key) → is_rising low (xs ++ Spi id ∷ ys) ≡ true → ⊥
    unlike low [] h = absurd (cc)
    unlike low (Lpi one ∷ xs) h = unlike (suc one) xs (and_parts (nat_le low one) (is_rising (suc one) (xs ++ Spi id ∷ ys)) h).1
    unlike low (Private other one ∷ xs) h = absurd (cc)
    unlike low (Spi one ∷ xs) h = absurd (cc)

-- Turns of the ITS.

-- an event that is of an LPI, or of no interrupt
abbrev pub is_for_lpi : Event → Bool
is_for_lpi event = option_map_or (λ key. option_map_or (λ id. true) (lpi_in key) false) (key_in event) true

-- events of LPIs alone, and none after the ITS is given back
abbrev pub is_turn : List Event → Bool
is_turn [] = true
is_turn (event ∷ events) = cond (gives_back event) (not (list_any (λ key. true) (keys_of events))) (is_for_lpi event && is_turn events)

pub record IsInTurn (events : List Event) (key : Key) : Type 0 where
  pub id : ℕ
  pub is : lpi_in key ≡ Some id
  pub held : list_any gives_back events ≡ false

lpi_is : (event : Event) (key : Key) → key_in event ≡ Some key → is_for_lpi event ≡ true → (id : ℕ) × (lpi_in key ≡ Some id)
lpi_is event key is h = of (lpi_in key) refl (sym (ap (λ o. option_map_or (λ k. option_map_or (λ id. true) (lpi_in k) false) o true) is) ∙ h)
  where
    of : (o : Option ℕ) → lpi_in key ≡ o → option_map_or (λ id. true) (lpi_in key) false ≡ true → (id : ℕ) × (lpi_in key ≡ Some id)
    of (Some id) e h = (id, e)
    of None e h = absurd (unlike (sym (ap (λ o. option_map_or (λ id. true) o false) e) ∙ h))
      where
        unlike : false ≡ true → ⊥
        unlike h = absurd (cc)

-- what gives the ITS back is of no interrupt
pub back_key : (event : Event) → gives_back event ≡ true → key_in event ≡ None
back_key ItsEnd h = refl
back_key (Raise key) h = absurd (cc)
back_key (Up key) h = absurd (cc)
back_key (Down key) h = absurd (cc)
back_key (Touch key touching) h = absurd (cc)
back_key event h = refl

some_left : (xs : List Key) (key : Key) (ys : List Key) → list_any (λ one. true) (xs ++ key ∷ ys) ≡ true
some_left [] key ys = refl
some_left (x ∷ xs) key ys = refl

pub turn_at : (early : List Event) (event : Event) (late : List Event) (key : Key) → key_in event ≡ Some key → is_turn (early ++ event ∷ late) ≡ true → IsInTurn early key
turn_at [] event late key is h = of (gives_back event) refl h
  where
    of : (b : Bool) → gives_back event ≡ b → cond b (not (list_any (λ one. true) (keys_of late))) (is_for_lpi event && is_turn late) ≡ true → IsInTurn [] key
    of true e h = absurd (unlike (sym is ∙ back_key event e))
      where
        unlike : Some key ≡ None → ⊥
        unlike h = absurd (cc)
    of false e h =
        let lpi = lpi_is event key is (and_parts (is_for_lpi event) (is_turn late) h).0 in
        record { id = lpi.0; is = lpi.1; held = refl }
turn_at (one ∷ early) event late key is h = of (gives_back one) refl h (turn_at early event late key is)
  where
    of : (b : Bool) → gives_back one ≡ b → cond b (not (list_any (λ other. true) (keys_of (early ++ event ∷ late)))) (is_for_lpi one && is_turn (early ++ event ∷ late)) ≡ true
        → (is_turn (early ++ event ∷ late) ≡ true → IsInTurn early key) → IsInTurn (one ∷ early) key
    of true e h before = absurd (unlike (sym (ap (λ ks. not (list_any (λ other. true) ks)) (keys_at early event late key is) ∙ ap not (some_left (keys_of early) key (keys_of late))) ∙ h))
      where
        unlike : false ≡ true → ⊥
        unlike h = absurd (cc)
    of false e h before =
        let rest = before (and_parts (is_for_lpi one) (is_turn (early ++ event ∷ late)) h).1 in
        record { id = rest.id; is = rest.is; held = ap (λ b. b || list_any gives_back early) e ∙ rest.held }

-- an event of a turn that goes on
abbrev pub is_held : Event → Bool
is_held event = not (gives_back event) && is_for_lpi event

-- events of a turn, and the rest of it
pub turn_both : (one other : List Event) → list_all is_held one ≡ true → is_turn other ≡ true → is_turn (one ++ other) ≡ true
turn_both [] other h k = k
turn_both (event ∷ one) other h k = of (gives_back event) (and_parts (is_held event) (list_all is_held one) h).0 (turn_both one other (and_parts (is_held event) (list_all is_held one) h).1 k)
  where
    of : (b : Bool) → (not b && is_for_lpi event) ≡ true → is_turn (one ++ other) ≡ true → cond b (not (list_any (λ key. true) (keys_of (one ++ other)))) (is_for_lpi event && is_turn (one ++ other)) ≡ true
    of true h k = absurd (cc)
    of false h k = and_from (is_for_lpi event) (is_turn (one ++ other)) h k

-- events of no interrupt
pub turn_none : (events : List Event) → keys_of events ≡ [] → is_turn events ≡ true
turn_none [] h = refl
turn_none (event ∷ events) h = of (key_in event) refl h (turn_none events)
  where
    of : (o : Option Key) → key_in event ≡ o → cons_option o (keys_of events) ≡ [] → (keys_of events ≡ [] → is_turn events ≡ true) → is_turn (event ∷ events) ≡ true
    of (Some key) e h rest = absurd (none_at [] key (keys_of events) h)
    of None e h rest = by (gives_back event)
      where
        by : (b : Bool) → cond b (not (list_any (λ key. true) (keys_of events))) (is_for_lpi event && is_turn events) ≡ true
        by true = ap (λ ks. not (list_any (λ key. true) ks)) h
        by false = and_from (is_for_lpi event) (is_turn events) (ap (λ o. option_map_or (λ key. option_map_or (λ id. true) (lpi_in key) false) o true) e) (rest h)

-- In a piece, whose reads and moves are of no interrupt.

pub beside_key : (actor : Option ℕ) (event : Event) → is_beside actor event ≡ true → (key_in event ≡ None) × (gives_back event ≡ false)
beside_key actor (Read place) h = (refl, refl)
beside_key actor (Reach key vcpu) h = (refl, refl)
beside_key actor (Take key vcpu) h = (refl, refl)
beside_key actor (Leave key vcpu) h = (refl, refl)
beside_key actor (Raise key) h = absurd (cc)
beside_key actor (Up key) h = absurd (cc)
beside_key actor (Down key) h = absurd (cc)
beside_key actor (Touch key touching) h = absurd (cc)
beside_key actor (Enable vcpu) h = absurd (cc)
beside_key actor (Cpu vcpu reg write) h = absurd (cc)
beside_key actor (Put word value) h = absurd (cc)
beside_key actor (CtlrBegin enables) h = absurd (cc)
beside_key actor CtlrEnd h = absurd (cc)
beside_key actor ItsBegin h = absurd (cc)
beside_key actor ItsEnd h = absurd (cc)
beside_key actor (Queue offset change) h = absurd (cc)

pub keys_named : (actor : Option ℕ) (piece : List Happened) → keys_of (events_of piece) ≡ keys_of (events_of (named_of actor piece))
keys_named actor [] = refl
keys_named actor (one ∷ piece) = of (is_beside actor one.event) refl (keys_named actor piece)
  where
    of : (b : Bool) → is_beside actor one.event ≡ b → keys_of (events_of piece) ≡ keys_of (events_of (named_of actor piece))
        → keys_of (events_of (one ∷ piece)) ≡ keys_of (events_of (cond (not b) (one ∷ named_of actor piece) (named_of actor piece)))
    of true e later = ap (λ o. cons_option o (keys_of (events_of piece))) (beside_key actor one.event e).0 ∙ later
    of false e later = ap (cons_option (key_in one.event)) later

pub held_named : (actor : Option ℕ) (piece : List Happened) → list_all is_held (events_of (named_of actor piece)) ≡ true → list_all is_held (events_of piece) ≡ true
held_named actor [] h = refl
held_named actor (one ∷ piece) h = of (is_beside actor one.event) refl h (held_named actor piece)
  where
    of : (b : Bool) → is_beside actor one.event ≡ b → list_all is_held (events_of (cond (not b) (one ∷ named_of actor piece) (named_of actor piece))) ≡ true
        → (list_all is_held (events_of (named_of actor piece)) ≡ true → list_all is_held (events_of piece) ≡ true) → list_all is_held (events_of (one ∷ piece)) ≡ true
    of true e h rest =
        let free = beside_key actor one.event e in
        and_from (is_held one.event) (list_all is_held (events_of piece))
        (ap (λ b. not b && is_for_lpi one.event) free.1 ∙ ap (λ o. option_map_or (λ key. option_map_or (λ id. true) (lpi_in key) false) o true) free.0) (rest h)
    of false e h rest =
        let both = and_parts (is_held one.event) (list_all is_held (events_of (named_of actor piece))) h in
        and_from (is_held one.event) (list_all is_held (events_of piece)) both.0 (rest both.1)

pub turn_named : (actor : Option ℕ) (piece : List Happened) → is_turn (events_of (named_of actor piece)) ≡ true → is_turn (events_of piece) ≡ true
turn_named actor [] h = refl
turn_named actor (one ∷ piece) h = of (is_beside actor one.event) refl h (turn_named actor piece)
  where
    of : (b : Bool) → is_beside actor one.event ≡ b → is_turn (events_of (cond (not b) (one ∷ named_of actor piece) (named_of actor piece))) ≡ true
        → (is_turn (events_of (named_of actor piece)) ≡ true → is_turn (events_of piece) ≡ true) → is_turn (events_of (one ∷ piece)) ≡ true
    of true e h rest =
        let free = beside_key actor one.event e in
        ap (λ b. cond b (not (list_any (λ key. true) (keys_of (events_of piece)))) (is_for_lpi one.event && is_turn (events_of piece))) free.1
        ∙ and_from (is_for_lpi one.event) (is_turn (events_of piece)) (ap (λ o. option_map_or (λ key. option_map_or (λ id. true) (lpi_in key) false) o true) free.0) (rest h)
    of false e h rest = by (gives_back one.event) h
      where
        by : (b : Bool) → cond b (not (list_any (λ key. true) (keys_of (events_of (named_of actor piece))))) (is_for_lpi one.event && is_turn (events_of (named_of actor piece))) ≡ true
            → cond b (not (list_any (λ key. true) (keys_of (events_of piece)))) (is_for_lpi one.event && is_turn (events_of piece)) ≡ true
        by true h = ap (λ ks. not (list_any (λ key. true) ks)) (keys_named actor piece) ∙ h
        by false h =
            let both = and_parts (is_for_lpi one.event) (is_turn (events_of (named_of actor piece))) h in
            and_from (is_for_lpi one.event) (is_turn (events_of piece)) both.0 (rest both.1)
