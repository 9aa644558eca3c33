-- Calls that neither take the ITS nor set EnableLPIs: what they found is a view by which they are made.
use Rattle.std.proofs.Common.{◌≡◌, ℕ, nat_lt, ◌||◌, not, Bool, true, false, cond, List, [], ◌∷◌, ◌++◌, map, filter, fold, All, Contains, Option, Some, None, refl, sym, ap, ap₂, ◌∙◌, subst, arith, append_assoc, append-nil, inl, inr, get_or}
use Rattle.std.specs.List.{list_all, list_any}
use Rattle.std.proofs.lemmas.Bool.{and_parts, and_from, or_left, or_right}
use Rattle.std.proofs.lemmas.List.{map-append}
use Rattle.std.proofs.lemmas.List.Elements.{All-nil, All-cons, All-head, All-tail, All-append, All-same, Contains-append_left, Contains-append_right, Contains-append_cases, filter-append}
use Rattle.std.proofs.lemmas.List.Folds.{list_all-append}
use Rattle.std.proofs.lemmas.List.Sums.{fold-append}
use Rattle.history_calls.specs.Words.{Key, Dist, Redist, Its, Ram as Memory, Icc, Mem, Message, Wire, Msi, GuestShape, IccReg}
use Rattle.legal_lists.specs.GicImap.Map.{decoded as its_decoded}
use Rattle.legal_lists.specs.GicRmap.Map.{decoded as redist_decoded}
use Rattle.history_calls.specs.Calls.{Event, Up, Down, Cpu, Enable, Touch, Put, CtlrBegin, CtlrEnd, Found, Record, Operation, Access, Device, Residence, Happened, Beside, View, Place, PlainWord, HandsOut, IsLastRead, Makes, MakesPlain, IsCall, IsItsWrite, held_at, is_beside, named_of, icc_raises, sets_lpis, takes_turn, read_answer, access_value}
use Rattle.legal_lists.specs.GicCall.declared.event.Event.TheVariants.{Raise, Read}
use Rattle.legal_lists.specs.GicCall.declared.event.Place.TheVariants.{Word, Queue as QueuePlace, Ctlr, Lpis}
use Rattle.legal_lists.specs.GicCall.declared.event.Found.TheVariants.{Nothing, Answer, Word as FoundWord, Queue as FoundQueue, Ctlr as FoundCtlr, Lpis as FoundLpis}
use Rattle.history_calls.specs.Histories.{Ideal, Call, opening_course, worked_guest, is_ahead, come_to, made, vcpu_of, IsEndedAs}
use Rattle.history_calls.specs.LegalLists.Legal.{Note, Made, noting, IsBegun, unseen, signalling}
use Rattle.legal_lists.proofs.KeyLemmas.{own_key}
use Rattle.legal_lists.proofs.MadeLemmas.{GoesOnAs, notes_as}
use Rattle.history_calls.specs.Found.{touches, stores, reads, telling, lpis_in, enables_in, spreads_in, offset_in, stalled_in, found_by, open_by}
use Rattle.history_calls.specs.Exact.{is_plain, is_told, is_doer, events_by, places_by, Answers, IsFirst, is_enable, IsOpen, PlainCallsAreExact}
use Rattle.history_calls.proofs.FoundLemmas.{own_word, own_place, same_place, any_at, none_named, last_same, read_found, found_read, touch_found, store_found, word_found}
use Rattle.history_calls.proofs.PlainLemmas.{Holds, Agrees, alike, AgreesFirst, alike_first, not_from, events_told}

abbrev pub events_in : List Happened → List Event
events_in piece = map (λ (h : Happened). h.event) piece

abbrev pub Hands : View → Happened → Type 0
Hands view happened = HandsOut view happened.event happened.found

-- By another view that agrees.

pub held_same : (view other : View) (place : Place) → Holds view other place → held_at other place ≡ held_at view place
held_same view other (Word word) h = ap FoundWord h
held_same view other QueuePlace h = ap₂ FoundQueue h.0 h.1
held_same view other Ctlr h = ap₂ FoundCtlr h.0 h.1
held_same view other (Lpis vcpu) h = ap FoundLpis h

pub hands_same : (view other : View) (event : Event) (found : Found) → is_told event ≡ true → ((key : Key) → touches key event ≡ true → other.irqs key ≡ view.irqs key) → ((word : PlainWord) → stores word event ≡ true → other.words word ≡ view.words word) → HandsOut view event found
    → HandsOut other event found
hands_same view other (Raise key) found h irqs words is = is
hands_same view other (Up key) found h irqs words is = is
hands_same view other (Down key) found h irqs words is = is
hands_same view other (Cpu vcpu reg write) found h irqs words is = is
hands_same view other (Touch key touching) found h irqs words is = is ∙ ap Record (sym (irqs key (own_key key)))
hands_same view other (Put word value) found h irqs words is = is ∙ ap FoundWord (sym (words word (own_word word)))
hands_same view other (CtlrBegin enables) found h irqs words is = is
hands_same view other CtlrEnd found h irqs words is = is
hands_same view other event found h irqs words is = absurd (cc)

pub hands_all : (view other : View) (named : List Happened) → list_all is_told (events_in named) ≡ true → ((key : Key) → list_any (touches key) (events_in named) ≡ true → other.irqs key ≡ view.irqs key) → ((word : PlainWord) → list_any (stores word) (events_in named) ≡ true → other.words word ≡ view.words word)
    → All (Hands view) named → All (Hands other) named
hands_all view other [] h irqs words all = All-nil (Hands other)
hands_all view other (one ∷ named) h irqs words all =
    let both = and_parts (is_told one.event) (list_all is_told (events_in named)) h in
    All-cons (Hands other) one named
    (hands_same view other one.event one.found both.0 (λ key k. irqs key (or_left (touches key one.event) (list_any (touches key) (events_in named)) k)) (λ word k. words word (or_left (stores word one.event) (list_any (stores word) (events_in named)) k))
    (All-head (Hands view) one named all))
    (hands_all view other named both.1 (λ key k. irqs key (or_right (touches key one.event) (list_any (touches key) (events_in named)) k)) (λ word k. words word (or_right (stores word one.event) (list_any (stores word) (events_in named)) k)) (All-tail (Hands view) one named all))

-- made so, by an actor that is this vCPU or a device
abbrev MadeBy : GuestShape → ℕ → Option ℕ → View → Operation → List Happened → Option ℕ → Type 0
MadeBy shape actor who view operation piece answer = Makes who view (events_by shape actor view operation) (places_by shape view operation) [] piece × Answers shape actor view operation piece answer

module _ (shape : GuestShape) (actor : ℕ) (who : Option ℕ) (operation : Operation) (plain : is_plain shape operation ≡ true) where
  by_other : (view other : View) (piece : List Happened) (answer : Option ℕ) → Agrees view other (events_by shape actor view operation) (places_by shape view operation) → MadeBy shape actor who view operation piece answer → MadeBy shape actor who other operation piece answer
  by_other view other piece answer agrees is =
      let same = alike shape actor view other operation plain agrees in
      let events = events_by shape actor view operation in (
        record {
          events_are = is.0.events_are ∙ sym same.events;
          found =
              hands_all view other (named_of who piece) (ap (list_all is_told) is.0.events_are ∙ events_told shape actor view operation plain) (λ key h. agrees.irqs key (ap (list_any (touches key)) (sym is.0.events_are) ∙ h))
              (λ word h. agrees.words word (ap (list_any (stores word)) (sym is.0.events_are) ∙ h)) is.0.found;
          reads =
              subst (All (λ (place : Place). IsLastRead place (held_at other place) piece)) (sym same.places)
              (λ k d lt. subst (λ f. IsLastRead (get_or (places_by shape view operation) k d) f piece) (sym (held_same view other (get_or (places_by shape view operation) k d) (agrees.held k d lt))) (is.0.reads k d lt));
        },
        same.answers piece answer is.1,
      )

  -- what it found agrees
  found_agrees : (view : View) (piece : List Happened) (answer : Option ℕ) → MadeBy shape actor who view operation piece answer → Agrees view (found_by piece) (events_by shape actor view operation) (places_by shape view operation)
  found_agrees view piece answer is = record {
    irqs = λ key h. touch_found who view piece is.0.found key (ap (list_any (touches key)) is.0.events_are ∙ h);
    words = λ word h. store_found who view piece is.0.found word (ap (list_any (stores word)) is.0.events_are ∙ h);
    held = λ k d lt. held (get_or (places_by shape view operation) k d) (is.0.reads k d lt);
  }
    where
      of_word : (word : PlainWord) (b : Bool) → list_any (stores word) (events_in (named_of who piece)) ≡ b → IsLastRead (Word word) (FoundWord (view.words word)) piece → (found_by piece).words word ≡ view.words word
      of_word word true e read = store_found who view piece is.0.found word e
      of_word word false e read = word_found who view piece word e read

      held : (place : Place) → IsLastRead place (held_at view place) piece → Holds view (found_by piece) place
      held (Word word) read = of_word word (list_any (stores word) (events_in (named_of who piece))) refl read
      held QueuePlace read = let last = read_found QueuePlace (held_at view QueuePlace) piece read in (ap offset_in last, ap stalled_in last)
      held Ctlr read = let last = read_found Ctlr (held_at view Ctlr) piece read in (ap enables_in last, ap spreads_in last)
      held (Lpis vcpu) read = ap lpis_in (read_found (Lpis vcpu) (held_at view (Lpis vcpu)) piece read)

  found_made : (view : View) (piece : List Happened) (answer : Option ℕ) → MadeBy shape actor who view operation piece answer → MadeBy shape actor who (found_by piece) operation piece answer
  found_made view piece answer is = by_other view (found_by piece) piece answer (found_agrees view piece answer is) is

-- a view that differs in what such calls do not find
apart : (view other : View) (events : List Event) (places : List Place) → ((key : Key) → other.irqs key ≡ view.irqs key) → ((word : PlainWord) → other.words word ≡ view.words word) → ((place : Place) → Holds view other place) → Agrees view other events places
apart view other events places irqs words held = record { irqs = λ key h. irqs key; words = λ word h. words word; held = λ k d lt. held (get_or places k d) }

with_targets : View → (ℕ → Option ℕ) → View
with_targets view targets = record view { targets = targets }

-- Calls as they are defined.

plain_makes : (shape : GuestShape) (view : View) (actor vcpu offset size : ℕ) (write : Option ℕ) (piece : List Happened) → sets_lpis shape (redist_decoded offset size) write ≡ false
    → MakesPlain (cond (sets_lpis shape (redist_decoded offset size) write) (Some vcpu) None) shape view actor (Redist vcpu) offset size write piece ≡ MakesPlain None shape view actor (Redist vcpu) offset size write piece
plain_makes shape view actor vcpu offset size write piece h = ap (λ b. MakesPlain (cond b (Some vcpu) None) shape view actor (Redist vcpu) offset size write piece) h

call_made : (shape : GuestShape) (actor : ℕ) (b : Bool) (beside : Beside) (operation : Operation) (piece : List Happened) (answer : Option ℕ) → is_plain shape operation ≡ true → IsCall shape beside (cond b (Some actor) None) operation piece answer
    → (view : View) × MadeBy shape actor (cond b (Some actor) None) view operation piece answer
call_made shape actor true beside (Access (Icc reg write)) piece answer h is = (is.view, (is.made, is.answers))
call_made shape actor true beside (Access (Mem Dist offset size write)) piece answer h is = (is.view, (is.made, is.answers))
call_made shape actor true beside (Access (Mem (Redist vcpu) offset size write)) piece answer h is =
    (is.view, (subst (λ o. MakesPlain o shape is.view actor (Redist vcpu) offset size write piece) (ap (λ b. cond b (Some vcpu) None) (not_from (sets_lpis shape (redist_decoded offset size) write) h)) is.made, is.answers))
call_made shape actor true beside (Access (Mem Its offset size None)) piece answer h is = (is.view, (is.made, is.answers))
call_made shape actor true beside (Access (Mem Its offset size (Some value))) piece answer h is =
    let plain = subst (λ b. IsItsWrite b shape beside actor offset size value piece answer) (not_from (takes_turn shape (its_decoded offset size) (Some value)) h) is in
    (plain.view, (plain.made, plain.answers))
call_made shape actor true beside (Access (Mem Memory offset size write)) piece answer h is = (is.view, (is.made, is.answers))
call_made shape actor true beside (Device op) piece answer h is = absurd is
call_made shape actor true beside Residence piece answer h is =
    (unseen, (record { events_are = ap events_in is.0; found = All-same (Hands unseen) (named_of (Some actor) piece) [] is.0 (All-nil (Hands unseen)); reads = All-nil (λ (place : Place). IsLastRead place (held_at unseen place) piece) }, is.1))
call_made shape actor false beside (Access op) piece answer h is = absurd is
call_made shape actor false beside (Device (Message spi)) piece answer h is = (is.view, (is.made, is.answers))
call_made shape actor false beside (Device (Wire key up)) piece answer h is = (is.view, (is.made, is.answers))
call_made shape actor false beside (Device (Msi device event)) piece answer h is = absurd (cc)
call_made shape actor false beside Residence piece answer h is = absurd is

-- the actor does so, whether it is a vCPU or a device
abbrev pub does : Bool → Operation → Bool
does vcpu (Device op) = not vcpu
does vcpu operation = vcpu

-- by a view that has these targets and maps
beside_made : (shape : GuestShape) (actor : ℕ) (who : Option ℕ) (beside : Beside) (view : View) (operation : Operation) (piece : List Happened) (answer : Option ℕ) → is_plain shape operation ≡ true → MadeBy shape actor who view operation piece answer
    → MadeBy shape actor who (record view { targets = beside.targets; maps = beside.maps }) operation piece answer
beside_made shape actor who beside view operation piece answer h is =
    by_other shape actor who operation h view (record view { targets = beside.targets; maps = beside.maps }) piece answer
    (apart view (record view { targets = beside.targets; maps = beside.maps }) _ _ (λ key. refl) (λ word. refl) held) is
  where
    held : (place : Place) → Holds view (record view { targets = beside.targets; maps = beside.maps }) place
    held (Word word) = refl
    held QueuePlace = (refl, refl)
    held Ctlr = (refl, refl)
    held (Lpis vcpu) = refl

made_call : (shape : GuestShape) (actor : ℕ) (b : Bool) (beside : Beside) (view : View) (operation : Operation) (piece : List Happened) (answer : Option ℕ) → is_plain shape operation ≡ true → does b operation ≡ true → view.targets ≡ beside.targets → view.maps ≡ beside.maps
    → MadeBy shape actor (cond b (Some actor) None) view operation piece answer → IsCall shape beside (cond b (Some actor) None) operation piece answer
made_call shape actor true beside view (Access (Icc reg write)) piece answer h d t m is = record { view = view; made = is.0; answers = is.1 }
made_call shape actor true beside view (Access (Mem Dist offset size write)) piece answer h d t m is = record { view = view; targets = t; made = is.0; answers = is.1 }
made_call shape actor true beside view (Access (Mem (Redist vcpu) offset size write)) piece answer h d t m is = record {
  view = view;
  targets = t;
  made = subst (λ o. MakesPlain o shape view actor (Redist vcpu) offset size write piece) (sym (ap (λ b. cond b (Some vcpu) None) (not_from (sets_lpis shape (redist_decoded offset size) write) h))) is.0;
  answers = is.1;
}
made_call shape actor true beside view (Access (Mem Its offset size None)) piece answer h d t m is = record { view = view; targets = t; made = is.0; answers = is.1 }
made_call shape actor true beside view (Access (Mem Its offset size (Some value))) piece answer h d t m is =
    subst (λ b. IsItsWrite b shape beside actor offset size value piece answer) (sym (not_from (takes_turn shape (its_decoded offset size) (Some value)) h)) (record { view = view; targets = t; made = is.0; answers = is.1 })
made_call shape actor true beside view (Access (Mem Memory offset size write)) piece answer h d t m is = record { view = view; targets = t; made = is.0; answers = is.1 }
made_call shape actor true beside view (Device op) piece answer h d t m is = absurd (cc)
made_call shape actor true beside view Residence piece answer h d t m is = (no_events (named_of (Some actor) piece) is.0.events_are, is.1)
  where
    no_events : (named : List Happened) → events_in named ≡ [] → named ≡ []
    no_events [] k = refl
    no_events (one ∷ named) k = absurd (cc)
made_call shape actor false beside view (Access op) piece answer h d t m is = absurd (cc)
made_call shape actor false beside view (Device (Message spi)) piece answer h d t m is = record { view = view; maps = m; made = is.0; answers = is.1 }
made_call shape actor false beside view (Device (Wire key up)) piece answer h d t m is = record { view = view; maps = m; made = is.0; answers = is.1 }
made_call shape actor false beside view (Device (Msi device event)) piece answer h d t m is = absurd (cc)
made_call shape actor false beside view Residence piece answer h d t m is = absurd (cc)

pub does_so : (shape : GuestShape) (actor : ℕ) (operation : Operation) → is_doer shape actor operation ≡ true → does (nat_lt actor shape.vcpus) operation ≡ true
does_so shape actor (Access op) h = h
does_so shape actor (Device op) h = h
does_so shape actor Residence h = h

-- Calls that are over.

module _ (shape : GuestShape) (actor : ℕ) (operation : Operation) (plain : is_plain shape operation ≡ true) where
  pub ended_made : (call : Call) (answer : Option ℕ) (signals : Bool) → call.operation ≡ operation → IsEndedAs signals shape actor call answer → (view : View) × MadeBy shape actor (vcpu_of shape actor) view operation call.piece answer
  ended_made call answer signals same is = call_made shape actor (nat_lt actor shape.vcpus) is.beside operation call.piece answer plain (subst (λ o. IsCall shape is.beside (vcpu_of shape actor) o call.piece answer) same is.is_call)

  made_ended : (doer : is_doer shape actor operation ≡ true) (call : Call) (answer : Option ℕ) (signals : Bool) → call.operation ≡ operation → ((id : ℕ) → (other : Option ℕ) × Contains (call.targets id) other) → (view : View) → MadeBy shape actor (vcpu_of shape actor) view operation call.piece answer
      → IsEndedAs signals shape actor call answer
  made_ended doer call answer signals same seen view is =
      let beside : Beside = record { maps = call.maps; targets = λ id. (seen id).0; commands = call.commands; signals = false } in
      record {
        beside = beside;
        maps = refl;
        commands = refl;
        targets = λ id. (seen id).1;
        right = λ h. absurd (cc);
        is_call = subst (λ o. IsCall shape beside (vcpu_of shape actor) o call.piece answer) (sym same)
            (made_call shape actor (nat_lt actor shape.vcpus) beside (record view { targets = beside.targets; maps = beside.maps }) operation call.piece answer plain (does_so shape actor operation doer) refl refl
            (beside_made shape actor (vcpu_of shape actor) beside view operation call.piece answer plain is));
      }

-- Calls that go on: what they have made so far.

pub first_of : (view : View) (one other : List Happened) → All (Hands view) (one ++ other) → All (Hands view) one
first_of view [] other all = All-nil (Hands view)
first_of view (x ∷ one) other all = All-cons (Hands view) x one (All-head (Hands view) x (one ++ other) all) (first_of view one other (All-tail (Hands view) x (one ++ other) all))

module _ (shape : GuestShape) (actor : ℕ) (operation : Operation) (plain : is_plain shape operation ≡ true) where
  first_by : (view : View) (piece : List Happened) (rest : List Event) → events_in (named_of (vcpu_of shape actor) piece) ++ rest ≡ events_by shape actor view operation → All (Hands view) (named_of (vcpu_of shape actor) piece) → IsFirst shape actor (open_by piece) operation piece
  first_by view piece rest are all = of (named_of (vcpu_of shape actor) piece) refl
    where
      who : Option ℕ
      who = vcpu_of shape actor

      told : list_all is_told (events_in (named_of (vcpu_of shape actor) piece)) ≡ true
      told = (and_parts (list_all is_told (events_in (named_of who piece))) (list_all is_told rest) (sym (list_all-append is_told (events_in (named_of who piece)) rest) ∙ ap (list_all is_told) are ∙ events_told shape actor view operation plain)).0

      of : (named : List Happened) → named_of (vcpu_of shape actor) piece ≡ named → IsFirst shape actor (open_by piece) operation piece
      of [] e = record { rest = events_by shape actor (open_by piece) operation; events_are = ap (λ ns. events_in ns ++ events_by shape actor (open_by piece) operation) e; found = All-same (Hands (open_by piece)) (named_of who piece) [] e (All-nil (Hands (open_by piece))) }
      of (one ∷ others) e =
          let agrees : AgreesFirst view (open_by piece) one.event = record {
            irqs = λ key h. touch_found who view piece all key (ap (λ ns. list_any (touches key) (events_in ns)) e ∙ or_left (touches key one.event) (list_any (touches key) (events_in others)) h);
            words = λ word h. store_found who view piece all word (ap (λ ns. list_any (stores word) (events_in ns)) e ∙ or_left (stores word one.event) (list_any (stores word) (events_in others)) h);
            lpis = λ vcpu. refl;
          } in
          record {
            rest = rest;
            events_are = are ∙ sym (alike_first shape actor view (open_by piece) operation one.event (events_in others ++ rest) plain agrees (sym are ∙ ap (λ ns. events_in ns ++ rest) e));
            found = hands_all view (open_by piece) (named_of who piece) told (λ key h. touch_found who view piece all key h) (λ word h. store_found who view piece all word h) all;
          }

  begun_first : (call : Call) (signals : Bool) → call.operation ≡ operation → IsBegun signals shape actor call → IsFirst shape actor (open_by call.piece) operation call.piece
  begun_first call signals same is =
      let who = vcpu_of shape actor in
      let last : Call = fold noting call is.notes in
      let goes : GoesOnAs call last = notes_as call is.notes in
      let so = ended_made shape actor operation plain last is.answer (fold signalling signals is.notes) (goes.operation ∙ same) is.ended in
      let named : named_of who last.piece ≡ named_of who call.piece ++ named_of who goes.more =
      ap (named_of who) goes.piece ∙ filter-append (λ (h : Happened). not (is_beside who h.event)) call.piece goes.more in
      first_by so.0 call.piece (events_in (named_of who goes.more))
      (sym (map-append (λ (h : Happened). h.event) (named_of who call.piece) (named_of who goes.more)) ∙ ap events_in (sym named) ∙ so.1.0.events_are)
      (first_of so.0 (named_of who call.piece) (named_of who goes.more) (subst (All (Hands so.0)) named so.1.0.found))

-- Calls that go on: what they may still make.

-- what an event hands out that is still to come
abbrev pub hands : View → Event → Found
hands view (Cpu vcpu reg write) = Answer None
hands view (Touch key touching) = Record (view.irqs key)
hands view (Put word value) = FoundWord (view.words word)
hands view event = Nothing

abbrev pub coming : View → Event → Happened
coming view event = record { event = event; found = hands view event }

abbrev pub reading : View → Place → Happened
reading view place = record { event = Read place; found = held_at view place }

hands_out : (view : View) (event : Event) → is_told event ≡ true → HandsOut view event (hands view event)
hands_out view (Raise key) h = refl
hands_out view (Up key) h = refl
hands_out view (Down key) h = refl
hands_out view (Cpu vcpu reg write) h = (None, refl)
hands_out view (Touch key touching) h = refl
hands_out view (Put word value) h = refl
hands_out view (CtlrBegin enables) h = refl
hands_out view CtlrEnd h = refl
hands_out view event h = absurd (cc)

abbrev is_quiet : Event → Bool
is_quiet (Read place) = true
is_quiet event = is_told event

told_quiet : (event : Event) → is_told event ≡ true → is_quiet event ≡ true
told_quiet (Read place) h = refl
told_quiet event h = h

told_named : (actor : Option ℕ) (event : Event) → is_told event ≡ true → is_beside actor event ≡ false
told_named actor (Raise key) h = refl
told_named actor (Up key) h = refl
told_named actor (Down key) h = refl
told_named actor (Cpu vcpu reg write) h = refl
told_named actor (Touch key touching) h = refl
told_named actor (Put word value) h = refl
told_named actor (CtlrBegin enables) h = refl
told_named actor CtlrEnd h = refl
told_named actor event h = absurd (cc)

-- whatever the guest is then
pub here : Ideal
here = (opening_course worked_guest).ideal

-- a call with more events, which has come to no LPI of a pending table
record IsLonger (call later : Call) (more : List Happened) : Type 0 where
  operation : later.operation ≡ call.operation
  piece : later.piece ≡ call.piece ++ more
  targets : (id : ℕ) → later.targets id ≡ call.targets id
  place : later.place ≡ None

longer_one : (call : Call) (event : Event) (found : Found) → is_quiet event ≡ true → call.place ≡ None → IsLonger call (made here event found call) ((record { event = event; found = found }) ∷ [])
longer_one call (Raise key) found h none = record { operation = refl; piece = refl; targets = λ id. refl; place = none }
longer_one call (Up key) found h none = record { operation = refl; piece = refl; targets = λ id. refl; place = none }
longer_one call (Down key) found h none = record { operation = refl; piece = refl; targets = λ id. refl; place = none }
longer_one call (Cpu vcpu reg write) found h none = record { operation = refl; piece = refl; targets = λ id. refl; place = none }
longer_one call (Put word value) found h none = record { operation = refl; piece = refl; targets = λ id. refl; place = none }
longer_one call (Read place) found h none = record { operation = refl; piece = refl; targets = λ id. refl; place = none }
longer_one call (CtlrBegin enables) found h none = record { operation = refl; piece = refl; targets = λ id. refl; place = none }
longer_one call CtlrEnd found h none = record { operation = refl; piece = refl; targets = λ id. refl; place = none }
longer_one call (Touch key touching) found h none = record {
  operation = refl;
  piece = refl;
  targets = λ id. ap (λ o. cond (is_ahead o key id) [] (call.targets id)) none;
  place = ap (λ o. come_to o key) none;
}
longer_one call event found h none = absurd (cc)

abbrev pub notes_of : List Happened → List Note
notes_of more = map (λ (h : Happened). Made false here h.event h.found) more

longer : (call : Call) (more : List Happened) → list_all is_quiet (events_in more) ≡ true → call.place ≡ None → IsLonger call (fold noting call (notes_of more)) more
longer call [] h none = record { operation = refl; piece = sym (append-nil call.piece); targets = λ id. refl; place = none }
longer call (one ∷ more) h none =
    let both = and_parts (is_quiet one.event) (list_all is_quiet (events_in more)) h in
    let first = longer_one call one.event one.found both.0 none in
    let later = longer (made here one.event one.found call) more both.1 first.place in
    record {
      operation = later.operation ∙ first.operation;
      piece = later.piece ∙ ap (λ p. p ++ more) first.piece ∙ append_assoc call.piece (one ∷ []) more;
      targets = λ id. later.targets id ∙ first.targets id;
      place = later.place;
    }

coming_named : (view : View) (actor : Option ℕ) (rest : List Event) → list_all is_told rest ≡ true → named_of actor (map (coming view) rest) ≡ map (coming view) rest
coming_named view actor [] h = refl
coming_named view actor (event ∷ rest) h =
    let both = and_parts (is_told event) (list_all is_told rest) h in
    ap (λ b. cond (not b) (coming view event ∷ named_of actor (map (coming view) rest)) (named_of actor (map (coming view) rest))) (told_named actor event both.0) ∙ ap (λ xs. coming view event ∷ xs) (coming_named view actor rest both.1)

pub reading_named : (view : View) (actor : Option ℕ) (places : List Place) → named_of actor (map (reading view) places) ≡ []
reading_named view actor [] = refl
reading_named view actor (place ∷ places) = reading_named view actor places

pub coming_events : (view : View) (rest : List Event) → events_in (map (coming view) rest) ≡ rest
coming_events view [] = refl
coming_events view (event ∷ rest) = ap (λ xs. event ∷ xs) (coming_events view rest)

coming_hands : (view : View) (rest : List Event) → list_all is_told rest ≡ true → All (Hands view) (map (coming view) rest)
coming_hands view [] h = All-nil (Hands view)
coming_hands view (event ∷ rest) h =
    let both = and_parts (is_told event) (list_all is_told rest) h in
    All-cons (Hands view) (coming view event) (map (coming view) rest) (hands_out view event both.0) (coming_hands view rest both.1)

reading_quiet : (view : View) (places : List Place) → list_all is_quiet (events_in (map (reading view) places)) ≡ true
reading_quiet view [] = refl
reading_quiet view (place ∷ places) = reading_quiet view places

more_quiet : (view : View) (rest : List Event) (places : List Place) → list_all is_told rest ≡ true → list_all is_quiet (events_in (map (coming view) rest ++ map (reading view) places)) ≡ true
more_quiet view [] places h = reading_quiet view places
more_quiet view (event ∷ rest) places h =
    let both = and_parts (is_told event) (list_all is_told rest) h in
    and_from (is_quiet event) (list_all is_quiet (events_in (map (coming view) rest ++ map (reading view) places))) (told_quiet event both.0) (more_quiet view rest places both.1)

-- places that are read one after the other are read the last time so
all_read : (view : View) (place : Place) (places : List Place) → All (λ (h : Happened). reads place h.event ≡ true → h.found ≡ held_at view place) (map (reading view) places)
all_read view place [] = All-nil (λ (h : Happened). reads place h.event ≡ true → h.found ≡ held_at view place)
all_read view place (other ∷ places) = All-cons (λ (h : Happened). reads place h.event ≡ true → h.found ≡ held_at view place) (reading view other) (map (reading view) places) (λ h. ap (held_at view) (same_place other place h)) (all_read view place places)

any_read : (view : View) (place : Place) (places : List Place) → list_any (λ (h : Happened). reads place h.event) (map (reading view) places) ≡ list_any (λ other. reads place (Read other)) places
any_read view place [] = refl
any_read view place (other ∷ places) = ap (λ b. reads place (Read other) || b) (any_read view place places)

pub reads_last : (view : View) (places : List Place) (before : List Happened) → All (λ (place : Place). IsLastRead place (held_at view place) (before ++ map (reading view) places)) places
reads_last view places before k d lt = of (get_or places k d) (any_at (λ other. reads (get_or places k d) (Read other)) places k d lt (own_place (get_or places k d)))
  where
    of : (place : Place) → list_any (λ other. reads place (Read other)) places ≡ true → IsLastRead place (held_at view place) (before ++ map (reading view) places)
    of place h =
        found_read place (held_at view place) (before ++ map (reading view) places)
        (fold-append (telling (reads place)) None before (map (reading view) places)
        ∙ last_same (reads place) (held_at view place) (fold (telling (reads place)) None before) (map (reading view) places) (all_read view place places) (inr (any_read view place places ∙ h)))

-- What it answers.

first_read : (view : View) (vcpu : ℕ) (reg : IccReg) (write : Option ℕ) (events : List Event) (named : List Happened) → events_in named ≡ Cpu vcpu reg write ∷ events → All (Hands view) named → (value : Option ℕ) × Contains named (record { event = Cpu vcpu reg write; found = Answer value })
first_read view vcpu reg write events [] h all = absurd (cc)
first_read view vcpu reg write events (one ∷ named) h all =
    let is : one.event ≡ Cpu vcpu reg write = same_head one.event (Cpu vcpu reg write) (events_in named) events h in
    let hands : HandsOut view (Cpu vcpu reg write) one.found = subst (λ e. HandsOut view e one.found) is (All-head (Hands view) one named all) in
    (hands.0, (0, omega arith, ap₂ (λ (e : Event) (f : Found). let x : Happened = record { event = e; found = f } in x) is hands.1))
  where
    same_head : (x y : Event) (xs ys : List Event) → x ∷ xs ≡ y ∷ ys → x ≡ y
    same_head x y xs ys h = cc

pub kept_there : {X : Type 0} (p : X → Bool) (xs : List X) (x : X) → Contains (filter p xs) x → Contains xs x
kept_there p [] x h = h
kept_there {X} p (y ∷ xs) x h = of (p y) h (kept_there p xs x)
  where
    of : (b : Bool) → Contains (cond b (y ∷ filter p xs) (filter p xs)) x → (Contains (filter p xs) x → Contains xs x) → Contains (y ∷ xs) x
    of true h rest = elim (Contains-append_cases (y ∷ []) (filter p xs) x h) [
      | inl c ↦ Contains-append_left (y ∷ []) xs x c
      | inr c ↦ Contains-append_right (y ∷ []) xs x (rest c)
    ]
    of false h rest = Contains-append_right (y ∷ []) xs x (rest h)

answer_of : (shape : GuestShape) (actor : ℕ) (who : Option ℕ) (view : View) (operation : Operation) (places : List Place) (piece : List Happened) → Makes who view (events_by shape actor view operation) places [] piece → (answer : Option ℕ) × Answers shape actor view operation piece answer
answer_of shape actor who view (Access (Icc reg write)) places piece is =
    let read = first_read view actor reg write (icc_raises shape actor reg write) (named_of who piece) is.events_are is.found in
    (read.0, kept_there (λ (h : Happened). not (is_beside who h.event)) piece (record { event = Cpu actor reg write; found = Answer read.0 }) read.1)
answer_of shape actor who view (Access (Mem frame offset size write)) places piece is = (read_answer write (access_value shape view frame offset size), refl)
answer_of shape actor who view (Device op) places piece is = (None, refl)
answer_of shape actor who view Residence places piece is = (None, refl)

-- no event that is told sets EnableLPIs
told_enables : (events : List Event) → list_all is_told events ≡ true → list_any is_enable events ≡ false
told_enables [] h = refl
told_enables (event ∷ events) h =
    let both = and_parts (is_told event) (list_all is_told events) h in
    ap (λ b. b || list_any is_enable events) (of event both.0) ∙ told_enables events both.1
  where
    of : (event : Event) → is_told event ≡ true → is_enable event ≡ false
    of (Enable vcpu) h = absurd (cc)
    of event h = refl

enable_named : (actor : Option ℕ) (event : Event) → is_enable event ≡ true → is_beside actor event ≡ false
enable_named actor (Enable vcpu) h = refl
enable_named actor event h = absurd (cc)

module _ (shape : GuestShape) (actor : ℕ) (operation : Operation) (plain : is_plain shape operation ≡ true) (doer : is_doer shape actor operation ≡ true) where
  first_begun : (call : Call) (signals : Bool) → call.operation ≡ operation → IsOpen call → (view : View) → IsFirst shape actor view operation call.piece → IsBegun signals shape actor call
  first_begun call signals same opened view is =
      let who = vcpu_of shape actor in
      let own = named_of who call.piece in
      let places = places_by shape view operation in
      let reads_on = map (reading view) places in
      let makes_on = map (coming view) is.rest in
      let told = and_parts (list_all is_told (events_in own)) (list_all is_told is.rest) (sym (list_all-append is_told (events_in own) is.rest) ∙ ap (list_all is_told) is.events_are ∙ events_told shape actor view operation plain) in
      let after = longer call (makes_on ++ reads_on) (more_quiet view is.rest places told.1) (opened.place (none_named who is_enable (enable_named who) call.piece (told_enables (events_in own) told.0))) in
      let last : Call = fold noting call (notes_of (makes_on ++ reads_on)) in
      let filters : Happened → Bool = λ h. not (is_beside who h.event) in
      let on : named_of who (makes_on ++ reads_on) ≡ makes_on =
      filter-append filters makes_on reads_on ∙ ap₂ (λ xs ys. xs ++ ys) (coming_named view who is.rest told.1) (reading_named view who places) ∙ append-nil makes_on in
      let named : named_of who last.piece ≡ own ++ makes_on = ap (named_of who) after.piece ∙ filter-append filters call.piece (makes_on ++ reads_on) ∙ ap (λ xs. own ++ xs) on in
      let makes : Makes who view (events_by shape actor view operation) places [] last.piece = record {
        events_are = ap events_in named ∙ map-append (λ (h : Happened). h.event) own makes_on ∙ ap (λ xs. events_in own ++ xs) (coming_events view is.rest) ∙ is.events_are;
        found = All-same (Hands view) (named_of who last.piece) (own ++ makes_on) named (All-append (Hands view) own makes_on is.found (coming_hands view is.rest told.1));
        reads = subst (λ p. All (λ (place : Place). IsLastRead place (held_at view place) p) places) (sym (after.piece ∙ sym (append_assoc call.piece makes_on reads_on))) (reads_last view places (call.piece ++ makes_on));
      } in
      let answered = answer_of shape actor who view operation places last.piece makes in
      record {
        notes = notes_of (makes_on ++ reads_on);
        answer = answered.0;
        ended = made_ended shape actor operation plain doer last answered.0 (fold signalling signals (notes_of (makes_on ++ reads_on))) (after.operation ∙ same) (λ id. ((opened.seen id).0, subst (λ t. Contains t (opened.seen id).0) (sym (after.targets id)) (opened.seen id).1)) view (makes, answered.1);
      }

pub exact : PlainCallsAreExact
exact shape actor call plain doer opened = record {
  ended = λ signals answer. (
    λ over.
        let some = ended_made shape actor call.operation plain call answer signals refl over in
        let own = found_made shape actor (vcpu_of shape actor) call.operation plain some.0 call.piece answer some.1 in record { made = own.0; answers = own.1 },
    λ is. made_ended shape actor call.operation plain doer call answer signals refl opened.seen (found_by call.piece) (is.made, is.answers),
  );
  begun = λ signals. (begun_first shape actor call.operation plain call signals refl, first_begun shape actor call.operation plain doer call signals refl opened (open_by call.piece));
}
