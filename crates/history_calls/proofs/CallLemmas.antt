-- What the program finds out of a call, put together.
use Rattle.std.proofs.Common.{◌≡◌, ◌↔◌, ℕ, nat_lt, not, Bool, true, false, cond, IsTrue, IfSome, IfNone, List, [], ◌∷◌, ◌++◌, map, fold, drop, length, All, Option, Some, None, is_some, refl, sym, ap, ◌∙◌, subst, arith, append-nil, take-append-drop}
use Rattle.std.proofs.lemmas.List.{take_all, length-take-le}
use Rattle.std.proofs.lemmas.List.Elements.{All-nil, All-cons, All-head}
use Rattle.history_calls.specs.Words.{GuestShape}
use Rattle.history_calls.specs.Calls.{Event, Operation, Access, Device, Residence, Happened, Beside, View, Place, IsCall, IsLastRead, held_at, named_of}
use Rattle.history_calls.specs.Histories.{Call, vcpu_of, IsEndedAs}
use Rattle.history_calls.specs.LegalLists.Legal.{noting, IsBegun, signalling}
use Rattle.legal_lists.proofs.MadeLemmas.{GoesOnAs, notes_as}
use Rattle.history_calls.specs.Counted.{IsCounted, IsUncounted}
use Rattle.history_calls.specs.Exact.{is_plain, is_doer, events_by, Answers, AreReadBy, IsCallOf, IsExact, IsFirst, IsMade, IsWholeBy}
use Rattle.history_calls.specs.Found.{reads, last_found, found_by, open_by}
use Rattle.history_calls.proofs.FoundLemmas.{read_found, found_read}
use Rattle.history_calls.proofs.ExactLaw.{exact}

-- Its events.

first_decided : (shape : GuestShape) (actor : ℕ) (operation : Operation) (piece : List Happened) (events : List Event) (count : Option ℕ) → events ≡ events_by shape actor (open_by piece) operation
    → IfSome count (IsCounted (vcpu_of shape actor) (open_by piece) events piece) → IfNone count (IsUncounted (vcpu_of shape actor) (open_by piece) events piece) → IsTrue (is_some count) ↔ IsFirst shape actor (open_by piece) operation piece
first_decided shape actor operation piece events None e some none = (λ h. absurd (cc), λ first. absurd (none first.rest (first.events_are ∙ sym e) first.found))
first_decided shape actor operation piece events (Some count) e some none =
    (λ h. record { rest = drop count events; events_are = ap (λ es. es ++ drop count events) some.events_are ∙ take-append-drop count events ∙ e; found = some.found }, λ first. refl)

pub first_found : (shape : GuestShape) (actor : ℕ) (operation : Operation) (piece : List Happened) (events : List Event) (count : Option ℕ) (who : Option ℕ) (b : Bool) → events ≡ events_by shape actor (open_by piece) operation → who ≡ vcpu_of shape actor → b ≡ is_some count
    → IfSome count (IsCounted who (open_by piece) events piece) → IfNone count (IsUncounted who (open_by piece) events piece) → IsTrue b ↔ IsFirst shape actor (open_by piece) operation piece
first_found shape actor operation piece events count who b e same is some none =
    subst (λ c. IsTrue c ↔ IsFirst shape actor (open_by piece) operation piece) (sym is)
    (first_decided shape actor operation piece events count e (subst (λ w. IfSome count (IsCounted w (open_by piece) events piece)) same some) (subst (λ w. IfNone count (IsUncounted w (open_by piece) events piece)) same none))

whole_counted : (shape : GuestShape) (actor : ℕ) (operation : Operation) (piece : List Happened) (events : List Event) (count : ℕ) (b : Bool) → events ≡ events_by shape actor (found_by piece) operation → IsCounted (vcpu_of shape actor) (found_by piece) events piece count
    → IsTrue b ↔ (count ≡ length events) → IsTrue b ↔ IsWholeBy shape actor (found_by piece) operation piece
whole_counted shape actor operation piece events count b e so all = (
  λ h. let last = all.0 h in record { events_are = so.events_are ∙ take_all count events (omega (arith, last)) ∙ e; found = so.found },
  λ whole. all.1 (sym (length-take-le count events so.within) ∙ ap length (sym so.events_are ∙ whole.events_are ∙ sym e)),
)

whole_uncounted : (shape : GuestShape) (actor : ℕ) (operation : Operation) (piece : List Happened) (events : List Event) → events ≡ events_by shape actor (found_by piece) operation → IsUncounted (vcpu_of shape actor) (found_by piece) events piece
    → IsTrue false ↔ IsWholeBy shape actor (found_by piece) operation piece
whole_uncounted shape actor operation piece events e none = (λ h. absurd (cc), λ whole. absurd (none [] (append-nil (map (λ (h : Happened). h.event) (named_of (vcpu_of shape actor) piece)) ∙ whole.events_are ∙ sym e) whole.found))

pub whole_found : (shape : GuestShape) (actor : ℕ) (operation : Operation) (piece : List Happened) (events : List Event) (found : Option ℕ) (who : Option ℕ) (count : ℕ) (b : Bool) → events ≡ events_by shape actor (found_by piece) operation → who ≡ vcpu_of shape actor → found ≡ Some count
    → IfSome found (IsCounted who (found_by piece) events piece) → IsTrue b ↔ (count ≡ length events) → IsTrue b ↔ IsWholeBy shape actor (found_by piece) operation piece
whole_found shape actor operation piece events found who count b e same is some all =
    whole_counted shape actor operation piece events count b e (subst (λ w. IsCounted w (found_by piece) events piece count) same (subst (λ o. IfSome o (IsCounted who (found_by piece) events piece)) is some)) all

pub whole_lost : (shape : GuestShape) (actor : ℕ) (operation : Operation) (piece : List Happened) (events : List Event) (found : Option ℕ) (who : Option ℕ) → events ≡ events_by shape actor (found_by piece) operation → who ≡ vcpu_of shape actor → found ≡ None
    → IfNone found (IsUncounted who (found_by piece) events piece) → IsTrue false ↔ IsWholeBy shape actor (found_by piece) operation piece
whole_lost shape actor operation piece events found who e same is none =
    whole_uncounted shape actor operation piece events e (subst (λ w. IsUncounted w (found_by piece) events piece) same (subst (λ o. IfNone o (IsUncounted who (found_by piece) events piece)) is none))

-- What it read and answers.

pub read_decided : (view : View) (piece : List Happened) (places : List Place) (place : Place) (b : Bool) → place ∷ [] ≡ places → IsTrue b ↔ (last_found (reads place) piece ≡ Some (held_at view place)) → IsTrue b ↔ All (λ place. IsLastRead place (held_at view place) piece) places
read_decided view piece places place b e so =
    let Is : Place → Type 0 = λ place. IsLastRead place (held_at view place) piece in (
      λ h. subst (All Is) e (All-cons Is place [] (found_read place (held_at view place) piece (so.0 h)) (All-nil Is)),
      λ all. so.1 (read_found place (held_at view place) piece (All-head Is place [] (subst (All Is) (sym e) all))),
    )

pub made_decided : (shape : GuestShape) (actor : ℕ) (view : View) (operation : Operation) (piece : List Happened) (answer : Option ℕ) (b : Bool) → IsWholeBy shape actor view operation piece → AreReadBy shape view operation piece → IsTrue b ↔ Answers shape actor view operation piece answer
    → IsTrue b ↔ IsMade shape actor view operation piece answer
made_decided shape actor view operation piece answer b whole read so = (λ h. record { made = record { events_are = whole.events_are; found = whole.found; reads = read }; answers = so.0 h }, λ is. so.1 is.answers)

pub unmade_whole : (shape : GuestShape) (actor : ℕ) (view : View) (operation : Operation) (piece : List Happened) (answer : Option ℕ) (b : Bool) → b ≡ false → IsTrue b ↔ IsWholeBy shape actor view operation piece → IsTrue false ↔ IsMade shape actor view operation piece answer
unmade_whole shape actor view operation piece answer b e whole = (λ h. absurd (cc), λ is. let so = whole.1 (record { events_are = is.made.events_are; found = is.made.found }) in absurd (cc))

pub unmade_read : (shape : GuestShape) (actor : ℕ) (view : View) (operation : Operation) (piece : List Happened) (answer : Option ℕ) (b : Bool) → b ≡ false → IsTrue b ↔ AreReadBy shape view operation piece → IsTrue false ↔ IsMade shape actor view operation piece answer
unmade_read shape actor view operation piece answer b e read = (λ h. absurd (cc), λ is. let so = read.1 is.made.reads in absurd (cc))

-- Who makes it.

abbrev does : Bool → Operation → Bool
does vcpu (Device op) = not vcpu
does vcpu operation = vcpu

call_does : (shape : GuestShape) (actor : ℕ) (b : Bool) (beside : Beside) (operation : Operation) (piece : List Happened) (answer : Option ℕ) → IsCall shape beside (cond b (Some actor) None) operation piece answer → does b operation ≡ true
call_does shape actor true beside (Access op) piece answer is = refl
call_does shape actor true beside (Device op) piece answer is = absurd is
call_does shape actor true beside Residence piece answer is = refl
call_does shape actor false beside (Access op) piece answer is = absurd is
call_does shape actor false beside (Device op) piece answer is = refl
call_does shape actor false beside Residence piece answer is = absurd is

so_does : (shape : GuestShape) (actor : ℕ) (operation : Operation) → does (nat_lt actor shape.vcpus) operation ≡ true → is_doer shape actor operation ≡ true
so_does shape actor (Access op) h = h
so_does shape actor (Device op) h = h
so_does shape actor Residence h = h

pub ended_doer : (signals : Bool) (shape : GuestShape) (actor : ℕ) (call : Call) (answer : Option ℕ) → IsEndedAs signals shape actor call answer → is_doer shape actor call.operation ≡ true
ended_doer signals shape actor call answer is = so_does shape actor call.operation (call_does shape actor (nat_lt actor shape.vcpus) is.beside call.operation call.piece answer is.is_call)

pub begun_doer : (signals : Bool) (shape : GuestShape) (actor : ℕ) (call : Call) → IsBegun signals shape actor call → is_doer shape actor call.operation ≡ true
begun_doer signals shape actor call is =
    let last : Call = fold noting call is.notes in
    let goes : GoesOnAs call last = notes_as call is.notes in ap (is_doer shape actor) (sym goes.operation) ∙ ended_doer (fold signalling signals is.notes) shape actor last is.answer is.ended

-- The call.

module _ (shape : GuestShape) (actor : ℕ) (operation : Operation) (piece : List Happened) (b : Bool) where
  pub begun_by_other : is_doer shape actor operation ≡ false → (call : Call) (signals : Bool) → IsCallOf operation piece call → IsTrue false ↔ IsBegun signals shape actor call
  begun_by_other other call signals of = (λ h. absurd (cc), λ is. let doer = ap (is_doer shape actor) (sym of.operation_is) ∙ begun_doer signals shape actor call is in absurd (cc))

  pub ended_by_other : (answer : Option ℕ) → is_doer shape actor operation ≡ false → (call : Call) (signals : Bool) → IsCallOf operation piece call → IsTrue false ↔ IsEndedAs signals shape actor call answer
  ended_by_other answer other call signals of = (λ h. absurd (cc), λ is. let doer = ap (is_doer shape actor) (sym of.operation_is) ∙ ended_doer signals shape actor call answer is in absurd (cc))

  module _ (plain : is_plain shape operation ≡ true) (doer : is_doer shape actor operation ≡ true) where
    law : (call : Call) → IsCallOf operation piece call → IsExact shape actor call
    law call of = exact shape actor call (ap (is_plain shape) of.operation_is ∙ plain) (ap (is_doer shape actor) of.operation_is ∙ doer) of.opened

    pub begun_decided : IsTrue b ↔ IsFirst shape actor (open_by piece) operation piece → (call : Call) (signals : Bool) → IsCallOf operation piece call → IsTrue b ↔ IsBegun signals shape actor call
    begun_decided so call signals of =
        let is = law call of in
        let First : Operation → List Happened → Type 0 = λ o p. IsFirst shape actor (open_by p) o p in (
          λ h. (is.begun signals).1 (subst (First call.operation) (sym of.piece_is) (subst (λ o. First o piece) (sym of.operation_is) (so.0 h))),
          λ begun. so.1 (subst (λ o. First o piece) of.operation_is (subst (First call.operation) of.piece_is ((is.begun signals).0 begun))),
        )

    pub ended_decided : (answer : Option ℕ) → IsTrue b ↔ IsMade shape actor (found_by piece) operation piece answer → (call : Call) (signals : Bool) → IsCallOf operation piece call → IsTrue b ↔ IsEndedAs signals shape actor call answer
    ended_decided answer so call signals of =
        let is = law call of in
        let Made : Operation → List Happened → Type 0 = λ o p. IsMade shape actor (found_by p) o p answer in (
          λ h. (is.ended signals answer).1 (subst (Made call.operation) (sym of.piece_is) (subst (λ o. Made o piece) (sym of.operation_is) (so.0 h))),
          λ ended. so.1 (subst (λ o. Made o piece) of.operation_is (subst (Made call.operation) of.piece_is ((is.ended signals answer).0 ended))),
        )
