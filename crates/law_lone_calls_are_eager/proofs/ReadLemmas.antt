-- What a run reads of places that its events keep, and of interrupts that it only reads.
use Rattle.std.proofs.Common.{◌≡◌, ◌||◌, ◌≢◌, ℕ, ◌==◌, inl, inr, not, Bool, true, false, cond, IsTrue, All, List, [], ◌∷◌, ◌++◌, Option, slice_index, slice_set, if◌then◌else◌, refl, sym, ap, ◌∙◌, subst}
use Rattle.std.specs.List.{list_all, list_any}
use Rattle.std.proofs.lemmas.Bool.{and_parts, and_from, eq-eqb}
use Rattle.std.proofs.lemmas.List.{get_or-set_other}
use Rattle.std.proofs.lemmas.List.Elements.{All-head, All-tail}
use Rattle.law_home_commutes.specs.Words.{GuestShape}
use Rattle.law_home_commutes.specs.Calls.{PlainWord, Fault, has_plain, place_of_plain, Event, Up, Down, Touch, Reach, Take, Leave, Enable, Cpu, Put, CtlrBegin, CtlrEnd, ItsBegin, Found, Place, Runs, Done, Stalls, Happened, is_beside, named_of, held_at, HandsOut, IsLastRead, Makes, View}
use Rattle.law_home_commutes.specs.GicCall.declared.event.Event.TheVariants.{Raise, Read, ItsEnd, Queue}
use Rattle.law_home_commutes.specs.GicCall.declared.event.Found.TheVariants.{Word as FoundWord}
use Rattle.law_home_commutes.specs.GicCall.declared.event.Place.TheVariants.{Word, Queue as QueuePlace, Ctlr, Lpis}
use Rattle.law_home_commutes.specs.Histories.{IdealGuest, word_at, with_word, after_event}
use Rattle.law_eager_is_history.proofs.GicIdeal.EffectLemmas.{shape_event}
use Rattle.law_lone_calls_are_eager.proofs.NamedLemmas.{IsIn}
use Rattle.law_lone_calls_are_eager.proofs.RunLemmas.{events_of, spreading_after, marked, IsHomeRun}

-- An event keeps what a place holds.

abbrev pub keeps : GuestShape → Place → Event → Bool
keeps shape place (Cpu u reg write) = false
keeps shape (Word word) (Put other value) = not (place_of_plain shape word == place_of_plain shape other)
keeps shape (Word word) (Queue offset (Stalls fault)) = not (place_of_plain shape word == place_of_plain shape Fault)
keeps shape QueuePlace (Queue offset change) = false
keeps shape Ctlr (CtlrBegin enables) = false
keeps shape Ctlr CtlrEnd = false
keeps shape (Lpis vcpu) (Enable u) = false
keeps shape place event = true

pub other_word : (guest : IdealGuest) (word other : PlainWord) (value : ℕ) → not (place_of_plain guest.shape word == place_of_plain guest.shape other) ≡ true → word_at (with_word guest other value) word ≡ word_at guest word
other_word guest word other value h = of (has_plain guest.shape other)
  where
    differ : place_of_plain guest.shape word ≢ place_of_plain guest.shape other
    differ e = absurd (let yes = eq-eqb (place_of_plain guest.shape word) (place_of_plain guest.shape other) e in cc)

    of : (b : Bool) → (if has_plain guest.shape word then slice_index (if b then slice_set guest.words (place_of_plain guest.shape other) value else guest.words) (place_of_plain guest.shape word) else 0) ≡ word_at guest word
    of true = ap (λ n. if has_plain guest.shape word then n else 0) (get_or-set_other guest.words (place_of_plain guest.shape other) (place_of_plain guest.shape word) value 0 differ)
    of false = refl

pub kept_at : (place : Place) (event : Event) (b : Bool) (guest : IdealGuest) → keeps guest.shape place event ≡ true → held_at (marked (spreading_after event b) (after_event guest event)) place ≡ held_at (marked b guest) place
kept_at (Word word) (Raise key) b guest h = refl
kept_at (Word word) (Up key) b guest h = refl
kept_at (Word word) (Down key) b guest h = refl
kept_at (Word word) (Touch key touching) b guest h = refl
kept_at (Word word) (Reach key u) b guest h = refl
kept_at (Word word) (Take key u) b guest h = refl
kept_at (Word word) (Leave key u) b guest h = refl
kept_at (Word word) (Enable u) b guest h = refl
kept_at (Word word) (Cpu u reg write) b guest h = absurd (cc)
kept_at (Word word) (Read at) b guest h = refl
kept_at (Word word) (Put other value) b guest h = ap FoundWord (other_word guest word other value h)
kept_at (Word word) (CtlrBegin enables) b guest h = refl
kept_at (Word word) CtlrEnd b guest h = refl
kept_at (Word word) ItsBegin b guest h = refl
kept_at (Word word) ItsEnd b guest h = refl
kept_at (Word word) (Queue offset Runs) b guest h = refl
kept_at (Word word) (Queue offset (Done words)) b guest h = refl
kept_at (Word word) (Queue offset (Stalls fault)) b guest h = ap FoundWord (other_word guest word Fault fault h)
kept_at QueuePlace (Raise key) b guest h = refl
kept_at QueuePlace (Up key) b guest h = refl
kept_at QueuePlace (Down key) b guest h = refl
kept_at QueuePlace (Touch key touching) b guest h = refl
kept_at QueuePlace (Reach key u) b guest h = refl
kept_at QueuePlace (Take key u) b guest h = refl
kept_at QueuePlace (Leave key u) b guest h = refl
kept_at QueuePlace (Enable u) b guest h = refl
kept_at QueuePlace (Cpu u reg write) b guest h = absurd (cc)
kept_at QueuePlace (Read at) b guest h = refl
kept_at QueuePlace (Put other value) b guest h = refl
kept_at QueuePlace (CtlrBegin enables) b guest h = refl
kept_at QueuePlace CtlrEnd b guest h = refl
kept_at QueuePlace ItsBegin b guest h = refl
kept_at QueuePlace ItsEnd b guest h = refl
kept_at QueuePlace (Queue offset Runs) b guest h = absurd (cc)
kept_at QueuePlace (Queue offset (Done words)) b guest h = absurd (cc)
kept_at QueuePlace (Queue offset (Stalls fault)) b guest h = absurd (cc)
kept_at Ctlr (Raise key) b guest h = refl
kept_at Ctlr (Up key) b guest h = refl
kept_at Ctlr (Down key) b guest h = refl
kept_at Ctlr (Touch key touching) b guest h = refl
kept_at Ctlr (Reach key u) b guest h = refl
kept_at Ctlr (Take key u) b guest h = refl
kept_at Ctlr (Leave key u) b guest h = refl
kept_at Ctlr (Enable u) b guest h = refl
kept_at Ctlr (Cpu u reg write) b guest h = absurd (cc)
kept_at Ctlr (Read at) b guest h = refl
kept_at Ctlr (Put other value) b guest h = refl
kept_at Ctlr (CtlrBegin enables) b guest h = absurd (cc)
kept_at Ctlr CtlrEnd b guest h = absurd (cc)
kept_at Ctlr ItsBegin b guest h = refl
kept_at Ctlr ItsEnd b guest h = refl
kept_at Ctlr (Queue offset Runs) b guest h = refl
kept_at Ctlr (Queue offset (Done words)) b guest h = refl
kept_at Ctlr (Queue offset (Stalls fault)) b guest h = refl
kept_at (Lpis vcpu) (Raise key) b guest h = refl
kept_at (Lpis vcpu) (Up key) b guest h = refl
kept_at (Lpis vcpu) (Down key) b guest h = refl
kept_at (Lpis vcpu) (Touch key touching) b guest h = refl
kept_at (Lpis vcpu) (Reach key u) b guest h = refl
kept_at (Lpis vcpu) (Take key u) b guest h = refl
kept_at (Lpis vcpu) (Leave key u) b guest h = refl
kept_at (Lpis vcpu) (Enable u) b guest h = absurd (cc)
kept_at (Lpis vcpu) (Cpu u reg write) b guest h = absurd (cc)
kept_at (Lpis vcpu) (Read at) b guest h = refl
kept_at (Lpis vcpu) (Put other value) b guest h = refl
kept_at (Lpis vcpu) (CtlrBegin enables) b guest h = refl
kept_at (Lpis vcpu) CtlrEnd b guest h = refl
kept_at (Lpis vcpu) ItsBegin b guest h = refl
kept_at (Lpis vcpu) ItsEnd b guest h = refl
kept_at (Lpis vcpu) (Queue offset Runs) b guest h = refl
kept_at (Lpis vcpu) (Queue offset (Done words)) b guest h = refl
kept_at (Lpis vcpu) (Queue offset (Stalls fault)) b guest h = refl

pub shape_kept : (event : Event) (guest : IdealGuest) → (after_event guest event).shape ≡ guest.shape
shape_kept event guest = shape_event event guest

-- so each read of it finds what was there
pub read_held : (place : Place) (found : Found) (piece : List Happened) (b : Bool) (guest : IdealGuest) → IsHomeRun b guest piece → IsTrue (list_all (keeps guest.shape place) (events_of piece)) → IsIn piece (record { event = Read place; found = found }) → found ≡ held_at (marked b guest) place
read_held place found [] b guest run keep is = absurd is
read_held place found (one ∷ piece) b guest run keep (inl e) = subst (λ x. HandsOut (marked b guest) x.event x.found) e run.0.hands
read_held place found (one ∷ piece) b guest run keep (inr later) =
    let parts = and_parts (keeps guest.shape place one.event) (list_all (keeps guest.shape place) (events_of piece)) keep in
    read_held place found piece (spreading_after one.event b) (after_event guest one.event) run.1 (subst (λ s. IsTrue (list_all (keeps s place) (events_of piece))) (sym (shape_kept one.event guest)) parts.1) later
    ∙ kept_at place one.event b guest parts.0

-- What a list of named events passes, all do, where reads and moves pass it.

pub beside_passes : (test : Event → Bool) → ((actor : Option ℕ) (event : Event) → is_beside actor event ≡ true → test event ≡ true) → (actor : Option ℕ) (piece : List Happened) → IsTrue (list_all test (events_of (named_of actor piece))) → IsTrue (list_all test (events_of piece))
beside_passes test beside actor [] all = refl
beside_passes test beside actor (one ∷ piece) all = of (is_beside actor one.event) refl all (beside_passes test beside actor piece)
  where
    of : (b : Bool) → is_beside actor one.event ≡ b → IsTrue (list_all test (events_of (cond (not b) (one ∷ named_of actor piece) (named_of actor piece)))) → (IsTrue (list_all test (events_of (named_of actor piece))) → IsTrue (list_all test (events_of piece)))
        → IsTrue (list_all test (events_of (one ∷ piece)))
    of true e all later = and_from (test one.event) (list_all test (events_of piece)) (beside actor one.event e) (later all)
    of false e all later = let parts = and_parts (test one.event) (list_all test (events_of (named_of actor piece))) all in and_from (test one.event) (list_all test (events_of piece)) parts.0 (later parts.1)

-- an event that is there among those that are named is there
pub some_named : (test : Event → Bool) (actor : Option ℕ) (piece : List Happened) → list_any test (events_of (named_of actor piece)) ≡ true → list_any test (events_of piece) ≡ true
some_named test actor [] h = absurd (cc)
some_named test actor (one ∷ piece) h = of (is_beside actor one.event) h (some_named test actor piece)
  where
    or_right : (a b : Bool) → b ≡ true → (a || b) ≡ true
    or_right true b h = refl
    or_right false b h = h

    either : (a b c : Bool) → (a || b) ≡ true → (b ≡ true → c ≡ true) → (a || c) ≡ true
    either true b c h k = refl
    either false b c h k = k h

    of : (b : Bool) → list_any test (events_of (cond (not b) (one ∷ named_of actor piece) (named_of actor piece))) ≡ true → (list_any test (events_of (named_of actor piece)) ≡ true → list_any test (events_of piece) ≡ true)
        → (test one.event || list_any test (events_of piece)) ≡ true
    of true h later = or_right (test one.event) (list_any test (events_of piece)) (later h)
    of false h later = either (test one.event) (list_any test (events_of (named_of actor piece))) (list_any test (events_of piece)) h later

pub beside_keeps : (shape : GuestShape) (place : Place) (actor : Option ℕ) (event : Event) → is_beside actor event ≡ true → keeps shape place event ≡ true
beside_keeps shape place actor (Raise key) h = absurd (cc)
beside_keeps shape place actor (Up key) h = absurd (cc)
beside_keeps shape place actor (Down key) h = absurd (cc)
beside_keeps shape place actor (Touch key touching) h = absurd (cc)
beside_keeps shape (Word word) actor (Reach key u) h = refl
beside_keeps shape QueuePlace actor (Reach key u) h = refl
beside_keeps shape Ctlr actor (Reach key u) h = refl
beside_keeps shape (Lpis vcpu) actor (Reach key u) h = refl
beside_keeps shape (Word word) actor (Take key u) h = refl
beside_keeps shape QueuePlace actor (Take key u) h = refl
beside_keeps shape Ctlr actor (Take key u) h = refl
beside_keeps shape (Lpis vcpu) actor (Take key u) h = refl
beside_keeps shape (Word word) actor (Leave key u) h = refl
beside_keeps shape QueuePlace actor (Leave key u) h = refl
beside_keeps shape Ctlr actor (Leave key u) h = refl
beside_keeps shape (Lpis vcpu) actor (Leave key u) h = refl
beside_keeps shape place actor (Enable u) h = absurd (cc)
beside_keeps shape place actor (Cpu u reg write) h = absurd (cc)
beside_keeps shape (Word word) actor (Read at) h = refl
beside_keeps shape QueuePlace actor (Read at) h = refl
beside_keeps shape Ctlr actor (Read at) h = refl
beside_keeps shape (Lpis vcpu) actor (Read at) h = refl
beside_keeps shape place actor (Put other value) h = absurd (cc)
beside_keeps shape place actor (CtlrBegin enables) h = absurd (cc)
beside_keeps shape place actor CtlrEnd h = absurd (cc)
beside_keeps shape place actor ItsBegin h = absurd (cc)
beside_keeps shape place actor ItsEnd h = absurd (cc)
beside_keeps shape place actor (Queue offset Runs) h = absurd (cc)
beside_keeps shape place actor (Queue offset (Done words)) h = absurd (cc)
beside_keeps shape place actor (Queue offset (Stalls fault)) h = absurd (cc)

-- What a view of a call has of a place that the call reads.

pub last_in : (place : Place) (found : Found) (piece : List Happened) → IsLastRead place found piece → IsIn piece (record { event = Read place; found = found })
last_in place found piece is = subst (λ xs. IsIn xs (record { event = Read place; found = found })) (sym is.split) (of is.before)
  where
    of : (early : List Happened) → IsIn (early ++ (record { event = Read place; found = found }) ∷ is.after) (record { event = Read place; found = found })
    of [] = inl refl
    of (x ∷ xs) = inr (of xs)

pub all_in : {X : Type 0} (P : X → Type 0) (xs : List X) (x : X) → All P xs → IsIn xs x → P x
all_in P [] x all is = absurd is
all_in P (y ∷ ys) x all (inl e) = subst P e (All-head P y ys all)
all_in P (y ∷ ys) x all (inr later) = all_in P ys x (All-tail P y ys all) later

pub view_holds :
    (actor : Option ℕ) (view : View) (events : List Event) (places : List Place) (piece : List Happened) (guest : IdealGuest) → Makes actor view events places [] piece → IsHomeRun false guest piece
    → (place : Place) → IsIn places place → IsTrue (list_all (keeps guest.shape place) events) → held_at view place ≡ held_at (marked false guest) place
view_holds actor view events places piece guest made run place is keep =
    read_held place (held_at view place) piece false guest run
    (beside_passes (keeps guest.shape place) (beside_keeps guest.shape place) actor piece (subst (λ es. IsTrue (list_all (keeps guest.shape place) es)) (sym made.events_are) keep))
    (last_in place (held_at view place) piece (all_in (λ p. IsLastRead p (held_at view p) piece) places place made.reads is))
