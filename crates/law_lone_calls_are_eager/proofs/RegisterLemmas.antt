-- A write of a register of the ITS that takes it: what it stores, before any command, goes by what the guest has as the call begins.
use Rattle.std.proofs.Common.{◌≡◌, ◌≢◌, ℕ, ◌+◌, ◌*◌, ◌/◌, ◌%◌, ◌^◌, ◌<◌, ◌==◌, ◌||◌, ◌⊎◌, inl, inr, not, Bool, true, false, IsTrue, All, List, [], ◌∷◌, ◌++◌, Option, refl, sym, ap, ◌∙◌, subst, arith}
use Rattle.std.specs.List.{list_all}
use Rattle.std.proofs.lemmas.Bool.{and_parts, ne_eqb}
use Rattle.std.proofs.lemmas.List.Elements.{All-tail}
use Rattle.law_home_commutes.specs.Words.{GuestShape}
use Rattle.law_home_commutes.specs.Calls.{PlainWord, ItsCtlr, Cbaser, Cwriter, Baser0, Baser1, place_of_plain, its_from, Event, Put, Runs, Happened, is_beside, HandsOut, View}
use Rattle.law_home_commutes.specs.GicCall.declared.event.Event.TheVariants.{Read, Queue}
use Rattle.law_home_commutes.specs.GicCall.declared.event.Found.TheVariants.{Queue as FoundQueue}
use Rattle.law_home_commutes.specs.GicCall.declared.event.Place.TheVariants.{Word, Queue as QueuePlace}
use Rattle.law_home_commutes.specs.Histories.{IdealGuest, word_at, after_event}
use Rattle.law_lone_calls_are_eager.proofs.NamedLemmas.{IsIn}
use Rattle.law_lone_calls_are_eager.proofs.PlainLemmas.{same_word}
use Rattle.law_lone_calls_are_eager.proofs.ReadLemmas.{keeps, kept_at, shape_kept, beside_keeps, all_in}
use Rattle.law_lone_calls_are_eager.proofs.RunLemmas.{events_of, spreading_after, marked, IsHomeRun}

-- Words of the ITS are apart.

abbrev pub differ_at : GuestShape → PlainWord → PlainWord → Bool
differ_at shape one other = not (place_of_plain shape one == place_of_plain shape other)

apart : (m n : ℕ) → m ≢ n → not (m == n) ≡ true
apart m n differ = ap not (ne_eqb m n differ)

pub ctlr_cwriter : (shape : GuestShape) → differ_at shape ItsCtlr Cwriter ≡ true
ctlr_cwriter shape = apart (its_from shape) (its_from shape + 2) (λ e. absurd (omega (arith, e)))

pub ctlr_cbaser : (shape : GuestShape) → differ_at shape ItsCtlr Cbaser ≡ true
ctlr_cbaser shape = apart (its_from shape) (its_from shape + 1) (λ e. absurd (omega (arith, e)))

pub ctlr_baser0 : (shape : GuestShape) → differ_at shape ItsCtlr Baser0 ≡ true
ctlr_baser0 shape = apart (its_from shape) (its_from shape + 3) (λ e. absurd (omega (arith, e)))

pub ctlr_baser1 : (shape : GuestShape) → differ_at shape ItsCtlr Baser1 ≡ true
ctlr_baser1 shape = apart (its_from shape) (its_from shape + 4) (λ e. absurd (omega (arith, e)))

pub cbaser_cwriter : (shape : GuestShape) → differ_at shape Cbaser Cwriter ≡ true
cbaser_cwriter shape = apart (its_from shape + 1) (its_from shape + 2) (λ e. absurd (omega (arith, e)))

pub cbaser_ctlr : (shape : GuestShape) → differ_at shape Cbaser ItsCtlr ≡ true
cbaser_ctlr shape = apart (its_from shape + 1) (its_from shape) (λ e. absurd (omega (arith, e)))

pub cwriter_ctlr : (shape : GuestShape) → differ_at shape Cwriter ItsCtlr ≡ true
cwriter_ctlr shape = apart (its_from shape + 2) (its_from shape) (λ e. absurd (omega (arith, e)))

-- A word that is stored after events that keep it.

pub word_later : (view : View) (word : PlainWord) (value : ℕ) (rest : List Event) (early : List Event) (named : List Happened) (b : Bool) (guest : IdealGuest) → IsHomeRun b guest named → All (λ (h : Happened). HandsOut view h.event h.found) named
    → IsTrue (list_all (keeps guest.shape (Word word)) early) → events_of named ≡ early ++ Put word value ∷ rest → view.words word ≡ word_at guest word
word_later view word value rest [] [] b guest run found keep are = absurd (cc)
word_later view word value rest [] (one ∷ named) b guest run found keep are =
    let event_is : one.event ≡ Put word value = cc in
    let here : HandsOut view one.event one.found = all_in (λ (h : Happened). HandsOut view h.event h.found) (one ∷ named) one found (inl refl) in
    same_word (view.words word) (word_at guest word) (sym (subst (λ e. HandsOut view e one.found) event_is here) ∙ subst (λ e. HandsOut (marked b guest) e one.found) event_is run.0.hands)
word_later view word value rest (event ∷ early) [] b guest run found keep are = absurd (cc)
word_later view word value rest (event ∷ early) (one ∷ named) b guest run found keep are =
    let parts = and_parts (keeps guest.shape (Word word) event) (list_all (keeps guest.shape (Word word)) early) keep in
    let event_is : one.event ≡ event = cc in
    let tail : events_of named ≡ early ++ Put word value ∷ rest = cc in
    let kept : keeps guest.shape (Word word) one.event ≡ true = subst (λ e. keeps guest.shape (Word word) e ≡ true) (sym event_is) parts.0 in
    word_later view word value rest early named (spreading_after one.event b) (after_event guest one.event) run.1 (All-tail (λ (h : Happened). HandsOut view h.event h.found) one named found)
    (subst (λ s. IsTrue (list_all (keeps s (Word word)) early)) (sym (shape_kept one.event guest)) parts.1) tail
    ∙ same_word (word_at (after_event guest one.event) word) (word_at guest word) (kept_at (Word word) one.event b guest kept)

-- What a read of the queue finds where it at most runs again: what it was at first, or that it is not stalled.

abbrev is_runs : Event → Bool
is_runs (Queue offset Runs) = true
is_runs event = false

abbrev pub runs_only : GuestShape → Event → Bool
runs_only shape event = keeps shape QueuePlace event || is_runs event

abbrev pub IsSeen : IdealGuest → ℕ → Bool → Type 0
IsSeen guest offset stalled = ((offset ≡ guest.offset) × (stalled ≡ guest.is_stalled)) ⊎ (stalled ≡ false)

pub queue_pair : (m n : ℕ) (a b : Bool) → FoundQueue m a ≡ FoundQueue n b → (m ≡ n) × (a ≡ b)
queue_pair m n a b e = (first, second)
  where
    first : m ≡ n
    first = cc

    second : a ≡ b
    second = cc

runs_again : (shape : GuestShape) (event : Event) (guest : IdealGuest) → keeps shape QueuePlace event ≡ false → runs_only shape event ≡ true → (after_event guest event).is_stalled ≡ false
runs_again shape (Queue offset Runs) guest k r = refl
runs_again shape event guest k r = absurd (cc)

pub queue_seen : (offset : ℕ) (stalled : Bool) (piece : List Happened) (b : Bool) (guest : IdealGuest) → IsHomeRun b guest piece → IsTrue (list_all (runs_only guest.shape) (events_of piece)) → IsIn piece (record { event = Read QueuePlace; found = FoundQueue offset stalled }) → IsSeen guest offset stalled
queue_seen offset stalled [] b guest run all is = absurd is
queue_seen offset stalled (one ∷ piece) b guest run all (inl e) = inl (queue_pair offset guest.offset stalled guest.is_stalled (subst (λ x. HandsOut (marked b guest) x.event x.found) e run.0.hands))
queue_seen offset stalled (one ∷ piece) b guest run all (inr later) =
    let parts = and_parts (runs_only guest.shape one.event) (list_all (runs_only guest.shape) (events_of piece)) all in
    of (keeps guest.shape QueuePlace one.event) refl parts.0
    (queue_seen offset stalled piece (spreading_after one.event b) (after_event guest one.event) run.1 (subst (λ s. IsTrue (list_all (runs_only s) (events_of piece))) (sym (shape_kept one.event guest)) parts.1) later)
  where
    of : (c : Bool) → keeps guest.shape QueuePlace one.event ≡ c → runs_only guest.shape one.event ≡ true → IsSeen (after_event guest one.event) offset stalled → IsSeen guest offset stalled
    of c k r (inr e) = inr e
    of true k r (inl same) =
        let kept = queue_pair (after_event guest one.event).offset guest.offset (after_event guest one.event).is_stalled guest.is_stalled (kept_at QueuePlace one.event b guest k) in
        inl (same.0 ∙ kept.0, same.1 ∙ kept.1)
    of false k r (inl same) = inr (same.1 ∙ runs_again guest.shape one.event guest k r)

pub beside_runs : (shape : GuestShape) (actor : Option ℕ) (event : Event) → is_beside actor event ≡ true → runs_only shape event ≡ true
beside_runs shape actor event h = ap (λ b. b || is_runs event) (beside_keeps shape QueuePlace actor event h)
