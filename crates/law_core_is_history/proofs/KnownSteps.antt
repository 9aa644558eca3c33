-- Whoever has the ITS goes on to know it, whatever step is made.
use Rattle.std.proofs.Common.{◌≡◌, ◌≢◌, ℕ, ◌<◌, ◌==◌, ◌&&◌, Bool, true, false, cond, IsTrue, List, [], ◌∷◌, ◌++◌, Some, None, is_none, refl, sym, ap, ◌∙◌, subst, length, inl, inr, ◌⊎◌, arith, if◌then◌else◌}
use Rattle.std.proofs.lemmas.Bool.{cases_eq, eq-eqb, ne_eqb, lt-ltb}
use Rattle.std.proofs.lemmas.Option.{same_Some}
use Rattle.law_lines_translate.specs.Calls.{plain_count}
use Rattle.std.proofs.lemmas.List.{get_or-set_same, get_or-set_other}
use Rattle.std.proofs.lemmas.Grind.{fold-append}
use Rattle.law_lines_translate.specs.Words.{GuestShape, IsShape, is_number}
use Rattle.law_lines_translate.specs.Registers.{queue_of}
use Rattle.law_lines_translate.specs.Core.{Entry, Made, CoreStep, Look, Raise, Claim, GiveBack, Release, Poll, Kick, Touch, Want, WireUp, WireDown, EnableLpis, RamLook, RamPut, CtlrTake, CtlrEnd, TurnTake, CommandDone, TurnRelease, Mark, TakeIndex, LineEnter, LineLeave, LineFill, LineClose, WordId, Queue, Plain, actor_count, fault_place, CanPut, Meets, HasPutFault, word_after, known, is_on, last_made, has_word, place_of_word, CoreState, Seat, no_seat, seat_at, word_in, after, Takes, IsSound, word_of}
use Rattle.law_lines_translate.proofs.PortCore.PlaceLemmas.{place_of_word_within, word_same}
use Rattle.law_lines_translate.proofs.PortCore.StepLemmas.{word_there}
use Rattle.law_lines_translate.proofs.PortCore.StepTies.{number_is}
use Rattle.law_core_is_history.specs.Known.{KnowsIts, IsKnown}

and_false : (b : Bool) → (b && false) ≡ false
and_false true = refl
and_false false = refl

cond_false : {X : Type 0} (b : Bool) (x y : X) → b ≡ false → cond b x y ≡ y
cond_false true x y e = absurd (cc)
cond_false false x y e = refl

plain_index : (i j : ℕ) → Plain i ≡ Plain j → i ≡ j
plain_index i j e = cc

-- a list of steps with one more
pub known_more : (shape : GuestShape) (actor : ℕ) (own : List Made) (made : Made) (word : WordId) → known shape actor (own ++ made ∷ []) word ≡ (if is_on shape actor word made then Some made.left else known shape actor own word)
known_more shape actor own made word = fold-append (λ last made. if is_on shape actor word made then Some made.left else last) None own (made ∷ [])

pub last_more : (own : List Made) (made : Made) → last_made (own ++ made ∷ []) ≡ Some made
last_more own made = fold-append (λ last made. Some made) None own (made ∷ [])

module _ (shape : GuestShape) (state : CoreState) (entry : Entry) (good : IsShape shape) (sound : IsSound shape state) (takes : Takes shape state entry) where
  there : IsTrue (has_word shape (word_of shape entry.actor entry.made.step))
  there = word_there shape entry.actor entry.made.step good takes.can

  -- the word of the step, and every other one
  pub left_in : word_in shape (after shape state entry) (word_of shape entry.actor entry.made.step) ≡ entry.made.left
  left_in = get_or-set_same state.words (place_of_word shape (word_of shape entry.actor entry.made.step)) entry.made.left 0 (subst (λ n. place_of_word shape (word_of shape entry.actor entry.made.step) < n) (sym sound.places) (place_of_word_within shape (word_of shape entry.actor entry.made.step) good there))

  pub other_in : (w : WordId) → (place_of_word shape w ≡ place_of_word shape (word_of shape entry.actor entry.made.step) → ⊥) → word_in shape (after shape state entry) w ≡ word_in shape state w
  other_in w differ = get_or-set_other state.words (place_of_word shape (word_of shape entry.actor entry.made.step)) (place_of_word shape w) entry.made.left 0 differ

  -- the actor, and every other one
  actor_within : entry.actor < length state.seats
  actor_within = subst (λ n. entry.actor < n) (sym sound.actors) takes.actor

  seat_same_actor : (seat_at (after shape state entry) entry.actor).own ≡ (seat_at state entry.actor).own ++ entry.made ∷ []
  seat_same_actor = ap (λ (s : Seat). s.own) (get_or-set_same state.seats entry.actor _ no_seat actor_within)

  pub seat_other : (n : ℕ) → n ≢ entry.actor → seat_at (after shape state entry) n ≡ seat_at state n
  seat_other n differ = get_or-set_other state.seats entry.actor n _ no_seat differ

  -- an actor that has the ITS has it by the word
  turn_in : (actor : ℕ) → actor < actor_count shape → IsTrue (seat_at state actor).local.turn → (queue_of (word_in shape state Queue)).turn ≡ Some actor
  turn_in actor within has = number_is actor _ (sound.ties actor Queue within refl ∙ has)

  -- a step of another actor on the queue's word leaves it, while somebody has the ITS
  pub queue_left : (holder : ℕ) → (queue_of entry.made.found).turn ≡ Some holder → ((seat_at state entry.actor).local.turn ≡ true → ⊥) → word_of shape entry.actor entry.made.step ≡ Queue → entry.made.left ≡ entry.made.found
  queue_left holder held none on = takes.left ∙ of entry.made.step takes.meets on
    where
      of : (step : CoreStep) → Meets shape entry.actor (seat_at state entry.actor).local (seat_at state entry.actor).own step → word_of shape entry.actor step ≡ Queue → word_after shape entry.actor (seat_at state entry.actor).local step entry.made.found ≡ entry.made.found
      of (Look word) meets on = refl
      of (TurnTake seen) meets on = cond_false ((entry.made.found == seen) && is_none (queue_of entry.made.found).turn) _ entry.made.found (ap (λ o. (entry.made.found == seen) && is_none o) held ∙ and_false (entry.made.found == seen))
      of (CommandDone offset stalled ending) meets on = absurd (none meets.turn)
      of TurnRelease meets on = absurd (none meets)
      of (Raise key) meets on = absurd (cc)
      of (Claim key seen) meets on = absurd (cc)
      of (GiveBack key back) meets on = absurd (cc)
      of (Release key) meets on = absurd (cc)
      of (Poll reg write) meets on = absurd (cc)
      of (Kick vcpu) meets on = absurd (cc)
      of (Touch key seen kind) meets on = absurd (cc)
      of (Want key) meets on = absurd (cc)
      of (WireUp key) meets on = absurd (cc)
      of (WireDown key) meets on = absurd (cc)
      of (EnableLpis vcpu) meets on = absurd (cc)
      of (RamLook index) meets on = absurd (cc)
      of (RamPut index seen value) meets on = absurd (cc)
      of (CtlrTake seen value) meets on = absurd (cc)
      of CtlrEnd meets on = absurd (cc)
      of (Mark key vcpu) meets on = absurd (cc)
      of (TakeIndex word) meets on = absurd (cc)
      of (LineEnter line seen) meets on = absurd (cc)
      of (LineLeave line) meets on = absurd (cc)
      of (LineFill line device event lpi) meets on = absurd (cc)
      of (LineClose line) meets on = absurd (cc)

  -- and so does one on the word of a fault's number
  fault_left : ((seat_at state entry.actor).local.turn ≡ true → ⊥) → word_of shape entry.actor entry.made.step ≡ Plain (fault_place shape) → entry.made.left ≡ entry.made.found
  fault_left none on = takes.left ∙ of entry.made.step takes.meets on
    where
      of : (step : CoreStep) → Meets shape entry.actor (seat_at state entry.actor).local (seat_at state entry.actor).own step → word_of shape entry.actor step ≡ Plain (fault_place shape) → word_after shape entry.actor (seat_at state entry.actor).local step entry.made.found ≡ entry.made.found
      of (Look word) meets on = refl
      of (RamLook index) meets on = refl
      of (RamPut index seen value) meets on =
          let same : index ≡ fault_place shape = plain_index index (fault_place shape) on in
          absurd (none (subst (λ b. CanPut b shape entry.actor (seat_at state entry.actor).local (seat_at state entry.actor).own) (eq-eqb index (fault_place shape) same) meets.fault).turn)
      of (TurnTake seen) meets on = absurd (cc)
      of (CommandDone offset stalled ending) meets on = absurd (cc)
      of TurnRelease meets on = absurd (cc)
      of (Raise key) meets on = absurd (cc)
      of (Claim key seen) meets on = absurd (cc)
      of (GiveBack key back) meets on = absurd (cc)
      of (Release key) meets on = absurd (cc)
      of (Poll reg write) meets on = absurd (cc)
      of (Kick vcpu) meets on = absurd (cc)
      of (Touch key seen kind) meets on = absurd (cc)
      of (Want key) meets on = absurd (cc)
      of (WireUp key) meets on = absurd (cc)
      of (WireDown key) meets on = absurd (cc)
      of (EnableLpis vcpu) meets on = absurd (cc)
      of (CtlrTake seen value) meets on = absurd (cc)
      of CtlrEnd meets on = absurd (cc)
      of (Mark key vcpu) meets on = absurd (cc)
      of (TakeIndex word) meets on = absurd (cc)
      of (LineEnter line seen) meets on = absurd (cc)
      of (LineLeave line) meets on = absurd (cc)
      of (LineFill line device event lpi) meets on = absurd (cc)
      of (LineClose line) meets on = absurd (cc)

  -- who has the ITS after the step had it before, unless the step took it
  module _ (next : IsSound shape (after shape state entry)) (known_before : IsKnown shape state) where
    queue_here : place_of_word shape Queue ≡ place_of_word shape (word_of shape entry.actor entry.made.step) → Queue ≡ word_of shape entry.actor entry.made.step
    queue_here e = word_same shape Queue (word_of shape entry.actor entry.made.step) good refl there e

    -- the actor that makes the step
    mine : IsTrue (seat_at (after shape state entry) entry.actor).local.turn → KnowsIts shape (after shape state entry) entry.actor
    mine has = record { queue = queue_of_place (cases_eq (place_of_word shape Queue) (place_of_word shape word)); fault = λ put. fault_known put }
      where
        word : WordId
        word = word_of shape entry.actor entry.made.step

        own : List Made
        own = (seat_at state entry.actor).own

        more : (w : WordId) → known shape entry.actor (seat_at (after shape state entry) entry.actor).own w ≡ (if is_on shape entry.actor w entry.made then Some entry.made.left else known shape entry.actor own w)
        more w = ap (λ o. known shape entry.actor o w) seat_same_actor ∙ known_more shape entry.actor own entry.made w

        queue_of_place : (place_of_word shape Queue ≡ place_of_word shape word) ⊎ (place_of_word shape Queue ≢ place_of_word shape word) → known shape entry.actor (seat_at (after shape state entry) entry.actor).own Queue ≡ Some (word_in shape (after shape state entry) Queue)
        queue_of_place (inl e) =
            more Queue ∙ ap (λ b. if b then Some entry.made.left else known shape entry.actor own Queue) (eq-eqb (place_of_word shape word) (place_of_word shape Queue) (sym e))
            ∙ ap Some (sym left_in ∙ ap (word_in shape (after shape state entry)) (sym (queue_here e)))
        queue_of_place (inr differ) =
            let same = other_in Queue differ in
            let had : IsTrue (seat_at state entry.actor).local.turn = sym (sound.ties entry.actor Queue takes.actor refl) ∙ ap (λ n. is_number entry.actor (queue_of n).turn) (sym same) ∙ next.ties entry.actor Queue takes.actor refl ∙ has in
            more Queue ∙ ap (λ b. if b then Some entry.made.left else known shape entry.actor own Queue) (ne_eqb (place_of_word shape word) (place_of_word shape Queue) (λ e. differ (sym e)))
            ∙ (known_before entry.actor takes.actor had).queue ∙ ap Some (sym same)

        fault_known : HasPutFault shape (seat_at (after shape state entry) entry.actor).own → known shape entry.actor (seat_at (after shape state entry) entry.actor).own (Plain (fault_place shape)) ≡ Some (word_in shape (after shape state entry) (Plain (fault_place shape)))
        fault_known put =
            let last : put.last ≡ entry.made = same_Some put.last entry.made (sym put.is_last ∙ ap last_made seat_same_actor ∙ last_more own entry.made) in
            let step : entry.made.step ≡ RamPut (fault_place shape) put.seen put.value = sym (ap (λ (m : Made). m.step) last) ∙ put.put in
            let here : word ≡ Plain (fault_place shape) = ap (word_of shape entry.actor) step in
            more (Plain (fault_place shape))
            ∙ ap (λ b. if b then Some entry.made.left else known shape entry.actor own (Plain (fault_place shape))) (eq-eqb (place_of_word shape word) (place_of_word shape (Plain (fault_place shape))) (ap (place_of_word shape) here))
            ∙ ap Some (sym left_in ∙ ap (word_in shape (after shape state entry)) here)

    -- every other one
    others : (actor : ℕ) → actor < actor_count shape → actor ≢ entry.actor → IsTrue (seat_at (after shape state entry) actor).local.turn → KnowsIts shape (after shape state entry) actor
    others actor within differ has = record {
      queue = ap (λ (s : Seat). known shape actor s.own Queue) same ∙ before.queue ∙ ap Some (sym (stays Queue refl on_the_queue));
      fault = λ put.
          ap (λ (s : Seat). known shape actor s.own (Plain (fault_place shape))) same
          ∙ before.fault (subst (λ (s : Seat). HasPutFault shape s.own) same put) ∙ ap Some (sym (stays (Plain (fault_place shape)) (lt-ltb (fault_place shape) (plain_count shape) (omega arith)) on_the_fault));
    }
      where
        word : WordId
        word = word_of shape entry.actor entry.made.step

        same : seat_at (after shape state entry) actor ≡ seat_at state actor
        same = seat_other actor differ

        had : IsTrue (seat_at state actor).local.turn
        had = subst (λ (s : Seat). IsTrue s.local.turn) same has

        before : KnowsIts shape state actor
        before = known_before actor within had

        none : (seat_at state entry.actor).local.turn ≡ true → ⊥
        none h = differ (same_Some actor entry.actor (sym (turn_in actor within had) ∙ turn_in entry.actor takes.actor h))

        on_the_queue : word ≡ Queue → entry.made.left ≡ entry.made.found
        on_the_queue e = queue_left actor (ap (λ n. (queue_of n).turn) (takes.found ∙ ap (word_in shape state) e) ∙ turn_in actor within had) none e

        on_the_fault : word ≡ Plain (fault_place shape) → entry.made.left ≡ entry.made.found
        on_the_fault e = fault_left none e

        -- a word that the step leaves as it found it where it is on it
        stays : (w : WordId) → IsTrue (has_word shape w) → (word ≡ w → entry.made.left ≡ entry.made.found) → word_in shape (after shape state entry) w ≡ word_in shape state w
        stays w h kept = elim (cases_eq (place_of_word shape w) (place_of_word shape word)) [
          | inl e ↦
              let on : word ≡ w = sym (word_same shape w word good h there e) in
              ap (word_in shape (after shape state entry)) (sym on) ∙ left_in ∙ kept on ∙ takes.found ∙ ap (word_in shape state) on
          | inr apart ↦ other_in w apart
        ]

    pub keeps_known : IsKnown shape (after shape state entry)
    keeps_known actor within has = elim (cases_eq actor entry.actor) [
      | inl e ↦ subst (KnowsIts shape (after shape state entry)) (sym e) (mine (subst (λ n. IsTrue (seat_at (after shape state entry) n).local.turn) e has))
      | inr differ ↦ others actor within differ has
    ]
