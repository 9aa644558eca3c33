-- The events of writes of GICD_CTLR that an actor has yet to make, where all calls end.
use Rattle.std.proofs.Common.{◌≡◌, ◌≢◌, ℕ, ◌<◌, ◌==◌, ◌&&◌, Bool, true, false, cond, inl, inr, List, [], ◌∷◌, ◌++◌, Option, option_map, Some, None, refl, sym, ap, ◌∙◌, subst}
use Rattle.std.proofs.lemmas.Bool.{cases_eq, eq-eqb, ne_eqb}
use Rattle.std.proofs.lemmas.List.{append_assoc}
use Rattle.floor_histories.specs.Words.{GuestShape}
use Rattle.floor_histories.specs.Registers.{Enables}
use Rattle.floor_histories.specs.Calls.{Event, Found, Moment, Begin, Happens, Operation, ctlr_events, Happened}
use Rattle.floor_histories.specs.GicCall.declared.event.Moment.TheVariants.{End}
use Rattle.floor_histories.specs.Histories.{Ideal, happened, Call, Course, actor_count, vcpu_of, call_of, seeing, gone_on, course_of, IsCallEnded, IsNext, GoesOn}
use Rattle.law_histories.proofs.QuietLemmas.{is_spread}
use Rattle.law_histories.proofs.SpreadLemmas.{spreads_of, spreads_both, SpreadsAre, call_spreads}
use Rattle.law_histories.proofs.CourseLemmas.{IsCourse, begun_here, begun_other, ended_here, ended_other, made_here, made_other, noted_piece, call_is, none_is, goes}

abbrev pub spread_in : ℕ → Moment → List Event
spread_in actor (Happens other event found) = cond (other == actor && is_spread event) (event ∷ []) []
spread_in actor moment = []

abbrev pub ahead_of : ℕ → List Moment → List Event
ahead_of actor [] = []
ahead_of actor (moment ∷ moments) = spread_in actor moment ++ ahead_of actor moments

-- what an event is of them
pub ahead_here : (actor : ℕ) (event : Event) (found : Found) (moments : List Moment) → ahead_of actor (Happens actor event found ∷ moments) ≡ cond (is_spread event) (event ∷ []) [] ++ ahead_of actor moments
ahead_here actor event found moments = ap (λ b. cond (b && is_spread event) (event ∷ []) [] ++ ahead_of actor moments) (eq-eqb actor actor refl)

pub ahead_other : (actor other : ℕ) (event : Event) (found : Found) (moments : List Moment) → other ≢ actor → ahead_of other (Happens actor event found ∷ moments) ≡ ahead_of other moments
ahead_other actor other event found moments differ = ap (λ b. cond (b && is_spread event) (event ∷ []) [] ++ ahead_of other moments) (ne_eqb actor other (λ e. differ (sym e)))

pub ahead_unspread : (actor other : ℕ) (event : Event) (found : Found) (moments : List Moment) → is_spread event ≡ false → ahead_of other (Happens actor event found ∷ moments) ≡ ahead_of other moments
ahead_unspread actor other event found moments h = ap (λ b. cond ((actor == other) && b) (event ∷ []) [] ++ ahead_of other moments) h ∙ of (actor == other)
  where
    of : (b : Bool) → cond (b && false) (event ∷ []) [] ++ ahead_of other moments ≡ ahead_of other moments
    of true = refl
    of false = refl

-- whole writes, one after the other
pub data AreWrites (shape : GuestShape) : List Event → Type 0 where
  no_write : AreWrites shape []
  one_write : (enables : Enables) (rest : List Event) → AreWrites shape rest → AreWrites shape (ctlr_events shape enables ++ rest)

-- the events of a call so far
abbrev pub piece_in : Option Call → List Happened
piece_in None = []
piece_in (Some call) = call.piece

seen_piece : (ideal : Ideal) (o : Option Call) → piece_in (option_map (seeing ideal) o) ≡ piece_in o
seen_piece ideal None = refl
seen_piece ideal (Some call) = refl

-- those of a call that is open and those that its actor has yet to make
abbrev AreAhead : GuestShape → ℕ → Course → List Event → Type 0
AreAhead shape actor course ahead = AreWrites shape (spreads_of (piece_in (call_of course actor)) ++ ahead)

module _ (shape : GuestShape) (course : Course) (at : IsCourse shape course) (actor : ℕ) (ahead : List Event) where
  -- a moment of the actor's
  begins : (operation : Operation) → IsNext course (Begin actor operation) → AreAhead shape actor (gone_on course (Begin actor operation)) ahead → AreAhead shape actor course ahead
  begins operation next later =
      subst (λ o. AreWrites shape (spreads_of (piece_in o) ++ ahead)) (sym (none_is (call_of course actor) next.1))
      (subst (λ o. AreWrites shape (spreads_of (piece_in o) ++ ahead)) (begun_here course actor operation (subst (λ n. actor < n) (sym at.each) (subst (λ s. actor < actor_count s) at.shape_is next.0))) later)

  happens : (event : Event) (found : Found) → IsNext course (Happens actor event found) → AreAhead shape actor (gone_on course (Happens actor event found)) ahead → AreAhead shape actor course (spread_in actor (Happens actor event found) ++ ahead)
  happens event found next later =
      let one : Happened = record { event = event; found = found } in
      let mine = call_is (call_of course actor) next.within in
      let call = mine.0 in
      let before : spreads_of (piece_in (call_of course actor)) ≡ spreads_of call.piece = ap (λ o. spreads_of (piece_in o)) mine.1 in
      let after : spreads_of (piece_in (call_of (gone_on course (Happens actor event found)) actor)) ≡ spreads_of call.piece ++ spreads_of (one ∷ []) =
      ap (λ o. spreads_of (piece_in o)) (made_here course actor event found call mine.1) ∙ ap (λ p. spreads_of (p ++ one ∷ [])) (noted_piece course.ideal event call) ∙ spreads_both call.piece (one ∷ []) in
      let made_now : spread_in actor (Happens actor event found) ≡ spreads_of (one ∷ []) = ap (λ b. cond (b && is_spread event) (event ∷ []) []) (eq-eqb actor actor refl) in
      subst (AreWrites shape) (ap (λ xs. xs ++ ahead) after ∙ append_assoc (spreads_of call.piece) (spreads_of (one ∷ [])) ahead ∙ ap (λ xs. xs ++ (spreads_of (one ∷ []) ++ ahead)) (sym before) ∙ ap (λ xs. spreads_of (piece_in (call_of course actor)) ++ (xs ++ ahead)) (sym made_now)) later

  ends_so : (signals : Bool) (o : Option Call) (answer : Option ℕ) → IsCallEnded signals shape actor o answer → AreWrites shape ahead → AreWrites shape (spreads_of (piece_in o) ++ ahead)
  ends_so signals None answer is later = absurd is
  ends_so signals (Some call) answer is later = of (spreads_of call.piece) (call_spreads shape is.beside (vcpu_of shape actor) call.operation call.piece answer is.is_call)
    where
      of : (spreads : List Event) → SpreadsAre shape spreads → AreWrites shape (spreads ++ ahead)
      of spreads (inl e) = subst (λ xs. AreWrites shape (xs ++ ahead)) (sym e) later
      of spreads (inr (enables, e)) = subst (λ xs. AreWrites shape (xs ++ ahead)) (sym e) (one_write enables ahead later)

  ends : (answer : Option ℕ) → IsNext course (End actor answer) → AreAhead shape actor (gone_on course (End actor answer)) ahead → AreAhead shape actor course ahead
  ends answer next later =
      ends_so (course.signals actor) (call_of course actor) answer (subst (λ s. IsCallEnded (course.signals actor) s actor (call_of course actor) answer) at.shape_is next)
      (subst (λ o. AreWrites shape (spreads_of (piece_in o) ++ ahead)) (ended_here course actor answer) later)

  -- and of another's
  stays : (other : Option Call) → other ≡ call_of course actor → AreWrites shape (spreads_of (piece_in other) ++ ahead) → AreAhead shape actor course ahead
  stays other same later = subst (λ o. AreWrites shape (spreads_of (piece_in o) ++ ahead)) same later

  step : (moment : Moment) → IsNext course moment → AreAhead shape actor (gone_on course moment) ahead → AreAhead shape actor course (spread_in actor moment ++ ahead)
  step (Begin other operation) next later = elim (cases_eq other actor) [
    | inl e ↦ subst (λ n. IsNext course (Begin n operation) → AreAhead shape actor (gone_on course (Begin n operation)) ahead → AreAhead shape actor course ahead) (sym e) (begins operation) next later
    | inr differ ↦ stays _ (begun_other course other operation actor (λ e. differ (sym e))) later
  ]
  step (End other answer) next later = elim (cases_eq other actor) [
    | inl e ↦ subst (λ n. IsNext course (End n answer) → AreAhead shape actor (gone_on course (End n answer)) ahead → AreAhead shape actor course ahead) (sym e) (ends answer) next later
    | inr differ ↦ stays _ (ended_other course other answer actor (λ e. differ (sym e))) later
  ]
  step (Happens other event found) next later = elim (cases_eq other actor) [
    | inl e ↦
        subst (λ n. IsNext course (Happens n event found) → AreAhead shape actor (gone_on course (Happens n event found)) ahead → AreAhead shape actor course (spread_in actor (Happens n event found) ++ ahead)) (sym e) (happens event found) next later
    | inr differ ↦
        subst (λ b. AreAhead shape actor course (cond (b && is_spread event) (event ∷ []) [] ++ ahead)) (sym (ne_eqb other actor differ))
        (subst (λ xs. AreWrites shape (spreads_of xs ++ ahead)) (ap piece_in (made_other course other event found actor (λ e. differ (sym e))) ∙ seen_piece (happened other event course.ideal) (call_of course actor)) later)
  ]

pub ahead_writes : (shape : GuestShape) (actor : ℕ) (course : Course) (moments : List Moment) → IsCourse shape course → GoesOn course moments → call_of (course_of course moments) actor ≡ None → AreAhead shape actor course (ahead_of actor moments)
ahead_writes shape actor course [] at going ended = subst (λ o. AreWrites shape (spreads_of (piece_in o) ++ [])) (sym ended) no_write
ahead_writes shape actor course (moment ∷ moments) at going ended =
    step shape course at actor (ahead_of actor moments) moment going.0 (ahead_writes shape actor (gone_on course moment) moments (goes shape course moment at) going.1 ended)
