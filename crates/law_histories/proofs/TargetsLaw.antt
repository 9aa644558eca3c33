-- While an actor has the ITS an LPI that its command has not moved is for the vCPU that it was for as the command began.
use Rattle.std.proofs.Common.{◌≡◌, ℕ, ◌==◌, ◌&&◌, ◌||◌, ◌⊎◌, Bool, true, false, IsTrue, List, [], ◌∷◌, ◌++◌, fold, Option, option_map, Some, None, is_none, refl, sym, ap, ◌∙◌, subst, inl, inr}
use Rattle.std.proofs.lemmas.Bool.{cases_eq}
use Rattle.std.proofs.lemmas.Grind.{fold-append}
use Rattle.std.proofs.lemmas.List.{append_assoc}
use Rattle.floor_histories.specs.Words.{GuestShape, Lpi, Spi, Private}
use Rattle.floor_histories.specs.Calls.{Event, Up, Down, Touch, Reach, Take, Leave, Enable, Cpu, Put, CtlrBegin, CtlrEnd, ItsBegin, Runs, Done, Stalls, Found, Moment, Begin, Happens}
use Rattle.floor_histories.specs.GicCall.declared.event.Event.TheVariants.{Raise, Read, ItsEnd, Queue}
use Rattle.floor_histories.specs.GicCall.declared.event.Moment.TheVariants.{End}
use Rattle.floor_histories.specs.Histories.{Ideal, happened, Call, Course, call_of, made, noted, seeing, gone_on, course_of, opening_course, IsHappening, IsNext, GoesOn, IsHistory, IsWhole, targets_in, IdealGuest, CanOpen}
use Rattle.law_histories.specs.Held.{TargetsStand, has_moved, moved_after, moves_lpi}
use Rattle.law_histories.specs.Sync.{begun_for}
use Rattle.law_histories.proofs.CourseLemmas.{IsCourse, opens, nobody_opens, begun_other, ended_here, ended_other, made_here, made_other, call_is, goes, course_both, goes_before}
use Rattle.law_histories.proofs.HeldCalls.{is_owned}
use Rattle.law_histories.proofs.HeldLaw.{owned_are_held, none_some, same_call, same_number}
use Rattle.law_histories.proofs.SpreadLemmas.{events_of}
use Rattle.law_histories.proofs.TargetLemmas.{target_stays}
use Rattle.law_histories.proofs.TurnSteps.{HasHolder, events_more, moment_holds, TurnKind, plain, takes_turn, frees_turn, kind_of}

-- Events.

either_false : (a b : Bool) → (a || b) ≡ false → (a ≡ false) × (b ≡ false)
either_false true b h = absurd (cc)
either_false false b h = (refl, h)

-- an event that moves an LPI is one that only who has the ITS makes
moving_owned : (id : ℕ) (event : Event) → is_owned event ≡ false → moves_lpi id event ≡ false
moving_owned id (Touch (Lpi other) touching) h = ap (λ b. other == id && b) h ∙ none (other == id)
  where
    none : (b : Bool) → (b && false) ≡ false
    none true = refl
    none false = refl
moving_owned id (Touch (Spi other) touching) h = refl
moving_owned id (Touch (Private v other) touching) h = refl
moving_owned id event h = refl

-- the vCPU that an LPI is for as a command begins
begun_now : (state : Ideal) (call : Call) (id : ℕ) → begun_for (record call { commands = call.commands ++ targets_in state ∷ [] }) id ≡ targets_in state id
begun_now state call id = ap (λ (f : ℕ → Option ℕ). f id) (fold-append (λ before now. now) (λ id. None) call.commands (targets_in state ∷ []))

-- what an event of its own leaves of a call that has the ITS
module _ (actor : ℕ) (state : Ideal) (call : Call) (id : ℕ) (was : has_moved id call ≡ false → targets_in state id ≡ begun_for call id) where
  abbrev Stays : Event → Type 0
  Stays event = moved_after id (has_moved id call) event ≡ false → targets_in (happened actor event state) id ≡ begun_for (noted state event call) id

  by_kept : (event : Event) → begun_for (noted state event call) id ≡ begun_for call id → (has_moved id call || moves_lpi id event) ≡ false → (moves_lpi id event ≡ false → targets_in (happened actor event state) id ≡ targets_in state id)
      → targets_in (happened actor event state) id ≡ begun_for (noted state event call) id
  by_kept event same unmoved stays = let both = either_false (has_moved id call) (moves_lpi id event) unmoved in stays both.1 ∙ was both.0 ∙ sym same

  own_stays : (event : Event) → (moves_lpi id event ≡ false → targets_in (happened actor event state) id ≡ targets_in state id) → Stays event
  own_stays ItsBegin stays unmoved = stays refl ∙ sym (begun_now state call id)
  own_stays (Queue offset Runs) stays unmoved = stays refl ∙ was unmoved
  own_stays (Queue offset (Done words)) stays unmoved = stays refl ∙ sym (begun_now state call id)
  own_stays (Queue offset (Stalls fault)) stays unmoved = stays refl ∙ sym (begun_now state call id)
  own_stays (Touch key touching) stays unmoved = by_kept (Touch key touching) refl unmoved stays
  own_stays (Enable vcpu) stays unmoved = by_kept (Enable vcpu) refl unmoved stays
  own_stays (Raise key) stays unmoved = by_kept (Raise key) refl unmoved stays
  own_stays (Up key) stays unmoved = by_kept (Up key) refl unmoved stays
  own_stays (Down key) stays unmoved = by_kept (Down key) refl unmoved stays
  own_stays (Reach key vcpu) stays unmoved = by_kept (Reach key vcpu) refl unmoved stays
  own_stays (Take key vcpu) stays unmoved = by_kept (Take key vcpu) refl unmoved stays
  own_stays (Leave key vcpu) stays unmoved = by_kept (Leave key vcpu) refl unmoved stays
  own_stays (Cpu vcpu reg write) stays unmoved = by_kept (Cpu vcpu reg write) refl unmoved stays
  own_stays (Read place) stays unmoved = by_kept (Read place) refl unmoved stays
  own_stays (Put word value) stays unmoved = by_kept (Put word value) refl unmoved stays
  own_stays (CtlrBegin enables) stays unmoved = by_kept (CtlrBegin enables) refl unmoved stays
  own_stays CtlrEnd stays unmoved = by_kept CtlrEnd refl unmoved stays
  own_stays ItsEnd stays unmoved = by_kept ItsEnd refl unmoved stays

-- Moments.

abbrev Stand : Course → ℕ → Type 0
Stand course id = (actor : ℕ) (call : Call) → course.ideal.has_its ≡ Some actor → call_of course actor ≡ Some call → has_moved id call ≡ false → targets_in course.ideal id ≡ begun_for call id

-- such an event is made by who has the ITS
abbrev IsOwnedBy : Course → Moment → Type 0
IsOwnedBy course (Happens actor event found) = is_owned event ≡ true → course.ideal.has_its ≡ Some actor
IsOwnedBy course moment = Unit {0}

abbrev AreOwned : Course → List Moment → Type 0
AreOwned course [] = Unit {0}
AreOwned course (moment ∷ moments) = IsOwnedBy course moment × AreOwned (gone_on course moment) moments

module _ (shape : GuestShape) (course : Course) (id : ℕ) (at : IsCourse shape course) (holder : HasHolder course) (stand : Stand course id) where
  event_stands : (actor : ℕ) (event : Event) (found : Found) → IsHappening course actor event found → IsOwnedBy course (Happens actor event found) → Stand (gone_on course (Happens actor event found)) id
  event_stands actor event found next owned other call has is unmoved = elim (cases_eq other actor) [
    | inl e ↦ mine e
    | inr differ ↦ others differ (call_of course other) refl (sym (made_other course actor event found other differ) ∙ is)
  ]
    where
      later : Ideal
      later = happened actor event course.ideal

      stays : moves_lpi id event ≡ false → targets_in (happened actor event course.ideal) id ≡ targets_in course.ideal id
      stays still = target_stays actor event course.ideal id at.whole next.can still

      -- it has the ITS before it, or takes it
      had : TurnKind actor event course.ideal → (course.ideal.has_its ≡ Some other) ⊎ ((event ≡ ItsBegin) × (other ≡ actor))
      had (plain p) = inl (sym p.has_its ∙ has)
      had (takes_turn e) = inr (e, same_number other actor (sym has ∙ ap (λ ev. (happened actor ev course.ideal).has_its) e))
      had (frees_turn e) = none_some (ap (λ ev. (happened actor ev course.ideal).has_its) e) has

      mine : other ≡ actor → targets_in later id ≡ begun_for call id
      mine e =
          let before = call_is (call_of course actor) next.within in
          let now : call ≡ seeing later (made course.ideal event found before.0) = same_call call (seeing later (made course.ideal event found before.0)) (sym is ∙ ap (call_of (gone_on course (Happens actor event found))) e ∙ made_here course actor event found before.0 before.1) in
          let moved : moved_after id (has_moved id before.0) event ≡ false
          = sym (fold-append (moved_after id) false (events_of before.0.piece) (event ∷ [])) ∙ ap (fold (moved_after id) false) (sym (events_more course.ideal event found before.0)) ∙ ap (λ (c : Call). has_moved id c) (sym now) ∙ unmoved in
          elim (had (kind_of actor event course.ideal)) [
            | inl it ↦ own_stays actor course.ideal before.0 id (λ still. stand actor before.0 (it ∙ ap Some e) before.1 still) event stays moved
            | inr takes ↦ begins before.0 takes.0
          ]
          ∙ ap (λ (c : Call). begun_for c id) (sym now)
        where
          begins : (before : Call) → event ≡ ItsBegin → targets_in later id ≡ begun_for (noted course.ideal event before) id
          begins before e = stays (ap (moves_lpi id) e) ∙ sym (begun_now course.ideal before id) ∙ ap (λ ev. begun_for (noted course.ideal ev before) id) (sym e)

      others : (other ≡ actor → ⊥) → (o : Option Call) → call_of course other ≡ o → option_map (seeing later) o ≡ Some call → targets_in later id ≡ begun_for call id
      others differ None e h = absurd (cc)
      others differ (Some before) e h =
          let same = same_call (seeing later before) call h in
          elim (had (kind_of actor event course.ideal)) [
            | inl it ↦ stays (unowned it (is_owned event) refl) ∙ stand other before it e (ap (λ (c : Call). has_moved id c) same ∙ unmoved) ∙ ap (λ (c : Call). begun_for c id) same
            | inr takes ↦ absurd (differ takes.1)
          ]
        where
          unowned : course.ideal.has_its ≡ Some other → (b : Bool) → is_owned event ≡ b → moves_lpi id event ≡ false
          unowned it true h = absurd (differ (same_number other actor (sym it ∙ owned h)))
          unowned it false h = moving_owned id event h

  moment_stands : (moment : Moment) → IsNext course moment → IsOwnedBy course moment → Stand (gone_on course moment) id
  moment_stands (Happens actor event found) next owned other call has is unmoved = event_stands actor event found next owned other call has is unmoved
  moment_stands (Begin actor operation) next owned other call has is unmoved = elim (cases_eq other actor) [
    | inl e ↦ absurd (within (call_of course actor) (sym (ap (call_of course) e) ∙ (holder other has).its) next.1)
    | inr differ ↦ stand other call has (sym (begun_other course actor operation other differ) ∙ is) unmoved
  ]
    where
      within : (o : Option Call) {call : Call} → o ≡ Some call → IsTrue (is_none o) → ⊥
      within None e h = cc
      within (Some c) e h = cc
  moment_stands (End actor answer) next owned other call has is unmoved = elim (cases_eq other actor) [
    | inl e ↦ none_some (ended_here course actor answer) (ap (call_of (gone_on course (End actor answer))) (sym e) ∙ is)
    | inr differ ↦ stand other call has (sym (ended_other course actor answer other differ) ∙ is) unmoved
  ]

all_stand : (shape : GuestShape) (course : Course) (id : ℕ) (moments : List Moment) → IsCourse shape course → GoesOn course moments → AreOwned course moments → HasHolder course → Stand course id → Stand (course_of course moments) id
all_stand shape course id [] at going owned holder stand = stand
all_stand shape course id (moment ∷ moments) at going owned holder stand =
    all_stand shape (gone_on course moment) id moments (goes shape course moment at) going.1 owned.1 (moment_holds shape course at holder moment going.0) (moment_stands shape course id at holder stand moment going.0 owned.0)

-- All moments of a history.

module _ (guest : IdealGuest) (good : CanOpen guest) where
  owned_here : (early late : List Moment) (moment : Moment) → IsHistory guest (early ++ moment ∷ late) → IsWhole guest (early ++ moment ∷ late) → IsOwnedBy (course_of (opening_course guest) early) moment
  owned_here early late (Happens actor event found) history whole = λ owned. owned_are_held guest early late actor event found owned good history whole
  owned_here early late (Begin actor operation) history whole = tt
  owned_here early late (End actor answer) history whole = tt

  all_owned : (early moments more : List Moment) → IsHistory guest (early ++ (moments ++ more)) → IsWhole guest (early ++ (moments ++ more)) → AreOwned (course_of (opening_course guest) early) moments
  all_owned early [] more history whole = tt
  all_owned early (moment ∷ moments) more history whole =
      let later : (early ++ moment ∷ []) ++ (moments ++ more) ≡ early ++ moment ∷ (moments ++ more) = append_assoc early (moment ∷ []) (moments ++ more) in
      let next = all_owned (early ++ moment ∷ []) moments more (subst (IsHistory guest) (sym later) history) (subst (IsWhole guest) (sym later) whole) in
      (owned_here early (moments ++ more) moment history whole, subst (λ course. AreOwned course moments) (course_both (opening_course guest) early (moment ∷ [])) next)

pub targets_stand : TargetsStand
targets_stand guest moments more actor id call good history whole has is unmoved =
    all_stand guest.shape (opening_course guest) id moments (opens guest good) (goes_before (opening_course guest) moments more history).0 (all_owned guest good [] moments more history whole) nobody_has nobody_stands actor call has is unmoved
  where
    nobody_has : HasHolder (opening_course guest)
    nobody_has other has = absurd (cc)

    nobody_stands : Stand (opening_course guest) id
    nobody_stands other call has is unmoved = none_some (nobody_opens guest other) is
