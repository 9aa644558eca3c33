-- The laws of causes and of the active state, over the events one after the other.
use Rattle.std.proofs.Common.{◌≡◌, Bool, true, false, not, ◌&&◌, ◌||◌, is_some, List, [], ◌∷◌, ◌++◌, refl, sym, ap, ◌∙◌, arith}
use Rattle.std.proofs.lemmas.Grind.{common_steps}
use Rattle.ideal_guest.specs.Words.{Irq, is_pending, Key}
use Rattle.ideal_guest.specs.Calls.{Event}
use Rattle.ideal_guest.specs.declared.guest.IdealGuest.{IdealGuest}
use Rattle.ideal_guest.specs.Ideal.{irq_at, after_event, after_events}
use Rattle.gic_ideal.specs.Deeds.{deactivates, causes, consumes, one_does, is_latched, is_caused_since}
use Rattle.gic_ideal.specs.Laws.{CanFollowAll, LatchedExactly, AcknowledgeTakesCause, DeactivatedBetween, CausedBetween, is_level_up}
use Rattle.gic_ideal.proofs.DeedLemmas.{HasIt, has_after, latched_after, ready, unlatched_pending, unlatched_after, active_after, activates}
use Rattle.gic_ideal.proofs.SoundEvents.{sound_events}

latched_all : (guest : IdealGuest) (events : List Event) (key : Key) (at_first : Bool) → HasIt guest key → CanFollowAll guest events → is_latched (irq_at guest key) ≡ at_first → is_latched (irq_at (after_events events guest) key) ≡ is_caused_since at_first events guest key
latched_all guest [] key at_first has can e = e
latched_all guest (event ∷ events) key at_first has can e =
    latched_all (after_event guest event) events key (causes event guest key || (at_first && not (consumes event guest key))) (has_after guest event key has can.can) can.rest
    (latched_after guest event key has can.can ∙ ap (λ b. causes event guest key || (b && not (consumes event guest key))) e)

pub latched_exactly : LatchedExactly
latched_exactly guest events key sound can there = latched_all guest events key (is_latched (irq_at guest key)) (record { sound = sound; there = there }) can refl

pub takes_cause : AcknowledgeTakesCause
takes_cause guest event key sound h =
    let was = ready event guest key sound h in
    let none = unlatched_after event guest key sound h in
    record { had = was.pending; no_rise = first (irq_at (after_event guest event) key) none; no_soft = second (irq_at (after_event guest event) key) none; left = unlatched_pending (irq_at (after_event guest event) key) none }
  where
    first : (irq : Irq) → is_latched irq ≡ false → irq.rise ≡ false
    first irq e = grind (arith, common_steps, e)

    second : (irq : Irq) → is_latched irq ≡ false → irq.soft ≡ false
    second irq e = grind (arith, common_steps, e)

-- a cause that is there at last was there at first, or came
came : (at_first : Bool) (events : List Event) (guest : IdealGuest) (key : Key) → is_caused_since at_first events guest key ≡ true → (at_first || one_does causes events guest key) ≡ true
came at_first [] guest key h = grind (arith, common_steps, h)
came at_first (event ∷ events) guest key h =
    joined at_first (causes event guest key) (consumes event guest key) (one_does causes events (after_event guest event) key)
    (came (causes event guest key || (at_first && not (consumes event guest key))) events (after_event guest event) key h)
  where
    joined : (a b c d : Bool) → ((b || (a && not c)) || d) ≡ true → (a || (b || d)) ≡ true
    joined a b c d e = grind (arith, common_steps, e)

-- the first of some events can happen, and the last one after those before it
before_last : (guest : IdealGuest) (between : List Event) (next : Event) → CanFollowAll guest (between ++ next ∷ []) → CanFollowAll guest between
before_last guest [] next can = tt
before_last guest (event ∷ between) next can = record { can = can.can; rest = before_last (after_event guest event) between next can.rest }

-- between two acknowledges there is a cause, or the level line is up
pub caused : CausedBetween
caused guest key first between next sound can h g =
    let was = ready first guest key sound h in
    let middle = after_event guest first in
    let it : HasIt middle key = has_after guest first key (record { sound = sound; there = was.there }) can.can in
    let follow : CanFollowAll middle between = before_last middle between next can.rest in
    let late = ready next (after_events between middle) key (sound_events middle between it.sound follow) g in
    let latched : is_latched (irq_at (after_events between middle) key) ≡ is_caused_since false between middle key = latched_all middle between key false it follow (unlatched_after first guest key sound h) in
    by_latch (is_caused_since false between middle key) refl latched late.pending
  where
    last : Irq
    last = irq_at (after_events between (after_event guest first)) key

    by_latch : (b : Bool) → is_caused_since false between (after_event guest first) key ≡ b → is_latched last ≡ is_caused_since false between (after_event guest first) key → is_pending last ≡ true → (one_does causes between (after_event guest first) key || is_level_up last) ≡ true
    by_latch true e f p = of (one_does causes between (after_event guest first) key) (came false between (after_event guest first) key e)
      where
        of : (b : Bool) → (false || b) ≡ true → (b || is_level_up last) ≡ true
        of b e = grind (arith, common_steps, e)
    by_latch false e f p = of (one_does causes between (after_event guest first) key) (sym (unlatched_pending last (f ∙ e)) ∙ p)
      where
        of : (b : Bool) → is_level_up last ≡ true → (b || is_level_up last) ≡ true
        of true u = refl
        of false u = u

active_all : (guest : IdealGuest) (events : List Event) (key : Key) → HasIt guest key → CanFollowAll guest events → is_some (irq_at guest key).act_by ≡ true → (one_does deactivates events guest key || is_some (irq_at (after_events events guest) key).act_by) ≡ true
active_all guest [] key has can active = active
active_all guest (event ∷ events) key has can active =
    joined (deactivates event guest key) (one_does deactivates events (after_event guest event) key) (is_some (irq_at (after_event guest event) key).act_by) (is_some (irq_at (after_events events (after_event guest event)) key).act_by) (active_after guest event key has active)
    (λ still. active_all (after_event guest event) events key (has_after guest event key has can.can) can.rest still)
  where
    joined : (d rest now at_end : Bool) → (d || now) ≡ true → (now ≡ true → (rest || at_end) ≡ true) → ((d || rest) || at_end) ≡ true
    joined true rest now at_end f g = refl
    joined false rest now at_end f g = g f

-- between two acknowledges an interrupt is deactivated
pub deactivated_before : DeactivatedBetween
deactivated_before guest key first between next sound can state h g =
    let was = ready first guest key sound h in
    let middle = after_event guest first in
    let it : HasIt middle key = has_after guest first key (record { sound = sound; there = was.there }) can.can in
    let follow : CanFollowAll middle between = before_last middle between next can.rest in
    let late = ready next (after_events between middle) key (sound_events middle between it.sound follow) g in
    of (one_does deactivates between middle key) (is_some (irq_at (after_events between middle) key).act_by) (ap is_some late.inactive) (active_all middle between key it follow (activates first guest key sound state h))
  where
    of : (a b : Bool) → b ≡ false → (a || b) ≡ true → a ≡ true
    of a b e f = grind (arith, common_steps, e, f)
