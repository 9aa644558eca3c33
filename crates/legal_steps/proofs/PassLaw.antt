-- One pass says the same of acknowledges as looking ahead does.
use Rattle.std.proofs.Common.{◌≡◌, ℕ, ◌&&◌, ◌||◌, ◌==◌, not, Bool, true, false, cond, List, [], ◌∷◌, map, fold, filter, Some, None, refl, sym, ap, ◌∙◌, subst, true≢false}
use Rattle.std.specs.Prelude.{filter_map}
use Rattle.std.specs.List.{list_all, list_any, range_with_len}
use Rattle.std.specs.Option.{option_map_or}
use Rattle.legal_lists.specs.Words.{Key, GuestShape}
use Rattle.legal_lists.specs.Calls.{Event, Cpu, Moment, Begin, Happens}
use Rattle.legal_lists.specs.GicCall.declared.event.Event.TheVariants.{Queue}
use Rattle.legal_lists.specs.GicCall.declared.event.Moment.TheVariants.{End}
use Rattle.legal_lists.specs.Histories.{Ideal, Course, opening_course, actor_count, call_of, gone_on, course_of, Track, doing_of, after_moment, is_event_of, ends_turn, has_named, asks_first, comes_first, is_last_open, keys_in, of_event}
use Rattle.legal_lists.specs.Legal.{may_come, may_be_awaited, may_be_fresh, may_be_acknowledged, may_be_acknowledged_from}
use Rattle.legal_lists.proofs.CallLaw.{shape_stays}
use Rattle.legal_steps.specs.Waiting.{Waiting, waits_for, passed_by, passed_at, has_actor, without_actor, waiting_after}
use Rattle.legal_steps.specs.Step.{Pass, opening_pass, passed, pass_of}
use Rattle.legal_steps.specs.Laws.{OnePassIsEnough}
use Rattle.legal_steps.proofs.ListLemmas.{and_assoc, and_true, any_same, all_same, any_filter, all_filter, any_or, all_append, all_map, all_filter_map}

-- Who may answer, of some actors, where one of them makes an event.

module _ (other : ℕ) (f : ℕ → Bool) (xs : List ℕ) where
  abbrev comes : Bool → Bool → Bool
  comes is ends = list_any (λ actor. cond (other == actor) (is || (not ends && f actor)) (f actor)) xs

  abbrev leaves : Bool → Bool → Bool
  leaves is ends = cond ends (list_any f (filter (λ actor. not (other == actor)) xs)) (cond (list_any (λ actor. other == actor) xs && is) true (list_any f xs))

  gone : (b c : Bool) → cond b (false || (false && c)) c ≡ (not b && c)
  gone true c = refl
  gone false c = refl

  made : (b c : Bool) → cond b (true || (true && c)) c ≡ (b || c)
  made true c = refl
  made false c = refl

  beside : (b c : Bool) → cond b (false || (true && c)) c ≡ c
  beside true c = refl
  beside false c = refl

  or_true : (b c : Bool) → (b || c) ≡ cond (b && true) true c
  or_true true c = refl
  or_true false c = refl

  and_false : (b c : Bool) → c ≡ cond (b && false) true c
  and_false true c = refl
  and_false false c = refl

  event_leaves : (is ends : Bool) → (ends ≡ true → is ≡ false) → comes is ends ≡ leaves is ends
  event_leaves true true h = absurd (true≢false (h refl))
  event_leaves false true h = any_same _ _ (λ actor. gone (other == actor) (f actor)) xs ∙ sym (any_filter f (λ actor. not (other == actor)) xs)
  event_leaves true false h = any_same _ _ (λ actor. made (other == actor) (f actor)) xs ∙ (any_or (λ actor. other == actor) f xs ∙ or_true (list_any (λ actor. other == actor) xs) (list_any f xs))
  event_leaves false false h = any_same _ _ (λ actor. beside (other == actor) (f actor)) xs ∙ and_false (list_any (λ actor. other == actor) xs) (list_any f xs)

-- an event at which a command ends is of no interrupt
ends_of_none : (key : Key) (event : Event) → ends_turn event ≡ true → is_event_of key event ≡ false
ends_of_none key (Queue offset change) h = refl
ends_of_none key event h = absurd (true≢false (sym h))

-- Who waits.

module _ (shape : GuestShape) (last : Course) where
  -- it is answered in these moments, or may be after them
  abbrev answers : List Moment → Waiting → Bool
  answers moments waiting = list_any (λ actor. may_come shape (call_of last actor) actor waiting.key moments) waiting.actors

  unfold_both : (moments : List Moment) (waiting less : Waiting) (ends has : Bool)
      → cond ends (answers moments less) (cond has true (answers moments waiting)) ≡ option_map_or (answers moments) (cond ends (Some less) (cond has None (Some waiting))) true
  unfold_both moments waiting less true has = refl
  unfold_both moments waiting less false true = refl
  unfold_both moments waiting less false false = refl

  answers_after : (moment : Moment) (moments : List Moment) (waiting : Waiting) → answers (moment ∷ moments) waiting ≡ option_map_or (answers moments) (waiting_after moment waiting) true
  answers_after (Begin other operation) moments waiting = sym (any_filter (λ actor. may_come shape (call_of last actor) actor waiting.key moments) (λ actor. not (other == actor)) waiting.actors)
  answers_after (End other answer) moments waiting = sym (any_filter (λ actor. may_come shape (call_of last actor) actor waiting.key moments) (λ actor. not (other == actor)) waiting.actors)
  answers_after (Happens other event found) moments waiting =
      event_leaves other (λ actor. may_come shape (call_of last actor) actor waiting.key moments) waiting.actors (is_event_of waiting.key event) (ends_turn event) (ends_of_none waiting.key event)
      ∙ unfold_both moments waiting (without_actor other waiting) (ends_turn event) (has_actor waiting other && is_event_of waiting.key event)

  all_after : (moment : Moment) (moments : List Moment) (waits : List Waiting) → list_all (answers (moment ∷ moments)) waits ≡ list_all (answers moments) (filter_map (waiting_after moment) waits)
  all_after moment moments waits = all_same _ _ (answers_after moment moments) waits ∙ sym (all_filter_map (answers moments) (waiting_after moment) waits)

  -- Who begins to wait.

  named : (track : Track) (vcpu : ℕ) (key : Key) (moments : List Moment) → answers moments (waits_for shape track vcpu key) ≡ may_be_awaited shape last moments track vcpu key
  named track vcpu key moments =
      any_filter (λ actor. may_come shape (call_of last actor) actor key moments) (λ actor. not (actor == vcpu) && has_named shape (doing_of track actor)) (range_with_len 0 (actor_count shape))
      ∙ any_same _ _ (λ actor. and_assoc (not (actor == vcpu)) (has_named shape (doing_of track actor)) (may_come shape (call_of last actor) actor key moments)) (range_with_len 0 (actor_count shape))

  passes : (first is_open awaited : Bool) → (not (first && not is_open) || awaited) ≡ (not first || (is_open || awaited))
  passes true true awaited = refl
  passes true false awaited = refl
  passes false is_open awaited = refl

  abbrev fresh_at : Ideal → Track → ℕ → List Moment → Key → Bool
  fresh_at state track vcpu moments key = not (comes_first state vcpu key) || (is_last_open shape track vcpu key || may_be_awaited shape last moments track vcpu key)

  abbrev passed_over : Ideal → Track → ℕ → Key → Bool
  passed_over state track vcpu key = comes_first state vcpu key && not (is_last_open shape track vcpu key)

  all_passed : (state : Ideal) (track : Track) (vcpu : ℕ) (moments : List Moment) (keys : List Key)
      → list_all (answers moments) (map (waits_for shape track vcpu) (filter (passed_over state track vcpu) keys)) ≡ list_all (fresh_at state track vcpu moments) keys
  all_passed state track vcpu moments keys =
      all_map (answers moments) (waits_for shape track vcpu) (filter (passed_over state track vcpu) keys)
      ∙ (all_filter (λ key. answers moments (waits_for shape track vcpu key)) (passed_over state track vcpu) keys
      ∙ all_same _ _ (λ key. ap (λ b. not (passed_over state track vcpu key) || b) (named track vcpu key moments) ∙ passes (comes_first state vcpu key) (is_last_open shape track vcpu key) (may_be_awaited shape last moments track vcpu key)) keys)

  if_asked : (asks : Bool) (waits : List Waiting) (fresh : Bool) (moments : List Moment) → list_all (answers moments) waits ≡ fresh → list_all (answers moments) (cond asks waits []) ≡ (not asks || fresh)
  if_asked true waits fresh moments h = h
  if_asked false waits fresh moments h = refl

-- of a guest of the shape
passed_fresh : (last : Course) (state : Ideal) (track : Track) (moment : Moment) (moments : List Moment)
    → list_all (answers state.guest.shape last moments) (passed_at state track moment) ≡ of_event (may_be_fresh last moments) state track moment
passed_fresh last state track (Begin actor operation) moments = refl
passed_fresh last state track (End actor answer) moments = refl
passed_fresh last state track (Happens actor event found) moments = of event
  where
    of : (event : Event) → list_all (answers state.guest.shape last moments) (passed_by state track event) ≡ may_be_fresh last moments state track event
    of (Cpu vcpu reg write) =
        if_asked state.guest.shape last (asks_first reg write) _ _ moments (all_passed state.guest.shape last state track vcpu moments (keys_in state.guest.shape))
    of event = refl

-- Along a list.

pub state_after : (course : Course) (moment : Moment) → (gone_on course moment).ideal ≡ after_moment course.ideal moment
state_after course (Begin actor operation) = refl
state_after course (Happens actor event found) = refl
state_after course (End actor answer) = refl

module _ (shape : GuestShape) (last : Course) where
  joined : (a b c : Bool) (d e : Bool) → a ≡ d → b ≡ e → ((a && b) && c) ≡ (d && (e && c))
  joined a b c d e p q = ap (λ x. (x && b) && c) p ∙ (ap (λ x. (d && x) && c) q ∙ and_assoc d e c)

  pass_from : (pass : Pass) (moments : List Moment) → pass.course.ideal.guest.shape ≡ shape
      → list_all (answers shape last []) (fold passed pass moments).waits ≡ (list_all (answers shape last moments) pass.waits && may_be_acknowledged_from last pass.course.ideal pass.track moments)
  pass_from pass [] same = and_true (list_all (answers shape last []) pass.waits)
  pass_from pass (moment ∷ moments) same =
      let next = passed pass moment in
      let ideal = pass.course.ideal in
      let rest = may_be_acknowledged_from last next.course.ideal next.track moments in
      subst (λ state. list_all (answers shape last []) (fold passed next moments).waits ≡ (list_all (answers shape last (moment ∷ moments)) pass.waits && (of_event (may_be_fresh last moments) ideal pass.track moment && may_be_acknowledged_from last state next.track moments)))
      (state_after pass.course moment)
      (pass_from next moments (shape_stays pass.course moment ∙ same)
      ∙ (ap (λ b. b && rest) (all_append (answers shape last moments) (filter_map (waiting_after moment) pass.waits) (passed_at ideal pass.track moment))
      ∙ joined (list_all (answers shape last moments) (filter_map (waiting_after moment) pass.waits)) (list_all (answers shape last moments) (passed_at ideal pass.track moment)) rest
      (list_all (answers shape last (moment ∷ moments)) pass.waits) (of_event (may_be_fresh last moments) ideal pass.track moment)
      (sym (all_after shape last moment moments pass.waits))
      (subst (λ s. list_all (answers s last moments) (passed_at ideal pass.track moment) ≡ of_event (may_be_fresh last moments) ideal pass.track moment) same (passed_fresh last ideal pass.track moment moments))))

-- the course of a pass
pub pass_course : (pass : Pass) (moments : List Moment) → (fold passed pass moments).course ≡ course_of pass.course moments
pass_course pass [] = refl
pass_course pass (moment ∷ moments) = pass_course (passed pass moment) moments

pub one_pass : OnePassIsEnough
one_pass guest moments =
    sym (subst (λ course. list_all (answers guest.shape course []) (pass_of guest moments).waits ≡ may_be_acknowledged guest moments) (sym (pass_course (opening_pass guest) moments))
    (pass_from guest.shape (course_of (opening_course guest) moments) (opening_pass guest) moments refl))
