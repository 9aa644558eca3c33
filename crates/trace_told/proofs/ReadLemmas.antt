-- The reads that are put in.
use Rattle.std.proofs.Common.{◌≡◌, ℕ, true, List, [], ◌∷◌, ◌++◌, map, Option, Some, None, refl, sym, ap, ◌∙◌}
use Rattle.std.specs.Prelude.{option_and_then, option_map}
use Rattle.std.specs.Option.{option_map_or}
use Rattle.std.specs.List.{list_all}
use Rattle.std.proofs.lemmas.Grind.{fold-append}
use Rattle.std.proofs.lemmas.Option.{none-some, same_Some, cond_some, option_and_then_some}
use Rattle.trace_read.specs.declared.trace.Act.{Act}
use Rattle.trace_read.specs.declared.trace.Act.TheVariants.{Begin as Begins, End as Ends}
use Rattle.legal_play.specs.Calls.{Event, Moment, Begin, Happens, Operation, Happened, Place}
use Rattle.legal_play.specs.GicCall.declared.event.Moment.TheVariants.{End}
use Rattle.legal_play.specs.Histories.{Ideal, Course, vcpu_of, call_of, gone_on, course_of, after_moment, handed_out}
use Rattle.trace_told.specs.Given.{gives}
use Rattle.trace_told.specs.Told.{actor_of, told_by, event_told, reading, places_before, places_after, moments_round, with_reads, moments_told}
use Rattle.trace_told.specs.Laws.{is_reading, IsOneAmongReads, OnlyReadsArePutIn}

pub are_readings : (ideal : Ideal) (actor : ℕ) (places : List Place) → list_all is_reading (map (reading ideal actor) places) ≡ true
are_readings ideal actor [] = refl
are_readings ideal actor (place ∷ places) = are_readings ideal actor places

pub reads_keep : (ideal : Ideal) (actor : ℕ) (course : Course) (places : List Place) → (course_of course (map (reading ideal actor) places)).ideal ≡ course.ideal
reads_keep ideal actor course [] = refl
reads_keep ideal actor course (place ∷ places) = reads_keep ideal actor (gone_on course (reading ideal actor place)) places

-- the state after a moment goes by the state before it
pub state_after : (course : Course) (moment : Moment) → (gone_on course moment).ideal ≡ after_moment course.ideal moment
state_after course (Begin actor operation) = refl
state_after course (Happens actor event found) = refl
state_after course (End actor answer) = refl

among : (ideal : Ideal) (actor : ℕ) (course : Course) (before after : List Place) (own : Moment)
    → (course_of course (map (reading ideal actor) before ++ own ∷ map (reading ideal actor) after)).ideal ≡ (gone_on course own).ideal
among ideal actor course before after own =
    let first = course_of course (map (reading ideal actor) before) in
    ap (λ c. c.ideal) (fold-append gone_on course (map (reading ideal actor) before) (own ∷ map (reading ideal actor) after))
    ∙ (reads_keep ideal actor (gone_on first own) after ∙ (state_after first own ∙ (ap (λ state. after_moment state own) (reads_keep ideal actor course before) ∙ sym (state_after course own))))

module _ (course : Course) (actor : ℕ) (piece : List Happened) (act : Act) (moments : List Moment) where
  alone : (own : Moment) → own ∷ [] ≡ moments → IsOneAmongReads course moments
  alone own same = record { before = []; own = own; after = []; split = sym same; reads_before = refl; reads_after = refl; state = ap (λ ms. (course_of course ms).ideal) (sym same) }

  event_alone : (event : Event) → with_reads course.ideal actor piece act event ≡ Some moments → IsOneAmongReads course moments
  event_alone event h =
      let found = handed_out course.ideal event in
      let before = places_before course.ideal (vcpu_of course.ideal.guest.shape actor) piece event in
      let after = places_after event found in
      let same = (cond_some (gives act found) (moments_round course.ideal actor piece event) moments h).1 in
      record {
        before = map (reading course.ideal actor) before;
        own = Happens actor event found;
        after = map (reading course.ideal actor) after;
        split = sym same;
        reads_before = are_readings course.ideal actor before;
        reads_after = are_readings course.ideal actor after;
        state = ap (λ ms. (course_of course ms).ideal) (sym same) ∙ among course.ideal actor course before after (Happens actor event found);
      }

  told_alone : (event : Option Event) → option_and_then (with_reads course.ideal actor piece act) event ≡ Some moments → IsOneAmongReads course moments
  told_alone None h = absurd (none-some moments h)
  told_alone (Some event) h = event_alone event h

one_among : (course : Course) (actor : ℕ) (operation : Option Operation) (piece : List Happened) (act : Act) (moments : List Moment) → moments_told course.ideal actor operation piece act ≡ Some moments
    → IsOneAmongReads course moments
one_among course actor operation piece (Begins call) moments h = alone course actor piece (Begins call) moments _ (same_Some _ _ h)
one_among course actor operation piece (Ends answer) moments h = alone course actor piece (Ends answer) moments _ (same_Some _ _ h)
one_among course actor operation piece act moments h = told_alone course actor piece act moments (event_told course.ideal (vcpu_of course.ideal.guest.shape actor) operation piece act) h

pub only_reads : OnlyReadsArePutIn
only_reads course event moments h =
    option_and_then_some (told_by course event.act) (actor_of course.ideal.guest.shape event.by) moments h
    (λ actor there. one_among course actor (option_map (λ call. call.operation) (call_of course actor)) (option_map_or (λ call. call.piece) (call_of course actor) []) event.act moments)
