-- The first events of a trace.
use Rattle.std.proofs.Common.{◌≡◌, List, [], ◌∷◌, ◌++◌, Option, Some, None, option_map, refl, sym, ap, ◌∙◌, subst, append_assoc}
use Rattle.std.specs.Prelude.{option_and_then}
use Rattle.std.proofs.lemmas.Option.{none-some, same_Some, option_and_then_some}
use Rattle.trace_read.specs.declared.trace.TraceEvent.{TraceEvent}
use Rattle.legal_play.specs.Calls.{Moment}
use Rattle.legal_play.specs.Histories.{Course, opening_course, course_of}
use Rattle.legal_play.specs.LegalLists.Legal.{IsLegal}
use Rattle.legal_play.proofs.LegalSteps.PartLaw.{parts}
use Rattle.legal_play.proofs.LegalSteps.WholeLaw.{whole}
use Rattle.legal_play.proofs.LegalSteps.CourseLemmas.{course_both}
use Rattle.trace_told.specs.Told.{told, told_from}
use Rattle.trace_told.specs.Laws.{PartsCanBe, WholeOnesAreFresh}

-- what some events say, and those that come after them
pub record Splits (course : Course) (early late : List TraceEvent) (moments : List Moment) : Type 0 where
  pub first : List Moment
  pub rest : List Moment
  pub told : told_from course early ≡ Some first
  pub later : told_from (course_of course first) late ≡ Some rest
  pub split : moments ≡ first ++ rest

-- what comes after events that say these
abbrev pub with_later : Course → List TraceEvent → List Moment → Option (List Moment)
with_later course events own = option_map (λ later. own ++ later) (told_from (course_of course own) events)

pub mapped : {P : Type 0} (own moments : List Moment) (o : Option (List Moment)) → option_map (λ later. own ++ later) o ≡ Some moments → ((later : List Moment) → o ≡ Some later → own ++ later ≡ moments → P) → P
mapped own moments None k then = absurd (none-some moments k)
mapped own moments (Some later) k then = then later refl (same_Some _ _ k)

-- an event more in front
pub told_more : (course : Course) (event : TraceEvent) (events : List TraceEvent) (own later : List Moment) → told course event ≡ Some own → told_from (course_of course own) events ≡ Some later → told_from course (event ∷ events) ≡ Some (own ++ later)
told_more course event events own later is there = ap (option_and_then (with_later course events)) is ∙ ap (option_map (λ later. own ++ later)) there

joined : (course : Course) (event : TraceEvent) (early late : List TraceEvent) (moments own later : List Moment) → told course event ≡ Some own → Splits (course_of course own) early late later → own ++ later ≡ moments → Splits course (event ∷ early) late moments
joined course event early late moments own later is these same = record {
  first = own ++ these.first;
  rest = these.rest;
  told = told_more course event early own these.first is these.told;
  later = ap (λ c. told_from c late) (course_both course own these.first) ∙ these.later;
  split = sym same ∙ (ap (λ rest. own ++ rest) these.split ∙ sym (append_assoc own these.first these.rest));
}

pub splits : (course : Course) (early late : List TraceEvent) (moments : List Moment) → told_from course (early ++ late) ≡ Some moments → Splits course early late moments
splits course [] late moments h = record { first = []; rest = moments; told = refl; later = h; split = refl }
splits course (event ∷ early) late moments h =
    option_and_then_some (with_later course (early ++ late)) (told course event) moments h
    (λ own is k. mapped own moments (told_from (course_of course own) (early ++ late)) k (λ later there same. joined course event early late moments own later is (splits (course_of course own) early late later there) same))

-- and what they say together
pub joins : (course : Course) (early late : List TraceEvent) (first rest : List Moment) → told_from course early ≡ Some first → told_from (course_of course first) late ≡ Some rest → told_from course (early ++ late) ≡ Some (first ++ rest)
joins course [] late first rest h k = subst (λ ms. told_from (course_of course ms) late ≡ Some rest → told_from course late ≡ Some (ms ++ rest)) (same_Some [] first h) (λ k. k) k
joins course (event ∷ early) late first rest h k =
    option_and_then_some (with_later course early) (told course event) first h
    (λ own is later. mapped own first (told_from (course_of course own) early) later
    (λ these there same. told_more course event (early ++ late) own (these ++ rest) is
    (joins (course_of course own) early late these rest there (ap (λ c. told_from c late) (sym (course_both course own these) ∙ ap (course_of course) same) ∙ k))
    ∙ ap Some (sym (append_assoc own these rest) ∙ ap (λ ms. ms ++ rest) same)))

pub parts_can_be : PartsCanBe
parts_can_be guest early late is =
    let these = splits (opening_course guest) early late is.moments is.told in
    record { moments = these.first; told = these.told; legal = parts guest these.first these.rest (subst (IsLegal guest) these.split is.legal) }

pub whole_ones : WholeOnesAreFresh
whole_ones guest events is = record { history = is.legal.history; fresh = λ all. (whole guest is.moments all).fresh is.legal }
