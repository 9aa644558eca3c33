-- A trace goes on one event at a time.
use Rattle.std.proofs.Common.{◌≡◌, List, [], ◌∷◌, ◌++◌, Some, refl, sym, ap, ◌∙◌, subst, append_assoc, append-nil}
use Rattle.std.proofs.lemmas.Grind.{fold-append}
use Rattle.std.proofs.lemmas.Option.{same_Some, option_and_then_some}
use Rattle.trace_read.specs.declared.trace.TraceEvent.{TraceEvent}
use Rattle.legal_play.specs.Calls.{Moment}
use Rattle.legal_play.specs.Histories.{IdealGuest, Course, opening_course, course_of}
use Rattle.legal_play.specs.LegalLists.Legal.{IsLegal}
use Rattle.legal_play.specs.LegalSteps.Step.{opening_pass, passed, pass_of}
use Rattle.legal_play.proofs.LegalSteps.PartLaw.{parts}
use Rattle.legal_play.proofs.LegalSteps.PassLaw.{pass_course}
use Rattle.legal_play.proofs.LegalSteps.StepLaw.{go_on}
use Rattle.trace_told.specs.Told.{told, told_from}
use Rattle.trace_told.specs.Verdict.{CanBe}
use Rattle.trace_told.specs.Laws.{GoOnLegally, CanFollow, TracesGoOn}
use Rattle.trace_told.proofs.PartLemmas.{with_later, told_more, splits, joins}

-- moments after those of a legal list
longer : (guest : IdealGuest) (moments : List Moment) (moment : Moment) (more : List Moment) → IsLegal guest (moments ++ moment ∷ more) → IsLegal guest ((moments ++ moment ∷ []) ++ more)
longer guest moments moment more all = subst (IsLegal guest) (sym (append_assoc moments (moment ∷ []) more)) all

all_go : (guest : IdealGuest) (moments more : List Moment) → IsLegal guest moments → IsLegal guest (moments ++ more) → GoOnLegally guest (pass_of guest moments) more
all_go guest moments [] is all = tt
all_go guest moments (moment ∷ more) is all =
    let first : IsLegal guest (moments ++ moment ∷ []) = parts guest (moments ++ moment ∷ []) more (longer guest moments moment more all) in (
      (go_on.one guest moments moment is).0 first,
      subst (λ pass. GoOnLegally guest pass more) (fold-append passed (opening_pass guest) moments (moment ∷ [])) (all_go guest (moments ++ moment ∷ []) more first (longer guest moments moment more all)),
    )

go_all : (guest : IdealGuest) (moments more : List Moment) → IsLegal guest moments → GoOnLegally guest (pass_of guest moments) more → IsLegal guest (moments ++ more)
go_all guest moments [] is goes = subst (IsLegal guest) (sym (append-nil moments)) is
go_all guest moments (moment ∷ more) is goes =
    subst (IsLegal guest) (append_assoc moments (moment ∷ []) more)
    (go_all guest (moments ++ moment ∷ []) more ((go_on.one guest moments moment is).1 goes.0)
    (subst (λ pass. GoOnLegally guest pass more) (sym (fold-append passed (opening_pass guest) moments (moment ∷ []))) goes.1))

-- One event.

module _ (guest : IdealGuest) (events : List TraceEvent) (event : TraceEvent) (is : CanBe guest events) where
  course_is : (pass_of guest is.moments).course ≡ course_of (opening_course guest) is.moments
  course_is = pass_course (opening_pass guest) is.moments

  follows_with : (own all : List Moment) → told (course_of (opening_course guest) is.moments) event ≡ Some own → all ≡ is.moments ++ own → IsLegal guest all → CanFollow guest (pass_of guest is.moments) event
  follows_with own all here same legal = record {
    moments = own;
    told = ap (λ course. told course event) course_is ∙ here;
    legal = all_go guest is.moments own is.legal (subst (IsLegal guest) same legal);
  }

  follows_from : (first rest all : List Moment) → first ≡ is.moments → told_from (course_of (opening_course guest) first) (event ∷ []) ≡ Some rest → all ≡ first ++ rest → IsLegal guest all → CanFollow guest (pass_of guest is.moments) event
  follows_from first rest all same later split legal =
      let here : Course = course_of (opening_course guest) is.moments in
      let at_it : told_from here (event ∷ []) ≡ Some rest = ap (λ ms. told_from (course_of (opening_course guest) ms) (event ∷ [])) (sym same) ∙ later in
      option_and_then_some (with_later here []) (told here event) rest at_it
      (λ own said ends. follows_with own all said (split ∙ (ap (λ ms. ms ++ rest) same ∙ ap (λ ms. is.moments ++ ms) (sym (same_Some _ _ ends) ∙ append-nil own))) legal)

  follows : CanBe guest (events ++ event ∷ []) → CanFollow guest (pass_of guest is.moments) event
  follows more =
      let these = splits (opening_course guest) events (event ∷ []) more.moments more.told in
      follows_from these.first these.rest more.moments (same_Some _ _ (sym these.told ∙ is.told)) these.later these.split more.legal

  with_it : CanFollow guest (pass_of guest is.moments) event → CanBe guest (events ++ event ∷ [])
  with_it next =
      let said : told (course_of (opening_course guest) is.moments) event ≡ Some next.moments = ap (λ course. told course event) (sym course_is) ∙ next.told in
      record {
        moments = is.moments ++ next.moments;
        told = joins (opening_course guest) events (event ∷ []) is.moments next.moments is.told (told_alone (course_of (opening_course guest) is.moments) next.moments said);
        legal = go_all guest is.moments next.moments is.legal next.legal;
      }
    where
      told_alone : (course : Course) (own : List Moment) → told course event ≡ Some own → told_from course (event ∷ []) ≡ Some own
      told_alone course own said = told_more course event [] own [] said refl ∙ ap Some (append-nil own)

pub traces_go_on : TracesGoOn
traces_go_on = record {
  none = λ guest. record { moments = []; told = refl; legal = go_on.none guest };
  one = λ guest events event is. (follows guest events event is, with_it guest events event is);
}
