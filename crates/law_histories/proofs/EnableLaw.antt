-- Every history of a good guest: from its opening, where each interrupt has a copy of the enables.
use Rattle.std.proofs.Common.{None, ◌≡◌, List, [], ◌∷◌, ◌++◌, refl, ◌∙◌, subst}
use Rattle.std.proofs.lemmas.Option.{none-some}
use Rattle.floor_histories.specs.Calls.{Moment}
use Rattle.floor_histories.specs.GicHistory.State.{opening}
use Rattle.floor_histories.specs.Histories.{opening_course, course_of, IsHistory, IsWhole, last_of, IdealGuest, CanOpen}
use Rattle.law_histories.specs.Enables.{EnablesAgree}
use Rattle.law_histories.proofs.CourseLemmas.{opens, nobody_opens, nobody}
use Rattle.law_histories.proofs.AheadLemmas.{ahead_of, piece_in, AreWrites, ahead_writes}
use Rattle.law_histories.proofs.SpreadLemmas.{spreads_of}
use Rattle.law_histories.proofs.SpreadSteps.{all_unmarked, AreKept, all_agree}

kept_from_opening : (guest : IdealGuest) (moments : List Moment) → CanOpen guest → IsHistory guest moments → IsWhole guest moments → AreKept guest.shape (opening guest) ((opening guest).guest.enables, (opening guest).guest.enables) moments
kept_from_opening guest moments good history whole = record {
  now = refl;
  free = λ e key there. good.copies key there;
  taken = λ actor e. absurd (none-some actor e);
  others = λ other differ.
      subst (λ o. AreWrites guest.shape (spreads_of (piece_in o) ++ ahead_of other moments)) (nobody_opens guest other)
      (ahead_writes guest.shape other (opening_course guest) moments (opens guest good) history (nobody (course_of (opening_course guest) moments).calls other whole));
}

pub enables_agree : EnablesAgree
enables_agree guest moments more good history whole = all_agree guest.shape (opening_course guest) ((opening guest).guest.enables, (opening guest).guest.enables) moments more (opens guest good) history (kept_from_opening guest (moments ++ more) good history whole)

-- nobody has the mark of GICD_CTLR where all calls ended
pub nobody_spreads : (guest : IdealGuest) (moments : List Moment) → CanOpen guest → IsHistory guest moments → IsWhole guest moments → (last_of guest moments).spreads ≡ None
nobody_spreads guest moments good history whole = all_unmarked guest.shape (opening_course guest) ((opening guest).guest.enables, (opening guest).guest.enables) moments (opens guest good) history (kept_from_opening guest moments good history whole)
