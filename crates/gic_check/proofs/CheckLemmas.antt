-- A trace goes on event by event.
use Rattle.std.proofs.Common.{◌≡◌, ◌↔◌, ℕ, ◌+◌, ◌<◌, ◌≤◌, Bool, true, false, List, [], ◌∷◌, ◌++◌, length, take, get_or, Some, refl, sym, ap, ◌∙◌, subst, arith, append_assoc, append-nil, true≢false}
use Rattle.std.proofs.lemmas.List.{take_all, take_more, take-take}
use Rattle.std.proofs.lemmas.Option.{same_Some}
use Rattle.trace_told.specs.TraceRead.declared.trace.TraceEvent.{TraceEvent}
use Rattle.trace_told.specs.Calls.{Moment}
use Rattle.trace_told.specs.Histories.{IdealGuest, Course, opening_course, course_of}
use Rattle.trace_told.specs.LegalLists.Legal.{IsLegal}
use Rattle.trace_told.specs.LegalPlay.LegalSteps.Step.{Pass, opening_pass, pass_of}
use Rattle.trace_told.specs.Told.{told, told_from}
use Rattle.trace_told.specs.Verdict.{CanBe, IsLeastRefused, IsVerdict}
use Rattle.trace_told.specs.Laws.{GoOnLegally, CanFollow, AreFaultless}
use Rattle.trace_told.specs.declared.verdict.Verdict.{Verdict}
use Rattle.trace_told.specs.declared.verdict.Verdict.TheVariants.{Yes, No}
use Rattle.trace_told.proofs.LegalPlay.LegalSteps.PassLaw.{pass_course}
use Rattle.trace_told.proofs.LegalPlay.LegalSteps.StepLaw.{go_on}
use Rattle.trace_told.proofs.GoLemmas.{traces_go_on}
use Rattle.trace_told.proofs.PartLemmas.{told_more, joins, whole_ones}
use Rattle.trace_told.proofs.VerdictLemmas.{first_can_be, verdicts_are_one}
use Rattle.gic_check.specs.Notes.{AreAllDone}
use Rattle.gic_check.specs.Play.{AreGoodMoments, PlayOf, IsPlayed, Goes, GoOn, Follows, IsAfter, RefusesMore, IsFreshOnYes}
use Rattle.gic_check.proofs.PlayLemmas.{one_more}

-- Moments, one after the other.

-- some of them are passed, and these are left
pub record Going (guest : IdealGuest) (before moments : List Moment) (start : ℕ) (left : List Moment) (play : PlayOf) : Type 0 where
  pub passed : List Moment
  pub played : IsPlayed guest passed play.board play.notes
  pub done : AreAllDone play.board.state play.done
  pub all : passed ++ left ≡ before ++ moments
  pub same : GoOnLegally guest (pass_of guest passed) left ↔ GoOnLegally guest (pass_of guest before) moments
  pub faultless : AreFaultless (pass_of guest passed).course left
  pub good : AreGoodMoments guest.shape left
  pub counted : play.board.moments + length left ≡ start + length moments

pub going_first : (guest : IdealGuest) (before moments : List Moment) (play : PlayOf) → IsPlayed guest before play.board play.notes → AreAllDone play.board.state play.done → AreFaultless (pass_of guest before).course moments → AreGoodMoments play.board.state.guest.shape moments
    → Going guest before moments play.board.moments moments play
going_first guest before moments play is done faultless good = record {
  passed = before;
  played = is;
  done = done;
  all = refl;
  same = (λ h. h, λ h. h);
  faultless = faultless;
  good = subst (λ s. AreGoodMoments s moments) is.of.shape_is good;
  counted = refl;
}

module _ (guest : IdealGuest) (before moments : List Moment) (start : ℕ) (moment : Moment) (left : List Moment) (play next : PlayOf) (so : Going guest before moments start (moment ∷ left) play) where
  pub going_more : Goes guest so.passed moment play.board.moments next true → Going guest before moments start left next
  going_more goes =
      let more = one_more guest so.passed moment in
      let one = goes.counted refl in
      let counted = so.counted in
      record {
        passed = so.passed ++ moment ∷ [];
        played = goes.played refl;
        done = goes.done refl;
        all = append_assoc so.passed (moment ∷ []) left ∙ so.all;
        same = (
          λ h. so.same.0 (goes.value.0 refl, subst (λ (p : Pass). GoOnLegally guest p left) more h),
          λ h. subst (λ (p : Pass). GoOnLegally guest p left) (sym more) (so.same.1 h).1,
        );
        faultless = subst (λ (p : Pass). AreFaultless p.course left) (sym more) so.faultless.1;
        good = so.good.1;
        counted = omega (arith, one, counted);
      }

  pub going_stops : Goes guest so.passed moment play.board.moments next false → GoOn guest before moments start next false
  going_stops goes = record {
    value = (λ h. absurd (true≢false (sym h)), λ h. goes.value.1 (so.same.1 h).0);
    played = λ h. absurd (true≢false (sym h));
    done = λ h. absurd (true≢false (sym h));
    counted = λ h. absurd (true≢false (sym h));
  }

pub going_ends : (guest : IdealGuest) (before moments : List Moment) (start : ℕ) (play : PlayOf) → Going guest before moments start [] play → GoOn guest before moments start play true
going_ends guest before moments start play so =
    let counted = so.counted in
    record {
      value = (λ h. so.same.0 tt, λ h. refl);
      played = λ h. subst (λ ms. IsPlayed guest ms play.board play.notes) (sym (append-nil so.passed) ∙ so.all) so.played;
      done = λ h. so.done;
      counted = λ h. omega (arith, counted);
    }

-- Events.

module _ (guest : IdealGuest) (moments : List Moment) (event : TraceEvent) (count : ℕ) (play : PlayOf) where
  pub follows_told : (own : List Moment) (go : Bool) → told (pass_of guest moments).course event ≡ Some own → length own ≤ 6 → GoOn guest moments own count play go → Follows guest moments event count play go
  follows_told own go is short so = record {
    value = (
      λ h. record { moments = own; told = is; legal = so.value.0 h },
      λ next. so.value.1 (subst (GoOnLegally guest (pass_of guest moments)) (same_Some _ _ (sym next.told ∙ is)) next.legal),
    );
    followed = λ h. let counted = so.counted h in record { own = own; told = is; played = so.played h; done = so.done h; few = omega (arith, counted, short) };
  }

  pub follows_not : (CanFollow guest (pass_of guest moments) event → ⊥) → Follows guest moments event count play false
  follows_not un = record { value = (λ h. absurd (true≢false (sym h)), λ next. absurd (un next)); followed = λ h. absurd (true≢false (sym h)) }

-- Traces.

pub after_none : (guest : IdealGuest) (play : PlayOf) → IsPlayed guest [] play.board play.notes → AreAllDone play.board.state play.done → play.board.moments ≡ 0 → IsAfter guest [] 0 play
after_none guest play is done none = record { can = record { moments = []; told = refl; legal = go_on.none guest }; played = is; done = done; few = omega (arith, none) }

module _ (guest : IdealGuest) (events : List TraceEvent) (event : TraceEvent) (n : ℕ) (play next : PlayOf) (so : IsAfter guest events n play) where
  abbrev course : Course
  course = course_of (opening_course guest) so.can.moments

  pub after_more : Follows guest so.can.moments event play.board.moments next true → IsAfter guest (events ++ event ∷ []) (n + 1) next
  after_more follows =
      let it = follows.followed refl in
      let own = it.own in
      let said : told course event ≡ Some own = ap (λ c. told c event) (sym (pass_course (opening_pass guest) so.can.moments)) ∙ it.told in
      let alone : told_from course (event ∷ []) ≡ Some own = told_more course event [] own [] said refl ∙ ap Some (append-nil own) in
      let all : told_from (opening_course guest) (events ++ event ∷ []) ≡ Some (so.can.moments ++ own) = joins (opening_course guest) events (event ∷ []) so.can.moments own so.can.told alone in
      let more : CanBe guest (events ++ event ∷ []) = (traces_go_on.one guest events event so.can).1 (follows.value.0 refl) in
      let few = so.few in
      let one = it.few in
      record {
        can = record { moments = so.can.moments ++ own; told = all; legal = subst (IsLegal guest) (same_Some _ _ (sym more.told ∙ all)) more.legal };
        played = it.played;
        done = it.done;
        few = omega (arith, few, one);
      }

  pub after_stops : Follows guest so.can.moments event play.board.moments next false → CanBe guest (events ++ event ∷ []) → ⊥
  after_stops follows more = true≢false (sym (follows.value.1 ((traces_go_on.one guest events event so.can).0 more)))

-- Verdicts.

take_less : (events : List TraceEvent) (count index : ℕ) → count ≤ index → take count (take index events) ≡ take count events
take_less events count index le = take-take count index events le

pub least : (guest : IdealGuest) (events : List TraceEvent) (index : ℕ) → index < length events → CanBe guest (take index events) → (CanBe guest (take (index + 1) events) → ⊥) → IsLeastRefused guest events (index + 1)
least guest events index within can refused = record {
  within = omega (arith, within);
  refused = refused;
  before = λ count below. subst (CanBe guest) (take_less events count index (omega (arith, below))) (first_can_be guest (take index events) count can);
}

module _ (guest : IdealGuest) (events : List TraceEvent) where
  pub is_yes : (verdict : Verdict) → IsVerdict guest events verdict → (verdict ≡ Yes) ↔ CanBe guest events
  is_yes verdict is = (λ e. subst (IsVerdict guest events) e is, λ can. verdicts_are_one guest events verdict Yes is can)

  pub is_no : (verdict : Verdict) → IsVerdict guest events verdict → (index : ℕ) → (verdict ≡ No index) ↔ IsLeastRefused guest events index
  is_no verdict is index = (λ e. subst (IsVerdict guest events) e is, λ refused. verdicts_are_one guest events verdict (No index) is refused)

  pub refuses_more : (verdict : Verdict) → IsVerdict guest events verdict → RefusesMore guest events verdict
  refuses_more Yes is = tt
  refuses_more (No index) is = λ count le can. is.refused (subst (CanBe guest) (take_less events index count le) (first_can_be guest (take count events) index can))

  pub fresh_on_yes : (verdict : Verdict) → IsVerdict guest events verdict → IsFreshOnYes guest events verdict
  fresh_on_yes Yes is = λ can. whole_ones guest events can
  fresh_on_yes (No index) is = tt

-- One event of a trace, by its index.

module _ (guest : IdealGuest) (events xs : List TraceEvent) (i : ℕ) (same : xs ≡ events) where
  pub ends_with : length xs ≤ i → (play : PlayOf) → IsAfter guest (take i events) i play → CanBe guest events
  ends_with past play so = subst (CanBe guest) (take_all i events (subst (λ zs. length zs ≤ i) same past)) so.can

  module _ (event d : TraceEvent) (there : event ≡ get_or xs i d) (within : i < length xs) (play next : PlayOf) (can : Bool) (follows : (guest : IdealGuest) (moments : List Moment) → IsPlayed guest moments play.board play.notes → Follows guest moments event play.board.moments next can) (so : IsAfter guest (take i events) i play) where
    within_all : i < length events
    within_all = subst (λ zs. i < length zs) same within

    one_further : take (i + 1) events ≡ take i events ++ event ∷ []
    one_further = take_more events i d within_all ∙ ap (λ e. take i events ++ e ∷ []) (sym (there ∙ ap (λ zs. get_or zs i d) same))

    pub goes_further : can ≡ true → IsAfter guest (take (i + 1) events) (i + 1) next
    goes_further on =
        subst (λ es. IsAfter guest es (i + 1) next) (sym one_further)
        (after_more guest (take i events) event i play next so (subst (Follows guest so.can.moments event play.board.moments next) on (follows guest so.can.moments so.played)))

    pub stops_here : can ≡ false → IsLeastRefused guest events (i + 1)
    stops_here off =
        least guest events i within_all so.can
        (λ more. after_stops guest (take i events) event i play next so (subst (Follows guest so.can.moments event play.board.moments next) off (follows guest so.can.moments so.played)) (subst (CanBe guest) one_further more))
