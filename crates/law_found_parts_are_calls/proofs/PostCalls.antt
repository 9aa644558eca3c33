-- The part of a message whose device found its LPI in a translation line is its call in the run.
use Rattle.std.proofs.Common.{◌≡◌, ℕ, ◌<◌, All, List, [], ◌∷◌, ◌++◌, map, refl, sym, ap, ◌∙◌, subst}
use Rattle.std.proofs.lemmas.List.{append-nil, append_assoc, map-append}
use Rattle.std.proofs.lemmas.List.Sums.{fold-append}
use Rattle.law_unmapped_lpis.specs.Words.{GuestShape}
use Rattle.law_unmapped_lpis.specs.Histories.{Course, course_of, gone_on, opening_course, IdealGuest, CanOpen}
use Rattle.pe_mem.specs.Core.{Made, actor_count, CoreState, opening, seat_at, after_moment, end_of_moments, ideal_moments, ideal_of, begins, makes, ends, own_acts, CoreMoment, IsPartedRun, IsProperRun}
use Rattle.law_serial_is_eager.specs.LawCoreIsHistory.Laws.{AreCalls, IsCallAt}
use Rattle.law_serial_is_eager.proofs.LawCoreIsHistory.PrefixLemmas.{parted_before}
use Rattle.law_serial_is_eager.specs.LawCoreIsHistory.Posts.{IsUnderWay}
use Rattle.law_serial_is_eager.proofs.LawCoreIsHistory.PartRuns.{posts_end}
use Rattle.law_serial_is_eager.specs.Serial.{WholePart, moment_by, moments_in}
use Rattle.law_serial_is_eager.proofs.AloneRuns.{own_all}
use Rattle.law_serial_is_eager.proofs.SerialRuns.{IsThere, all_late, part_there}
use Rattle.law_found_parts_are_calls.specs.Found.{IsFoundPost}

pub calls_both : (shape : GuestShape) (state : CoreState) (course : Course) (early late : List CoreMoment) → AreCalls shape state course early → AreCalls shape (end_of_moments shape state early) (course_of course (ideal_of shape state early)) late → AreCalls shape state course (early ++ late)
calls_both shape state course [] late first next = next
calls_both shape state course (moment ∷ early) late first next =
    let events = ideal_moments shape (seat_at state moment.actor) moment.actor moment.act in
    let after = after_moment shape state moment in
    (first.0, calls_both shape after (course_of course events) early late first.1 (subst (λ c. AreCalls shape (end_of_moments shape after early) c late) (fold-append gone_on course events (ideal_of shape after early)) next))

-- no step ends a call
making_calls : (shape : GuestShape) (actor : ℕ) (steps : List Made) (state : CoreState) (course : Course) → AreCalls shape state course (map (moment_by actor) (map makes steps))
making_calls shape actor [] state course = tt
making_calls shape actor (made ∷ steps) state course =
    let moment = moment_by actor (makes made) in (tt, making_calls shape actor steps (after_moment shape state moment) (course_of course (ideal_moments shape (seat_at state actor) actor (makes made))))

module _ (guest : IdealGuest) (number : ℕ) (early : List CoreMoment) (part : WholePart) (good : CanOpen guest) (proper : IsProperRun guest number (early ++ moments_in part)) (calls : AreCalls guest.shape (opening guest number) (opening_course guest) early) (told : IsFoundPost guest number early part) where
  -- the part up to its end
  abbrev begin : CoreMoment
  begin = moment_by part.actor (begins part.operation part.lrs)

  abbrev steps : List CoreMoment
  steps = map (moment_by part.actor) (map makes part.steps)

  abbrev end : CoreMoment
  end = moment_by part.actor (ends part.answer)

  abbrev mid : List CoreMoment
  mid = early ++ begin ∷ steps

  abbrev Calls : List CoreMoment → Type 0
  Calls moments = AreCalls guest.shape (opening guest number) (opening_course guest) moments

  split : early ++ moments_in part ≡ mid ++ end ∷ []
  split = ap (λ ms. early ++ begin ∷ ms) (map-append (moment_by part.actor) (map makes part.steps) (ends part.answer ∷ [])) ∙ sym (append_assoc early (begin ∷ steps) (end ∷ []))

  there : part.actor < actor_count guest.shape
  there = part_there (actor_count guest.shape) part [] (subst (All (IsThere (actor_count guest.shape))) (sym (append-nil (moments_in part))) (all_late (IsThere (actor_count guest.shape)) early (moments_in part) proper.parted.actors))

  parted_mid : IsPartedRun guest number mid
  parted_mid = parted_before guest number mid (end ∷ []) (subst (IsPartedRun guest number) split proper.parted)

  calls_mid : Calls mid
  calls_mid =
      let state = end_of_moments guest.shape (opening guest number) early in
      let course = course_of (opening_course guest) (ideal_of guest.shape (opening guest number) early) in
      calls_both guest.shape (opening guest number) (opening_course guest) early (begin ∷ steps) calls
      (tt, making_calls guest.shape part.actor part.steps (after_moment guest.shape state begin) (course_of course (ideal_moments guest.shape (seat_at state part.actor) part.actor (begins part.operation part.lrs))))

  under_way : IsUnderWay guest number mid told.seen part.operation part.lrs part.steps
  under_way = record {
    before = early;
    since = steps;
    split = ap (λ n. early ++ moment_by n (begins part.operation part.lrs) ∷ steps) (sym told.told.actor_is);
    made = subst (λ n. own_acts n steps ≡ map makes part.steps) (sym told.told.actor_is) (own_all part.actor (map makes part.steps));
    guest_is = told.told.guest_is;
    local_is = told.told.local_is ∙ ap (λ n. (seat_at (end_of_moments guest.shape (opening guest number) early) n).local) (sym told.told.actor_is);
    own_is = told.told.own_is ∙ ap (λ n. (seat_at (end_of_moments guest.shape (opening guest number) early) n).own) (sym told.told.actor_is);
  }

  at_end : IsCallAt guest.shape (course_of (opening_course guest) (ideal_of guest.shape (opening guest number) mid)) part.actor (ends part.answer)
  at_end =
      subst (λ n. IsCallAt guest.shape (course_of (opening_course guest) (ideal_of guest.shape (opening guest number) mid)) n (ends part.answer)) told.told.actor_is
      (posts_end guest number mid told.seen part.operation part.lrs part.steps part.answer good parted_mid calls_mid (subst (λ n. n < actor_count guest.shape) (sym told.told.actor_is) there) under_way told.post)

  pub post_part : Calls (early ++ moments_in part)
  post_part = subst Calls (sym split) (calls_both guest.shape (opening guest number) (opening_course guest) mid (end ∷ []) calls_mid (at_end, tt))
