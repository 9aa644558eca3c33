-- The worked accesses: each clause computes.
use Rattle.std.proofs.Common.{◌≡◌, IsTrue, List, ◌++◌, Some, None, is_some, refl, sym, ap, subst, true≢false}
use Rattle.std.proofs.lemmas.Option.{none-some, same_Some}
use Rattle.law_histories.specs.Words.{Iar1, Eoir1}
use Rattle.law_histories.specs.Registers.{least_in, with_level, without_level}
use Rattle.law_histories.specs.Calls.{Moment}
use Rattle.law_histories.specs.Histories.{IsHistory, last_of, opening_course, worked_guest, message, reach, reads, ends, leave, home, interface_at}
use Rattle.law_histories.proofs.GicHistory.WorkedLemmas.{worked}
use Rattle.law_histories.proofs.CourseLemmas.{goes_before}
use Rattle.law_home_commutes.specs.Home.{ShowsHome, has_no_cause, is_active_at, is_active_by}
use Rattle.law_home_commutes.specs.Worked.{AccessesShowHome, AccessesHideHome}

-- what goes on with a course begins so
abbrev pending : List Moment
pending = message 40 ++ reach 0 40

abbrev active : List Moment
active = message 40 ++ reach 0 40 ++ reads 0 Iar1 40

acknowledges_is : IsHistory worked_guest pending
acknowledges_is = (goes_before (opening_course worked_guest) pending (reads 0 Iar1 40 ++ ends 0 40 ++ reads 0 Iar1 1023 ++ leave 0 40) worked.served.history).0

ends_is : IsHistory worked_guest active
ends_is = (goes_before (opening_course worked_guest) active (ends 0 40 ++ reads 0 Iar1 1023 ++ leave 0 40) worked.served.history).0

acknowledged_is : ShowsHome (last_of worked_guest pending) 0 Iar1 None
unfolding least_in with_level without_level
acknowledged_is = record {
  first = λ h. refl;
  causes = λ found e. subst (λ c. IsTrue (has_no_cause (last_of worked_guest pending).guest 0 c.id)) (same_Some _ found e) refl;
  end = λ id e. absurd (none-some id e);
}

ended_is : ShowsHome (last_of worked_guest active) 0 Eoir1 (Some 40)
unfolding least_in with_level without_level
ended_is = record { first = λ h. absurd (cc); causes = λ found e. absurd (none-some found e); end = λ id e. subst (λ n. is_active_at (interface_at (last_of worked_guest active) 0) n ≡ is_active_by (home (last_of worked_guest active)) 0 n) (same_Some 40 id e) refl }

pub shows : AccessesShowHome
shows = record { acknowledges = acknowledges_is; acknowledged = acknowledged_is; ends = ends_is; ended = ended_is; plain = record { first = λ h. absurd (cc); causes = λ found e. absurd (none-some found e); end = λ id e. absurd (none-some id e) } }

left_out_is : ShowsHome (last_of worked_guest (message 40)) 0 Iar1 None → ⊥
unfolding least_in with_level without_level
left_out_is shows = true≢false (sym (ap is_some (shows.first refl)))

came_again_is : ShowsHome (last_of worked_guest (message 40 ++ reach 0 40 ++ message 40)) 0 Iar1 None → ⊥
unfolding least_in with_level without_level
came_again_is shows = true≢false (sym (shows.causes _ refl))

gone_is : ShowsHome (last_of worked_guest (message 40 ++ reach 0 40 ++ reads 0 Iar1 40 ++ leave 0 40)) 0 Eoir1 (Some 40) → ⊥
unfolding least_in with_level without_level
gone_is shows = true≢false (sym (shows.end _ refl))

pub hides : AccessesHideHome
hides = record { left_out = left_out_is; came_again = came_again_is; gone = gone_is }
