-- The worked histories, each cut after each of its moments.
use Rattle.std.proofs.Common.{ℕ, IsTrue, List, take, drop, Option, refl, sym, ◌∙◌, subst, take-append-drop, is_none, true≢false}
use Rattle.std.proofs.lemmas.List.Elements.{All-from_recursion}
use Rattle.std.proofs.lemmas.Option.{none-some}
use Rattle.law_histories.specs.Registers.{least_in, with_level, without_level}
use Rattle.law_histories.specs.Calls.{Moment}
use Rattle.law_histories.specs.Histories.{Call, opening_course, course_of, IsHistory, IsWhole, IsFreshHistory, worked_guest, served, preempted, withdrawn, migrated, refilled, repeated, returned, in_flight, awaited, overlooked, outdated, unended, kept}
use Rattle.law_histories.proofs.CourseLemmas.{nobody, goes_before}
use Rattle.law_histories.proofs.GicHistory.WorkedLemmas.{worked, refused as each_refuses}
use Rattle.legal_lists.specs.Legal.{IsLegal}
use Rattle.legal_lists.specs.Worked.{IsCutLegally, WorkedListsAreLegal, UnfreshOnesAreRefused}
use Rattle.legal_lists.proofs.CallLaw.{AreBegun}
use Rattle.legal_lists.proofs.PartLaw.{parts, begun_in}
use Rattle.legal_lists.proofs.WholeLaw.{whole}

-- a fresh history in which all calls ended
cut_legally : (moments : List Moment) → IsWhole worked_guest moments → IsFreshHistory moments → IsCutLegally moments
cut_legally moments all is count = parts worked_guest (take count moments) (drop count moments) (subst (IsLegal worked_guest) (sym (take-append-drop count moments)) ((whole worked_guest moments all).legal is.history is.fresh))

-- the calls after moments of the worked guest, and that one is none
abbrev pub calls_after : List Moment → List (Option Call)
calls_after moments = (course_of (opening_course worked_guest) moments).calls

abbrev pub IsOver : Option Call → Type 0
IsOver call = IsTrue (is_none call)

pub cut : WorkedListsAreLegal
unfolding least_in with_level without_level
cut = record {
  served = cut_legally served (All-from_recursion IsOver (calls_after served) (refl, (refl, (refl, tt)))) worked.served;
  preempted = cut_legally preempted (All-from_recursion IsOver (calls_after preempted) (refl, (refl, (refl, tt)))) worked.preempted;
  withdrawn = cut_legally withdrawn (All-from_recursion IsOver (calls_after withdrawn) (refl, (refl, (refl, tt)))) worked.withdrawn;
  migrated = cut_legally migrated (All-from_recursion IsOver (calls_after migrated) (refl, (refl, (refl, tt)))) worked.migrated;
  refilled = cut_legally refilled (All-from_recursion IsOver (calls_after refilled) (refl, (refl, (refl, tt)))) worked.refilled;
  repeated = cut_legally repeated (All-from_recursion IsOver (calls_after repeated) (refl, (refl, (refl, tt)))) worked.repeated;
  returned = cut_legally returned (All-from_recursion IsOver (calls_after returned) (refl, (refl, (refl, tt)))) worked.returned;
  in_flight = cut_legally in_flight (All-from_recursion IsOver (calls_after in_flight) (refl, (refl, (refl, tt)))) worked.in_flight;
  awaited = cut_legally awaited (All-from_recursion IsOver (calls_after awaited) (refl, (refl, (refl, tt)))) worked.awaited;
}

-- Histories that one clause refuses: what comes before is one, and its open calls are begun.

pub history_before : (moments : List Moment) (count : ℕ) → IsHistory worked_guest moments → IsHistory worked_guest (take count moments)
history_before moments count is = (goes_before (opening_course worked_guest) (take count moments) (drop count moments) (subst (IsHistory worked_guest) (sym (take-append-drop count moments)) is)).0

pub begun_before : (moments : List Moment) (count : ℕ) → IsHistory worked_guest moments → IsWhole worked_guest moments → AreBegun worked_guest.shape (course_of (opening_course worked_guest) (take count moments))
begun_before moments count is all =
    begun_in worked_guest (take count moments) (drop count moments) (subst (IsHistory worked_guest) (sym (take-append-drop count moments)) is)
    (subst (λ ms. AreBegun worked_guest.shape (course_of (opening_course worked_guest) ms)) (sym (take-append-drop count moments))
    (λ actor call e. absurd (none-some call (sym (nobody (course_of (opening_course worked_guest) moments).calls actor all) ∙ e))))

pub refused : UnfreshOnesAreRefused
unfolding least_in with_level without_level
refused = record {
  overlooked = record {
    before = record {
      history = history_before overlooked 4 each_refuses.acknowledge.history;
      begun = begun_before overlooked 4 each_refuses.acknowledge.history (All-from_recursion IsOver (calls_after overlooked) (refl, (refl, (refl, tt))));
      acknowledge = refl;
      interface = refl;
      end = refl;
      deactivation = refl;
    };
    refused = λ is. true≢false (sym is.acknowledge);
  };
  outdated = record {
    before = record {
      history = history_before outdated 10 each_refuses.interface.history;
      begun = begun_before outdated 10 each_refuses.interface.history (All-from_recursion IsOver (calls_after outdated) (refl, (refl, (refl, tt))));
      acknowledge = refl;
      interface = refl;
      end = refl;
      deactivation = refl;
    };
    refused = λ is. true≢false (sym is.interface);
  };
  unended = record {
    before = record {
      history = history_before unended 11 each_refuses.end.history;
      begun = begun_before unended 11 each_refuses.end.history (All-from_recursion IsOver (calls_after unended) (refl, (refl, (refl, tt))));
      acknowledge = refl;
      interface = refl;
      end = refl;
      deactivation = refl;
    };
    refused = λ is. true≢false (sym is.end);
  };
  kept = record {
    before = record {
      history = history_before kept 11 each_refuses.deactivation.history;
      begun = begun_before kept 11 each_refuses.deactivation.history (All-from_recursion IsOver (calls_after kept) (refl, (refl, (refl, tt))));
      acknowledge = refl;
      interface = refl;
      end = refl;
      deactivation = refl;
    };
    refused = λ is. true≢false (sym is.deactivation);
  };
}
