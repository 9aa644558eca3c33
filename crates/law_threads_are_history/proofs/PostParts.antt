-- A part of a message whose device found its LPI in a translation line, while other actors act beside it.
use Rattle.std.proofs.Common.{◌≡◌, ◌≢◌, ℕ, ◌<◌, IsTrue, List, [], ◌∷◌, ◌++◌, map, Option, Some, None, refl, sym, ap, ◌∙◌, subst}
use Rattle.std.specs.List.{list_all}
use Rattle.std.specs.Option.{option_to_list}
use Rattle.std.proofs.lemmas.Bool.{and_parts}
use Rattle.std.proofs.lemmas.List.{append-nil, append_assoc, map-append}
use Rattle.law_ends_agree.specs.Words.{Lpi}
use Rattle.law_ends_agree.specs.Calls.{Happened, Operation}
use Rattle.law_ends_agree.specs.GicCall.declared.event.Event.TheVariants.{Raise as RaiseEvent}
use Rattle.law_ends_agree.specs.GicCall.declared.event.Found.TheVariants.{Nothing}
use Rattle.law_ends_agree.specs.Histories.{course_of, opening_course, IdealGuest, CanOpen}
use Rattle.law_runs_are_fresh.proofs.LawLoneCallsAreEager.RunLemmas.{events_of as lone_events}
use Rattle.law_ends_agree.specs.Core.{Made, actor_count, local_by, MakesPost, Seat, Seen, opening, seat_at, end_of_moments, ideal_of, Act, begins, makes, ends, own_acts, CoreMoment, IsPartedRun}
use Rattle.law_ends_agree.proofs.PortCore.PortLemmas.{events_join}
use Rattle.law_found_parts_are_calls.specs.LawCoreIsHistory.Laws.{AreCalls, IsCallAt}
use Rattle.law_found_parts_are_calls.proofs.LawCoreIsHistory.HistorySteps.{own_here, own_other}
use Rattle.law_found_parts_are_calls.proofs.LawCoreIsHistory.PrefixLemmas.{own_both}
use Rattle.law_found_parts_are_calls.proofs.LawCoreIsHistory.PartRuns.{posts_end}
use Rattle.law_found_parts_are_calls.proofs.SteadyLemmas.{is_steady}
use Rattle.pe_place.specs.Parts.{Part}
use Rattle.law_threads_are_history.proofs.FreeParts.{events_from, passes, stands}
use Rattle.law_threads_are_history.proofs.ToldParts.{Begins, Ends, IsIdle, IsPartly, Makes, next_seat, partly_ends, partly_makes, told_by}

abbrev moment_by : ℕ → Act → CoreMoment
moment_by actor act = record { actor = actor; act = act }

-- the actor is in such a part, whose steps so far are among these moments of the run
pub record IsPosting (guest : IdealGuest) (number actor : ℕ) (past : List CoreMoment) (now : Seat) (acts : List Act) : Type 0 where
  pub base : Seen
  pub seat : Seat
  pub part : Part
  pub todo : List Made
  pub partly : IsPartly guest actor now acts seat part todo
  pub post : MakesPost (told_by guest actor base seat) part.steps part.operation part.answer
  pub steady : IsTrue (list_all is_steady (lone_events (events_from guest.shape actor now todo)))
  pub lrs : ℕ
  pub before : List CoreMoment
  pub since : List CoreMoment
  pub split : past ≡ before ++ (record { actor = actor; act = begins part.operation lrs }) ∷ since
  pub seat_is : seat ≡ seat_at (end_of_moments guest.shape (opening guest number) before) actor
  pub done : List Made
  pub done_is : part.steps ≡ done ++ todo
  pub made : own_acts actor since ≡ map makes done

-- Where it begins.

module _ (guest : IdealGuest) (number actor : ℕ) (past : List CoreMoment) (now : Seat) (operation : Operation) (lrs : ℕ) (acts : List Act) (begin : Begins guest actor now operation acts)
    (post : MakesPost (told_by guest actor begin.base now) begin.part.steps begin.part.operation begin.part.answer) where
  abbrev later : Seat
  later = record { local = local_by guest.shape actor now.local post.early; own = now.own ++ post.early }

  -- its only event is the raise
  raise_stands : stands guest.shape actor later post.raise ≡ Some (record { event = RaiseEvent (Lpi post.entered.lpi); found = Nothing })
  raise_stands = ap (λ step. stands guest.shape actor later (record post.raise { step = step })) post.raises

  events_are : events_from guest.shape actor now begin.part.steps ≡ option_to_list (stands guest.shape actor later post.raise)
  events_are =
      ap (events_from guest.shape actor now) (post.split ∙ sym (append_assoc post.early (post.raise ∷ []) post.late))
      ∙ events_join guest.shape actor now.local now.own (post.early ++ post.raise ∷ []) post.late
      ∙ ap (λ xs. events_from guest.shape actor now (post.early ++ post.raise ∷ []) ++ xs) post.after
      ∙ append-nil (events_from guest.shape actor now (post.early ++ post.raise ∷ []))
      ∙ events_join guest.shape actor now.local now.own post.early (post.raise ∷ [])
      ∙ ap (λ xs. xs ++ (option_to_list (stands guest.shape actor later post.raise) ++ [])) post.before
      ∙ append-nil (option_to_list (stands guest.shape actor later post.raise))

  pub posting_begins : now ≡ seat_at (end_of_moments guest.shape (opening guest number) past) actor → IsPosting guest number actor (past ++ (record { actor = actor; act = begins operation lrs }) ∷ []) now acts
  posting_begins here = record {
    base = begin.base;
    seat = now;
    part = begin.part;
    todo = begin.part.steps;
    partly = begin.partly;
    post = post;
    steady = subst (λ events. IsTrue (list_all is_steady (lone_events events))) (sym (events_are ∙ ap option_to_list raise_stands)) refl;
    lrs = lrs;
    before = past;
    since = [];
    split = ap (λ op. past ++ moment_by actor (begins op lrs) ∷ []) (sym begin.operation_is);
    seat_is = here;
    done = [];
    done_is = refl;
    made = refl;
  }

-- Where it goes on.

all_more : (o : Option Happened) (rest : List Happened) → IsTrue (list_all is_steady (lone_events (option_to_list o ++ rest))) → IsTrue (passes is_steady o) × IsTrue (list_all is_steady (lone_events rest))
all_more None rest h = (refl, h)
all_more (Some one) rest h = and_parts (is_steady one.event) (list_all is_steady (lone_events rest)) h

module _ (guest : IdealGuest) (number actor : ℕ) (past : List CoreMoment) (now : Seat) (acts : List Act) where
  pub posting_makes :
      (made : Made) → IsPosting guest number actor past now (makes made ∷ acts)
      → IsTrue (passes is_steady (stands guest.shape actor now made)) × IsPosting guest number actor (past ++ (record { actor = actor; act = makes made }) ∷ []) (next_seat guest.shape actor now made) acts
  posting_makes made is =
      let goes = partly_makes guest actor now is.seat is.part made acts is.todo is.partly in
      let next = next_seat guest.shape actor now made in
      let steady =
      all_more (stands guest.shape actor now made) (events_from guest.shape actor next goes.more) (subst (λ todo. IsTrue (list_all is_steady (lone_events (events_from guest.shape actor now todo)))) goes.todo_is is.steady) in (
        steady.0,
        record {
          base = is.base;
          seat = is.seat;
          part = is.part;
          todo = goes.more;
          partly = goes.partly;
          post = is.post;
          steady = steady.1;
          lrs = is.lrs;
          before = is.before;
          since = is.since ++ moment_by actor (makes made) ∷ [];
          split =
              ap (λ moments. moments ++ moment_by actor (makes made) ∷ []) is.split
              ∙ append_assoc is.before (moment_by actor (begins is.part.operation is.lrs) ∷ is.since) (moment_by actor (makes made) ∷ []);
          seat_is = is.seat_is;
          done = is.done ++ made ∷ [];
          done_is = is.done_is ∙ ap (λ todo. is.done ++ todo) goes.todo_is ∙ sym (append_assoc is.done (made ∷ []) goes.more);
          made =
              own_both actor is.since (moment_by actor (makes made) ∷ []) ∙ ap (λ own. own ++ own_acts actor (moment_by actor (makes made) ∷ [])) is.made ∙ ap (λ own. map makes is.done ++ own) (own_here actor (makes made) [])
              ∙ sym (map-append makes is.done (made ∷ []));
        },
      )

  -- another actor acts
  pub posting_waits : (moment : CoreMoment) → actor ≢ moment.actor → IsPosting guest number actor past now acts → IsPosting guest number actor (past ++ moment ∷ []) now acts
  posting_waits moment differ is = record {
    base = is.base;
    seat = is.seat;
    part = is.part;
    todo = is.todo;
    partly = is.partly;
    post = is.post;
    steady = is.steady;
    lrs = is.lrs;
    before = is.before;
    since = is.since ++ moment ∷ [];
    split = ap (λ moments. moments ++ moment ∷ []) is.split ∙ append_assoc is.before (moment_by actor (begins is.part.operation is.lrs) ∷ is.since) (moment ∷ []);
    seat_is = is.seat_is;
    done = is.done;
    done_is = is.done_is;
    made = own_both actor is.since (moment ∷ []) ∙ ap (λ own. own ++ own_acts actor (moment ∷ [])) is.made ∙ ap (λ own. map makes is.done ++ own) (own_other moment.actor actor moment.act [] differ) ∙ append-nil (map makes is.done);
  }

  -- Where it ends.

  module _ (answer : Option ℕ) (is : IsPosting guest number actor past now (ends answer ∷ acts)) where
    over : Ends guest actor now is.seat is.part answer acts is.todo
    over = partly_ends guest actor now is.seat is.part answer acts is.todo is.partly

    pub posting_idle : IsIdle guest actor now acts
    posting_idle = over.idle

    all_done : own_acts actor is.since ≡ map makes is.part.steps
    all_done = is.made ∙ ap (map makes) (sym (is.done_is ∙ ap (λ todo. is.done ++ todo) over.todo_is ∙ append-nil is.done))

    pub posting_ends :
        CanOpen guest → IsPartedRun guest number past → AreCalls guest.shape (opening guest number) (opening_course guest) past → actor < actor_count guest.shape
        → IsCallAt guest.shape (course_of (opening_course guest) (ideal_of guest.shape (opening guest number) past)) actor (ends answer)
    posting_ends good parted calls there =
        subst (λ a. IsCallAt guest.shape (course_of (opening_course guest) (ideal_of guest.shape (opening guest number) past)) actor (ends a)) (sym over.answer_is)
        (posts_end guest number past (told_by guest actor is.base is.seat) is.part.operation is.lrs is.part.steps is.part.answer good parted calls there
        (record {
          before = is.before;
          since = is.since;
          split = is.split;
          made = all_done;
          guest_is = refl;
          local_is = ap (λ (s : Seat). s.local) is.seat_is;
          own_is = ap (λ (s : Seat). s.own) is.seat_is;
        }) is.post)
