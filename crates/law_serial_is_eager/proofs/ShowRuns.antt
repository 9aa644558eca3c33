-- Within a part nobody else acts: each access of it shows the guest with all that stands at interfaces taken back.
use Rattle.std.proofs.Common.{◌≡◌, ℕ, ◌⊎◌, inl, inr, true≢false, not, Bool, true, false, cond, IsTrue, List, [], ◌∷◌, ◌++◌, Option, Some, None, refl, sym, ap, ◌∙◌, subst}
use Rattle.std.specs.List.{list_all}
use Rattle.std.specs.Option.{option_to_list}
use Rattle.std.proofs.lemmas.Bool.{and_parts}
use Rattle.std.proofs.lemmas.List.{append-nil, append_assoc}
use Rattle.std.proofs.lemmas.List.Sums.{fold-append}
use Rattle.law_lone_calls_are_eager.specs.Words.{IccReg, Key, Icc, GuestShape}
use Rattle.law_lone_calls_are_eager.specs.Calls.{Event, Cpu, Begin, Access, Happened, is_beside, named_of}
use Rattle.law_lone_calls_are_eager.specs.LoneCalls.{AllShow, Shows}
use Rattle.law_lone_calls_are_eager.specs.Histories.{asks_first, ended_by as ended_in, Course, course_of, gone_on, last_of, opening_course, happened, names, Ideal, IdealGuest}
use Rattle.law_lone_calls_are_eager.specs.LawHomeCommutes.Home.{ShowsHome}
use Rattle.law_lone_calls_are_eager.proofs.LawEagerIsHistory.FreshLemmas.{is_no_access}
use Rattle.law_lone_calls_are_eager.proofs.ReadLemmas.{beside_passes}
use Rattle.law_lone_calls_are_eager.proofs.RunLemmas.{events_of}
use Rattle.law_lone_accesses_find_all.specs.Core.{Local, Made, Poll, local_after, vcpu_of, events_of as events_made, CoreState, Seat, opening, seat_at, stands_for, end_of_moments, event_moments, ideal_moments, ideal_of, makes, begins, CoreMoment, IsProperRun}
use Rattle.law_lone_accesses_find_all.proofs.CoreProper.PartLemmas.{ideal_append}
use Rattle.law_lone_accesses_find_all.specs.LawScansMissNone.Excuse.{followed_in}
use Rattle.law_lone_accesses_find_all.specs.LawScansMissNone.Far.{HasLookedFar}
use Rattle.law_lone_accesses_find_all.specs.LawScansMissNone.Waiting.{record_in}
use Rattle.law_lone_accesses_find_all.proofs.LawScansMissNone.RunFrame.{IsNextOf, end_more}
use Rattle.law_lone_accesses_find_all.proofs.LawAccessesShowHome.ShowRuns.{up_to_date_shows_home}
use Rattle.law_lone_accesses_find_all.proofs.LawLateOnesLeave.PollLemmas.{seat_so}
use Rattle.law_lone_accesses_find_all.proofs.LawLateOnesLeave.StayLemmas.{IsAccess, access_so}
use Rattle.law_lone_accesses_find_all.proofs.LawLateOnesLeave.LeavingLemmas.{is_access}
use Rattle.law_lone_accesses_find_all.specs.Lone.{IsReadyFor, IsReadyToAsk}
use Rattle.law_lone_accesses_find_all.proofs.LoneRuns.{lone_accesses_find_all}
use Rattle.law_serial_is_eager.specs.Serial.{WholePart, moment_by}
use Rattle.law_serial_is_eager.proofs.AlongRuns.{IsAlong, IsLonePart, NamesNone, alone, along_on, history_at, next_so, one_on, opens_along, p_at, proper_at, seat_on, so_far, state_at, state_so, unwanted, up_now}
use Rattle.law_serial_is_eager.proofs.QuietLemmas.{beside_no_access}
use Rattle.law_serial_is_eager.proofs.ReadyRuns.{looked_far, may_ask}
use Rattle.law_serial_is_eager.proofs.WantLemmas.{names_none}

-- What is no access.

shows_none : (state : Ideal) (event : Event) → is_no_access event ≡ true → Shows state event
shows_none state (Cpu vcpu reg write) h = absurd (cc)
shows_none state event h = tt

pub quiet_shows : (actor : ℕ) (piece : List Happened) (state : Ideal) → IsTrue (list_all is_no_access (events_of piece)) → AllShow actor state piece
quiet_shows actor [] state quiet = tt
quiet_shows actor (one ∷ piece) state quiet =
    let parts = and_parts (is_no_access one.event) (list_all is_no_access (events_of piece)) quiet in (shows_none state one.event parts.0, quiet_shows actor piece (happened actor one.event state) parts.1)

-- A part for an access of a CPU interface.

module _ (guest : IdealGuest) (number : ℕ) (early : List CoreMoment) (part : WholePart) (reg : IccReg) (write : Option ℕ) (lone : IsLonePart guest number early part) (is_op : part.operation ≡ Access (Icc reg write)) where
  abbrev shape : GuestShape
  shape = guest.shape

  abbrev start : CoreState
  start = opening guest number

  abbrev v : ℕ
  v = part.actor

  names_nothing : asks_first reg write ≡ true → NamesNone guest.shape part
  names_nothing asks view key = ap (λ op. names shape view v op key) is_op ∙ names_none shape view v reg write key asks

  module _ (pre late : List Made) (made : Made) (e : part.steps ≡ pre ++ made ∷ late) (along : IsAlong guest number early part pre) where
    next : IsNextOf guest number (so_far early part pre) v (makes made)
    next = next_so guest number early part lone pre late made e

    -- the access
    module _ (step_is : made.step ≡ Poll (Some reg) write) (unkicked : (vcpu_of made.found).kick ≡ false) where
      run : IsProperRun guest number (so_far early part pre)
      run = proper_at guest number early part lone pre (made ∷ late) e

      asks_ready : asks_first reg write ≡ true → IsReadyToAsk guest number (so_far early part pre) v
      asks_ready asks = record {
        asks = may_ask guest number (so_far early part pre) v made reg write lone.good next step_is unkicked asks;
        unwanted = unwanted guest number early part lone pre (made ∷ late) e along (names_nothing asks);
      }

      looked : (key : Key) → ended_in shape v reg write ≡ Some key → (record_in shape (state_at guest number early part pre) key).holder ≡ None → HasLookedFar shape (state_at guest number early part pre) v (p_at guest number early part pre) key
      looked = looked_far guest number (so_far early part pre) v made reg write lone.good next step_is unkicked

      ready : IsReadyFor guest number (so_far early part pre) v reg write
      ready = record { first = asks_ready; ends = looked }

      access_shows : ShowsHome (followed_in guest number (so_far early part pre)).ideal v reg write
      access_shows =
          up_to_date_shows_home guest (ideal_of shape start (so_far early part pre)) v reg write lone.good (history_at guest number early part lone pre (made ∷ late) e) lone.few (up_now guest number early part lone pre (made ∷ late) e along)
          (lone_accesses_find_all guest number (so_far early part pre) v reg write lone.good run lone.few (alone guest number early part lone pre (made ∷ late) e along (seat_so guest number v lone.good (so_far early part pre) made next).local) ready)

  -- Step by step.

  abbrev Named : List Happened → List Event → Type 0
  Named piece raises = events_of (named_of (Some v) piece) ≡ Cpu v reg write ∷ raises

  same_access : (r : IccReg) (w : Option ℕ) → Cpu v r w ≡ Cpu v reg write → (r ≡ reg) × (w ≡ write)
  same_access r w e = (cc, cc)

  abbrev ShowsOn : List Made → Type 0
  ShowsOn late =
      (pre : List Made) → part.steps ≡ pre ++ late → IsAlong guest number early part pre → (local : Local) (own : List Made) → seat_at (state_at guest number early part pre) v ≡ record { local = local; own = own } → (ideal : Ideal) → ideal ≡ last_of guest (ideal_of shape start (so_far early part pre)) → (raises : List Event)
      → IsTrue (list_all is_no_access raises) → Named (events_made shape v local own late) raises → AllShow v ideal (events_made shape v local own late)

  shows_on : (late : List Made) → ShowsOn late
  shows_on [] pre e along local own seat_is ideal same raises quiet named = tt
  shows_on (made ∷ late) pre e along local own seat_is ideal same raises quiet named = of (stands_for shape v local own made.step made.found) refl named (shows_on late)
    where
      rest_made : List Happened
      rest_made = events_made shape v (local_after shape v local made.step made.found) (own ++ made ∷ []) late

      e_on : part.steps ≡ (pre ++ made ∷ []) ++ late
      e_on = e ∙ sym (append_assoc pre (made ∷ []) late)

      stands_so : (o : Option Happened) → stands_for shape v local own made.step made.found ≡ o → stands_for shape v (seat_at (state_at guest number early part pre) v).local (seat_at (state_at guest number early part pre) v).own made.step made.found ≡ o
      stands_so o f = ap (λ (s : Seat). stands_for shape v s.local s.own made.step made.found) seat_is ∙ f

      last_on : (o : Option Happened) → stands_for shape v local own made.step made.found ≡ o → last_of guest (ideal_of shape start (so_far early part (pre ++ made ∷ []))) ≡ (course_of (course_of (opening_course guest) (ideal_of shape start (so_far early part pre))) (event_moments v o)).ideal
      last_on o f =
          ap (λ ms. last_of guest (ideal_of shape start ms)) (one_on guest number early part pre made)
          ∙ ap (last_of guest) (ideal_append shape start (so_far early part pre) (moment_by v (makes made) ∷ []) ∙ ap (λ ms. ideal_of shape start (so_far early part pre) ++ ms) (append-nil (ideal_moments shape (seat_at (state_at guest number early part pre) v) v (makes made))))
          ∙ ap (λ (c : Course). c.ideal) (fold-append gone_on (opening_course guest) (ideal_of shape start (so_far early part pre)) (ideal_moments shape (seat_at (state_at guest number early part pre) v) v (makes made)))
          ∙ ap (λ x. (course_of (course_of (opening_course guest) (ideal_of shape start (so_far early part pre))) (event_moments v x)).ideal) (stands_so o f)

      of : (o : Option Happened) → stands_for shape v local own made.step made.found ≡ o → Named (option_to_list o ++ rest_made) raises → ShowsOn late → AllShow v ideal (option_to_list o ++ rest_made)
      of None f named later =
          later (pre ++ made ∷ []) e_on (along_on guest number early part lone pre late made e along None (stands_so None f) refl) (local_after shape v local made.step made.found) (own ++ made ∷ []) (seat_on guest number early part lone pre late made e local own seat_is) ideal (same ∙ sym (last_on None f)) raises quiet named
      of (Some one) f named later = by (is_beside (Some v) one.event) refl named
        where
          tail_is : (x : Event) (xs : List Event) → x ∷ xs ≡ Cpu v reg write ∷ raises → xs ≡ raises
          tail_is x xs h = cc

          head_is : (x : Event) (xs : List Event) → x ∷ xs ≡ Cpu v reg write ∷ raises → x ≡ Cpu v reg write
          head_is x xs h = cc

          now : one.event ≡ Cpu v reg write → (is_access one.event ≡ false) ⊎ IsAccess v made.step made.found one.event → ShowsHome (followed_in guest number (so_far early part pre)).ideal v reg write
          now is (inl other) = absurd (true≢false (sym (ap is_access is) ∙ other))
          now is (inr access) =
              let regs = same_access access.reg access.write (sym access.event_is ∙ is) in
              access_shows pre late made e along (access.step_is ∙ ap (λ r. Poll (Some r) access.write) regs.0 ∙ ap (Poll (Some reg)) regs.1) access.unkicked

          by : (b : Bool) → is_beside (Some v) one.event ≡ b → events_of (cond (not b) (one ∷ named_of (Some v) rest_made) (named_of (Some v) rest_made)) ≡ Cpu v reg write ∷ raises → AllShow v ideal (one ∷ rest_made)
          by true b named = (
            shows_none ideal one.event (beside_no_access (Some v) one.event b),
            later (pre ++ made ∷ []) e_on (along_on guest number early part lone pre late made e along (Some one) (stands_so (Some one) f) b) (local_after shape v local made.step made.found) (own ++ made ∷ []) (seat_on guest number early part lone pre late made e local own seat_is) (happened v one.event ideal)
                (ap (happened v one.event) same ∙ sym (last_on (Some one) f)) raises quiet named,
          )
          by false b named =
              let is = head_is one.event (events_of (named_of (Some v) rest_made)) named in (
                subst (Shows ideal) (sym is)
                    (subst (λ (i : Ideal). ShowsHome i v reg write) (sym (same ∙ state_so guest (ideal_of shape start (so_far early part pre)))) (now is (access_so shape v local own made.step made.found one f))),
                quiet_shows v rest_made (happened v one.event ideal)
                    (beside_passes is_no_access beside_no_access (Some v) rest_made (subst (λ es. IsTrue (list_all is_no_access es)) (sym (tail_is one.event (events_of (named_of (Some v) rest_made)) named)) quiet)),
              )

  -- all its accesses
  pub part_shows : (raises : List Event) → IsTrue (list_all is_no_access raises) → (local : Local) (own : List Made) → seat_at (end_of_moments shape start early) v ≡ record { local = local; own = own } → Named (events_made shape v local own part.steps) raises
      → AllShow v (last_of guest (ideal_of shape start early)) (events_made shape v local own part.steps)
  part_shows raises quiet local own seat_is named =
      shows_on part.steps [] refl (opens_along guest number early part lone) local own (ap (λ (s : CoreState). seat_at s v) (end_more shape start early (moment_by v (begins part.operation part.lrs))) ∙ seat_is) (last_of guest (ideal_of shape start early)) (sym began) raises quiet named
    where
      began : last_of guest (ideal_of shape start (so_far early part [])) ≡ last_of guest (ideal_of shape start early)
      began = ap (last_of guest) (ideal_append shape start early (moment_by v (begins part.operation part.lrs) ∷ [])) ∙ ap (λ (c : Course). c.ideal) (fold-append gone_on (opening_course guest) (ideal_of shape start early) (Begin v part.operation ∷ []))
