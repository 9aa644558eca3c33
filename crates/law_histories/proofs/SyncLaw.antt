-- At the end of each command of a history that goes on until all its calls ended.
use Rattle.std.proofs.Common.{◌≡◌, ℕ, ◌+◌, ◌≤◌, Bool, true, false, inl, inr, List, [], ◌∷◌, ◌++◌, fold, length, Option, option_map, Some, None, refl, sym, ap, ◌∙◌, subst, slice_index_or, arith}
use Rattle.std.proofs.lemmas.Bool.{cases_eq}
use Rattle.std.proofs.lemmas.List.{append_assoc, map-append}
use Rattle.floor_histories.specs.Words.{GuestShape}
use Rattle.floor_histories.specs.ItsCmd.Command.{decoded}
use Rattle.floor_histories.specs.Registers.{fault_number, Maps}
use Rattle.floor_histories.specs.Calls.{Event, Up, Down, Touch, Reach, Take, Leave, Enable, Cpu, Put, CtlrBegin, CtlrEnd, ItsBegin, Found, Moment, Begin, Happens, QueueChange, Runs, Done, Stalls, parts, maps_done, Happened, command_targets}
use Rattle.floor_histories.specs.GicCall.declared.event.Event.TheVariants.{Raise, Read, ItsEnd, Queue}
use Rattle.floor_histories.specs.GicCall.declared.event.Moment.TheVariants.{End}
use Rattle.floor_histories.specs.Histories.{Ideal, happened, Call, Course, vcpu_of, call_of, targets_in, noted, made, seeing, gone_on, course_of, opening_course, IsEndedAs, IsCallEnded, GoesOn, IsHistory, IsWhole, last_of, IdealGuest, CanOpen}
use Rattle.law_histories.specs.Sync.{parts_in, begun_for, commands_of, IsDone, IsStalled, SyncHolds}
use Rattle.law_histories.proofs.CourseLemmas.{IsCourse, opens, nobody_opens, nobody, begun_other, ended_other, made_here, made_other, noted_piece, none_is, goes, mark_is, course_both, goes_before}
use Rattle.law_histories.proofs.ScanCalls.{takes_one, takes_of, takes_both, call_turn}
use Rattle.law_histories.proofs.ScanLemmas.{Scan, scan_of, IsDoneBy, IsStalledBy, IsEndOf, AreEnds, ends_later}
use Rattle.law_histories.proofs.SpreadLemmas.{events_of}
use Rattle.law_histories.proofs.TurnSteps.{start, scan_in, made_is, tables_are, HasHolder, all_hold, AreCounted, all_counted}

-- How a call goes on until it ends.

pub record Finally (shape : GuestShape) (actor : ℕ) (call : Call) : Type 0 where
  pub last : Call
  pub answer : Option ℕ
  pub signals : Bool
  pub ended : IsEndedAs signals shape actor last answer
  pub rest : List Happened
  pub piece_is : last.piece ≡ call.piece ++ rest
  pub maps_are : takes_of (events_of rest) ≡ 0 → last.maps ≡ call.maps
  pub more : List (ℕ → Option ℕ)
  pub commands_are : last.commands ≡ call.commands ++ more

none_appended : {X : Type 0} (xs : List X) → xs ++ [] ≡ xs
none_appended [] = refl
none_appended (x ∷ xs) = ap (λ ys. x ∷ ys) (none_appended xs)

noted_maps : (ideal : Ideal) (event : Event) (call : Call) → takes_one event ≡ 0 → (noted ideal event call).maps ≡ call.maps
noted_maps ideal (Raise key) call h = refl
noted_maps ideal (Up key) call h = refl
noted_maps ideal (Down key) call h = refl
noted_maps ideal (Touch key touching) call h = refl
noted_maps ideal (Reach key vcpu) call h = refl
noted_maps ideal (Take key vcpu) call h = refl
noted_maps ideal (Leave key vcpu) call h = refl
noted_maps ideal (Enable vcpu) call h = refl
noted_maps ideal (Cpu vcpu reg write) call h = refl
noted_maps ideal (Read place) call h = refl
noted_maps ideal (Put word value) call h = refl
noted_maps ideal (CtlrBegin enables) call h = refl
noted_maps ideal CtlrEnd call h = refl
noted_maps ideal ItsBegin call h = absurd (omega (arith, h))
noted_maps ideal ItsEnd call h = refl
noted_maps ideal (Queue offset Runs) call h = refl
noted_maps ideal (Queue offset (Done words)) call h = refl
noted_maps ideal (Queue offset (Stalls fault)) call h = refl

abbrev begun_by : Ideal → Event → List (ℕ → Option ℕ)
begun_by ideal ItsBegin = targets_in ideal ∷ []
begun_by ideal (Queue offset Runs) = []
begun_by ideal (Queue offset change) = targets_in ideal ∷ []
begun_by ideal event = []

noted_begun : (ideal : Ideal) (event : Event) (call : Call) → (noted ideal event call).commands ≡ call.commands ++ begun_by ideal event
noted_begun ideal (Raise key) call = sym (none_appended call.commands)
noted_begun ideal (Up key) call = sym (none_appended call.commands)
noted_begun ideal (Down key) call = sym (none_appended call.commands)
noted_begun ideal (Touch key touching) call = sym (none_appended call.commands)
noted_begun ideal (Reach key vcpu) call = sym (none_appended call.commands)
noted_begun ideal (Take key vcpu) call = sym (none_appended call.commands)
noted_begun ideal (Leave key vcpu) call = sym (none_appended call.commands)
noted_begun ideal (Enable vcpu) call = sym (none_appended call.commands)
noted_begun ideal (Cpu vcpu reg write) call = sym (none_appended call.commands)
noted_begun ideal (Read place) call = sym (none_appended call.commands)
noted_begun ideal (Put word value) call = sym (none_appended call.commands)
noted_begun ideal (CtlrBegin enables) call = sym (none_appended call.commands)
noted_begun ideal CtlrEnd call = sym (none_appended call.commands)
noted_begun ideal ItsBegin call = refl
noted_begun ideal ItsEnd call = sym (none_appended call.commands)
noted_begun ideal (Queue offset Runs) call = sym (none_appended call.commands)
noted_begun ideal (Queue offset (Done words)) call = refl
noted_begun ideal (Queue offset (Stalls fault)) call = refl

no_more : (m n : ℕ) → m + n ≡ 0 → (m ≡ 0) × (n ≡ 0)
no_more m n e = (omega (arith, e), omega (arith, e))

-- from before an event of its own
before_own : (shape : GuestShape) (actor : ℕ) (ideal later : Ideal) (event : Event) (found : Found) (call : Call) → Finally shape actor (seeing later (made ideal event found call)) → Finally shape actor call
before_own shape actor ideal later event found call is =
    let one : Happened = record { event = event; found = found } in
    record {
      last = is.last;
      answer = is.answer;
      signals = is.signals;
      ended = is.ended;
      rest = one ∷ is.rest;
      piece_is = is.piece_is ∙ ap (λ p. (p ++ one ∷ []) ++ is.rest) (noted_piece ideal event call) ∙ append_assoc call.piece (one ∷ []) is.rest;
      maps_are = λ none. let both = no_more (takes_one event) (takes_of (events_of is.rest)) none in is.maps_are both.1 ∙ noted_maps ideal event call both.0;
      more = begun_by ideal event ++ is.more;
      commands_are = is.commands_are ∙ ap (λ d. d ++ is.more) (noted_begun ideal event call) ∙ append_assoc call.commands (begun_by ideal event) is.more;
    }

-- and of another's
before_other : (shape : GuestShape) (actor : ℕ) (later : Ideal) (call : Call) → Finally shape actor (seeing later call) → Finally shape actor call
before_other shape actor later call is = record { last = is.last; answer = is.answer; signals = is.signals; ended = is.ended; rest = is.rest; piece_is = is.piece_is; maps_are = is.maps_are; more = is.more; commands_are = is.commands_are }

now_ended : (signals : Bool) (shape : GuestShape) (actor : ℕ) (call : Call) (answer : Option ℕ) → IsEndedAs signals shape actor call answer → Finally shape actor call
now_ended signals shape actor call answer is = record {
  last = call;
  answer = answer;
  signals = signals;
  ended = is;
  rest = [];
  piece_is = sym (none_appended call.piece);
  maps_are = λ none. refl;
  more = [];
  commands_are = sym (none_appended call.commands);
}

module _ (shape : GuestShape) (actor : ℕ) where
  in_none : {call : Call} (o : Option Call) → o ≡ None → o ≡ Some call → ⊥
  in_none o n s = absurd (cc)

  pub finally : (course : Course) (moments : List Moment) (call : Call) → IsCourse shape course → GoesOn course moments → call_of course actor ≡ Some call → call_of (course_of course moments) actor ≡ None → Finally shape actor call
  finally course [] call at going mine none = absurd (in_none (call_of course actor) none mine)
  finally course (Begin other operation ∷ moments) call at going mine none = elim (cases_eq other actor) [
    | inl e ↦ absurd (in_none (call_of course actor) (subst (λ n. call_of course n ≡ None) e (none_is (call_of course other) going.0.1)) mine)
    | inr differ ↦ finally (gone_on course (Begin other operation)) moments call (goes shape course (Begin other operation) at) going.1 (begun_other course other operation actor (λ e. differ (sym e)) ∙ mine) none
  ]
  finally course (End other answer ∷ moments) call at going mine none = elim (cases_eq other actor) [
    | inl e ↦ now_ended (course.signals actor) shape actor call answer (subst (λ o. IsCallEnded (course.signals actor) shape actor o answer) mine (subst (λ n. IsCallEnded (course.signals n) shape n (call_of course n) answer) e (subst (λ s. IsCallEnded (course.signals other) s other (call_of course other) answer) at.shape_is going.0)))
    | inr differ ↦ finally (gone_on course (End other answer)) moments call (goes shape course (End other answer) at) going.1 (ended_other course other answer actor (λ e. differ (sym e)) ∙ mine) none
  ]
  finally course (Happens other event found ∷ moments) call at going mine none =
      let later = happened other event course.ideal in
      let next = goes shape course (Happens other event found) at in
      elim (cases_eq other actor) [
        | inl e ↦
            before_own shape actor course.ideal later event found call
            (finally (gone_on course (Happens other event found)) moments (seeing later (made course.ideal event found call)) next going.1
            (subst (λ n. call_of (gone_on course (Happens other event found)) n ≡ Some (seeing later (made course.ideal event found call))) e (made_here course other event found call (subst (λ n. call_of course n ≡ Some call) (sym e) mine))) none)
        | inr differ ↦
            before_other shape actor later call
            (finally (gone_on course (Happens other event found)) moments (seeing later call) next going.1 (made_other course other event found actor (λ e. differ (sym e)) ∙ ap (option_map (seeing later)) mine) none)
      ]

-- At the end of a command.

last_at : {X : Type 0} (x : X) (xs more : List X) (d : X) → slice_index_or ((x ∷ xs) ++ more) (length xs) d ≡ fold (λ before now. now) x xs
last_at x [] more d = refl
last_at x (y ∷ xs) more d = last_at y xs more d

-- the last that a call noted of its commands, where that many began
begun_last : (xs more : List (ℕ → Option ℕ)) (n : ℕ) → n + 1 ≡ length xs → slice_index_or (xs ++ more) n (λ id. None) ≡ fold (λ before now. now) (λ id. None) xs
begun_last [] more n e = absurd (omega (arith, e))
begun_last (x ∷ xs) more n e = ap (λ k. slice_index_or ((x ∷ xs) ++ more) k (λ id. None)) (omega (arith, e)) ∙ last_at x xs more (λ id. None)

few_takes : (m n k : ℕ) → k ≤ 1 → 1 ≤ m → k ≡ m + (0 + n) → (m ≡ 1) × (n ≡ 0)
few_takes m n k l h e = (omega (arith, l, h, e), omega (arith, l, h, e))

-- an end of a command
abbrev is_end : QueueChange → Bool
is_end Runs = false
is_end change = true

-- what the call that ends it is by then, and what it is in the end
record IsEnding (shape : GuestShape) (course : Course) (actor offset : ℕ) (change : QueueChange) : Type 0 where
  pub call : Call
  pub its : call_of course actor ≡ Some call
  pub all : ℕ → ℕ → Option ℕ
  pub scan : Scan
  pub targets_are : all scan.number ≡ begun_for call
  pub maps_are : scan.maps ≡ course.ideal.guest.tables
  pub made_are : scan.made ≡ parts_in call.piece
  pub end : IsEndOf shape all scan (Queue offset change)

module _ (shape : GuestShape) (course : Course) (actor offset : ℕ) (change : QueueChange) (found : Found) (more : List Moment) (at : IsCourse shape course) (going : GoesOn course (Happens actor (Queue offset change) found ∷ more)) (holder : HasHolder course) (counted : AreCounted course)
    (none : call_of (course_of course (Happens actor (Queue offset change) found ∷ more)) actor ≡ None) (ends : is_end change ≡ true) where
  is_ending : IsEnding shape course actor offset change
  is_ending =
      let mark = mark_is actor course.ideal.has_its going.0.allowed in
      let h = holder actor mark in
      let later = happened actor (Queue offset change) course.ideal in
      let now = seeing later (made course.ideal (Queue offset change) found h.call) in
      let is = finally shape actor (gone_on course (Happens actor (Queue offset change) found)) more now (goes shape course (Happens actor (Queue offset change) found) at) going.1 (made_here course actor (Queue offset change) found h.call h.its) none in
      let one : Happened = record { event = Queue offset change; found = found } in
      let turn = call_turn shape is.ended.beside (vcpu_of shape actor) is.last.operation is.last.piece is.answer is.ended.is_call in
      let beside = is.ended.beside in
      let pieces : is.last.piece ≡ h.call.piece ++ one ∷ is.rest = is.piece_is ∙ ap (λ p. (p ++ one ∷ []) ++ is.rest) (noted_piece course.ideal (Queue offset change) h.call) ∙ append_assoc h.call.piece (one ∷ []) is.rest in
      let events : events_of is.last.piece ≡ events_of h.call.piece ++ Queue offset change ∷ events_of is.rest = ap events_of pieces ∙ map-append (λ (x : Happened). x.event) h.call.piece (one ∷ is.rest) in
      let few : (takes_of (events_of h.call.piece) ≡ 1) × (takes_of (events_of is.rest) ≡ 0) =
      few_takes (takes_of (events_of h.call.piece)) (takes_of (events_of is.rest)) turn.count turn.few h.took (sym turn.leads.turn.turns.takes ∙ ap takes_of events ∙ takes_both (events_of h.call.piece) (Queue offset change ∷ events_of is.rest)) in
      let maps : beside.maps ≡ h.call.maps = is.ended.maps ∙ is.maps_are few.1 ∙ noted_maps course.ideal (Queue offset change) h.call refl in
      let scan = scan_of beside.maps (start beside.maps) (events_of h.call.piece) in
      let number : scan.number + 1 ≡ length h.call.commands = ap (λ n. scan.number + n) (sym few.0) ∙ counted actor h.call beside.maps h.its in
      let begun : beside.commands ≡ h.call.commands ++ (begun_by course.ideal (Queue offset change) ++ is.more) =
      is.ended.commands ∙ is.commands_are ∙ ap (λ d. d ++ is.more) (noted_begun course.ideal (Queue offset change) h.call) ∙ append_assoc h.call.commands (begun_by course.ideal (Queue offset change)) is.more in
      record {
        call = h.call;
        its = h.its;
        all = command_targets beside;
        scan = scan;
        targets_are = ap (λ cs. slice_index_or cs scan.number (λ id. None)) begun ∙ begun_last h.call.commands (begun_by course.ideal (Queue offset change) ++ is.more) scan.number number;
        maps_are = ap (λ m. (scan_in m h.call).maps) maps ∙ h.maps;
        made_are = made_is beside.maps h.call;
        end = (ends_later shape (command_targets beside) beside.maps (start beside.maps) (events_of h.call.piece) (Queue offset change ∷ events_of is.rest) (subst (AreEnds shape (command_targets beside) beside.maps (start beside.maps)) events turn.leads.turn.scan_is.ends)).0;
      }

-- which the law says

well_done : (shape : GuestShape) (maps : Maps) (call : Call) (words : List ℕ) (scan : Scan) → scan.maps ≡ maps → scan.made ≡ parts_in call.piece → IsDoneBy shape (begun_for call) scan words → IsDone shape maps call words
well_done shape maps call words scan maps_are made_are is = record {
  command = is.command;
  is = is.is;
  good = ap (λ m. fault_number shape m (decoded words)) (sym maps_are) ∙ is.good;
  done = sym made_are ∙ is.done ∙ ap (λ m. parts shape m (begun_for call) is.command) maps_are;
}

badly_stalled : (shape : GuestShape) (maps : Maps) (call : Call) (fault : ℕ) (scan : Scan) → scan.maps ≡ maps → scan.made ≡ parts_in call.piece → IsStalledBy shape scan fault → IsStalled shape maps call fault
badly_stalled shape maps call fault scan maps_are made_are is = record { words = is.words; is = ap (λ m. fault_number shape m (decoded is.words)) (sym maps_are) ∙ is.is; nothing = sym made_are ∙ is.nothing }

pub goes_all : (shape : GuestShape) (course : Course) (moments : List Moment) → IsCourse shape course → IsCourse shape (course_of course moments)
goes_all shape course [] at = at
goes_all shape course (moment ∷ moments) at = goes_all shape (gone_on course moment) moments (goes shape course moment at)

module _ (guest : IdealGuest) (good : CanOpen guest) where
  opening_holder : HasHolder (opening_course guest)
  opening_holder actor has = absurd (cc)

  opening_counted : AreCounted (opening_course guest)
  opening_counted actor call maps is = absurd (in_call (call_of (opening_course guest) actor) (nobody_opens guest actor) is)
    where
      in_call : (o : Option Call) → o ≡ None → o ≡ Some call → ⊥
      in_call o n s = absurd (cc)

  module _ (early late : List Moment) (actor offset : ℕ) (change : QueueChange) (found : Found) (history : IsHistory guest (early ++ Happens actor (Queue offset change) found ∷ late)) (whole : IsWhole guest (early ++ Happens actor (Queue offset change) found ∷ late)) (ends : is_end change ≡ true) where
    ending : IsEnding guest.shape (course_of (opening_course guest) early) actor offset change
    ending =
        let course = course_of (opening_course guest) early in
        let split = goes_before (opening_course guest) early (Happens actor (Queue offset change) found ∷ late) history in
        let opened = opens guest good in
        is_ending guest.shape course actor offset change found late (goes_all guest.shape (opening_course guest) early opened) split.1
        (all_hold guest.shape (opening_course guest) early opened split.0 opening_holder) (all_counted guest.shape (opening_course guest) early opened split.0 opening_counted)
        (ap (λ c. call_of c actor) (sym (course_both (opening_course guest) early (Happens actor (Queue offset change) found ∷ late))) ∙ nobody (course_of (opening_course guest) (early ++ Happens actor (Queue offset change) found ∷ late)).calls actor whole) ends

-- The maps.

mapped_from : (course : Course) (moments : List Moment) → (course_of course moments).ideal.guest.tables ≡ fold maps_done course.ideal.guest.tables (commands_of moments)
mapped_from course [] = refl
mapped_from course (moment ∷ moments) = mapped_from (gone_on course moment) moments ∙ of moment
  where
    of : (moment : Moment) → fold maps_done (gone_on course moment).ideal.guest.tables (commands_of moments) ≡ fold maps_done course.ideal.guest.tables (commands_of (moment ∷ moments))
    of (Begin actor operation) = refl
    of (End actor answer) = refl
    of (Happens actor (Queue offset (Done words)) found) = refl
    of (Happens actor (Queue offset Runs) found) = refl
    of (Happens actor (Queue offset (Stalls fault)) found) = refl
    of (Happens actor (Raise key) found) = refl
    of (Happens actor (Up key) found) = refl
    of (Happens actor (Down key) found) = refl
    of (Happens actor (Touch key touching) found) = refl
    of (Happens actor (Reach key vcpu) found) = refl
    of (Happens actor (Take key vcpu) found) = ap (λ m. fold maps_done m (commands_of moments)) (tables_are actor (Take key vcpu) course.ideal)
    of (Happens actor (Leave key vcpu) found) = ap (λ m. fold maps_done m (commands_of moments)) (tables_are actor (Leave key vcpu) course.ideal)
    of (Happens actor (Enable vcpu) found) = refl
    of (Happens actor (Cpu vcpu reg write) found) = refl
    of (Happens actor (Read place) found) = refl
    of (Happens actor (Put word value) found) = refl
    of (Happens actor (CtlrBegin enables) found) = refl
    of (Happens actor CtlrEnd found) = refl
    of (Happens actor ItsBegin found) = refl
    of (Happens actor ItsEnd found) = refl

pub sync_holds : SyncHolds
sync_holds guest moments more good history whole = record {
  maps = mapped_from (opening_course guest) moments;
  well = λ early late actor offset words found split.
      let all = ap (λ ms. ms ++ more) split ∙ append_assoc early (Happens actor (Queue offset (Done words)) found ∷ late) more in
      let is = ending guest good early (late ++ more) actor offset (Done words) found (subst (IsHistory guest) all history) (subst (IsWhole guest) all whole) refl in
      record { call = is.call; its = is.its; well = well_done guest.shape (last_of guest early).guest.tables is.call words is.scan is.maps_are is.made_are (subst (λ t. IsDoneBy guest.shape t is.scan words) is.targets_are is.end) };
  badly = λ early late actor offset fault found split.
      let all = ap (λ ms. ms ++ more) split ∙ append_assoc early (Happens actor (Queue offset (Stalls fault)) found ∷ late) more in
      let is = ending guest good early (late ++ more) actor offset (Stalls fault) found (subst (IsHistory guest) all history) (subst (IsWhole guest) all whole) refl in
      record { call = is.call; its = is.its; badly = badly_stalled guest.shape (last_of guest early).guest.tables is.call fault is.scan is.maps_are is.made_are is.end };
}
