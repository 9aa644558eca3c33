-- The call of the actor that has the ITS, along a history.
use Rattle.std.proofs.Common.{◌≡◌, ◌≢◌, ℕ, ◌+◌, ◌≤◌, true, false, IsTrue, inl, inr, List, [], ◌∷◌, ◌++◌, fold, length, Option, option_map, Some, None, is_some, refl, sym, ap, ◌∙◌, subst, slice_set, arith}
use Rattle.std.specs.Option.{option_map_or}
use Rattle.std.proofs.lemmas.Bool.{cases_eq, cases_lt}
use Rattle.std.proofs.lemmas.Grind.{fold-append}
use Rattle.std.proofs.lemmas.List.{map-append, length-append, length-set, get_or_past}
use Rattle.std.proofs.lemmas.Option.{none-some}
use Rattle.floor_histories.specs.Words.{GuestShape}
use Rattle.floor_histories.specs.Registers.{Maps}
use Rattle.floor_histories.specs.Calls.{Event, Up, Down, Touch, Reach, Take, Leave, Enable, Cpu, Put, CtlrBegin, CtlrEnd, ItsBegin, Found, Moment, Begin, Happens, Runs, Done, Stalls, maps_done, Happened}
use Rattle.floor_histories.specs.GicCall.declared.event.Event.TheVariants.{Raise, Read, ItsEnd, Queue}
use Rattle.floor_histories.specs.GicCall.declared.event.Moment.TheVariants.{End}
use Rattle.floor_histories.specs.Histories.{Ideal, is_allowed, happened, Call, Course, vcpu_of, call_of, begun, noted, made, seeing, gone_on, course_of, IsCallEnded, IsHappening, IsNext, GoesOn, targets_in, IsEndedAs}
use Rattle.law_histories.specs.Sync.{more_parts, parts_in}
use Rattle.law_histories.proofs.CourseLemmas.{IsCourse, begun_here, begun_other, ended_here, ended_other, made_here, made_other, noted_piece, call_is, none_is, goes, mark_is}
use Rattle.law_histories.proofs.ScanCalls.{takes_one, takes_of, takes_both, holds, call_turn}
use Rattle.law_histories.proofs.ScanLemmas.{Scan, scanned, scan_of}
use Rattle.law_histories.proofs.SpreadLemmas.{events_of}
use Rattle.law_histories.proofs.StateLemmas.{take_cases, leave_cases}

abbrev pub start : Maps → Scan
start maps = record { maps = maps; made = []; number = 0 }

-- What a call is at, by its events so far, where the ITS was taken with these maps.
abbrev pub scan_in : Maps → Call → Scan
scan_in maps call = scan_of maps (start maps) (events_of call.piece)

-- one event more
abbrev pub with_event : Ideal → Event → Found → Call → Call
with_event ideal event found call = made ideal event found call

pub events_more : (ideal : Ideal) (event : Event) (found : Found) (call : Call) → events_of (made ideal event found call).piece ≡ events_of call.piece ++ event ∷ []
events_more ideal event found call = ap (λ p. events_of (p ++ (record { event = event; found = found }) ∷ [])) (noted_piece ideal event call) ∙ map-append (λ (h : Happened). h.event) call.piece ((record { event = event; found = found }) ∷ [])

pub scan_more : (maps : Maps) (ideal : Ideal) (event : Event) (found : Found) (call : Call) → scan_in maps (made ideal event found call) ≡ scanned maps (scan_in maps call) event
scan_more maps ideal event found call = ap (scan_of maps (start maps)) (events_more ideal event found call) ∙ fold-append (scanned maps) (start maps) (events_of call.piece) (event ∷ [])

-- How many commands ended.

-- with how often the call took the ITS it is how many commands began
count_more : (maps : Maps) (scan : Scan) (ideal : Ideal) (event : Event) (call : Call) (n : ℕ) → scan.number + n ≡ length call.commands → (scanned maps scan event).number + (n + takes_one event) ≡ length (noted ideal event call).commands
count_more maps scan ideal event call n h = of event
  where
    stays : scan.number + (n + 0) ≡ length call.commands
    stays = omega (arith, h)

    begins : scan.number + (n + 1) ≡ length (call.commands ++ targets_in ideal ∷ [])
    begins = let more = length-append call.commands (targets_in ideal ∷ []) in omega (arith, h, more)

    ends : scan.number + 1 + (n + 0) ≡ length (call.commands ++ targets_in ideal ∷ [])
    ends = let more = length-append call.commands (targets_in ideal ∷ []) in omega (arith, h, more)

    of : (event : Event) → (scanned maps scan event).number + (n + takes_one event) ≡ length (noted ideal event call).commands
    of (Raise key) = stays
    of (Up key) = stays
    of (Down key) = stays
    of (Touch key touching) = stays
    of (Reach key vcpu) = stays
    of (Take key vcpu) = stays
    of (Leave key vcpu) = stays
    of (Enable vcpu) = stays
    of (Cpu vcpu reg write) = stays
    of (Read place) = stays
    of (Put word value) = stays
    of (CtlrBegin enables) = stays
    of CtlrEnd = stays
    of ItsBegin = begins
    of ItsEnd = stays
    of (Queue offset Runs) = stays
    of (Queue offset (Done words)) = ends
    of (Queue offset (Stalls fault)) = ends

-- What was done of the next one.

made_more : (maps : Maps) (scan : Scan) (event : Event) → (scanned maps scan event).made ≡ more_parts scan.made event
made_more maps scan (Raise key) = refl
made_more maps scan (Up key) = refl
made_more maps scan (Down key) = refl
made_more maps scan (Touch key touching) = refl
made_more maps scan (Reach key vcpu) = refl
made_more maps scan (Take key vcpu) = refl
made_more maps scan (Leave key vcpu) = refl
made_more maps scan (Enable vcpu) = refl
made_more maps scan (Cpu vcpu reg write) = refl
made_more maps scan (Read place) = refl
made_more maps scan (Put word value) = refl
made_more maps scan (CtlrBegin enables) = refl
made_more maps scan CtlrEnd = refl
made_more maps scan ItsBegin = refl
made_more maps scan ItsEnd = refl
made_more maps scan (Queue offset Runs) = refl
made_more maps scan (Queue offset (Done words)) = refl
made_more maps scan (Queue offset (Stalls fault)) = refl

made_from : (maps : Maps) (scan : Scan) (events : List Event) → (scan_of maps scan events).made ≡ fold more_parts scan.made events
made_from maps scan [] = refl
made_from maps scan (event ∷ events) = made_from maps (scanned maps scan event) events ∙ ap (λ made. fold more_parts made events) (made_more maps scan event)

pub made_is : (maps : Maps) (call : Call) → (scan_in maps call).made ≡ parts_in call.piece
made_is maps call = made_from maps (start maps) (events_of call.piece)

-- The maps of the ITS.

-- what an event leaves of them, and of who has the ITS
abbrev pub tables_after : Event → Maps → Maps
tables_after (Queue offset (Done words)) maps = maps_done maps words
tables_after event maps = maps

pub tables_are : (actor : ℕ) (event : Event) (state : Ideal) → (happened actor event state).guest.tables ≡ tables_after event state.guest.tables
tables_are actor (Raise key) state = refl
tables_are actor (Up key) state = refl
tables_are actor (Down key) state = refl
tables_are actor (Touch key touching) state = refl
tables_are actor (Reach key vcpu) state = refl
tables_are actor (Take key vcpu) state = take_cases (λ after. after.guest.tables ≡ state.guest.tables) state key vcpu refl (λ irq standing. refl)
tables_are actor (Leave key vcpu) state = leave_cases (λ after. after.guest.tables ≡ state.guest.tables) state key vcpu refl (λ irq standing. refl)
tables_are actor (Enable vcpu) state = refl
tables_are actor (Cpu vcpu reg write) state = refl
tables_are actor (Read place) state = refl
tables_are actor (Put word value) state = refl
tables_are actor (CtlrBegin enables) state = refl
tables_are actor CtlrEnd state = refl
tables_are actor ItsBegin state = refl
tables_are actor ItsEnd state = refl
tables_are actor (Queue offset Runs) state = refl
tables_are actor (Queue offset (Done words)) state = refl
tables_are actor (Queue offset (Stalls fault)) state = refl

-- the actor that has the ITS is in a call that took it, and its events say which maps it has now
pub record IsHolder (course : Course) (actor : ℕ) : Type 0 where
  pub call : Call
  pub its : call_of course actor ≡ Some call
  pub took : 1 ≤ takes_of (events_of call.piece)
  pub held : fold holds false (events_of call.piece) ≡ true
  pub maps : (scan_in call.maps call).maps ≡ course.ideal.guest.tables

abbrev pub HasHolder : Course → Type 0
HasHolder course = (actor : ℕ) → course.ideal.has_its ≡ Some actor → IsHolder course actor

-- an event that neither takes nor frees it
pub record IsPlainEvent (actor : ℕ) (event : Event) (state : Ideal) : Type 0 where
  pub has_its : (happened actor event state).has_its ≡ state.has_its
  pub takes : takes_one event ≡ 0
  pub holds_same : holds true event ≡ true
  pub maps : (taken : Maps) (scan : Scan) → (scanned taken scan event).maps ≡ tables_after event scan.maps
  pub noted_maps : (call : Call) → (noted state event call).maps ≡ call.maps

plain_moves : (actor : ℕ) (event : Event) (state : Ideal) → (happened actor event state).has_its ≡ state.has_its → takes_one event ≡ 0 → holds true event ≡ true → ((taken : Maps) (scan : Scan) → (scanned taken scan event).maps ≡ tables_after event scan.maps) → ((call : Call) → (noted state event call).maps ≡ call.maps) → IsPlainEvent actor event state
plain_moves actor event state h t s m n = record { has_its = h; takes = t; holds_same = s; maps = m; noted_maps = n }

-- whichever event it is
pub data TurnKind (actor : ℕ) (event : Event) (state : Ideal) : Type 0 where
  plain : IsPlainEvent actor event state → TurnKind actor event state
  takes_turn : event ≡ ItsBegin → TurnKind actor event state
  frees_turn : event ≡ ItsEnd → TurnKind actor event state

pub kind_of : (actor : ℕ) (event : Event) (state : Ideal) → TurnKind actor event state
kind_of actor ItsBegin state = takes_turn refl
kind_of actor ItsEnd state = frees_turn refl
kind_of actor (Raise key) state = plain (plain_moves actor (Raise key) state refl refl refl (λ taken scan. refl) (λ call. refl))
kind_of actor (Up key) state = plain (plain_moves actor (Up key) state refl refl refl (λ taken scan. refl) (λ call. refl))
kind_of actor (Down key) state = plain (plain_moves actor (Down key) state refl refl refl (λ taken scan. refl) (λ call. refl))
kind_of actor (Touch key touching) state = plain (plain_moves actor (Touch key touching) state refl refl refl (λ taken scan. refl) (λ call. refl))
kind_of actor (Reach key vcpu) state = plain (plain_moves actor (Reach key vcpu) state refl refl refl (λ taken scan. refl) (λ call. refl))
kind_of actor (Take key vcpu) state = plain (plain_moves actor (Take key vcpu) state (take_cases (λ after. after.has_its ≡ state.has_its) state key vcpu refl (λ irq standing. refl)) refl refl (λ taken scan. refl) (λ call. refl))
kind_of actor (Leave key vcpu) state = plain (plain_moves actor (Leave key vcpu) state (leave_cases (λ after. after.has_its ≡ state.has_its) state key vcpu refl (λ irq standing. refl)) refl refl (λ taken scan. refl) (λ call. refl))
kind_of actor (Enable vcpu) state = plain (plain_moves actor (Enable vcpu) state refl refl refl (λ taken scan. refl) (λ call. refl))
kind_of actor (Cpu vcpu reg write) state = plain (plain_moves actor (Cpu vcpu reg write) state refl refl refl (λ taken scan. refl) (λ call. refl))
kind_of actor (Read place) state = plain (plain_moves actor (Read place) state refl refl refl (λ taken scan. refl) (λ call. refl))
kind_of actor (Put word value) state = plain (plain_moves actor (Put word value) state refl refl refl (λ taken scan. refl) (λ call. refl))
kind_of actor (CtlrBegin enables) state = plain (plain_moves actor (CtlrBegin enables) state refl refl refl (λ taken scan. refl) (λ call. refl))
kind_of actor CtlrEnd state = plain (plain_moves actor CtlrEnd state refl refl refl (λ taken scan. refl) (λ call. refl))
kind_of actor (Queue offset Runs) state = plain (plain_moves actor (Queue offset Runs) state refl refl refl (λ taken scan. refl) (λ call. refl))
kind_of actor (Queue offset (Done words)) state = plain (plain_moves actor (Queue offset (Done words)) state refl refl refl (λ taken scan. refl) (λ call. refl))
kind_of actor (Queue offset (Stalls fault)) state = plain (plain_moves actor (Queue offset (Stalls fault)) state refl refl refl (λ taken scan. refl) (λ call. refl))

-- nobody but who has the ITS changes its maps
foreign : (actor : ℕ) (event : Event) (state : Ideal) → IsTrue (is_allowed state actor event) → state.has_its ≢ Some actor → tables_after event state.guest.tables ≡ state.guest.tables
foreign actor (Queue offset (Done words)) state allowed differ = absurd (differ (mark_is actor state.has_its allowed))
foreign actor (Queue offset Runs) state allowed differ = refl
foreign actor (Queue offset (Stalls fault)) state allowed differ = refl
foreign actor (Raise key) state allowed differ = refl
foreign actor (Up key) state allowed differ = refl
foreign actor (Down key) state allowed differ = refl
foreign actor (Touch key touching) state allowed differ = refl
foreign actor (Reach key vcpu) state allowed differ = refl
foreign actor (Take key vcpu) state allowed differ = refl
foreign actor (Leave key vcpu) state allowed differ = refl
foreign actor (Enable vcpu) state allowed differ = refl
foreign actor (Cpu vcpu reg write) state allowed differ = refl
foreign actor (Read place) state allowed differ = refl
foreign actor (Put word value) state allowed differ = refl
foreign actor (CtlrBegin enables) state allowed differ = refl
foreign actor CtlrEnd state allowed differ = refl
foreign actor ItsBegin state allowed differ = refl
foreign actor ItsEnd state allowed differ = refl

same_number : (m n : ℕ) → Some m ≡ Some n → m ≡ n
same_number m n e = cc

took_more : (m n k : ℕ) → 1 ≤ m → k ≡ m + n → 1 ≤ k
took_more m n k l e = omega (arith, l, e)

module _ (shape : GuestShape) (course : Course) (at : IsCourse shape course) (holder : HasHolder course) where
  -- an event of the actor that has the ITS, which keeps it
  holder_makes : (actor : ℕ) (event : Event) (found : Found) → IsPlainEvent actor event course.ideal → IsHolder course actor → IsHolder (gone_on course (Happens actor event found)) actor
  holder_makes actor event found is h =
      let later = happened actor event course.ideal in
      let call = seeing later (made course.ideal event found h.call) in
      let events = events_more course.ideal event found h.call in
      record {
        call = call;
        its = made_here course actor event found h.call h.its;
        took = took_more (takes_of (events_of h.call.piece)) (takes_of (event ∷ [])) (takes_of (events_of call.piece)) h.took (ap takes_of events ∙ takes_both (events_of h.call.piece) (event ∷ []));
        held = ap (fold holds false) events ∙ fold-append holds false (events_of h.call.piece) (event ∷ []) ∙ ap (λ b. holds b event) h.held ∙ is.holds_same;
        maps =
            ap (λ m. (scan_in m call).maps) (is.noted_maps h.call) ∙ ap (λ (s : Scan). s.maps) (scan_more h.call.maps course.ideal event found h.call) ∙ is.maps h.call.maps (scan_in h.call.maps h.call)
            ∙ ap (tables_after event) h.maps ∙ sym (tables_are actor event course.ideal);
      }

  -- an event of another
  holder_stays : (actor other : ℕ) (event : Event) (found : Found) → other ≢ actor → IsTrue (is_allowed course.ideal actor event) → course.ideal.has_its ≡ Some other → IsHolder course other → IsHolder (gone_on course (Happens actor event found)) other
  holder_stays actor other event found differ allowed has h =
      let later = happened actor event course.ideal in
      record {
        call = seeing later h.call;
        its = made_other course actor event found other differ ∙ ap (option_map (seeing later)) h.its;
        took = h.took;
        held = h.held;
        maps = h.maps ∙ sym (foreign actor event course.ideal allowed (λ e. differ (same_number other actor (sym has ∙ e)))) ∙ sym (tables_are actor event course.ideal);
      }

  -- the actor that takes it
  holder_takes : (actor : ℕ) (found : Found) → IsTrue (is_some (call_of course actor)) → IsHolder (gone_on course (Happens actor ItsBegin found)) actor
  holder_takes actor found within =
      let mine = call_is (call_of course actor) within in
      let later = happened actor ItsBegin course.ideal in
      let call = seeing later (made course.ideal ItsBegin found mine.0) in
      let events = events_more course.ideal ItsBegin found mine.0 in
      record {
        call = call;
        its = made_here course actor ItsBegin found mine.0 mine.1;
        took = took_more 1 (takes_of (events_of mine.0.piece)) (takes_of (events_of call.piece)) (omega arith) (ap takes_of events ∙ takes_both (events_of mine.0.piece) (ItsBegin ∷ []) ∙ omega arith);
        held = ap (fold holds false) events ∙ fold-append holds false (events_of mine.0.piece) (ItsBegin ∷ []);
        maps = ap (λ (s : Scan). s.maps) (scan_more course.ideal.guest.tables course.ideal ItsBegin found mine.0);
      }

  event_holds : (actor : ℕ) (event : Event) (found : Found) → IsHappening course actor event found → TurnKind actor event course.ideal → HasHolder (gone_on course (Happens actor event found))
  event_holds actor event found is (plain p) other has =
      let before = sym p.has_its ∙ has in
      elim (cases_eq other actor) [
        | inl e ↦ subst (IsHolder (gone_on course (Happens actor event found))) (sym e) (holder_makes actor event found p (subst (IsHolder course) e (holder other before)))
        | inr differ ↦ holder_stays actor other event found differ is.allowed before (holder other before)
      ]
  event_holds actor event found is (takes_turn e) other has =
      subst (λ ev. ev ≡ ItsBegin → (happened actor ev course.ideal).has_its ≡ Some other → IsHolder (gone_on course (Happens actor ev found)) other) (sym e)
      (λ same now. subst (IsHolder (gone_on course (Happens actor ItsBegin found))) (same_number actor other now) (holder_takes actor found is.within)) e has
  event_holds actor event found is (frees_turn e) other has = absurd (none-some other (sym (ap (λ ev. (happened actor ev course.ideal).has_its) e) ∙ has))

  pub moment_holds : (moment : Moment) → IsNext course moment → HasHolder (gone_on course moment)
  moment_holds (Begin actor operation) next other has =
      let h = holder other has in
      record { call = h.call; its = begun_other course actor operation other (λ e. none-some_call actor (none_is (call_of course actor) next.1) (subst (λ n. call_of course n ≡ Some h.call) e h.its)) ∙ h.its; took = h.took; held = h.held; maps = h.maps }
    where
      none-some_call : (actor : ℕ) {call : Call} → call_of course actor ≡ None → call_of course actor ≡ Some call → ⊥
      none-some_call actor n s = absurd (cc)
  moment_holds (Happens actor event found) next other has = event_holds actor event found next (kind_of actor event course.ideal) other has
  moment_holds (End actor answer) next other has =
      let h = holder other has in
      record { call = h.call; its = ended_other course actor answer other (λ e. clash h (subst (λ s. IsCallEnded (course.signals actor) s actor (call_of course actor) answer) at.shape_is next) e) ∙ h.its; took = h.took; held = h.held; maps = h.maps }
    where
      clash : (h : IsHolder course other) → IsCallEnded (course.signals actor) shape actor (call_of course actor) answer → other ≡ actor → ⊥
      clash h ended e =
          let is : IsEndedAs (course.signals actor) shape actor h.call answer = subst (λ o. IsCallEnded (course.signals actor) shape actor o answer) (subst (λ n. call_of course n ≡ Some h.call) e h.its) ended in
          let turn = call_turn shape is.beside (vcpu_of shape actor) h.call.operation h.call.piece answer is.is_call in
          let over = turn.leads.turn.turns.held in let on = h.held in absurd (cc)

pub all_hold : (shape : GuestShape) (course : Course) (moments : List Moment) → IsCourse shape course → GoesOn course moments → HasHolder course → HasHolder (course_of course moments)
all_hold shape course [] at going holder = holder
all_hold shape course (moment ∷ moments) at going holder = all_hold shape (gone_on course moment) moments (goes shape course moment at) going.1 (moment_holds shape course at holder moment going.0)

-- How many commands of a call ended.

abbrev pub IsCounted : Maps → Call → Type 0
IsCounted maps call = (scan_in maps call).number + takes_of (events_of call.piece) ≡ length call.commands

abbrev pub AreCounted : Course → Type 0
AreCounted course = (actor : ℕ) (call : Call) (maps : Maps) → call_of course actor ≡ Some call → IsCounted maps call

same_call : (one other : Call) → Some one ≡ Some other → one ≡ other
same_call one other e = ap (λ o. option_map_or (λ (c : Call). c) o one) e

module _ (course : Course) (counted : AreCounted course) where
  counted_after : (moment : Moment) → IsNext course moment → AreCounted (gone_on course moment)
  counted_after (Begin actor operation) next other call maps is = elim (cases_eq other actor) [
    | inl e ↦ begun_counts e
    | inr differ ↦ counted other call maps (sym (begun_other course actor operation other differ) ∙ is)
  ]
    where
      begun_counts : other ≡ actor → IsCounted maps call
      begun_counts e = elim (cases_lt actor (length course.calls)) [
        | inl within ↦ subst (IsCounted maps) (same_call (begun course.ideal operation) call (sym (begun_here course actor operation within) ∙ ap (call_of (gone_on course (Begin actor operation))) (sym e) ∙ is)) refl
        | inr past ↦ absurd (none-some_call (get_or_past (slice_set course.calls actor (Some (begun course.ideal operation))) actor None (omega (arith, past, length-set course.calls actor (Some (begun course.ideal operation))))) (ap (call_of (gone_on course (Begin actor operation))) (sym e) ∙ is))
      ]
        where
          none-some_call : {o : Option Call} → o ≡ None → o ≡ Some call → ⊥
          none-some_call n s = absurd (cc)
  counted_after (End actor answer) next other call maps is = elim (cases_eq other actor) [
    | inl e ↦ absurd (none-some_call (ended_here course actor answer) (ap (call_of (gone_on course (End actor answer))) (sym e) ∙ is))
    | inr differ ↦ counted other call maps (sym (ended_other course actor answer other differ) ∙ is)
  ]
    where
      none-some_call : {o : Option Call} → o ≡ None → o ≡ Some call → ⊥
      none-some_call n s = absurd (cc)
  counted_after (Happens actor event found) next other call maps is = elim (cases_eq other actor) [
    | inl e ↦ made_counts e
    | inr differ ↦ other_counts (call_of course other) refl (sym (made_other course actor event found other differ) ∙ is)
  ]
    where
      later : Ideal
      later = happened actor event course.ideal

      one_take : (m n : ℕ) → m + (n + 0) ≡ m + n
      one_take m n = omega arith

      made_counts : other ≡ actor → IsCounted maps call
      made_counts e =
          let mine = call_is (call_of course actor) next.within in
          let now = made_here course actor event found mine.0 mine.1 in
          subst (IsCounted maps) (same_call _ call (sym now ∙ ap (call_of (gone_on course (Happens actor event found))) (sym e) ∙ is))
          (ap (λ (s : Scan). s.number + takes_of (events_of (made course.ideal event found mine.0).piece)) (scan_more maps course.ideal event found mine.0)
          ∙ ap (λ n. (scanned maps (scan_in maps mine.0) event).number + n) (ap takes_of (events_more course.ideal event found mine.0) ∙ takes_both (events_of mine.0.piece) (event ∷ []) ∙ one_take (takes_of (events_of mine.0.piece)) (takes_one event))
          ∙ count_more maps (scan_in maps mine.0) course.ideal event mine.0 (takes_of (events_of mine.0.piece)) (counted actor mine.0 maps mine.1))

      other_counts : (o : Option Call) → call_of course other ≡ o → option_map (seeing (happened actor event course.ideal)) o ≡ Some call → IsCounted maps call
      other_counts None e h = absurd (cc)
      other_counts (Some before) e h = subst (IsCounted maps) (same_call (seeing (happened actor event course.ideal) before) call h) (counted other before maps e)

pub all_counted : (shape : GuestShape) (course : Course) (moments : List Moment) → IsCourse shape course → GoesOn course moments → AreCounted course → AreCounted (course_of course moments)
all_counted shape course [] at going counted = counted
all_counted shape course (moment ∷ moments) at going counted = all_counted shape (gone_on course moment) moments (goes shape course moment at) going.1 (counted_after course counted moment going.0)
