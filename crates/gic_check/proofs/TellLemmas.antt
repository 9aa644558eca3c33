-- The moments that an event of a trace says.
use Rattle.std.proofs.Common.{◌≡◌, ℕ, suc, ◌+◌, ◌≤◌, ◌&&◌, not, Bool, true, false, cond, List, [], ◌∷◌, ◌++◌, map, length, Option, Some, None, refl, sym, ap, ◌∙◌, subst, arith}
use Rattle.std.specs.Prelude.{option_and_then, IfSome, IfNone}
use Rattle.std.specs.Option.{option_map_or}
use Rattle.std.proofs.lemmas.List.{length-append, length-map}
use Rattle.std.proofs.lemmas.Option.{none-some, same_Some, cond_some, option_and_then_some}
use Rattle.trace_told.specs.TraceRead.declared.trace.Act.{Act}
use Rattle.trace_told.specs.TraceRead.declared.trace.Act.TheVariants.{Begin as Begins, End as Ends}
use Rattle.trace_told.specs.TraceRead.declared.trace.TraceCall.{TraceCall}
use Rattle.trace_told.specs.TraceRead.declared.trace.TraceCall.TheVariants.{Vcpu as VcpuCall, Device as DeviceCall, Enter, Exit}
use Rattle.trace_told.specs.TraceRead.declared.trace.TraceEvent.{TraceEvent}
use Rattle.trace_told.specs.TraceRead.ScnRead.ScnBase.Codes.{first_code, first_met}
use Rattle.trace_told.specs.TraceRead.Call.{call_fault, op_fault}
use Rattle.trace_told.specs.TraceRead.Reading.{act_fault, event_fault}
use Rattle.trace_told.specs.Words.{GuestShape, GuestOp, Icc, Mem}
use Rattle.trace_told.specs.Calls.{Event, ItsBegin, Enable, Found, Operation, Happened, Moment, Happens, Place, is_good_op, is_usable, fits, has_frame, is_inside}
use Rattle.trace_told.specs.GicCall.declared.event.Found.TheVariants.{Lpis as FoundLpis}
use Rattle.trace_told.specs.Histories.{IdealGuest, Ideal, Course, vcpu_of, call_of, handed_out, doing_of, GoesOn}
use Rattle.trace_told.specs.LegalPlay.LegalSteps.Step.{Pass, passed, pass_of}
use Rattle.trace_told.specs.LegalPlay.Board.{BoardOf}
use Rattle.trace_told.specs.LegalPlay.Pieces.{piece_of}
use Rattle.trace_told.specs.LegalPlay.HistoryPlay.HistoryCalls.Exact.{is_good}
use Rattle.trace_told.specs.Given.{gives}
use Rattle.trace_told.specs.Told.{actor_of, operation_of, event_told, reading, byte_place, unless_read, places_before, places_after, moments_round, with_reads, event_moments, moments_told, told_by, told}
use Rattle.trace_told.specs.Untold.{IsUntold}
use Rattle.trace_told.specs.Laws.{CanFollow, GoOnLegally}
use Rattle.history_turns.specs.Noted.{NotedOf}
use Rattle.gic_check.specs.Play.{AreGoodMoments, IsPlayed, IsSomePlay}
use Rattle.gic_check.proofs.PlayLemmas.{operation_in, piece_in}

-- It is told by what is known.

module _ (guest : IdealGuest) (moments : List Moment) (board : BoardOf) (notes : List NotedOf) (is : IsPlayed guest moments board notes) (event : TraceEvent) where
  abbrev course : Course
  course = (pass_of guest moments).course

  abbrev by_board : ℕ → Option (List Moment)
  by_board actor = moments_told board.state actor (doing_of board.track actor).operation (piece_of board.pieces actor) event.act

  by_same : (actor : ℕ) → told_by course event.act actor ≡ by_board actor
  by_same actor =
      ap (λ s. moments_told s actor (operation_in (call_of course actor)) (piece_in (call_of course actor)) event.act) is.of.state_is
      ∙ (ap (λ op. moments_told board.state actor op (piece_in (call_of course actor)) event.act) (is.of.calls.operations actor)
      ∙ ap (λ p. moments_told board.state actor (doing_of board.track actor).operation p event.act) (is.of.calls.made actor))

  told_at : (o : Option ℕ) → actor_of board.state.guest.shape event.by ≡ o → told course event ≡ option_and_then (told_by course event.act) o
  told_at o there = ap (option_and_then (told_by course event.act)) (ap (λ (s : Ideal). actor_of s.guest.shape event.by) is.of.state_is ∙ there)

  pub told_is : (actor : ℕ) → actor_of board.state.guest.shape event.by ≡ Some actor → told course event ≡ by_board actor
  told_is actor there = told_at (Some actor) there ∙ by_same actor

  pub none_told : actor_of board.state.guest.shape event.by ≡ None → CanFollow guest (pass_of guest moments) event → ⊥
  none_told there next = none-some next.moments (sym (told_at None there) ∙ next.told)

  pub untold : (actor : ℕ) → actor_of board.state.guest.shape event.by ≡ Some actor → IsUntold board.state actor (doing_of board.track actor).operation (piece_of board.pieces actor) event.act → CanFollow guest (pass_of guest moments) event → ⊥
  untold actor there un next = un course next.moments is.of.state_is (sym (told_is actor there) ∙ next.told) (goes_all guest (pass_of guest moments) next.moments next.legal)
    where
      goes_all : (guest : IdealGuest) (pass : Pass) (moments : List Moment) → GoOnLegally guest pass moments → GoesOn pass.course moments
      goes_all guest pass [] h = tt
      goes_all guest pass (moment ∷ moments) h = (h.0.next, goes_all guest (passed pass moment) moments h.1)

-- Operations that the guest can do.

no_first : (a b : Option ℕ) → first_code a b ≡ None → b ≡ None
no_first None b h = h
no_first (Some code) None h = absurd (none-some code (sym h))
no_first (Some code) (Some other) h = absurd (none-some _ (sym h))

good_one : (a : Bool) (code : ℕ) → first_met ((not a, code) ∷ []) ≡ None → a ≡ true
good_one true code h = refl
good_one false code h = absurd (none-some code (sym h))

good_all : (a b c d : Bool) (one two three : ℕ) → first_met ((not (a && b), one) ∷ (not c, two) ∷ (not d, three) ∷ []) ≡ None → (a && b && c && d) ≡ true
good_all true true true true one two three h = refl
good_all true true true false one two three h = absurd (none-some three (sym h))
good_all true true false d one two three h = absurd (none-some two (sym h))
good_all true false c d one two three h = absurd (none-some one (sym h))
good_all false b c d one two three h = absurd (none-some one (sym h))

op_good : (shape : GuestShape) (op : GuestOp) → op_fault shape op ≡ None → is_good_op shape op ≡ true
op_good shape (Icc reg write) h = good_one (is_usable reg write) _ h
op_good shape (Mem frame offset size write) h = good_all _ (fits size write) (has_frame shape frame) (is_inside shape frame offset size) _ _ _ h

call_good : (shape : GuestShape) (call : TraceCall) → call_fault shape call ≡ None → is_good shape (operation_of call) ≡ true
call_good shape (VcpuCall op) h = op_good shape op h
call_good shape (DeviceCall op) h = refl
call_good shape Enter h = refl
call_good shape Exit h = refl

-- What is told can be done, and is short.

pub record IsModest (shape : GuestShape) (moments : List Moment) : Type 0 where
  pub good : AreGoodMoments shape moments
  pub short : length moments ≤ 6

module _ (shape : GuestShape) (ideal : Ideal) (actor : ℕ) where
  reads_good : (places : List Place) (moments : List Moment) → AreGoodMoments shape moments → AreGoodMoments shape (map (reading ideal actor) places ++ moments)
  reads_good [] moments h = h
  reads_good (place ∷ places) moments h = (refl, reads_good places moments h)

  only_reads_good : (places : List Place) → AreGoodMoments shape (map (reading ideal actor) places)
  only_reads_good [] = tt
  only_reads_good (place ∷ places) = (refl, only_reads_good places)

  few_before : (vcpu : Option ℕ) (piece : List Happened) (event : Event) → length (places_before ideal vcpu piece event) ≤ 1
  few_before vcpu piece event = of (byte_place ideal event)
    where
      read : (b : Bool) (place : Place) → length (cond b [] (place ∷ [])) ≤ 1
      read true place = omega arith
      read false place = omega arith

      of : (o : Option Place) → length (option_map_or (unless_read vcpu piece) o []) ≤ 1
      of None = omega arith
      of (Some place) = read _ place

  few_after : (event : Event) (found : Found) → length (places_after event found) ≤ 4
  few_after ItsBegin found = omega arith
  few_after (Enable vcpu) (FoundLpis false) = omega arith
  few_after event found = omega arith

  round_modest : (piece : List Happened) (event : Event) → IsModest shape (moments_round ideal actor piece event)
  round_modest piece event =
      let found = handed_out ideal event in
      let before = places_before ideal (vcpu_of ideal.guest.shape actor) piece event in
      let after = places_after event found in
      let long : length (moments_round ideal actor piece event) ≡ length before + suc (length after) =
      length-append (map (reading ideal actor) before) (Happens actor event found ∷ map (reading ideal actor) after)
      ∙ (ap (λ n. n + suc (length (map (reading ideal actor) after))) (length-map before (reading ideal actor)) ∙ ap (λ n. length before + suc n) (length-map after (reading ideal actor))) in
      let one = few_before (vcpu_of ideal.guest.shape actor) piece event in
      let four = few_after event found in
      record { good = reads_good before (Happens actor event found ∷ map (reading ideal actor) after) (refl, only_reads_good after); short = omega (arith, long, one, four) }

  event_modest : (operation : Option Operation) (piece : List Happened) (act : Act) (moments : List Moment) → event_moments ideal actor operation piece act ≡ Some moments → IsModest shape moments
  event_modest operation piece act moments h =
      option_and_then_some (with_reads ideal actor piece act) (event_told ideal (vcpu_of ideal.guest.shape actor) operation piece act) moments h
      (λ event is k. subst (IsModest shape) (cond_some (gives act (handed_out ideal event)) (moments_round ideal actor piece event) moments k).1 (round_modest piece event))

  act_modest : (operation : Option Operation) (piece : List Happened) (act : Act) (moments : List Moment) → act_fault shape act ≡ None → moments_told ideal actor operation piece act ≡ Some moments → IsModest shape moments
  act_modest operation piece (Begins call) moments good h =
      subst (IsModest shape) (same_Some _ _ h) (record { good = (call_good shape call good, tt); short = omega arith })
  act_modest operation piece (Ends answer) moments good h = subst (IsModest shape) (same_Some _ _ h) (record { good = (refl, tt); short = omega arith })
  act_modest operation piece act moments good h = event_modest operation piece act moments h

pub told_modest : (course : Course) (event : TraceEvent) (moments : List Moment) (shape : GuestShape) → event_fault shape event ≡ None → told course event ≡ Some moments → IsModest shape moments
told_modest course event moments shape good h =
    option_and_then_some (told_by course event.act) (actor_of course.ideal.guest.shape event.by) moments h
    (λ actor there. act_modest shape course.ideal actor (operation_in (call_of course actor)) (piece_in (call_of course actor)) event.act moments (no_first _ (act_fault shape event.act) good))

pub IfNone_then : {X Q : Type 0} {P : Type 0} (o : Option X) → IfNone o P → (P → Q) → IfNone o Q
IfNone_then None h f = f h
IfNone_then (Some x) h f = tt

-- what an event of the guest says, of a board that was played
abbrev pub IsToldOf : BoardOf → List NotedOf → TraceEvent → List Moment → Type 0
IsToldOf board notes event own = (guest : IdealGuest) (moments : List Moment) → IsPlayed guest moments board notes → told (pass_of guest moments).course event ≡ Some own

pub told_some : (o : Option (List Moment)) (own : List Moment) (P : List Moment → Type 0) → o ≡ Some own → IfSome o P → P own
told_some o own P is h = subst (λ x. IfSome x P) is h

pub modest_here : (board : BoardOf) (notes : List NotedOf) (event : TraceEvent) (own : List Moment) → IsSomePlay board notes → event_fault board.state.guest.shape event ≡ None
    → ((guest : IdealGuest) (moments : List Moment) → IsPlayed guest moments board notes → told (pass_of guest moments).course event ≡ Some own) → IsModest board.state.guest.shape own
modest_here board notes event own p there said = told_modest (pass_of p.guest p.moments).course event own board.state.guest.shape there (said p.guest p.moments p.is)
