-- Which steps take the ITS and which end its commands, and the maps that a part takes.
use Rattle.std.proofs.Common.{◌≡◌, ℕ, ◌⊎◌, inl, inr, ◌==◌, ◌||◌, not, Bool, true, false, cond, if◌then◌else◌, IsTrue, List, [], ◌∷◌, ◌++◌, Option, Some, None, slice_index_or, refl, sym, ap, ◌∙◌}
use Rattle.std.specs.List.{filter_map, list_all, list_any, cons_option}
use Rattle.std.specs.Option.{option_map_or, option_to_list}
use Rattle.std.proofs.lemmas.Bool.{and_parts}
use Rattle.law_unmapped_lpis.specs.Words.{IccReg, GuestShape}
use Rattle.law_unmapped_lpis.specs.Calls.{Event, Cpu, ItsBegin, Put, Reach, Take, Runs, Happened, plain_at}
use Rattle.law_unmapped_lpis.specs.GicCall.declared.event.Event.TheVariants.{Queue, Read}
use Rattle.law_unmapped_lpis.specs.GicCall.declared.event.Found.TheVariants.{Answer, Nothing, Word as FoundWord}
use Rattle.law_unmapped_lpis.specs.GicCall.declared.event.Place.TheVariants.{Word}
use Rattle.law_unmapped_lpis.specs.Registers.{interface_answer, Maps}
use Rattle.law_unmapped_lpis.specs.Histories.{Ideal}
use Rattle.law_unmapped_lpis.proofs.LawHistories.TurnSteps.{tables_are}
use Rattle.law_serial_is_eager.proofs.LawEagerIsHistory.WindowLemmas.{is_no_turn}
use Rattle.law_serial_is_eager.proofs.LawLoneCallsAreEager.MapsLemmas.{keeps_maps, tables_kept}
use Rattle.law_serial_is_eager.proofs.LawLoneCallsAreEager.RunLemmas.{events_of}
use Rattle.pe_mem.specs.Core.{Local, Made, CoreStep, Look, Claim, Poll, RamLook, RamPut, TurnTake, CommandDone, WordId, Ctlr, Queue as QueueWord, Vcpu, interface_of, change_of, fault_place, succeeds, vcpu_of, ends_command, is_at, CoreState, Takes, is_taking, seat_at, event_done, look_event, poll_event, silent, stands_for, with_found, entry_by}
use Rattle.law_serial_is_eager.specs.LawCoreIsHistory.Laws.{followed_by}
use Rattle.law_found_parts_are_calls.proofs.HereRuns.{AreHere, happened_in, next_state, stood}

-- What a step stands for.

-- an event that neither takes the ITS nor is one of its queue
abbrev is_other : Event → Bool
is_other ItsBegin = false
is_other (Queue offset change) = false
is_other event = true

abbrev other_if : Option Happened → Bool
other_if o = option_map_or (λ (one : Happened). is_other one.event) o true

-- a step that neither takes the ITS nor is one of its queue
abbrev is_other_step : CoreStep → Bool
is_other_step (TurnTake seen) = false
is_other_step (CommandDone offset stalled ending) = false
is_other_step step = true

either_other : (b : Bool) (one two : Option Happened) → IsTrue (other_if one) → IsTrue (other_if two) → IsTrue (other_if (cond b one two))
either_other true one two h k = h
either_other false one two h k = k

module _ (shape : GuestShape) (actor : ℕ) (local : Local) (own : List Made) (found : ℕ) where
  look_other : (word : WordId) → IsTrue (other_if (look_event word found))
  look_other QueueWord = refl
  look_other Ctlr = refl
  look_other (Vcpu vcpu) = refl
  look_other word = refl

  poll_other : (reg : Option IccReg) (write : Option ℕ) → IsTrue (other_if (poll_event actor reg write found local))
  poll_other None write = refl
  poll_other (Some reg) write = either_other (vcpu_of found).kick None (with_found (Cpu actor reg write) (Answer (interface_answer reg write (interface_of local)))) refl refl

  other_done : (step : CoreStep) → is_other_step step ≡ true → IsTrue (other_if (event_done shape actor local own step found))
  other_done (TurnTake seen) h = absurd (cc)
  other_done (CommandDone offset stalled ending) h = absurd (cc)
  other_done (Look word) h = look_other word
  other_done (Claim key seen) h = of (is_at key local.at)
    where
      of : (b : Bool) → IsTrue (other_if (silent (cond b (Take key actor) (Reach key actor))))
      of true = refl
      of false = refl
  other_done (Poll reg write) h = poll_other reg write
  other_done (RamLook index) h = either_other (index == fault_place shape) None (with_found (Read (Word (plain_at shape index))) (FoundWord found)) refl refl
  other_done (RamPut index seen value) h = either_other (index == fault_place shape) None (with_found (Put (plain_at shape index) value) (FoundWord found)) refl refl
  other_done step h = refl

  other_stands : (step : CoreStep) → is_other_step step ≡ true → IsTrue (other_if (stands_for shape actor local own step found))
  other_stands step h = either_other (succeeds shape actor local step found) (event_done shape actor local own step found) None (other_done step h) refl

-- Which of them take the ITS.

abbrev no_turn : Option Happened → Bool
no_turn o = option_map_or (λ (one : Happened). is_no_turn one.event) o true

-- a step that hands out the maps is the one that takes it, and no other
record IsTurn (maps : Maps) (tables : Option Maps) (o : Option Happened) : Type 0 where
  pub handed : tables ≡ Some maps
  pub event : o ≡ Some (record { event = ItsBegin; found = Nothing })

record IsNoTurn (tables : Option Maps) (o : Option Happened) : Type 0 where
  pub none : tables ≡ None
  pub event : IsTrue (no_turn o)

other_no_turn : (o : Option Happened) → IsTrue (other_if o) → IsTrue (no_turn o)
other_no_turn None h = refl
other_no_turn (Some one) h = of one.event h
  where
    of : (event : Event) → is_other event ≡ true → is_no_turn event ≡ true
    of ItsBegin h = absurd (cc)
    of event h = refl

module _ (shape : GuestShape) (actor : ℕ) (local : Local) (own : List Made) (maps : Maps) (found : ℕ) where
  by_step : (step : CoreStep) (b : Bool) (tables : Option Maps) → tables ≡ (if is_taking step then (if b then Some maps else None) else None)
      → IsTurn maps tables (cond b (event_done shape actor local own step found) None) ⊎ IsNoTurn tables (cond b (event_done shape actor local own step found) None)
  by_step (TurnTake seen) true tables e = inl (record { handed = e; event = refl })
  by_step (TurnTake seen) false tables e = inr (record { none = e; event = refl })
  by_step (CommandDone offset stalled ending) true tables e = inr (record { none = e; event = refl })
  by_step (CommandDone offset stalled ending) false tables e = inr (record { none = e; event = refl })
  by_step step b tables e =
      inr (record { none = e; event = other_no_turn (cond b (event_done shape actor local own step found) None) (either_other b (event_done shape actor local own step found) None (other_done shape actor local own found step refl) refl) })

turns : (shape : GuestShape) (actor : ℕ) (state : CoreState) (made : Made) → Takes shape state (entry_by actor made) → IsTurn state.maps made.tables (stood shape actor state made) ⊎ IsNoTurn made.tables (stood shape actor state made)
turns shape actor state made takes =
    by_step shape actor (seat_at state actor).local (seat_at state actor).own state.maps made.found made.step (succeeds shape actor (seat_at state actor).local made.step made.found) made.tables takes.tables

-- The maps that are taken.

-- the events of some steps take the ITS
abbrev pub take_turns : List Happened → Bool
take_turns piece = list_any (λ event. not (is_no_turn event)) (events_of piece)

-- no command ends before the ITS is taken
abbrev pub waits : List Event → Bool
waits [] = true
waits (event ∷ events) = cond (is_no_turn event) (cond (keeps_maps event) (waits events) false) true

pub all_wait : (events : List Event) → IsTrue (list_all keeps_maps events) → IsTrue (waits events)
all_wait [] all = refl
all_wait (event ∷ events) all = of (is_no_turn event) (all_wait events)
  where
    parts : IsTrue (keeps_maps event) × IsTrue (list_all keeps_maps events)
    parts = and_parts (keeps_maps event) (list_all keeps_maps events) all

    of : (b : Bool) → (IsTrue (list_all keeps_maps events) → IsTrue (waits events)) → IsTrue (cond b (cond (keeps_maps event) (waits events) false) true)
    of true later = ap (λ c. cond c (waits events) false) parts.0 ∙ later parts.1
    of false later = refl

-- those that take it, and any after them
pub taken_waits : (first next : List Event) → IsTrue (list_all keeps_maps first) → list_any (λ event. not (is_no_turn event)) first ≡ true → IsTrue (waits (first ++ next))
taken_waits [] next all some = absurd (cc)
taken_waits (event ∷ first) next all some = of (is_no_turn event) some (taken_waits first next)
  where
    parts : IsTrue (keeps_maps event) × IsTrue (list_all keeps_maps first)
    parts = and_parts (keeps_maps event) (list_all keeps_maps first) all

    of : (b : Bool) → (not b || list_any (λ event. not (is_no_turn event)) first) ≡ true → (IsTrue (list_all keeps_maps first) → list_any (λ event. not (is_no_turn event)) first ≡ true → IsTrue (waits (first ++ next)))
        → IsTrue (cond b (cond (keeps_maps event) (waits (first ++ next)) false) true)
    of true some later = ap (λ c. cond c (waits (first ++ next)) false) parts.0 ∙ later parts.1 some
    of false some later = refl

waits_on : (event : Event) (events : List Event) → IsTrue (waits (event ∷ events)) → is_no_turn event ≡ true → IsTrue (keeps_maps event) × IsTrue (waits events)
waits_on event events wait idle = of (keeps_maps event) refl (ap (λ b. cond b (cond (keeps_maps event) (waits events) false) true) (sym idle) ∙ wait)
  where
    of : (b : Bool) → keeps_maps event ≡ b → IsTrue (cond b (waits events) false) → IsTrue (keeps_maps event) × IsTrue (waits events)
    of true e h = (e, h)
    of false e h = absurd (cc)

-- the first maps that are handed out are those of the ITS as the steps begin
pub maps_along :
    (shape : GuestShape) (actor : ℕ) (maps other : Maps) (steps : List Made) (state : CoreState) (ideal : Ideal) → AreHere shape actor state ideal steps → ideal.guest.tables ≡ maps → IsTrue (waits (events_of (happened_in shape actor state steps)))
    → slice_index_or (filter_map (λ (made : Made). made.tables) steps) 0 other ≡ cond (take_turns (happened_in shape actor state steps)) maps other
maps_along shape actor maps other [] state ideal here now wait = refl
maps_along shape actor maps other (made ∷ steps) state ideal here now wait =
    of (stood shape actor state made) (turns shape actor state made here.0.takes) wait (maps_along shape actor maps other steps (next_state shape actor state made) (followed_by actor (stood shape actor state made) ideal) here.1)
  where
    later : List Happened
    later = happened_in shape actor (next_state shape actor state made) steps

    handed : List Maps
    handed = filter_map (λ (made : Made). made.tables) steps

    Along : Ideal → Type 0
    Along ideal = ideal.guest.tables ≡ maps → IsTrue (waits (events_of (happened_in shape actor (next_state shape actor state made) steps)))
        → slice_index_or (filter_map (λ (made : Made). made.tables) steps) 0 other ≡ cond (take_turns (happened_in shape actor (next_state shape actor state made) steps)) maps other

    of : (o : Option Happened) → IsTurn state.maps made.tables o ⊎ IsNoTurn made.tables o → IsTrue (waits (events_of (option_to_list o ++ later))) → Along (followed_by actor o ideal)
        → slice_index_or (cons_option made.tables handed) 0 other ≡ cond (take_turns (option_to_list o ++ later)) maps other
    of o (inl turn) wait along =
        ap (λ t. slice_index_or (cons_option t handed) 0 other) turn.handed ∙ sym here.0.related.maps ∙ now ∙ sym (ap (λ o. cond (take_turns (option_to_list o ++ later)) maps other) turn.event)
    of None (inr idle) wait along = ap (λ t. slice_index_or (cons_option t handed) 0 other) idle.none ∙ along now wait
    of (Some one) (inr idle) wait along =
        let parts = waits_on one.event (events_of later) wait idle.event in
        ap (λ t. slice_index_or (cons_option t handed) 0 other) idle.none
        ∙ along (tables_are actor one.event ideal ∙ tables_kept one.event ideal.guest.tables parts.0 ∙ now) parts.1
        ∙ ap (λ b. cond (not b || take_turns later) maps other) (sym idle.event)

-- Which of them end a command.

-- an event that ends a command
abbrev pub is_ending : Event → Bool
is_ending (Queue offset Runs) = false
is_ending (Queue offset change) = true
is_ending event = false

other_endless : (o : Option Happened) → IsTrue (other_if o) → IsTrue (option_map_or (λ (one : Happened). not (is_ending one.event)) o true)
other_endless None h = refl
other_endless (Some one) h = of one.event h
  where
    of : (event : Event) → is_other event ≡ true → not (is_ending event) ≡ true
    of (Queue offset change) h = absurd (cc)
    of event h = refl

pub stands_endless : (shape : GuestShape) (actor : ℕ) (local : Local) (own : List Made) (found : ℕ) (step : CoreStep) → IsTrue (not (ends_command step))
    → IsTrue (option_map_or (λ (one : Happened). not (is_ending one.event)) (stands_for shape actor local own step found) true)
stands_endless shape actor local own found (CommandDone offset false None) h = refl
stands_endless shape actor local own found (CommandDone offset true None) h = absurd (cc)
stands_endless shape actor local own found (CommandDone offset true (Some words)) h = absurd (cc)
stands_endless shape actor local own found (CommandDone offset false (Some words)) h = absurd (cc)
stands_endless shape actor local own found (TurnTake seen) h = of (succeeds shape actor local (TurnTake seen) found)
  where
    of : (b : Bool) → IsTrue (option_map_or (λ (one : Happened). not (is_ending one.event)) (cond b (silent ItsBegin) None) true)
    of true = refl
    of false = refl
stands_endless shape actor local own found step h = other_endless (stands_for shape actor local own step found) (other_stands shape actor local own found step refl)

-- the step that ends one stands for that
pub record StandsForEnd (shape : GuestShape) (actor : ℕ) (local : Local) (own : List Made) (found : ℕ) (step : CoreStep) : Type 0 where
  pub one : Happened
  pub stands : stands_for shape actor local own step found ≡ Some one
  pub closes : is_ending one.event ≡ true

pub stands_for_end : (shape : GuestShape) (actor : ℕ) (local : Local) (own : List Made) (found : ℕ) (step : CoreStep) → IsTrue (ends_command step) → StandsForEnd shape actor local own found step
stands_for_end shape actor local own found (CommandDone offset true None) h = record { one = record { event = Queue offset (change_of shape actor own true None); found = Nothing }; stands = refl; closes = refl }
stands_for_end shape actor local own found (CommandDone offset stalled (Some words)) h = record { one = record { event = Queue offset (change_of shape actor own stalled (Some words)); found = Nothing }; stands = refl; closes = refl }
stands_for_end shape actor local own found (CommandDone offset false None) h = absurd (cc)
stands_for_end shape actor local own found step h = absurd (cc)
