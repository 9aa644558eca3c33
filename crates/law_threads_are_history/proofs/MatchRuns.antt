-- The steps of an actor from where it took the ITS, beside the ideal controller as if nobody else acted: the LPIs are for the vCPUs that each command found, as that begins.
use Rattle.std.proofs.Common.{◌≡◌, ℕ, ◌+◌, ◌&&◌, not, Bool, true, false, cond, if◌then◌else◌, IsTrue, IfSome, find, length, List, [], ◌∷◌, ◌++◌, Option, Some, None, refl, sym, ap, ◌∙◌, subst, slice_index_or}
use Rattle.std.specs.List.{list_all}
use Rattle.std.specs.Option.{option_map_or, option_or, option_to_list}
use Rattle.std.proofs.lemmas.Bool.{and_from, and_parts}
use Rattle.std.proofs.lemmas.List.{append-nil, append_assoc, length-append}
use Rattle.std.proofs.Math.Seq.{get_or-append_seam}
use Rattle.law_found_parts_are_calls.specs.Histories.{AreForNone}
use Rattle.law_ends_agree.specs.Words.{Lpi, GuestShape, has_interrupt, target_in, irq_of}
use Rattle.law_ends_agree.specs.Calls.{Event, Happened, is_beside, command_targets}
use Rattle.law_ends_agree.specs.GicCall.declared.event.Event.TheVariants.{ItsEnd}
use Rattle.law_ends_agree.specs.Registers.{IsValid, has_target, Maps}
use Rattle.law_ends_agree.proofs.IdealGuests.KeyLemmas.{IsWhole}
use Rattle.law_ends_agree.specs.Histories.{Ideal, happened, targets_in}
use Rattle.law_found_parts_are_calls.proofs.LawHistories.TurnSteps.{tables_are}
use Rattle.law_runs_are_fresh.proofs.LawEagerIsHistory.CourseLemmas.{state_after}
use Rattle.law_runs_are_fresh.proofs.LawEagerIsHistory.WindowLemmas.{Targets, beside_of, no_target}
use Rattle.law_runs_are_fresh.proofs.LawLoneCallsAreEager.CommandLemmas.{events_both}
use Rattle.law_runs_are_fresh.proofs.LawLoneCallsAreEager.MapsLemmas.{beside_maps, tables_kept}
use Rattle.law_runs_are_fresh.proofs.LawLoneCallsAreEager.RunLemmas.{events_of as lone_events}
use Rattle.law_ends_agree.specs.Core.{Made, Irq, local_after, ends_command, is_on, known_maps, Adds, Seen, local_by, part_events, seen_after, shape_of, Seat}
use Rattle.law_found_parts_are_calls.specs.LawCoreIsHistory.Laws.{followed_by}
use Rattle.law_found_parts_are_calls.specs.ItsExec.Known.{AgreeFound, AgreeWith, are_within, first_step, is_within}
use Rattle.law_found_parts_are_calls.specs.ItsExec.Queue.{AreOfCommand, AreOfOne, AreTaken, Taken}
use Rattle.law_found_parts_are_calls.specs.ItsExec.Run.{AgreeAll}
use Rattle.law_found_parts_are_calls.proofs.ItsExec.FrameLemmas.{first_on}
use Rattle.law_found_parts_are_calls.proofs.BegunRuns.{beside_endless, is_endless, whole_events}
use Rattle.law_found_parts_are_calls.proofs.CommandRuns.{steps_taken}
use Rattle.law_found_parts_are_calls.proofs.NoneRuns.{command_none}
use Rattle.law_found_parts_are_calls.proofs.TurnRuns.{StandsForEnd, is_ending, stands_endless, stands_for_end}
use Rattle.law_found_parts_are_calls.proofs.WindowRuns.{begun_after, begun_end, begun_past}
use Rattle.law_threads_are_history.proofs.FreeParts.{events_from, stands}
use Rattle.law_threads_are_history.proofs.ToldParts.{next_seat, seat_after}
use Rattle.law_threads_are_history.proofs.TurnPieces.{AreValid}

-- The turn.

abbrev pub is_end : Event → Bool
is_end ItsEnd = true
is_end event = false

-- whether the actor has the ITS still, after a step that stands for this
abbrev pub held_after : Bool → Option Happened → Bool
held_after held None = held
held_after held (Some one) = held && not (is_end one.event)

-- once it has not, only reads and moves come
abbrev pub closes : Option ℕ → Bool → List Event → Bool
closes who false events = list_all (is_beside who) events
closes who true [] = true
closes who true (event ∷ events) = cond (is_end event) (list_all (is_beside who) events) (closes who true events)

closes_none : (who : Option ℕ) (held : Bool) → IsTrue (closes who held [])
closes_none who false = refl
closes_none who true = refl

closes_one : (who : Option ℕ) (held : Bool) (event : Event) (events : List Event) → IsTrue (closes who held (event ∷ events)) → IsTrue (closes who (held && not (is_end event)) events)
closes_one who false event events h = (and_parts (is_beside who event) (list_all (is_beside who) events) h).1
closes_one who true event events h = of (is_end event) h
  where
    of : (b : Bool) → IsTrue (cond b (list_all (is_beside who) events) (closes who true events)) → IsTrue (closes who (not b) events)
    of true h = h
    of false h = h

pub closes_next : (who : Option ℕ) (held : Bool) (o : Option Happened) (later : List Happened) → IsTrue (closes who held (lone_events (option_to_list o ++ later))) → IsTrue (closes who (held_after held o) (lone_events later))
closes_next who held None later h = h
closes_next who held (Some one) later h = closes_one who held one.event (lone_events later) h

-- The steps.

-- a step of the actor while it has the ITS finds for which vCPU an LPI is, and moves none but by a step on its word; the maps are those that it knows
pub record IsMatch (shape : GuestShape) (actor : ℕ) (seat : Seat) (ghost : Ideal) (made : Made) : Type 0 where
  pub finds : (id : ℕ) → IsTrue (has_interrupt shape (Lpi id)) → is_on shape actor (Irq (Lpi id)) made ≡ true → targets_in ghost id ≡ target_in (irq_of made.found).route shape
  pub keeps : (id : ℕ) → IsTrue (has_interrupt shape (Lpi id)) → is_on shape actor (Irq (Lpi id)) made ≡ false → targets_in (followed_by actor (stands shape actor seat made) ghost) id ≡ targets_in ghost id
  pub known : ghost.guest.tables ≡ known_maps seat.own
  pub valid : IsValid shape (followed_by actor (stands shape actor seat made) ghost).guest.tables

abbrev pub Matches : GuestShape → ℕ → Bool → Seat → Ideal → List Made → Type 0
Matches shape actor held seat ghost [] = Unit {0}
Matches shape actor held seat ghost (made ∷ steps) =
    (held ≡ true → IsMatch shape actor seat ghost made) × Matches shape actor (held_after held (stands shape actor seat made)) (next_seat shape actor seat made) (followed_by actor (stands shape actor seat made) ghost) steps

-- where they lead
abbrev pub seat_on : GuestShape → ℕ → Seat → List Made → Seat
seat_on shape actor seat [] = seat
seat_on shape actor seat (made ∷ steps) = seat_on shape actor (next_seat shape actor seat made) steps

abbrev pub ghost_on : GuestShape → ℕ → Seat → Ideal → List Made → Ideal
ghost_on shape actor seat ghost [] = ghost
ghost_on shape actor seat ghost (made ∷ steps) = ghost_on shape actor (next_seat shape actor seat made) (followed_by actor (stands shape actor seat made) ghost) steps

abbrev pub held_on : GuestShape → ℕ → Bool → Seat → List Made → Bool
held_on shape actor held seat [] = held
held_on shape actor held seat (made ∷ steps) = held_on shape actor (held_after held (stands shape actor seat made)) (next_seat shape actor seat made) steps

module _ (shape : GuestShape) (actor : ℕ) where
  pub seat_is : (steps : List Made) (seat : Seat) → seat_on shape actor seat steps ≡ seat_after shape actor seat steps
  seat_is [] seat = ap (λ own. let s : Seat = record { local = seat.local; own = own } in s) (sym (append-nil seat.own))
  seat_is (made ∷ steps) seat =
      seat_is steps (next_seat shape actor seat made)
      ∙ ap (λ own. let s : Seat = record { local = local_by shape actor (local_after shape actor seat.local made.step made.found) steps; own = own } in s) (append_assoc seat.own (made ∷ []) steps)

  pub events_split : (early late : List Made) (seat : Seat) → events_from shape actor seat (early ++ late) ≡ events_from shape actor seat early ++ events_from shape actor (seat_on shape actor seat early) late
  events_split [] late seat = refl
  events_split (made ∷ early) late seat =
      let next = next_seat shape actor seat made in
      ap (λ xs. option_to_list (stands shape actor seat made) ++ xs) (events_split early late next)
      ∙ sym (append_assoc (option_to_list (stands shape actor seat made)) (events_from shape actor next early) (events_from shape actor (seat_on shape actor next early) late))

  pub ghost_is : (steps : List Made) (seat : Seat) (ghost : Ideal) → ghost_on shape actor seat ghost steps ≡ state_after actor (lone_events (events_from shape actor seat steps)) ghost
  ghost_is [] seat ghost = refl
  ghost_is (made ∷ steps) seat ghost = ghost_is steps (next_seat shape actor seat made) (followed_by actor (stands shape actor seat made) ghost) ∙ of (stands shape actor seat made)
    where
      later : List Happened
      later = events_from shape actor (next_seat shape actor seat made) steps

      of : (o : Option Happened) → state_after actor (lone_events (events_from shape actor (next_seat shape actor seat made) steps)) (followed_by actor o ghost) ≡ state_after actor (lone_events (option_to_list o ++ events_from shape actor (next_seat shape actor seat made) steps)) ghost
      of None = refl
      of (Some one) = refl

  pub matches_split : (early late : List Made) (held : Bool) (seat : Seat) (ghost : Ideal) → Matches shape actor held seat ghost (early ++ late) → Matches shape actor (held_on shape actor held seat early) (seat_on shape actor seat early) (ghost_on shape actor seat ghost early) late
  matches_split [] late held seat ghost matches = matches
  matches_split (made ∷ early) late held seat ghost matches =
      matches_split early late (held_after held (stands shape actor seat made)) (next_seat shape actor seat made) (followed_by actor (stands shape actor seat made) ghost) matches.1

  pub closes_split : (who : Option ℕ) (early late : List Made) (held : Bool) (seat : Seat) → IsTrue (closes who held (lone_events (events_from shape actor seat (early ++ late))))
      → IsTrue (closes who (held_on shape actor held seat early) (lone_events (events_from shape actor (seat_on shape actor seat early) late)))
  closes_split who [] late held seat h = h
  closes_split who (made ∷ early) late held seat h =
      closes_split who early late (held_after held (stands shape actor seat made)) (next_seat shape actor seat made)
      (closes_next who held (stands shape actor seat made) (events_from shape actor (next_seat shape actor seat made) (early ++ late)) h)

  -- valid maps all along
  valid_beside : (who : Option ℕ) (event : Event) (state : Ideal) → is_beside who event ≡ true → IsValid shape state.guest.tables → IsValid shape (happened actor event state).guest.tables
  valid_beside who event state beside valid = subst (IsValid shape) (sym (tables_are actor event state ∙ tables_kept event state.guest.tables (beside_maps who event beside))) valid

  pub valid_along : (who : Option ℕ) (steps : List Made) (held : Bool) (seat : Seat) (ghost : Ideal) → Matches shape actor held seat ghost steps → IsTrue (closes who held (lone_events (events_from shape actor seat steps))) → IsValid shape ghost.guest.tables
      → AreValid shape actor (lone_events (events_from shape actor seat steps)) ghost
  valid_along who [] held seat ghost matches closed valid = valid
  valid_along who (made ∷ steps) held seat ghost matches closed valid =
      of (stands shape actor seat made) (λ e. (matches.0 e).valid) closed
      (λ v. valid_along who steps (held_after held (stands shape actor seat made)) (next_seat shape actor seat made) (followed_by actor (stands shape actor seat made) ghost) matches.1 (closes_next who held (stands shape actor seat made) (events_from shape actor (next_seat shape actor seat made) steps) closed) v)
    where
      next_valid : (b : Bool) → held ≡ b → (one : Happened) → (held ≡ true → IsValid shape (happened actor one.event ghost).guest.tables) → IsTrue (closes who b (one.event ∷ lone_events (events_from shape actor (next_seat shape actor seat made) steps)))
          → IsValid shape (happened actor one.event ghost).guest.tables
      next_valid true e one match closed = match e
      next_valid false e one match closed =
          valid_beside who one.event ghost (and_parts (is_beside who one.event) (list_all (is_beside who) (lone_events (events_from shape actor (next_seat shape actor seat made) steps))) closed).0 valid

      of : (o : Option Happened) → (held ≡ true → IsValid shape (followed_by actor o ghost).guest.tables) → IsTrue (closes who held (lone_events (option_to_list o ++ events_from shape actor (next_seat shape actor seat made) steps)))
          → (IsValid shape (followed_by actor o ghost).guest.tables → AreValid shape actor (lone_events (events_from shape actor (next_seat shape actor seat made) steps)) (followed_by actor o ghost))
          → AreValid shape actor (lone_events (option_to_list o ++ events_from shape actor (next_seat shape actor seat made) steps)) ghost
      of None match closed later = later valid
      of (Some one) match closed later = (valid, later (next_valid held refl one match closed))

  -- up to the end of a command the actor has the ITS
  module _ (who : Option ℕ) (ending : Made) (next : List Made) (ends : IsTrue (ends_command ending.step)) where
    pub beside_ends_none : (first : List Made) (seat : Seat) → IsTrue (list_all (is_beside who) (lone_events (events_from shape actor seat (first ++ ending ∷ next)))) → ⊥
    beside_ends_none [] seat h =
        let end = stands_for_end shape actor seat.local seat.own ending.found ending.step ends in
        let later = events_from shape actor (next_seat shape actor seat ending) next in
        let both = and_parts (is_beside who end.one.event) (list_all (is_beside who) (lone_events later)) (subst (λ o. IsTrue (list_all (is_beside who) (lone_events (option_to_list o ++ later)))) end.stands h) in
        apart (is_ending end.one.event) end.closes (beside_endless who end.one.event both.0)
      where
        apart : (b : Bool) → b ≡ true → not b ≡ true → ⊥
        apart true ending endless = cc
        apart false ending endless = cc
    beside_ends_none (made ∷ first) seat h = of (stands shape actor seat made) h (beside_ends_none first (next_seat shape actor seat made))
      where
        of : (o : Option Happened) → IsTrue (list_all (is_beside who) (lone_events (option_to_list o ++ events_from shape actor (next_seat shape actor seat made) (first ++ ending ∷ next))))
            → (IsTrue (list_all (is_beside who) (lone_events (events_from shape actor (next_seat shape actor seat made) (first ++ ending ∷ next)))) → ⊥) → ⊥
        of None h later = later h
        of (Some one) h later = later (and_parts (is_beside who one.event) (list_all (is_beside who) (lone_events (events_from shape actor (next_seat shape actor seat made) (first ++ ending ∷ next)))) h).1

    pub held_true : (first : List Made) (held : Bool) (seat : Seat) → IsTrue (closes who held (lone_events (events_from shape actor seat (first ++ ending ∷ next)))) → held ≡ true
    held_true first true seat closed = refl
    held_true first false seat closed = absurd (beside_ends_none first seat closed)

    -- the first step on an LPI's word finds for which vCPU that is
    pub first_finds :
        (id : ℕ) → IsTrue (has_interrupt shape (Lpi id)) → (first : List Made) (held : Bool) (seat : Seat) (ghost : Ideal) → Matches shape actor held seat ghost (first ++ ending ∷ next)
        → IsTrue (closes who held (lone_events (events_from shape actor seat (first ++ ending ∷ next)))) → IfSome (find (is_on shape actor (Irq (Lpi id))) first) (λ (made : Made). targets_in ghost id ≡ target_in (irq_of made.found).route shape)
    first_finds id there [] held seat ghost matches closed = tt
    first_finds id there (made ∷ first) held seat ghost matches closed =
        of (is_on shape actor (Irq (Lpi id)) made) refl (matches.0 (held_true (made ∷ first) held seat closed))
        (first_finds id there first (held_after held (stands shape actor seat made)) (next_seat shape actor seat made) (followed_by actor (stands shape actor seat made) ghost) matches.1
        (closes_next who held (stands shape actor seat made) (events_from shape actor (next_seat shape actor seat made) (first ++ ending ∷ next)) closed))
      where
        of : (b : Bool) → is_on shape actor (Irq (Lpi id)) made ≡ b → IsMatch shape actor seat ghost made
            → IfSome (find (is_on shape actor (Irq (Lpi id))) first) (λ (other : Made). targets_in (followed_by actor (stands shape actor seat made) ghost) id ≡ target_in (irq_of other.found).route shape)
            → IfSome (if b then Some made else find (is_on shape actor (Irq (Lpi id))) first) (λ (other : Made). targets_in ghost id ≡ target_in (irq_of other.found).route shape)
        of true e match later = match.finds id there e
        of false e match later =
            subst (λ t. IfSome (find (is_on shape actor (Irq (Lpi id))) first) (λ (other : Made). t ≡ target_in (irq_of other.found).route shape)) (match.keeps id there e) later

    pub known_now : (first : List Made) (held : Bool) (seat : Seat) (ghost : Ideal) → Matches shape actor held seat ghost (first ++ ending ∷ next) → held ≡ true → ghost.guest.tables ≡ known_maps seat.own
    known_now [] held seat ghost matches e = (matches.0 e).known
    known_now (made ∷ first) held seat ghost matches e = (matches.0 e).known

    -- it ends no other before
    endless : (first : List Made) (seat : Seat) → IsTrue (are_within first) → IsTrue (list_all is_endless (lone_events (events_from shape actor seat first)))
    endless [] seat h = refl
    endless (made ∷ first) seat h =
        let parts = and_parts (is_within made) (are_within first) h in
        of (stands shape actor seat made) (stands_endless shape actor seat.local seat.own made.found made.step (and_parts _ (not (ends_command made.step)) parts.0).1) (endless first (next_seat shape actor seat made) parts.1)
      where
        of : (o : Option Happened) → IsTrue (option_map_or (λ (one : Happened). not (is_ending one.event)) o true) → IsTrue (list_all is_endless (lone_events (events_from shape actor (next_seat shape actor seat made) first)))
            → IsTrue (list_all is_endless (lone_events (option_to_list o ++ events_from shape actor (next_seat shape actor seat made) first)))
        of None one later = later
        of (Some happened) one later = and_from (not (is_ending happened.event)) (list_all is_endless (lone_events (events_from shape actor (next_seat shape actor seat made) first))) one later

    -- so the next one begins after it
    pub begun_next : (first : List Made) (seat : Seat) (ghost : Ideal) → IsTrue (are_within first)
        → begun_after actor (lone_events (events_from shape actor seat (first ++ ending ∷ next))) ghost
        ≡ targets_in (ghost_on shape actor seat ghost (first ++ ending ∷ [])) ∷ begun_after actor (lone_events (events_from shape actor (seat_on shape actor seat (first ++ ending ∷ [])) next)) (ghost_on shape actor seat ghost (first ++ ending ∷ []))
    begun_next first seat ghost within =
        ap (λ xs. begun_after actor (lone_events xs) ghost) (events_split first (ending ∷ next) seat ∙ ap (λ o. events_from shape actor seat first ++ (option_to_list o ++ events_from shape actor (next_seat shape actor mid ending) next)) end.stands)
        ∙ ap (λ es. begun_after actor es ghost) (events_both (events_from shape actor seat first) (end.one ∷ events_from shape actor (next_seat shape actor mid ending) next))
        ∙ begun_past actor (lone_events (events_from shape actor seat first)) (end.one.event ∷ lone_events (events_from shape actor (next_seat shape actor mid ending) next)) ghost (endless first seat within)
        ∙ ap (begun_after actor (end.one.event ∷ lone_events (events_from shape actor (next_seat shape actor mid ending) next))) (sym (ghost_is first seat ghost))
        ∙ begun_end actor end.one.event (lone_events (events_from shape actor (next_seat shape actor mid ending) next)) (ghost_on shape actor seat ghost first) end.closes
        ∙ ap (λ (s : Seat). targets_in (happened actor end.one.event (ghost_on shape actor seat ghost first)) ∷ begun_after actor (lone_events (events_from shape actor s next)) (happened actor end.one.event (ghost_on shape actor seat ghost first))) (sym (seat_last first seat))
        ∙ ap (λ (i : Ideal). targets_in i ∷ begun_after actor (lone_events (events_from shape actor (seat_on shape actor seat (first ++ ending ∷ [])) next)) i) (sym (ghost_last first seat ghost ∙ ap (λ o. followed_by actor o (ghost_on shape actor seat ghost first)) end.stands))
      where
        mid : Seat
        mid = seat_on shape actor seat first

        end : StandsForEnd shape actor (seat_on shape actor seat first).local (seat_on shape actor seat first).own ending.found ending.step
        end = stands_for_end shape actor (seat_on shape actor seat first).local (seat_on shape actor seat first).own ending.found ending.step ends

        seat_last : (steps : List Made) (seat : Seat) → seat_on shape actor seat (steps ++ ending ∷ []) ≡ next_seat shape actor (seat_on shape actor seat steps) ending
        seat_last [] seat = refl
        seat_last (made ∷ steps) seat = seat_last steps (next_seat shape actor seat made)

        ghost_last : (steps : List Made) (seat : Seat) (ghost : Ideal) → ghost_on shape actor seat ghost (steps ++ ending ∷ []) ≡ followed_by actor (stands shape actor (seat_on shape actor seat steps) ending) (ghost_on shape actor seat ghost steps)
        ghost_last [] seat ghost = refl
        ghost_last (made ∷ steps) seat ghost = ghost_last steps (next_seat shape actor seat made) (followed_by actor (stands shape actor seat made) ghost)

-- Commands, one after the other.

abbrev pub seat_of : Seen → Seat
seat_of seen = record { local = seen.local; own = seen.own }

-- an actor is where the command of a number begins, with these steps to come; for these vCPUs the LPIs are, as they are of the commands of its part in order
pub record IsCome (shape : GuestShape) (actor : ℕ) (who : Option ℕ) (held : Bool) (seat : Seat) (steps : List Made) (ghost : Ideal) (number : ℕ) (firsts : List Targets) (t : Targets) : Type 0 where
  pub matches : Matches shape actor held seat ghost steps
  pub closed : IsTrue (closes who held (lone_events (events_from shape actor seat steps)))
  pub valid : IsValid shape ghost.guest.tables
  pub whole : IsWhole ghost.guest
  pub none : AreForNone ghost.guest
  pub now : (id : ℕ) → t id ≡ targets_in ghost id
  pub early : List Targets
  pub number_is : length early ≡ number
  pub firsts_are : firsts ≡ early ++ t ∷ begun_after actor (lone_events (events_from shape actor seat steps)) ghost

module _ (who : Option ℕ) (maps : Maps) (firsts : List Targets) (one : Taken) (held : Bool) (number : ℕ) (ghost : Ideal) (t : Targets) (next : List Made)
    (come : IsCome (shape_of one.from) one.from.actor who held (seat_of one.from) (one.takes.steps ++ next) ghost number firsts t) where
  abbrev from : Seen
  from = one.from

  abbrev shape : GuestShape
  shape = shape_of one.from

  abbrev actor : ℕ
  actor = one.from.actor

  abbrev seat : Seat
  seat = seat_of one.from

  abbrev mine : AreOfOne one.from one.takes.last one.takes.steps
  mine = one.takes.one

  -- its steps, and what is after them
  all_is : one.takes.steps ++ next ≡ mine.first ++ (mine.ending ∷ next)
  all_is = ap (λ xs. xs ++ next) mine.split ∙ append_assoc mine.first (mine.ending ∷ []) next

  matches : Matches (shape_of one.from) one.from.actor held (seat_of one.from) ghost (mine.first ++ (mine.ending ∷ next))
  matches = subst (Matches shape actor held seat ghost) all_is come.matches

  closed : IsTrue (closes who held (lone_events (events_from (shape_of one.from) one.from.actor (seat_of one.from) (mine.first ++ (mine.ending ∷ next)))))
  closed = subst (λ xs. IsTrue (closes who held (lone_events (events_from shape actor seat xs)))) all_is come.closed

  tables : ghost.guest.tables ≡ known_maps one.from.own
  tables = known_now shape actor who mine.ending next mine.ends mine.first held seat ghost matches (held_true shape actor who mine.ending next mine.ends mine.first held seat closed)

  -- what the command found
  last_adds : Adds one.from (seen_after one.from mine.first) mine.first
  last_adds = record { new_is = refl }

  found_first : AgreeFound (seen_after one.from mine.first) t
  found_first = record { each = λ id there. subst (λ o. IfSome o (λ (made : Made). t id ≡ target_in (irq_of made.found).route shape)) (sym (first_is id there)) (of id (find (is_on shape actor (Irq (Lpi id))) mine.first) (first_finds shape actor who mine.ending next mine.ends id there mine.first held seat ghost matches closed)) }
    where
      first_is : (id : ℕ) → IsTrue (has_interrupt (shape_of one.from) (Lpi id)) → first_step (seen_after one.from mine.first) id ≡ find (is_on (shape_of one.from) one.from.actor (Irq (Lpi id))) mine.first
      first_is id there = first_on from (seen_after from mine.first) mine.first id last_adds mine.within ∙ ap (λ o. option_or o (find (is_on shape actor (Irq (Lpi id))) mine.first)) (mine.fresh.each id there).none

      of : (id : ℕ) (o : Option Made) → IfSome o (λ (made : Made). targets_in ghost id ≡ target_in (irq_of made.found).route (shape_of one.from)) → IfSome o (λ (made : Made). t id ≡ target_in (irq_of made.found).route (shape_of one.from))
      of id None h = tt
      of id (Some made) h = come.now id ∙ h

  agreed : AgreeWith one.takes.last (known_maps one.from.own) t
  agreed =
      subst (λ (s : Seen). AgreeWith s (known_maps from.own) t) (sym mine.adds.new_is)
      (record { found = found_first; unmapped = λ id lost left. come.now id ∙ come.none id (ap (λ m. has_target m id) tables ∙ lost) })

  pub agrees_now : AgreeWith one.takes.last (known_maps one.from.own) (command_targets (beside_of maps firsts) number)
  agrees_now =
      let rest = begun_after actor (lone_events (events_from shape actor seat (one.takes.steps ++ next))) ghost in
      subst (AgreeWith one.takes.last (known_maps from.own))
      (sym
      (ap (λ xs. slice_index_or xs number no_target) come.firsts_are ∙ ap (λ n. slice_index_or (come.early ++ t ∷ rest) n no_target) (sym come.number_is) ∙ get_or-append_seam come.early t rest no_target))
      agreed

  -- what it made of the LPIs that the maps give no vCPU
  is : AreOfCommand one.from one.to one.fault who t (part_events one.from one.takes.steps)
  is = one.takes.is who t agreed

  abbrev ghost_next : Ideal
  ghost_next = ghost_on (shape_of one.from) one.from.actor (seat_of one.from) ghost one.takes.steps

  none_next : AreForNone ghost_next.guest
  none_next =
      subst (λ (i : Ideal). AreForNone i.guest) (sym (ghost_is shape actor one.takes.steps seat ghost))
      (command_none actor who shape is.view (part_events from one.takes.steps) ghost is.command (sym is.same.maps ∙ sym tables) (λ id. ap (λ (f : Targets). f id) is.targets_are ∙ come.now id) come.valid come.whole come.none)

  whole_next : IsWhole ghost_next.guest
  whole_next = subst (λ (i : Ideal). IsWhole i.guest) (sym (ghost_is shape actor one.takes.steps seat ghost)) (whole_events actor (lone_events (events_from shape actor seat one.takes.steps)) ghost come.whole)

  valid_next : IsValid (shape_of one.from) ghost_next.guest.tables
  valid_next =
      subst (λ xs. IsValid shape (ghost_on shape actor seat ghost xs).guest.tables) (sym mine.split)
      (last_valid mine.first held seat ghost matches closed)
    where
      last_valid : (first : List Made) (held : Bool) (seat : Seat) (ghost : Ideal) → Matches (shape_of one.from) one.from.actor held seat ghost (first ++ (mine.ending ∷ next))
          → IsTrue (closes who held (lone_events (events_from (shape_of one.from) one.from.actor seat (first ++ (mine.ending ∷ next))))) → IsValid (shape_of one.from) (ghost_on (shape_of one.from) one.from.actor seat ghost (first ++ mine.ending ∷ [])).guest.tables
      last_valid [] held seat ghost matches closed = (matches.0 (held_true (shape_of one.from) one.from.actor who mine.ending next mine.ends [] held seat closed)).valid
      last_valid (made ∷ first) held seat ghost matches closed =
          last_valid first (held_after held (stands (shape_of one.from) one.from.actor seat made)) (next_seat (shape_of one.from) one.from.actor seat made) (followed_by one.from.actor (stands (shape_of one.from) one.from.actor seat made) ghost) matches.1
          (closes_next who held (stands (shape_of one.from) one.from.actor seat made) (events_from (shape_of one.from) one.from.actor (next_seat (shape_of one.from) one.from.actor seat made) (first ++ (mine.ending ∷ next))) closed)

  begun : begun_after actor (lone_events (events_from (shape_of one.from) one.from.actor (seat_of one.from) (one.takes.steps ++ next))) ghost
      ≡ targets_in ghost_next ∷ begun_after actor (lone_events (events_from (shape_of one.from) one.from.actor (seat_on (shape_of one.from) one.from.actor (seat_of one.from) one.takes.steps) next)) ghost_next
  begun =
      ap (λ xs. begun_after actor (lone_events (events_from shape actor seat xs)) ghost) all_is
      ∙ subst
      (λ xs. begun_after actor (lone_events (events_from shape actor seat (mine.first ++ (mine.ending ∷ next)))) ghost ≡ targets_in (ghost_on shape actor seat ghost xs) ∷ begun_after actor (lone_events (events_from shape actor (seat_on shape actor seat xs) next)) (ghost_on shape actor seat ghost xs))
      (sym mine.split) (begun_next shape actor who mine.ending next mine.ends mine.first seat ghost mine.within)

  abbrev seat_next : Seat
  seat_next = seat_on (shape_of one.from) one.from.actor (seat_of one.from) one.takes.steps

  -- the next one
  pub come_next : IsCome (shape_of one.to) one.to.actor who (held_on (shape_of one.from) one.from.actor held (seat_of one.from) one.takes.steps) (seat_of one.to) next (ghost_on (shape_of one.from) one.from.actor (seat_of one.from) ghost one.takes.steps) (number + 1) firsts
      (targets_in (ghost_on (shape_of one.from) one.from.actor (seat_of one.from) ghost one.takes.steps))
  come_next =
      subst (λ (s : Seen). IsCome (shape_of s) s.actor who (held_on shape actor held seat one.takes.steps) (seat_of s) next ghost_next (number + 1) firsts (targets_in ghost_next)) (sym one.takes.adds.new_is)
      (subst (λ (s : Seat). IsCome shape actor who (held_on shape actor held seat one.takes.steps) s next ghost_next (number + 1) firsts (targets_in ghost_next)) (seat_is shape actor one.takes.steps seat)
      (record {
        matches = matches_split shape actor one.takes.steps next held seat ghost come.matches;
        closed = closes_split shape actor who one.takes.steps next held seat come.closed;
        valid = valid_next;
        whole = whole_next;
        none = none_next;
        now = λ id. refl;
        early = come.early ++ t ∷ [];
        number_is = length-append come.early (t ∷ []) ∙ ap (λ n. n + 1) come.number_is;
        firsts_are =
            come.firsts_are ∙ ap (λ xs. come.early ++ t ∷ xs) begun
            ∙ sym (append_assoc come.early (t ∷ []) (targets_in ghost_next ∷ begun_after actor (lone_events (events_from shape actor seat_next next)) ghost_next));
      }))

-- all of them
pub agree_all : (who : Option ℕ) (maps : Maps) (firsts : List Targets) (commands : List Taken) (old new : Seen) (held : Bool) (number : ℕ) (ghost : Ideal) (t : Targets) (rest : List Made) → AreTaken old commands new
    → IsCome (shape_of old) old.actor who held (seat_of old) (steps_taken commands ++ rest) ghost number firsts t → AgreeAll (beside_of maps firsts) number commands
agree_all who maps firsts [] old new held number ghost t rest are come = tt
agree_all who maps firsts (one ∷ commands) old new held number ghost t rest are come =
    let next = steps_taken commands ++ rest in
    let come_one = subst (λ xs. IsCome (shape_of one.from) one.from.actor who held (seat_of one.from) xs ghost number firsts t) (append_assoc one.takes.steps (steps_taken commands) rest)
    (subst (λ (s : Seen). IsCome (shape_of s) s.actor who held (seat_of s) ((one.takes.steps ++ steps_taken commands) ++ rest) ghost number firsts t) (sym are.0) come) in (
      agrees_now who maps firsts one held number ghost t next come_one,
      agree_all who maps firsts commands one.to new (held_on (shape_of one.from) one.from.actor held (seat_of one.from) one.takes.steps) (number + 1) (ghost_on (shape_of one.from) one.from.actor (seat_of one.from) ghost one.takes.steps) _ rest are.1
          (come_next who maps firsts one held number ghost t next come_one),
    )
