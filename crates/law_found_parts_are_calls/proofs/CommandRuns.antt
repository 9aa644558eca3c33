-- Commands of a part, one after the other: the LPIs are for the vCPUs that each found, as that begins.
use Rattle.std.proofs.Common.{◌≡◌, ℕ, ◌+◌, ◌<◌, not, true, IsTrue, List, [], ◌∷◌, ◌++◌, length, Option, Some, None, refl, sym, ap, ◌∙◌, subst, slice_index_or}
use Rattle.std.specs.List.{list_all}
use Rattle.std.specs.Option.{option_map_or, option_to_list}
use Rattle.std.proofs.lemmas.Bool.{and_from, and_parts}
use Rattle.std.proofs.lemmas.List.{append-nil, append_assoc, length-append}
use Rattle.std.proofs.Math.Seq.{get_or-append_seam}
use Rattle.law_unmapped_lpis.specs.Words.{GuestShape, interrupt_count, IsShape}
use Rattle.law_unmapped_lpis.specs.Calls.{Event, Happened, command_targets}
use Rattle.law_unmapped_lpis.specs.Registers.{IsValid, Maps}
use Rattle.law_unmapped_lpis.proofs.IdealGuests.KeyLemmas.{IsWhole}
use Rattle.law_unmapped_lpis.specs.Histories.{Ideal, happened, targets_in, vcpu_of, AreForNone}
use Rattle.law_serial_is_eager.proofs.LawEagerIsHistory.CourseLemmas.{state_after}
use Rattle.law_serial_is_eager.proofs.LawEagerIsHistory.WindowLemmas.{Targets, beside_of, no_target}
use Rattle.law_serial_is_eager.proofs.LawLoneCallsAreEager.CommandLemmas.{events_both}
use Rattle.law_serial_is_eager.proofs.LawLoneCallsAreEager.RunLemmas.{events_of}
use Rattle.pe_mem.specs.Core.{Local, Made, actor_count, ends_command, known_maps, Seen, events_of as port_events, local_by, part_events, shape_of, CoreState, seat_at}
use Rattle.law_serial_is_eager.specs.LawCoreIsHistory.Laws.{followed_by}
use Rattle.law_serial_is_eager.specs.LawCoreIsHistory.Related.{Related}
use Rattle.pe_mem.specs.ItsExec.Known.{AgreeWith, are_within, is_within}
use Rattle.pe_mem.specs.ItsExec.Queue.{AreOfCommand, AreOfOne, AreTaken, Taken}
use Rattle.pe_mem.specs.ItsExec.Run.{AgreeAll}
use Rattle.law_found_parts_are_calls.proofs.FirstRuns.{agrees_here, tables_known}
use Rattle.law_found_parts_are_calls.proofs.HereRuns.{AreHere, IsSo, after_steps, happened_in, happened_is, happened_join, here_join, ideal_after, ideal_is, ideal_join, local_after_steps, next_state, own_after_steps, so_after, stood}
use Rattle.law_found_parts_are_calls.proofs.NoneRuns.{command_none}
use Rattle.law_found_parts_are_calls.proofs.TurnRuns.{StandsForEnd, is_ending, stands_endless, stands_for_end}
use Rattle.law_found_parts_are_calls.proofs.WindowRuns.{begun_after, begun_end, begun_past}

pub whole_so : (shape : GuestShape) → IsShape shape → (state : CoreState) (ideal : Ideal) → Related shape state ideal → IsWhole ideal.guest
whole_so shape good state ideal related = record { shape = subst IsShape (sym related.shape_is) good; each = related.irqs_each ∙ ap interrupt_count (sym related.shape_is) }

-- The steps of one command.

module _ (shape : GuestShape) (actor : ℕ) (state : CoreState) (ideal : Ideal) where
  -- those before its end end none
  endless : (steps : List Made) (state : CoreState) → IsTrue (are_within steps) → IsTrue (list_all (λ event. not (is_ending event)) (events_of (happened_in shape actor state steps)))
  endless [] state h = refl
  endless (made ∷ steps) state h =
      let parts = and_parts (is_within made) (are_within steps) h in
      of (stood shape actor state made) (stands_endless shape actor (seat_at state actor).local (seat_at state actor).own made.found made.step (and_parts _ (not (ends_command made.step)) parts.0).1)
      (endless steps (next_state shape actor state made) parts.1)
    where
      of : (o : Option Happened) → IsTrue (option_map_or (λ (one : Happened). not (is_ending one.event)) o true) → IsTrue (list_all (λ event. not (is_ending event)) (events_of (happened_in shape actor (next_state shape actor state made) steps)))
          → IsTrue (list_all (λ event. not (is_ending event)) (events_of (option_to_list o ++ happened_in shape actor (next_state shape actor state made) steps)))
      of None one later = later
      of (Some happened) one later = and_from (not (is_ending happened.event)) (list_all (λ event. not (is_ending event)) (events_of (happened_in shape actor (next_state shape actor state made) steps))) one later

  -- so the next one begins after them
  module _ (first : List Made) (ending : Made) (within : IsTrue (are_within first)) (closes : IsTrue (ends_command ending.step)) where
    abbrev state1 : CoreState
    state1 = after_steps shape actor state first

    abbrev ideal1 : Ideal
    ideal1 = ideal_after shape actor state ideal first

    abbrev end : StandsForEnd shape actor (seat_at (after_steps shape actor state first) actor).local (seat_at (after_steps shape actor state first) actor).own ending.found ending.step
    end = stands_for_end shape actor (seat_at (after_steps shape actor state first) actor).local (seat_at (after_steps shape actor state first) actor).own ending.found ending.step closes

    split : (events : List Event) → events_of (happened_in shape actor state (first ++ ending ∷ [])) ++ events ≡ events_of (happened_in shape actor state first) ++ end.one.event ∷ events
    split events =
        ap (λ xs. events_of xs ++ events) (happened_join shape actor first (ending ∷ []) state ∙ ap (λ o. happened_in shape actor state first ++ (option_to_list o ++ [])) end.stands)
        ∙ ap (λ es. es ++ events) (events_both (happened_in shape actor state first) (end.one ∷ []))
        ∙ append_assoc (events_of (happened_in shape actor state first)) (end.one.event ∷ []) events

    ideal2 : ideal_after shape actor state ideal (first ++ ending ∷ []) ≡ happened actor end.one.event ideal1
    ideal2 = ideal_join shape actor first (ending ∷ []) state ideal ∙ ap (λ o. followed_by actor o ideal1) end.stands

    begun_next : (events : List Event)
        → begun_after actor (events_of (happened_in shape actor state (first ++ ending ∷ [])) ++ events) ideal
        ≡ targets_in (ideal_after shape actor state ideal (first ++ ending ∷ [])) ∷ begun_after actor events (ideal_after shape actor state ideal (first ++ ending ∷ []))
    begun_next events =
        ap (λ es. begun_after actor es ideal) (split events)
        ∙ begun_past actor (events_of (happened_in shape actor state first)) (end.one.event ∷ events) ideal (endless first state within)
        ∙ ap (begun_after actor (end.one.event ∷ events)) (sym (ideal_is shape actor first state ideal))
        ∙ begun_end actor end.one.event events ideal1 end.closes
        ∙ ap (λ (i : Ideal). targets_in i ∷ begun_after actor events i) (sym ideal2)

-- Where a command begins.

-- the steps of some commands
abbrev pub steps_taken : List Taken → List Made
steps_taken [] = []
steps_taken (one ∷ rest) = one.takes.steps ++ steps_taken rest

-- an actor with this for itself and in its list is where the command of a number begins, in a part with these steps to come; for these vCPUs the LPIs are, as they
-- are of the commands of the part in order
pub record IsCome (shape : GuestShape) (actor : ℕ) (local : Local) (own : List Made) (steps : List Made) (state : CoreState) (ideal : Ideal) (number : ℕ) (firsts : List Targets) (t : Targets) : Type 0 where
  pub so : IsSo shape state ideal
  pub there : actor < actor_count shape
  pub local_is : (seat_at state actor).local ≡ local
  pub own_is : (seat_at state actor).own ≡ own
  pub here : AreHere shape actor state ideal steps
  pub none : AreForNone ideal.guest
  pub now : (id : ℕ) → targets_in ideal id ≡ t id
  pub early : List Targets
  pub number_is : length early ≡ number
  pub firsts_are : firsts ≡ early ++ t ∷ begun_after actor (events_of (happened_in shape actor state steps)) ideal

module _ (maps : Maps) (firsts : List Targets) (one : Taken) (good : IsShape (shape_of one.from)) (number : ℕ) (state : CoreState) (ideal : Ideal) (t : Targets) (next : List Made)
    (come : IsCome (shape_of one.from) one.from.actor one.from.local one.from.own (one.takes.steps ++ next) state ideal number firsts t) where
  abbrev from : Seen
  from = one.from

  abbrev shape : GuestShape
  shape = shape_of one.from

  abbrev actor : ℕ
  actor = one.from.actor

  abbrev steps : List Made
  steps = one.takes.steps

  abbrev mine : AreOfOne one.from one.takes.last one.takes.steps
  mine = one.takes.one

  in_seats : one.from.actor < length state.seats
  in_seats = subst (λ n. one.from.actor < n) (sym come.so.sound.actors) come.there

  heres : AreHere shape actor state ideal steps × AreHere shape actor (after_steps shape actor state steps) (ideal_after shape actor state ideal steps) next
  heres = here_join shape actor steps next state ideal come.here

  parted : AreHere shape actor state ideal mine.first × AreHere shape actor (after_steps shape actor state mine.first) (ideal_after shape actor state ideal mine.first) (mine.ending ∷ [])
  parted = here_join shape actor mine.first (mine.ending ∷ []) state ideal (subst (AreHere shape actor state ideal) mine.split heres.0)

  -- what the command found
  agreed : AgreeWith one.takes.last (known_maps from.own) t
  agreed = agrees_here from mine.first mine.within mine.fresh state ideal come.so parted.0 t come.now come.there come.own_is mine.ending mine.ends parted.1.0 come.none one.takes.last mine.adds

  pub agrees_now : AgreeWith one.takes.last (known_maps from.own) (command_targets (beside_of maps firsts) number)
  agrees_now =
      subst (AgreeWith one.takes.last (known_maps from.own))
      (sym
      (ap (λ xs. slice_index_or xs number no_target) come.firsts_are
      ∙ ap (λ n. slice_index_or (come.early ++ t ∷ begun_after actor (events_of (happened_in shape actor state (steps ++ next))) ideal) n no_target) (sym come.number_is)
      ∙ get_or-append_seam come.early t (begun_after actor (events_of (happened_in shape actor state (steps ++ next))) ideal) no_target))
      agreed

  -- what it made of the LPIs that the maps give no vCPU
  is : AreOfCommand one.from one.to one.fault (vcpu_of shape actor) t (part_events one.from one.takes.steps)
  is = one.takes.is (vcpu_of shape actor) t agreed

  piece_is : part_events one.from one.takes.steps ≡ happened_in shape actor state steps
  piece_is =
      ap (λ local. port_events shape actor local from.own steps) (sym come.local_is) ∙ ap (λ own. port_events shape actor (seat_at state actor).local own steps) (sym come.own_is)
      ∙ sym (happened_is shape actor steps state in_seats)

  tables : ideal.guest.tables ≡ known_maps from.own
  tables = tables_known from mine.first mine.within mine.fresh state ideal come.so parted.0 t come.now come.there come.own_is mine.ending mine.ends parted.1.0 come.none

  none_next : AreForNone (ideal_after shape actor state ideal steps).guest
  none_next =
      subst (λ (i : Ideal). AreForNone i.guest) (ap (λ xs. state_after actor (events_of xs) ideal) piece_is ∙ sym (ideal_is shape actor steps state ideal))
      (command_none actor (vcpu_of shape actor) shape is.view (part_events from steps) ideal is.command (sym is.same.maps ∙ sym tables) (λ id. ap (λ (f : Targets). f id) is.targets_are ∙ sym (come.now id))
      (subst (IsValid shape) (sym come.so.related.maps) come.so.sound.maps) (whole_so shape good state ideal come.so.related) come.none)

  abbrev Begun : List Made → Type 0
  Begun made = (events : List Event) → begun_after actor (events_of (happened_in shape actor state made) ++ events) ideal ≡ targets_in (ideal_after shape actor state ideal made) ∷ begun_after actor events (ideal_after shape actor state ideal made)

  begun : begun_after actor (events_of (happened_in shape actor state (steps ++ next))) ideal
      ≡ targets_in (ideal_after shape actor state ideal steps) ∷ begun_after actor (events_of (happened_in shape actor (after_steps shape actor state steps) next)) (ideal_after shape actor state ideal steps)
  begun =
      ap (λ es. begun_after actor es ideal)
      (ap events_of (happened_join shape actor steps next state) ∙ events_both (happened_in shape actor state steps) (happened_in shape actor (after_steps shape actor state steps) next))
      ∙ subst Begun (sym mine.split) (begun_next shape actor state ideal mine.first mine.ending mine.within mine.ends) (events_of (happened_in shape actor (after_steps shape actor state steps) next))

  -- the next one
  pub come_next : IsCome (shape_of one.to) one.to.actor one.to.local one.to.own next (after_steps shape actor state steps) (ideal_after shape actor state ideal steps) (number + 1) firsts (targets_in (ideal_after shape actor state ideal steps))
  come_next =
      subst (λ (s : Seen). IsCome (shape_of s) s.actor s.local s.own next (after_steps shape actor state steps) (ideal_after shape actor state ideal steps) (number + 1) firsts (targets_in (ideal_after shape actor state ideal steps)))
      (sym one.takes.adds.new_is)
      (record {
        so = so_after shape good actor steps state ideal heres.0 come.so;
        there = come.there;
        local_is = local_after_steps shape actor steps state in_seats ∙ ap (λ local. local_by shape actor local steps) come.local_is;
        own_is = own_after_steps shape actor steps state in_seats ∙ ap (λ own. own ++ steps) come.own_is;
        here = heres.1;
        none = none_next;
        now = λ id. refl;
        early = come.early ++ t ∷ [];
        number_is = length-append come.early (t ∷ []) ∙ ap (λ n. n + 1) come.number_is;
        firsts_are =
            come.firsts_are ∙ ap (λ xs. come.early ++ t ∷ xs) begun
            ∙ sym
            (append_assoc come.early (t ∷ [])
            (targets_in (ideal_after shape actor state ideal steps) ∷ begun_after actor (events_of (happened_in shape actor (after_steps shape actor state steps) next)) (ideal_after shape actor state ideal steps)));
      })

  pub good_next : IsShape (shape_of one.to)
  good_next = subst (λ (s : Seen). IsShape (shape_of s)) (sym one.takes.adds.new_is) good

-- All of them.

pub agree_all : (maps : Maps) (firsts : List Targets) (commands : List Taken) (old new : Seen) (number : ℕ) (state : CoreState) (ideal : Ideal) (t : Targets) (rest : List Made) → IsShape (shape_of old) → AreTaken old commands new
    → IsCome (shape_of old) old.actor old.local old.own (steps_taken commands ++ rest) state ideal number firsts t → AgreeAll (beside_of maps firsts) number commands
agree_all maps firsts [] old new number state ideal t rest good are come = tt
agree_all maps firsts (one ∷ commands) old new number state ideal t rest good are come =
    let good_one = subst (λ (s : Seen). IsShape (shape_of s)) (sym are.0) good in
    let next = steps_taken commands ++ rest in
    let come_one = subst (λ xs. IsCome (shape_of one.from) one.from.actor one.from.local one.from.own xs state ideal number firsts t) (append_assoc one.takes.steps (steps_taken commands) rest)
    (subst (λ (s : Seen). IsCome (shape_of s) s.actor s.local s.own ((one.takes.steps ++ steps_taken commands) ++ rest) state ideal number firsts t) (sym are.0) come) in (
      agrees_now maps firsts one good_one number state ideal t next come_one,
      agree_all maps firsts commands one.to new (number + 1) (after_steps (shape_of one.from) one.from.actor state one.takes.steps) (ideal_after (shape_of one.from) one.from.actor state ideal one.takes.steps) _ rest
          (good_next maps firsts one good_one number state ideal t next come_one) are.1 (come_next maps firsts one good_one number state ideal t next come_one),
    )

-- what their actor's list is in the end
pub own_taken : (commands : List Taken) (old new : Seen) → AreTaken old commands new → new.own ≡ old.own ++ steps_taken commands
own_taken [] old new e = ap (λ (s : Seen). s.own) e ∙ sym (append-nil old.own)
own_taken (one ∷ commands) old new are =
    own_taken commands one.to new are.1 ∙ ap (λ own. own ++ steps_taken commands) (ap (λ (s : Seen). s.own) one.takes.adds.new_is) ∙ append_assoc one.from.own one.takes.steps (steps_taken commands)
    ∙ ap (λ (s : Seen). s.own ++ (one.takes.steps ++ steps_taken commands)) are.0
