-- The end of a command is where the next one begins, whatever reads and moves come after it.
use Rattle.std.proofs.Common.{◌≡◌, ℕ, not, Bool, true, false, cond, IsTrue, List, [], ◌∷◌, ◌++◌, Option, refl, sym, ap, ◌∙◌, subst}
use Rattle.std.specs.List.{list_all}
use Rattle.std.proofs.lemmas.Bool.{and_from}
use Rattle.std.proofs.lemmas.List.{append_assoc}
use Rattle.law_unmapped_lpis.specs.Words.{GuestShape}
use Rattle.law_unmapped_lpis.specs.Calls.{Part, Map, Clear, Event, Runs, Done, Stalls, command_parts, lpi_event, queue_event, ArePartsThen, Happened, IsCommand, Makes, is_beside, named_of, View, words_read}
use Rattle.law_unmapped_lpis.specs.GicCall.declared.command.Part.TheVariants.{Forget, Retarget, Raise, Configure}
use Rattle.law_unmapped_lpis.specs.GicCall.declared.event.Event.TheVariants.{Queue}
use Rattle.law_unmapped_lpis.proofs.IdealGuests.KeyLemmas.{IsWhole}
use Rattle.law_unmapped_lpis.specs.Histories.{Ideal, happened, targets_in}
use Rattle.law_unmapped_lpis.proofs.LawHistories.StateLemmas.{guest_is}
use Rattle.law_serial_is_eager.proofs.LawEagerIsHistory.CourseLemmas.{state_after, state_append}
use Rattle.law_serial_is_eager.proofs.LawEagerIsHistory.WindowLemmas.{Targets}
use Rattle.law_serial_is_eager.proofs.LawLoneCallsAreEager.CommandLemmas.{events_both}
use Rattle.law_serial_is_eager.proofs.LawLoneCallsAreEager.OneLemmas.{all_beside, queue_is}
use Rattle.law_serial_is_eager.proofs.LawLoneCallsAreEager.ReadLemmas.{beside_passes}
use Rattle.law_serial_is_eager.proofs.LawLoneCallsAreEager.RunLemmas.{events_of}
use Rattle.law_found_parts_are_calls.proofs.SteadyLemmas.{beside_steady, is_steady, targets_steady}
use Rattle.law_found_parts_are_calls.proofs.TurnRuns.{is_ending}
use Rattle.law_found_parts_are_calls.proofs.WindowRuns.{begun_after, begun_end, begun_past}

-- Lists.

pub same_head : (one two : Event) (first next : List Event) → one ∷ first ≡ two ∷ next → one ≡ two
same_head one two first next e = cc

pub same_tail : (one two : Event) (first next : List Event) → one ∷ first ≡ two ∷ next → first ≡ next
same_tail one two first next e = cc

abbrev pub is_endless : Event → Bool
is_endless event = not (is_ending event)

pub beside_endless : (actor : Option ℕ) (event : Event) → is_beside actor event ≡ true → is_endless event ≡ true
beside_endless actor (Queue offset Runs) h = refl
beside_endless actor (Queue offset (Done words)) h = absurd (cc)
beside_endless actor (Queue offset (Stalls fault)) h = absurd (cc)
beside_endless actor event h = refl

part_endless : (shape : GuestShape) (view : View) (targets : ℕ → Option ℕ) (part : Part) → is_endless (lpi_event shape view targets part) ≡ true
part_endless shape view targets (Forget id) = refl
part_endless shape view targets (Map id target) = refl
part_endless shape view targets (Retarget id target) = refl
part_endless shape view targets (Raise id) = refl
part_endless shape view targets (Clear id) = refl
part_endless shape view targets (Configure id) = refl

pub whole_events : (actor : ℕ) (events : List Event) (state : Ideal) → IsWhole state.guest → IsWhole (state_after actor events state).guest
whole_events actor [] state whole = whole
whole_events actor (event ∷ events) state whole = whole_events actor events (happened actor event state) ((guest_is actor event state).whole whole)

-- a piece ends one command, and the next one begins with these vCPUs, for which the LPIs are after the piece too
pub record IsBegun (actor : ℕ) (piece : List Happened) (more : List Event) (state : Ideal) : Type 0 where
  pub first : Targets
  pub is : begun_after actor (events_of piece ++ more) state ≡ first ∷ begun_after actor more (state_after actor (events_of piece) state)
  pub same : (id : ℕ) → first id ≡ targets_in (state_after actor (events_of piece) state) id

module _ (actor : ℕ) (vcpu : Option ℕ) where
  -- a piece that ends none comes before
  begun_then : (piece own rest : List Happened) (more : List Event) (state : Ideal) → piece ≡ own ++ rest → IsTrue (list_all is_endless (events_of own)) → IsBegun actor rest more (state_after actor (events_of own) state) → IsBegun actor piece more state
  begun_then piece own rest more state split none later = record {
    first = later.first;
    is =
        ap (λ es. begun_after actor (es ++ more) state) events
        ∙ ap (λ es. begun_after actor es state) (append_assoc (events_of own) (events_of rest) more)
        ∙ begun_past actor (events_of own) (events_of rest ++ more) state none ∙ later.is ∙ ap (λ (s : Ideal). later.first ∷ begun_after actor more s) (sym after);
    same = λ id. later.same id ∙ ap (λ (s : Ideal). targets_in s id) (sym after);
  }
    where
      events : events_of piece ≡ events_of own ++ events_of rest
      events = ap events_of split ∙ events_both own rest

      after : state_after actor (events_of piece) state ≡ state_after actor (events_of rest) (state_after actor (events_of own) state)
      after = ap (λ es. state_after actor es state) (ap events_of split ∙ events_both own rest) ∙ state_append actor (events_of own) (events_of rest) state

  begun_one : (event : Event) → is_ending event ≡ true → (piece : List Happened) (more : List Event) (state : Ideal) → IsWhole state.guest → events_of (named_of vcpu piece) ≡ event ∷ [] → IsBegun actor piece more state
  begun_one event h [] more state whole named = absurd (cc)
  begun_one event h (one ∷ piece) more state whole named = of (is_beside vcpu one.event) refl named (begun_one event h piece more)
    where
      of : (b : Bool) → is_beside vcpu one.event ≡ b → events_of (cond (not b) (one ∷ named_of vcpu piece) (named_of vcpu piece)) ≡ event ∷ []
          → ((state : Ideal) → IsWhole state.guest → events_of (named_of vcpu piece) ≡ event ∷ [] → IsBegun actor piece more state) → IsBegun actor (one ∷ piece) more state
      of true e named later =
          let rest = later (happened actor one.event state) ((guest_is actor one.event state).whole whole) named in
          record {
            first = rest.first;
            is = begun_past actor (one.event ∷ []) (events_of piece ++ more) state (and_from (is_endless one.event) true (beside_endless vcpu one.event e) refl) ∙ rest.is;
            same = rest.same;
          }
      of false e named later =
          let tail = same_tail one.event event (events_of (named_of vcpu piece)) [] named in
          record {
            first = targets_in (happened actor one.event state);
            is =
                begun_end actor one.event (events_of piece ++ more) state (ap is_ending (same_head one.event event (events_of (named_of vcpu piece)) [] named) ∙ h)
                ∙ ap (λ xs. targets_in (happened actor one.event state) ∷ xs) (begun_past actor (events_of piece) more (happened actor one.event state) (all_beside is_endless beside_endless vcpu piece tail));
            same = λ id. sym (targets_steady actor (events_of piece) (happened actor one.event state) id (all_beside is_steady beside_steady vcpu piece tail) ((guest_is actor one.event state).whole whole));
          }

  module _ (shape : GuestShape) (view : View) where
    begun_parts : (words : List Happened) (parts : List Part) (before piece : List Happened) (more : List Event) (state : Ideal) → ArePartsThen vcpu shape view.targets words parts (λ after. Makes vcpu view (queue_event shape view ∷ []) [] [] after) before piece → IsWhole state.guest
        → IsBegun actor piece more state
    begun_parts words [] before piece more state are whole = begun_one (queue_event shape view) (queue_is shape view (λ e. is_ending e ≡ true) (λ fault. refl) refl) piece more state whole are.events_are
    begun_parts words (part ∷ parts) before piece more state are whole =
        begun_then piece are.own are.rest more state are.split
        (beside_passes is_endless beside_endless vcpu are.own
        (subst (λ es. IsTrue (list_all is_endless es)) (sym are.made.events_are) (and_from (is_endless (lpi_event shape are.view view.targets part)) true (part_endless shape are.view view.targets part) refl)))
        (begun_parts words parts words are.rest more (state_after actor (events_of are.own) state) are.later (whole_events actor (events_of are.own) state whole))

    pub begun_command : (piece : List Happened) (more : List Event) (state : Ideal) → IsCommand vcpu shape view piece → IsWhole state.guest → IsBegun actor piece more state
    begun_command piece more state is whole =
        begun_then piece is.fetch is.rest more state is.split (all_beside is_endless beside_endless vcpu is.fetch is.fetched.events_are)
        (begun_parts (words_read shape view) (command_parts shape view) is.fetch is.rest more (state_after actor (events_of is.fetch) state) is.done (whole_events actor (events_of is.fetch) state whole))
