-- The events of a call that takes the ITS: its register with the turn, and then its commands.
use Rattle.std.proofs.Common.{◌≡◌, ℕ, ◌&&◌, ◌++◌, ◌∷◌, not, Bool, true, IsTrue, List, [], Option, Some, None, refl, sym, ap, ◌∙◌, subst}
use Rattle.std.specs.List.{list_all, list_any}
use Rattle.std.proofs.lemmas.Bool.{and_from}
use Rattle.std.proofs.lemmas.List.{append_assoc}
use Rattle.std.proofs.lemmas.List.Folds.{list_all-append}
use Rattle.law_unmapped_lpis.specs.Words.{Its, Mem, GuestShape}
use Rattle.law_unmapped_lpis.specs.GicImap.Map.{decoded as its_decoded}
use Rattle.law_unmapped_lpis.specs.GicImap.declared.map.RegRef.{RegRef as ItsRef}
use Rattle.law_unmapped_lpis.specs.GicImap.declared.map.RegRef.TheVariants.{Plain as ItsPlain, Reserved as ItsReserved}
use Rattle.law_unmapped_lpis.specs.Calls.{Event, Enable, ItsBegin, Operation, Access, Device, Residence, its_events, its_starts, takes_turn, Beside, Happened, IsCall, IsItsCall, IsItsWrite, is_beside, its_written_by, Runs, Done, Stalls}
use Rattle.law_unmapped_lpis.specs.GicCall.declared.event.Event.TheVariants.{ItsEnd, Queue}
use Rattle.law_serial_is_eager.proofs.LawEagerIsHistory.WindowLemmas.{is_no_turn, is_within}
use Rattle.law_serial_is_eager.proofs.GicCall.TraceLemmas.{its_made}
use Rattle.law_serial_is_eager.proofs.LawLoneCallsAreEager.CommandLemmas.{events_both}
use Rattle.law_serial_is_eager.proofs.LawLoneCallsAreEager.OneLemmas.{SplitAt, split_at, all_beside}
use Rattle.law_serial_is_eager.proofs.LawLoneCallsAreEager.MapsLemmas.{beside_maps, keeps_maps}
use Rattle.law_serial_is_eager.proofs.LawLoneCallsAreEager.PassLemmas.{PassesBeside, both_all, makes_all, started_all}
use Rattle.law_serial_is_eager.proofs.LawLoneCallsAreEager.ReadLemmas.{beside_passes, some_named}
use Rattle.law_serial_is_eager.proofs.LawLoneCallsAreEager.RunLemmas.{events_of}
use Rattle.law_serial_is_eager.proofs.LawLoneCallsAreEager.TurnLemmas.{its_all, no_turn_passes}
use Rattle.pe_mem.specs.Found.{takes_its_by}
use Rattle.law_found_parts_are_calls.proofs.SteadyLemmas.{beside_steady, is_steady}
use Rattle.law_found_parts_are_calls.proofs.WindowRuns.{is_no_enable}

pub record IsTurnCall (piece : List Happened) : Type 0 where
  pub register : List Happened
  pub late : List Happened
  pub split : piece ≡ register ++ late
  pub enables : IsTrue (list_all is_no_enable (events_of piece))
  pub keeps : IsTrue (list_all keeps_maps (events_of register))
  pub takes : list_any (λ event. not (is_no_turn event)) (events_of register) ≡ true
  pub later : IsTrue (list_all is_no_turn (events_of late))
  pub early : List Event
  pub onwards : List Event
  pub taking : events_of register ≡ early ++ ItsBegin ∷ onwards
  pub within : IsTrue (list_all is_within early)
  pub still : IsTrue (list_all is_steady early)
  pub once : IsTrue (list_all is_no_turn onwards)

beside_within : (actor : Option ℕ) (event : Event) → is_beside actor event ≡ true → is_within event ≡ true
beside_within actor (Enable vcpu) h = absurd (cc)
beside_within actor ItsBegin h = absurd (cc)
beside_within actor (Queue offset Runs) h = absurd (cc)
beside_within actor (Queue offset (Done words)) h = absurd (cc)
beside_within actor (Queue offset (Stalls fault)) h = absurd (cc)
beside_within actor event h = refl

no_enable_passes : PassesBeside is_no_enable
no_enable_passes = record { beside = so; raise = λ key. refl; touch = λ key touching. refl; queue = λ offset change. refl }
  where
    so : (actor : Option ℕ) (event : Event) → is_beside actor event ≡ true → is_no_enable event ≡ true
    so actor (Enable vcpu) h = absurd (cc)
    so actor event h = refl

module _ (shape : GuestShape) (beside : Beside) (vcpu offset size value : ℕ) (piece : List Happened) (answer : Option ℕ) (is : IsItsCall shape beside vcpu offset size value piece answer) where
  abbrev mine : List Event
  mine = its_events shape is.view (its_decoded offset size) (Some value)

  -- what the commands and the end of the turn pass
  late_all : (test : Event → Bool) → PassesBeside test → test ItsEnd ≡ true → IsTrue (list_all test (events_of (is.commands ++ is.last)))
  late_all test passes close =
      both_all test passes is.commands is.last
      (started_all test passes (its_starts shape is.view (its_decoded offset size) (Some value)) (Some vcpu) shape beside (its_written_by shape is.view mine) is.views is.commands is.started)
      (makes_all test passes (Some vcpu) is.view (ItsEnd ∷ []) [] [] is.last is.ended (ap (λ b. b && true) close))

  -- before the ITS is taken, and after that
  cut : SplitAt (Some vcpu) ItsBegin is.written.begin
  cut = split_at (Some vcpu) ItsBegin is.written.begin is.written.begun.events_are

  taking_is : events_of is.register ≡ events_of cut.pre ++ ItsBegin ∷ (events_of cut.post ++ events_of is.written.rest)
  taking_is =
      ap events_of (is.written.split ∙ ap (λ xs. xs ++ is.written.rest) cut.split ∙ append_assoc cut.pre ((record { event = ItsBegin; found = cut.found }) ∷ cut.post) is.written.rest)
      ∙ events_both cut.pre ((record { event = ItsBegin; found = cut.found }) ∷ (cut.post ++ is.written.rest)) ∙ ap (λ es. events_of cut.pre ++ ItsBegin ∷ es) (events_both cut.post is.written.rest)

  its_turn : IsTurnCall piece
  its_turn = record {
    register = is.register;
    late = is.commands ++ is.last;
    split = is.split ∙ append_assoc is.register is.commands is.last;
    enables =
        subst (λ xs. IsTrue (list_all is_no_enable (events_of xs))) (sym (is.split ∙ append_assoc is.register is.commands is.last))
        (both_all is_no_enable no_enable_passes is.register (is.commands ++ is.last)
        (makes_all is_no_enable no_enable_passes (Some vcpu) is.view (ItsBegin ∷ mine) _ [] is.register (its_made is) (its_all is_no_enable (λ word v. refl) (λ offset. refl) shape is.view (its_decoded offset size) value))
        (late_all is_no_enable no_enable_passes refl));
    keeps =
        beside_passes keeps_maps beside_maps (Some vcpu) is.register
        (subst (λ es. IsTrue (list_all keeps_maps es)) (sym (its_made is).events_are) (its_all keeps_maps (λ word v. refl) (λ offset. refl) shape is.view (its_decoded offset size) value));
    takes = some_named (λ event. not (is_no_turn event)) (Some vcpu) is.register (subst (λ es. list_any (λ event. not (is_no_turn event)) es ≡ true) (sym (its_made is).events_are) refl);
    later = late_all is_no_turn no_turn_passes refl;
    early = events_of cut.pre;
    onwards = events_of cut.post ++ events_of is.written.rest;
    taking = taking_is;
    within = all_beside is_within beside_within (Some vcpu) cut.pre cut.pre_none;
    still = all_beside is_steady beside_steady (Some vcpu) cut.pre cut.pre_none;
    once =
        list_all-append is_no_turn (events_of cut.post) (events_of is.written.rest)
        ∙ and_from (list_all is_no_turn (events_of cut.post)) (list_all is_no_turn (events_of is.written.rest)) (all_beside is_no_turn no_turn_passes.beside (Some vcpu) cut.post cut.post_none)
        (beside_passes is_no_turn no_turn_passes.beside (Some vcpu) is.written.rest
        (subst (λ es. IsTrue (list_all is_no_turn es)) (sym is.written.made.events_are) (its_all is_no_turn (λ word v. refl) (λ offset. refl) shape is.view (its_decoded offset size) value)));
  }

pub read_takes_none : (shape : GuestShape) (ref : ItsRef) → takes_turn shape ref None ≡ true → ⊥
read_takes_none shape (ItsPlain reg half) h = cc
read_takes_none shape ItsReserved h = cc

pub turn_call : (shape : GuestShape) (beside : Beside) (actor : Option ℕ) (operation : Operation) (piece : List Happened) (answer : Option ℕ) → takes_its_by shape operation ≡ true → IsCall shape beside actor operation piece answer → IsTurnCall piece
turn_call shape beside (Some vcpu) (Access (Mem Its offset size (Some value))) piece answer takes is =
    its_turn shape beside vcpu offset size value piece answer (subst (λ b. IsItsWrite b shape beside vcpu offset size value piece answer) takes is)
turn_call shape beside (Some vcpu) (Access (Mem Its offset size None)) piece answer takes is = absurd (read_takes_none shape (its_decoded offset size) takes)
turn_call shape beside (Some vcpu) (Access op) piece answer takes is = absurd (cc)
turn_call shape beside None (Access op) piece answer takes is = absurd is
turn_call shape beside actor (Device op) piece answer takes is = absurd (cc)
turn_call shape beside actor Residence piece answer takes is = absurd (cc)
