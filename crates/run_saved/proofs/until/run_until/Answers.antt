-- The states at the end are those that are saved.
use Rattle.std.specs.Prelude.{IfOk}
use Rattle.std.proofs.Common.{◌≡◌, map, take, sym, ap, subst, ◌∙◌}
use Rattle.std.proofs.lemmas.List.{length-map}
use Rattle.eager_rest.specs.LawSavesGoOn.Resume.{reached}
use Rattle.eager_rest.specs.LawSavesGoOn.SavedTake.Run.{AreStatesOf}
use Rattle.eager_rest.specs.LawSavesGoOn.SavedTake.Taken.{saved_of}
use Rattle.run_seq.specs.Calls.{shapes_of}
use Rattle.run_seq.specs.GicIdeal.IdealGuests.Opening.{opening as opening_guest}
use Rattle.run_seq.specs.GicIdeal.ScnBase.Standing.{ResidentsExist}
use Rattle.run_seq.specs.PortSeq.Every.{all_untaken, each_is_told}
use Rattle.run_seq.specs.PortSeq.Ports.{told_all}
use Rattle.run_seq.specs.declared.start.Start.{Start}
use Rattle.run_seq.specs.Agenda.{Agenda, CanBeDone, agenda_of}
use Rattle.run_seq.specs.Run.{IsDone}
use Rattle.run_seq.proofs.AgendaLemmas.{agenda_is, good_can, opens_in}
use Rattle.run_seq.proofs.EndLemmas.{all_free, ended_by, have_ended, states_are}
use Rattle.run_seq.proofs.GicIdeal.StateLemmas.{shapes_opening}
use Rattle.run_saved.proofs.FirstLemmas.{first_good, first_of}
use Rattle.run_saved.proofs.HomeLemmas.{ended_states, same_saved}
use Rattle.run_saved.proofs.until.run_until.Goals as goal

pub run_from-requires-clause-opening : goal.run_from-requires-clause-opening
run_from-requires-clause-opening g c = opens_in (map opening_guest c.args.scenario.now.guests) (told_all c.in_ok-port.port) c.in_ok-port.ensures

pub run_from-requires-clause-all : goal.run_from-requires-clause-all
run_from-requires-clause-all g c = ap (λ (start : Start). start.guests) c.in_ok-start.ensures.value ∙ sym (c.in_ok-port.ensures.each ∙ length-map c.args.scenario.now.guests opening_guest)

pub run_from-requires-clause-can : goal.run_from-requires-clause-can
run_from-requires-clause-can g c =
    let first = first_of c.args.scenario.now c.args.steps in
    subst CanBeDone (sym (agenda_is c.args.scenario.now (told_all c.in_ok-port.port) c.in_ok-start.start c.split_at.result.0.now c.in_ok-port.ensures c.in_ok-start.ensures.value ∙ ap (λ steps. record (agenda_of c.args.scenario.now) { steps = steps }) (c.split_at.ensures.front ∙ ap (take c.args.steps) c.as_slice.ensures))) (good_can first (first_good c.args.scenario.now c.args.steps c.requires.good) (subst (ResidentsExist (shapes_of c.args.scenario.now.guests)) (ap (λ (start : Start). start.pes) c.in_ok-start.ensures.value) c.in_ok-start.ensures.exist))

pub finish-requires : goal.finish-requires
finish-requires g c = all_untaken c.run_from.new.port (all_free _ c.in_ok-done.done (told_all c.run_from.new.port) c.in_ok-done.ensures)

pub states_of-requires : goal.states_of-requires
states_of-requires g c = have_ended (agenda_of (first_of c.args.scenario.now c.args.steps)) c.in_ok-done.done (told_all c.run_from.new.port) (subst (λ (agenda : Agenda). IsDone agenda c.in_ok-done.done (told_all c.run_from.new.port)) (agenda_is c.args.scenario.now (told_all c.in_ok-port.port) c.in_ok-start.start c.split_at.result.0.now c.in_ok-port.ensures c.in_ok-start.ensures.value ∙ ap (λ steps. record (agenda_of c.args.scenario.now) { steps = steps }) (c.split_at.ensures.front ∙ ap (take c.args.steps) c.as_slice.ensures)) c.in_ok-done.ensures) c.args.scenario.now.guests c.requires.good.each_guest (shapes_opening c.args.scenario.now.guests) (λ number there. (each_is_told c.run_from.new.port number there).good) c.in_ok-words.words c.as_slice-2.result.now c.in_ok-words.ensures c.as_slice-2.ensures

pub saved-requires-clause-states : goal.saved-requires-clause-states
saved-requires-clause-states g c =
    subst (AreStatesOf c.args.scenario.now.guests) (sym (c.as_slice-3.ensures.value ∙ c.in_ok-states.ensures)) (ended_states c.args.scenario.now.guests c.in_ok-words.words c.as_slice-2.result.now _ (ended_by (agenda_of (first_of c.args.scenario.now c.args.steps)) c.in_ok-done.done (told_all c.run_from.new.port) (subst (λ (agenda : Agenda). IsDone agenda c.in_ok-done.done (told_all c.run_from.new.port)) (agenda_is c.args.scenario.now (told_all c.in_ok-port.port) c.in_ok-start.start c.split_at.result.0.now c.in_ok-port.ensures c.in_ok-start.ensures.value ∙ ap (λ steps. record (agenda_of c.args.scenario.now) { steps = steps }) (c.split_at.ensures.front ∙ ap (take c.args.steps) c.as_slice.ensures)) c.in_ok-done.ensures) c.args.scenario.now.guests c.requires.good.each_guest (shapes_opening c.args.scenario.now.guests) (λ number there. (each_is_told c.run_from.new.port number there).good) c.in_ok-words.words c.as_slice-2.result.now c.in_ok-words.ensures c.as_slice-2.ensures))

pub returns : goal.returns
returns g c =
    subst (λ one. IfOk c.saved.result (λ saved. saved ≡ one))
    (ap (saved_of c.args.scenario.now c.args.steps) (c.as_slice-3.ensures.value ∙ c.in_ok-states.ensures ∙ states_are (agenda_of (first_of c.args.scenario.now c.args.steps)) c.in_ok-done.done (told_all c.run_from.new.port) (subst (λ (agenda : Agenda). IsDone agenda c.in_ok-done.done (told_all c.run_from.new.port)) (agenda_is c.args.scenario.now (told_all c.in_ok-port.port) c.in_ok-start.start c.split_at.result.0.now c.in_ok-port.ensures c.in_ok-start.ensures.value ∙ ap (λ steps. record (agenda_of c.args.scenario.now) { steps = steps }) (c.split_at.ensures.front ∙ ap (take c.args.steps) c.as_slice.ensures)) c.in_ok-done.ensures) c.args.scenario.now.guests c.requires.good.each_guest (shapes_opening c.args.scenario.now.guests) (λ number there. (each_is_told c.run_from.new.port number there).good) c.in_ok-words.words c.as_slice-2.result.now c.in_ok-words.ensures c.as_slice-2.ensures) ∙ same_saved c.args.scenario.now c.args.steps (reached c.args.scenario.now c.args.steps))
    c.saved.ensures
