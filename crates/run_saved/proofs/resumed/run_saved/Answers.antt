-- The rest of the run is that from the states that are told.
use Rattle.std.proofs.Common.{All, length, sym, ap, subst, ◌∙◌, arith, rules}
use Rattle.eager_rest.specs.LawSavesGoOn.Resume.{states_of}
use Rattle.run_seq.specs.GicIdeal.IdealGuests.CanOpen.{CanOpen}
use Rattle.run_seq.specs.Agenda.{Agenda, CanBeDone}
use Rattle.run_seq.specs.Run.{IsDone}
use Rattle.run_seq.specs.PortSeq.Every.{all_untaken, each_is_told}
use Rattle.run_seq.specs.PortSeq.Ports.{told_all}
use Rattle.run_seq.proofs.AgendaLemmas.{opens_in, states_are}
use Rattle.run_seq.proofs.EndLemmas.{all_free, ended_by, have_ended, out_is}
use Rattle.eager_rest.proofs.ToldLemmas.{all_can_open, as_many, same_shapes}
use Rattle.run_saved.proofs.SavedLemmas.{agenda_is, agenda_of, saved_can}
use Rattle.run_saved.proofs.resumed.run_saved.Goals as goal

pub start_from-requires-clause-good : goal.start_from-requires-clause-good
start_from-requires-clause-good g c = subst (All CanOpen) (sym (c.in_ok-states.ensures ∙ ap (λ guests. states_of guests c.as_slice-3.result.now) c.as_slice-2.ensures ∙ ap (states_of c.args.saved.now.scenario.guests) c.as_slice-3.ensures)) (all_can_open c.args.saved.now.scenario.guests c.args.saved.now.state c.requires.valid.run.each_guest c.requires.valid.run.states)

pub start_from-requires-clause-some : goal.start_from-requires-clause-some
start_from-requires-clause-some g c = let count = (ap length (c.in_ok-states.ensures ∙ ap (λ guests. states_of guests c.as_slice-3.result.now) c.as_slice-2.ensures ∙ ap (states_of c.args.saved.now.scenario.guests) c.as_slice-3.ensures) ∙ as_many c.args.saved.now.scenario.guests c.args.saved.now.state c.requires.valid.run.states) in omega (arith, count, c.requires.valid.run.some_guest)

pub start_from-requires-clause-few : goal.start_from-requires-clause-few
start_from-requires-clause-few g c = let count = (ap length (c.in_ok-states.ensures ∙ ap (λ guests. states_of guests c.as_slice-3.result.now) c.as_slice-2.ensures ∙ ap (states_of c.args.saved.now.scenario.guests) c.as_slice-3.ensures) ∙ as_many c.args.saved.now.scenario.guests c.args.saved.now.state c.requires.valid.run.states) in omega (arith, count, c.requires.valid.run.guests)

pub run_from-requires-clause-opening : goal.run_from-requires-clause-opening
run_from-requires-clause-opening g c = opens_in c.in_ok-states.states.items (told_all c.in_ok-port.port) c.in_ok-port.ensures

pub run_from-requires-clause-all : goal.run_from-requires-clause-all
run_from-requires-clause-all g c = c.len.ensures ∙ sym (c.in_ok-port.ensures.each ∙ (ap length (c.in_ok-states.ensures ∙ ap (λ guests. states_of guests c.as_slice-3.result.now) c.as_slice-2.ensures ∙ ap (states_of c.args.saved.now.scenario.guests) c.as_slice-3.ensures) ∙ as_many c.args.saved.now.scenario.guests c.args.saved.now.state c.requires.valid.run.states))

pub run_from-requires-clause-can : goal.run_from-requires-clause-can
run_from-requires-clause-can g c = subst CanBeDone (sym (agenda_is c.args.saved.now (told_all c.in_ok-port.port) c.from.result c.as_slice-4.result.now c.len.result (states_are c.in_ok-states.states.items (told_all c.in_ok-port.port) c.in_ok-port.ensures ∙ (c.in_ok-states.ensures ∙ ap (λ guests. states_of guests c.as_slice-3.result.now) c.as_slice-2.ensures ∙ ap (states_of c.args.saved.now.scenario.guests) c.as_slice-3.ensures)) (search rules) c.as_slice-4.ensures)) (saved_can c.args.saved.now c.requires.valid)

pub finish-requires : goal.finish-requires
finish-requires g c = all_untaken c.run_from.new.port (all_free _ c.in_ok-done.done (told_all c.run_from.new.port) c.in_ok-done.ensures)

pub ends_of-requires : goal.ends_of-requires
ends_of-requires g c = have_ended (agenda_of c.args.saved.now) c.in_ok-done.done (told_all c.run_from.new.port) (subst (λ (agenda : Agenda). IsDone agenda c.in_ok-done.done (told_all c.run_from.new.port)) (agenda_is c.args.saved.now (told_all c.in_ok-port.port) c.from.result c.as_slice-4.result.now c.len.result (states_are c.in_ok-states.states.items (told_all c.in_ok-port.port) c.in_ok-port.ensures ∙ (c.in_ok-states.ensures ∙ ap (λ guests. states_of guests c.as_slice-3.result.now) c.as_slice-2.ensures ∙ ap (states_of c.args.saved.now.scenario.guests) c.as_slice-3.ensures)) (search rules) c.as_slice-4.ensures) c.in_ok-done.ensures) c.args.saved.now.scenario.guests c.requires.valid.run.each_guest (same_shapes c.args.saved.now.scenario.guests c.args.saved.now.state c.requires.valid.run.states) (λ number there. (each_is_told c.run_from.new.port number there).good) c.in_ok-words.words c.as_slice-5.result.now c.in_ok-words.ensures c.as_slice-5.ensures

pub returns : goal.returns
returns g c = out_is (agenda_of c.args.saved.now) c.in_ok-done.done (told_all c.run_from.new.port) (subst (λ (agenda : Agenda). IsDone agenda c.in_ok-done.done (told_all c.run_from.new.port)) (agenda_is c.args.saved.now (told_all c.in_ok-port.port) c.from.result c.as_slice-4.result.now c.len.result (states_are c.in_ok-states.states.items (told_all c.in_ok-port.port) c.in_ok-port.ensures ∙ (c.in_ok-states.ensures ∙ ap (λ guests. states_of guests c.as_slice-3.result.now) c.as_slice-2.ensures ∙ ap (states_of c.args.saved.now.scenario.guests) c.as_slice-3.ensures)) (search rules) c.as_slice-4.ensures) c.in_ok-done.ensures) c.args.saved.now.scenario.guests c.in_ok-ends.ends (c.in_ok-ends.ensures _ (ended_by (agenda_of c.args.saved.now) c.in_ok-done.done (told_all c.run_from.new.port) (subst (λ (agenda : Agenda). IsDone agenda c.in_ok-done.done (told_all c.run_from.new.port)) (agenda_is c.args.saved.now (told_all c.in_ok-port.port) c.from.result c.as_slice-4.result.now c.len.result (states_are c.in_ok-states.states.items (told_all c.in_ok-port.port) c.in_ok-port.ensures ∙ (c.in_ok-states.ensures ∙ ap (λ guests. states_of guests c.as_slice-3.result.now) c.as_slice-2.ensures ∙ ap (states_of c.args.saved.now.scenario.guests) c.as_slice-3.ensures)) (search rules) c.as_slice-4.ensures) c.in_ok-done.ensures) c.args.saved.now.scenario.guests c.requires.valid.run.each_guest (same_shapes c.args.saved.now.scenario.guests c.args.saved.now.state c.requires.valid.run.states) (λ number there. (each_is_told c.run_from.new.port number there).good) c.in_ok-words.words c.as_slice-5.result.now c.in_ok-words.ensures c.as_slice-5.ensures))
