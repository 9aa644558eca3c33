-- The steps of the scenario are done from where it begins.
use Rattle.std.proofs.Common.{map, sym, ap, subst, ◌∙◌}
use Rattle.std.specs.Prelude.{IfOk}
use Rattle.std.proofs.lemmas.List.{length-map}
use Rattle.law_ends_agree.specs.IdealGuests.Opening.{opening as opening_guest}
use Rattle.law_ends_agree.specs.Calls.{shapes_of}
use Rattle.law_ends_agree.specs.ScnBase.Standing.{ResidentsExist}
use Rattle.law_one_thread_is_eager.specs.PortSeq.Ports.{told_all}
use Rattle.run_seq.specs.declared.start.Start.{Start}
use Rattle.run_seq.specs.Agenda.{Agenda, CanBeDone, agenda_of}
use Rattle.run_seq.specs.Run.{IsDone}
use Rattle.run_seq.proofs.AgendaLemmas.{agenda_is, good_can, opens_in}
use Rattle.run_seq.proofs.scheduled.run_on.Goals as goal

pub run_from-requires-clause-opening : goal.run_from-requires-clause-opening
run_from-requires-clause-opening g c = opens_in (map opening_guest c.args.scenario.now.guests) (told_all c.args.port.now) c.requires.opening

pub run_from-requires-clause-all : goal.run_from-requires-clause-all
run_from-requires-clause-all g c = ap (λ (start : Start). start.guests) c.in_ok-start.ensures.value ∙ sym (c.requires.opening.each ∙ length-map c.args.scenario.now.guests opening_guest)

pub run_from-requires-clause-can : goal.run_from-requires-clause-can
run_from-requires-clause-can g c =
    subst CanBeDone
    (sym (agenda_is c.args.scenario.now (told_all c.args.port.now) c.in_ok-start.start c.as_slice.result.now c.requires.opening c.in_ok-start.ensures.value ∙ ap (λ steps. record (agenda_of c.args.scenario.now) { steps = steps }) c.as_slice.ensures))
    (good_can c.args.scenario.now c.requires.good (subst (ResidentsExist (shapes_of c.args.scenario.now.guests)) (ap (λ (start : Start). start.pes) c.in_ok-start.ensures.value) c.in_ok-start.ensures.exist))

pub returns : goal.returns
returns g c = subst (λ (agenda : Agenda). IfOk c.run_from.result (λ done. IsDone agenda done (told_all c.run_from.new.port))) (agenda_is c.args.scenario.now (told_all c.args.port.now) c.in_ok-start.start c.as_slice.result.now c.requires.opening c.in_ok-start.ensures.value ∙ ap (λ steps. record (agenda_of c.args.scenario.now) { steps = steps }) c.as_slice.ensures) c.run_from.ensures
