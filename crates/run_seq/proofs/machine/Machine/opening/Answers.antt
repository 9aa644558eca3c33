-- One vCPU after the other enters its PE.
use Rattle.std.proofs.Common.{◌≡◌, [], None, length, replicate, refl, sym, ap, subst, ◌∙◌, arith, rules}
use Rattle.law_one_thread_is_eager.specs.PortSeq.Ports.{told_all}
use Rattle.law_one_thread_is_eager.specs.PortSeq.Every.{each_is_told}
use Rattle.std.proofs.lemmas.List.{length-map}
use Rattle.law_one_thread_is_eager.specs.PortSeq.Told.{GuestTold}
use Rattle.run_seq.specs.Agenda.{agenda_on, states_in}
use Rattle.run_seq.specs.Opened.{AreOpened}
use Rattle.run_seq.proofs.OpenLemmas.{next_enters, next_free, next_opens, none_yet, opens_last, opens_none, to_open}
use Rattle.run_seq.proofs.machine.Machine.opening.Goals.{in-Some+in-Regs-1, in-Some+in-Nothing-1, in_default}
use Rattle.run_seq.proofs.machine.Machine.opening.Goals as goal

pub loop-pe-init : goal.loop-pe-init
loop-pe-init g c =
    let pes : c.from.result ≡ replicate (length c.args.start.now.pes) None = search rules in
    opens_none (agenda_on (told_all c.args.port.now) c.args.start.now []) _ (told_all c.open_all.new.port) c.as_slice-resident-items.result.now (λ number there. (each_is_told c.open_all.new.port number there).good) refl c.requires.can.list_registers
    (pes ∙ none_yet c.as_slice-resident-items.result.now (length c.args.start.now.pes) (ap length c.as_slice-resident-items.ensures))
    (subst (AreOpened (states_in (told_all c.args.port.now)) c.args.start.now.lrs (told_all c.open_all.new.port) c.in_ok-open_all.field-0.items) (c.requires.all ∙ sym (length-map (told_all c.args.port.now).guests (λ (guest : GuestTold). guest.guest))) c.in_ok-open_all.ensures)

pub step-requires-clause-ready : goal.step-requires-clause-ready
step-requires-clause-ready g c = next_enters (agenda_on (told_all c.args.port.now) c.args.start.now []) c.loop-pe.machine (told_all c.loop-pe.port) c.as_slice-resident-items.result.now c.loop-pe.pe c.loop-pe.invariant (to_open (agenda_on (told_all c.args.port.now) c.args.start.now []) c.as_slice-resident-items.result.now c.as_slice-resident-items.ensures c.requires.can) (omega arith) c.in-Some.name c.in-Some.is

pub loop-pe-preserved : goal.loop-pe-preserved
loop-pe-preserved g c =
    elim c.match-resident.branch [
      | in-Some+in-Regs-1 w ↦ next_opens (agenda_on (told_all c.args.port.now) c.args.start.now []) c.loop-pe.machine (told_all c.loop-pe.port) c.as_slice-resident-items.result.now c.loop-pe.pe c.loop-pe.invariant (to_open (agenda_on (told_all c.args.port.now) c.args.start.now []) c.as_slice-resident-items.result.now c.as_slice-resident-items.ensures c.requires.can) (omega arith) w.in-Some.name w.in-Some.is w.step.new.self c.match-resident.machine w.step.new.port c.match-resident.port w.step.result w.machine-is w.port-is w.step.ensures
      | in-Some+in-Nothing-1 w ↦ next_opens (agenda_on (told_all c.args.port.now) c.args.start.now []) c.loop-pe.machine (told_all c.loop-pe.port) c.as_slice-resident-items.result.now c.loop-pe.pe c.loop-pe.invariant (to_open (agenda_on (told_all c.args.port.now) c.args.start.now []) c.as_slice-resident-items.result.now c.as_slice-resident-items.ensures c.requires.can) (omega arith) w.in-Some.name w.in-Some.is w.step.new.self c.match-resident.machine w.step.new.port c.match-resident.port w.step.result w.machine-is w.port-is w.step.ensures
      | in_default w ↦ next_free (agenda_on (told_all c.args.port.now) c.args.start.now []) c.loop-pe.machine (told_all c.loop-pe.port) c.as_slice-resident-items.result.now c.loop-pe.pe c.loop-pe.invariant (to_open (agenda_on (told_all c.args.port.now) c.args.start.now []) c.as_slice-resident-items.result.now c.as_slice-resident-items.ensures c.requires.can) (omega arith) w.in_default.is c.match-resident.machine c.loop-pe.port c.match-resident.port w.machine-is w.port-is refl
    ]

pub returns : goal.returns
returns g c = opens_last (agenda_on (told_all c.args.port.now) c.args.start.now []) c.loop-pe.machine (told_all c.loop-pe.port) c.as_slice-resident-items.result.now c.loop-pe.pe c.loop-pe.invariant (omega arith) (to_open (agenda_on (told_all c.args.port.now) c.args.start.now []) c.as_slice-resident-items.result.now c.as_slice-resident-items.ensures c.requires.can).is
