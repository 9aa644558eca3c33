-- One step after the other.
use Rattle.std.proofs.Common.{◌∷◌, [], length, refl, sym, ap, subst, ◌∙◌, arith}
use Rattle.std.proofs.lemmas.List.{length-append, length-map}
use Rattle.law_one_thread_is_eager.specs.PortSeq.Told.{GuestTold}
use Rattle.law_one_thread_is_eager.specs.PortSeq.Ports.{told_all}
use Rattle.run_seq.proofs.RunLemmas.{next_ready, next_runs, runs_last, runs_start}
use Rattle.run_seq.specs.Agenda.{agenda_on, states_in}
use Rattle.run_seq.specs.Run.{IsDone}
use Rattle.run_seq.proofs.RoomLemmas.{rooms_left, some_room}
use Rattle.run_seq.proofs.LeftLemmas.{has_run}
use Rattle.run_seq.proofs.scheduled.run_from.Goals as goal

pub loop-step-init : goal.loop-step-init
loop-step-init g c =
    record {
      runs = runs_start (agenda_on (told_all c.args.port.now) c.args.start.now c.args.steps.now) c.in_ok-machine.machine (told_all c.opening.new.port) c.in_ok-answers.answers.items c.args.steps.now c.requires.can c.in_ok-machine.ensures c.in_ok-answers.ensures.items refl;
      rooms = c.in_ok-rooms.ensures;
      answered = ap length c.in_ok-answers.ensures.items;
      room = omega (arith, c.in_ok-answers.ensures.capacity);
    }

pub take_room-room-requires-clause-each : goal.take_room-room-requires-clause-each
take_room-room-requires-clause-each g c = c.loop-step.invariant.rooms.each

pub take_room-room-requires-clause-some : goal.take_room-room-requires-clause-some
take_room-room-requires-clause-some g c = some_room c.args.steps.now c.loop-step.step-index _ (omega arith) c.loop-step.rooms.items c.loop-step.invariant.rooms

pub step-requires-clause-ready : goal.step-requires-clause-ready
step-requires-clause-ready g c = next_ready (agenda_on (told_all c.args.port.now) c.args.start.now c.args.steps.now) c.loop-step.machine (told_all c.loop-step.port) c.loop-step.answers.items c.args.steps.now c.loop-step.step-index c.loop-step.invariant.runs _ (omega arith)

pub push_reserved-requires : goal.push_reserved-requires
push_reserved-requires g c = omega (arith, c.loop-step.answers.ok.0, c.loop-step.invariant.answered, c.loop-step.invariant.room)

pub loop-step-preserved : goal.loop-step-preserved
loop-step-preserved g c =
    record {
      runs = next_runs (agenda_on (told_all c.args.port.now) c.args.start.now c.args.steps.now) c.loop-step.machine (told_all c.loop-step.port) c.loop-step.answers.items c.args.steps.now c.loop-step.step-index c.loop-step.invariant.runs _ (omega arith) c.step.new.self (told_all c.step.new.port) c.step.result c.push_reserved.new.self.items c.push_reserved.ensures.items c.step.ensures;
      rooms = rooms_left c.args.steps.now c.loop-step.step-index _ (omega arith) c.loop-step.rooms.items c.loop-step.invariant.rooms c.take_room-room.new.rooms.items c.take_room-room.ensures.each c.take_room-room.ensures.count;
      answered = omega (arith, ap length c.push_reserved.ensures.items, length-append c.loop-step.answers.items (c.step.result ∷ []), c.loop-step.invariant.answered);
      room = omega (arith, c.push_reserved.ensures.capacity, c.loop-step.invariant.room);
    }

pub all_cpus-requires : goal.all_cpus-requires
all_cpus-requires g c =
    let so = runs_last (agenda_on (told_all c.args.port.now) c.args.start.now c.args.steps.now) c.loop-step.machine (told_all c.loop-step.port) c.loop-step.answers.items c.args.steps.now c.loop-step.step-index c.loop-step.invariant.runs (omega arith) refl in
    c.requires.all
    ∙ sym (length-map (told_all c.args.port.now).guests (λ (guest : GuestTold). guest.guest))
    ∙ sym (c.close.ensures (states_in (told_all c.args.port.now)) c.args.start.now.lrs so.parts so.ideals so.at).at.ports

pub returns : goal.returns
returns g c =
    let so = runs_last (agenda_on (told_all c.args.port.now) c.args.start.now c.args.steps.now) c.loop-step.machine (told_all c.loop-step.port) c.loop-step.answers.items c.args.steps.now c.loop-step.step-index c.loop-step.invariant.runs (omega arith) refl in
    let closed = c.close.ensures (states_in (told_all c.args.port.now)) c.args.start.now.lrs so.parts so.ideals so.at in
    subst (λ answers. IsDone (agenda_on (told_all c.args.port.now) c.args.start.now c.args.steps.now) (record { answers = answers; cpus = c.in_ok-cpus.cpus }) (told_all c.all_cpus.new.port)) (sym c.from.ensures)
    (has_run (agenda_on (told_all c.args.port.now) c.args.start.now c.args.steps.now) c.loop-step.machine c.close.new.self (told_all c.loop-step.port) (told_all c.close.new.port) (told_all c.all_cpus.new.port) c.loop-step.answers.items so closed c.all_cpus.ensures.same c.in_ok-cpus.cpus c.in_ok-cpus.ensures.cpus)
