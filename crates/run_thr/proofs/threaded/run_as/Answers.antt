-- One call after the other: who is there, who has a thread, what comes back, and that this is the run.
use Rattle.std.proofs.Common.{nat_lt, List, length, map, sym, ap, subst, ◌∙◌, arith}
use Rattle.std.proofs.lemmas.Bool.{lt-ltb}
use Rattle.thr_cast.specs.PortTable.All.{told_root}
use Rattle.law_threads_are_history.specs.ScnBase.declared.step.Step.{Step}
use Rattle.thr_cast.specs.declared.answers.Heard.{Heard}
use Rattle.thr_cast.specs.Answers.{AllHeard, AnswersAre}
use Rattle.thr_cast.specs.Back.{heard_of, trips_in}
use Rattle.thr_cast.specs.Crew.{devices_in}
use Rattle.thr_cast.proofs.SplitLemmas.{split_none}
use Rattle.thr_cast.specs.VcpuShelf.Shelf.{shelf_told}
use Rattle.run_thr.proofs.CrewLemmas.{AllCame, all_came}
use Rattle.run_thr.proofs.EndLemmas.{all_heard, has_run}
use Rattle.run_thr.proofs.WholeLemmas.{cast_few, cast_some, joined_both, roll_of}
use Rattle.run_thr.proofs.threaded.run_as.Goals as goal

pub of-requires-clause-root : goal.of-requires-clause-root
of-requires-clause-root g c = split_none g.J.Naming.words (told_root c.args.root.now) c.requires.opening

pub of-requires-2-clause-some : goal.of-requires-2-clause-some
of-requires-2-clause-some g c κs within =
    let some = cast_some c.args.scenario.now g.J.Naming.words c.requires.set c.in_ok-cast.cast c.in_ok-cast.ensures.cast in
    let long = c.in_ok-cast.cast.trips.ok.0 in
    omega (arith, some, long)

pub of-requires-2-clause-few : goal.of-requires-2-clause-few
of-requires-2-clause-few g c κs within =
    let few = cast_few c.args.scenario.now g.J.Naming.words c.requires.set c.in_ok-cast.cast c.in_ok-cast.ensures.cast in
    let long = c.in_ok-cast.cast.trips.ok.0 in
    omega (arith, few, long)

pub run_crew-requires-clause-pe : goal.run_crew-requires-clause-pe
run_crew-requires-clause-pe g c κs within =
    (c.in_ok-add_devices.ensures.workers (shelf_told c.in_ok-shelf.shelf) (nat_lt 0 c.args.pes) c.in_ok-add_pes.ensures.workers).pe ∙ lt-ltb 0 c.args.pes (omega (arith, c.requires.pes.0))

pub run_crew-requires-clause-can : goal.run_crew-requires-clause-can
run_crew-requires-clause-can g c κs within = (c.in_ok-add_devices.ensures.workers (shelf_told c.in_ok-shelf.shelf) (nat_lt 0 c.args.pes) c.in_ok-add_pes.ensures.workers).can

pub close-slots-requires-clause-done : goal.close-slots-requires-clause-done
close-slots-requires-clause-done g c κs within =
    c.gather.ensures.saw
    (c.run_crew.ensures.pe ∙ (c.in_ok-add_devices.ensures.workers (shelf_told c.in_ok-shelf.shelf) (nat_lt 0 c.args.pes) c.in_ok-add_pes.ensures.workers).pe ∙ lt-ltb 0 c.args.pes (omega (arith, c.requires.pes.0)))

pub take_apart-requires-clause-there : goal.take_apart-requires-clause-there
take_apart-requires-clause-there g c = (all_came (shelf_told c.in_ok-shelf.shelf).places c.close-slots.result.items c.close-slots.ensures).there

pub all_answers-requires : goal.all_answers-requires
all_answers-requires g c =
    let scenario = c.args.scenario.now in
    let cast = c.in_ok-cast.cast in
    let shelf = shelf_told c.in_ok-shelf.shelf in
    let workers = c.run_crew.new.workers.items in
    let slots = c.close-slots.result.items in
    let has = c.in_ok-add_devices.ensures.workers shelf (nat_lt 0 c.args.pes) c.in_ok-add_pes.ensures.workers in
    let came = subst (λ n. AllCame n slots) (c.in_ok-shelf.ensures.places ∙ cast.trips.ok.0) (all_came shelf.places slots c.close-slots.ensures) in
    let roll = roll_of scenario g.J.Naming.words g.J.Naming.lrs g.J.Naming.steps c.requires.set c.requires.lrs c.requires.steps cast c.in_ok-cast.ensures.cast shelf c.add_devices.new.workers.items workers slots has.devices_are c.run_crew.ensures c.gather.ensures.devices came c.in_ok-heard.ensures.trips in
    subst (λ (steps : List Step). AllHeard steps c.as_slice-2.result.now) (sym c.as_slice.ensures)
    (subst (AllHeard scenario.steps) (sym (c.as_slice-2.ensures ∙ c.in_ok-heard.ensures.back.heard)) (all_heard scenario g.J.Naming.words (devices_in workers) (trips_in slots) roll))

pub returns-clause-ran : goal.returns-clause-ran
returns-clause-ran g c =
    let scenario = c.args.scenario.now in
    let cast = c.in_ok-cast.cast in
    let shelf = shelf_told c.in_ok-shelf.shelf in
    let workers = c.run_crew.new.workers.items in
    let slots = c.close-slots.result.items in
    let has = c.in_ok-add_devices.ensures.workers shelf (nat_lt 0 c.args.pes) c.in_ok-add_pes.ensures.workers in
    let came = subst (λ n. AllCame n slots) (c.in_ok-shelf.ensures.places ∙ cast.trips.ok.0) (all_came shelf.places slots c.close-slots.ensures) in
    let roll = roll_of scenario g.J.Naming.words g.J.Naming.lrs g.J.Naming.steps c.requires.set c.requires.lrs c.requires.steps cast c.in_ok-cast.ensures.cast shelf c.add_devices.new.workers.items workers slots has.devices_are c.run_crew.ensures c.gather.ensures.devices came c.in_ok-heard.ensures.trips in
    let first = told_root c.of.new.root in
    let root = told_root c.take_apart.new.root in
    let answers = c.in_ok-answers.answers in
    let are : AnswersAre scenario.steps (map heard_of (trips_in slots)) answers =
    subst (λ (steps : List Step). AnswersAre steps (map heard_of (trips_in slots)) answers) c.as_slice.ensures
    (subst (λ (heard : List Heard). AnswersAre c.as_slice.result.now heard answers) (c.as_slice-2.ensures ∙ c.in_ok-heard.ensures.back.heard) c.in_ok-answers.ensures.are) in
    has_run scenario g.J.Naming.words (devices_in workers) (trips_in slots) roll first root c.in_ok-cast.ensures.root
    (joined_both (devices_in workers) (trips_in slots) first (told_root c.gather.new.root) root c.gather.ensures.root c.in_ok-heard.ensures.root) answers are c.in_ok-heard.field-0.cpus (c.in_ok-answers.ensures.each ∙ ap length c.as_slice.ensures) c.in_ok-heard.ensures.back.cpus
