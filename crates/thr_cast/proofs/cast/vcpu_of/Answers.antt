-- It has its own script and port, and has done nothing.
use Rattle.std.proofs.Common.{◌≡◌, ◌<◌, List, [], length, get_or, refl, ap, subst, ◌∙◌, arith}
use Rattle.std.proofs.lemmas.List.{get_or_default}
use Rattle.thr_trip.specs.PortOps.Opened.{no_guest}
use Rattle.thr_trip.specs.PortTable.All.{told_root}
use Rattle.thr_trip.specs.PortTable.Ports.{seen_of}
use Rattle.thr_trip.specs.PortTable.Told.{AreRoots, PortIsOf, WordsTold, opening_seen, splitting, words_at}
use Rattle.guest_end.specs.Words.{Vcpu as VcpuActor}
use Rattle.guest_end.specs.Calls.{opening_cpu, GuestSpec}
use Rattle.guest_end.specs.ScnBase.declared.step.Step.{Step}
use Rattle.thr_trip.specs.Script.{vcpu_ops}
use Rattle.thr_trip.specs.Trip.{IsTrip, TripTold}
use Rattle.thr_cast.proofs.CastLemmas.{few_ops, opens_trip}
use Rattle.thr_cast.proofs.OkLemmas.{on_ok}
use Rattle.thr_cast.proofs.SplitLemmas.{split_more}
use Rattle.thr_cast.proofs.cast.vcpu_of.Goals as goal

pub new-requires-clause-few : goal.new-requires-clause-few
new-requires-clause-few g c =
    let steps = c.args.scenario.now.steps in
    let script = c.in_ok-script.ensures ∙ ap (vcpu_ops c.args.guest c.args.vcpu) c.as_slice.ensures in
    let few = few_ops c.args.guest c.args.vcpu steps in
    let most = c.requires.set.good.steps in
    omega (arith, ap length script, few, most)

pub new-requires-clause-is : goal.new-requires-clause-is
new-requires-clause-is g c =
    let words = g.J.Naming.words in
    let scenario = c.args.scenario.now in
    let seen = seen_of c.split-port.result in
    let port = subst (λ (ws : List WordsTold). seen ≡ opening_seen (words_at ws c.args.guest) c.args.vcpu) c.requires.words c.split-port.ensures.port in
    let of = subst (λ (ws : List WordsTold). PortIsOf ws seen) c.requires.words c.split-port.ensures.of in
    let trip : TripTold = record { vcpu = record { guest = c.args.guest; vcpu = c.args.vcpu; cpu = c.opening_cpu.result; next = 0 }; place = c.args.place; script = c.in_ok-script.script; answers = []; seen = seen } in
    let guests = c.args.scenario.now.guests in
    let there : c.args.guest < length guests = subst (λ n. c.args.guest < n) c.requires.set.each c.requires.guest in
    let cpu = c.opening_cpu.ensures ∙ ap (λ (gs : List GuestSpec). opening_cpu (get_or gs c.args.guest c.index-as_slice-guest.result).on) c.as_slice-2.ensures ∙ ap (λ (guest : GuestSpec). opening_cpu guest.on) (get_or_default guests c.args.guest c.index-as_slice-guest.result no_guest there) in
    subst (λ (steps : List Step). IsTrip words g.J.Naming.lrs steps trip) c.requires.steps
    (subst (λ n. IsTrip words n scenario.steps trip) c.requires.lrs
    (opens_trip scenario words c.requires.set c.args.guest c.requires.guest c.args.vcpu c.args.place c.in_ok-script.script seen c.opening_cpu.result c.requires.there (c.in_ok-script.ensures ∙ ap (vcpu_ops c.args.guest c.args.vcpu) c.as_slice.ensures) port of cpu c.requires.place))

pub returns-clause-root : goal.returns-clause-root
returns-clause-root g c =
    let words = g.J.Naming.words in
    let old = told_root c.args.root.now in
    let new = told_root c.split-port.new.root in
    let actor = VcpuActor c.args.guest c.args.vcpu in
    let is = subst (λ (ws : List WordsTold). new ≡ splitting ws actor old) c.requires.words c.split-port.ensures.root in
    let are = subst (λ (ws : List WordsTold). AreRoots ws new) c.requires.words c.split-port.ensures.roots in
    on_ok c.new.result (split_more words old new actor c.args.guest c.args.vcpu c.requires.guest refl refl c.requires.root is are)
