-- It has its own script and port, and has done nothing.
use Rattle.std.proofs.Common.{◌≡◌, ◌+◌, false, List, refl, ap, subst, ◌∙◌}
use Rattle.thr_trip.specs.PortTable.All.{told_root}
use Rattle.thr_trip.specs.PortTable.Ports.{seen_of}
use Rattle.thr_trip.specs.PortTable.Told.{AreRoots, PortIsOf, WordsTold, opening_seen, splitting, words_at}
use Rattle.guest_end.specs.Words.{Device as DeviceActor}
use Rattle.guest_end.specs.ScnBase.declared.step.Step.{Step}
use Rattle.thr_trip.specs.Device.{DeviceTold, IsDevice}
use Rattle.thr_trip.specs.Script.{device_ops}
use Rattle.thr_cast.proofs.CastLemmas.{opens_device}
use Rattle.thr_cast.proofs.SplitLemmas.{split_more}
use Rattle.thr_cast.proofs.cast.device_of.Goals as goal

pub new-requires : goal.new-requires
new-requires g c =
    let words = g.J.Naming.words in
    let scenario = c.args.scenario.now in
    let seen = seen_of c.split-port.result in
    let port = subst (λ (ws : List WordsTold). seen ≡ opening_seen (words_at ws c.args.guest) ((words_at ws c.args.guest).guest.shape.vcpus + c.args.device)) c.requires.words c.split-port.ensures.port in
    let of = subst (λ (ws : List WordsTold). PortIsOf ws seen) c.requires.words c.split-port.ensures.of in
    let device : DeviceTold = record { guest = c.args.guest; device = c.args.device; script = c.in_ok-script.script; done = false; seen = seen } in
    subst (λ (steps : List Step). IsDevice words steps device) c.requires.steps
    (opens_device scenario words c.requires.set c.args.guest c.requires.guest c.args.device c.in_ok-script.script seen c.requires.there (c.in_ok-script.ensures ∙ ap (device_ops c.args.guest c.args.device) c.as_slice.ensures) port of)

pub returns-clause-root : goal.returns-clause-root
returns-clause-root g c =
    let words = g.J.Naming.words in
    let old = told_root c.args.root.now in
    let new = told_root c.split-port.new.root in
    let actor = DeviceActor c.args.guest c.args.device in
    let is = subst (λ (ws : List WordsTold). new ≡ splitting ws actor old) c.requires.words c.split-port.ensures.root in
    let are = subst (λ (ws : List WordsTold). AreRoots ws new) c.requires.words c.split-port.ensures.roots in
    split_more words old new actor c.args.guest ((words_at words c.args.guest).guest.shape.vcpus + c.args.device) c.requires.guest refl refl c.requires.root is are
