use Rattle.std.proofs.Common.{◌<◌, length, ◌∙◌, sym, ap}
use Rattle.std.specs.List.{slice_set}
use Rattle.std.proofs.Math.Seq.{map-set_same}
use Rattle.std.proofs.lemmas.List.Elements.{All-set}
use Rattle.ideal_guest.specs.Calls.{is_good_event}
use Rattle.ideal_guest.specs.Call.{after_device}
use Rattle.gic_ideal.specs.Eager.{after_step}
use Rattle.ideal_guest.specs.Sound.{IsSound}
use Rattle.gic_ideal.proofs.StateLemmas.{guest_there, at_guest_there}
use Rattle.gic_picture.proofs.steps.do_step.Goals as goal

pub returns-in-Device-clause-shapes : goal.returns-in-Device-clause-shapes
returns-in-Device-clause-shapes c =
    map-set_same (λ state. state.shape) c.args.states.now.items c.in-Device.guest c.receive.new.self c.index_mut-in-Device.result.now
    (c.receive.ensures.shape ∙ ap (λ state. state.shape) c.index_mut-in-Device.ensures.value)

pub returns-in-Device-clause-after : goal.returns-in-Device-clause-after
returns-in-Device-clause-after c =
    let states = c.args.states.now.items in
    let acts = rw c.in-Device.is at c.requires.acts in
    let there : c.in-Device.guest < length states = guest_there states c.in-Device.guest (λ shape. is_good_event shape c.in-Device.op) acts in
    ap (slice_set states c.in-Device.guest) c.receive.ensures.after
    ∙ sym (at_guest_there c.in-Device.guest (after_device c.in-Device.op) states c.index_mut-in-Device.result.now there c.index_mut-in-Device.ensures.value)
    ∙ ap (λ step. after_step step states) (sym c.in-Device.is)

pub returns-in-Device-clause-sound : goal.returns-in-Device-clause-sound
returns-in-Device-clause-sound c =
    All-set IsSound c.args.states.now.items c.in-Device.guest c.receive.new.self c.receive.ensures.sound c.requires.sound

pub returns-in-Vcpu-clause-sound : goal.returns-in-Vcpu-clause-sound
returns-in-Vcpu-clause-sound c = All-set IsSound c.args.states.now.items c.in-Vcpu.guest c.operate-answer.new.self c.operate-answer.ensures.sound c.requires.sound

pub returns-in-Vcpu-clause-shapes : goal.returns-in-Vcpu-clause-shapes
returns-in-Vcpu-clause-shapes c =
    map-set_same (λ state. state.shape) c.args.states.now.items c.in-Vcpu.guest c.operate-answer.new.self c.index_mut.result.now
    (c.operate-answer.ensures.shape ∙ ap (λ state. state.shape) c.index_mut.ensures.value)
