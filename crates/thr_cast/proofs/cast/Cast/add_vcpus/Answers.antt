-- One more vCPU is there.
use Rattle.std.proofs.Common.{[], refl, ◌∙◌, arith}
use Rattle.thr_cast.proofs.CastLemmas.{few_at, few_places}
use Rattle.thr_cast.proofs.ComingLemmas.{vcpu_came}
use Rattle.thr_cast.proofs.cast.Cast.add_vcpus.Goals as goal

pub overflow_cast-place : goal.overflow_cast-place
overflow_cast-place g c =
    let few = few_places c.args.scenario.now g.J.Naming.words c.requires.set c.args.guest in
    let each = c.loop-vcpu.invariant.cast.each in
    let all = c.len-place.ensures ∙ c.loop-vcpu.self.trips.ok.0 in
    let most = few_at c.args.scenario.now g.J.Naming.words c.requires.set c.args.guest c.requires.guest in
    let vcpus = c.loop-vcpu.invariant.vcpus in
    let within = c.loop-vcpu-test.true in
    record { fits = omega (arith, few, each, all, most, vcpus, within) }

pub loop-vcpu-preserved : goal.loop-vcpu-preserved
loop-vcpu-preserved g c =
    let place = c.in_ok-trip.ensures.place ∙ c.len-place.ensures ∙ c.loop-vcpu.self.trips.ok.0 ∙ c.loop-vcpu.invariant.cast.each in
    record {
      vcpus = c.loop-vcpu.invariant.vcpus;
      split = c.in_ok-trip.ensures.root;
      cast = vcpu_came g.J.Naming.words c.args.guest c.loop-vcpu.self (record { trips = c.push.new.self; devices = c.loop-vcpu.self.devices }) c.loop-vcpu.vcpu [] c.in_ok-trip.trip c.loop-vcpu.invariant.cast c.in_ok-push.ensures.items refl place;
    }
