-- Each but one leaves for a while.
use Rattle.std.proofs.Common.{subst, ap, rules}
use Rattle.guest_end.specs.Words.{GuestShape}
use Rattle.port_seq.specs.Ports.{told}
use Rattle.pe_place.specs.Place.{gone_aside}
use Rattle.seq_guest.specs.Guest.{ChangesSpots, but_one, for_below}
use Rattle.seq_guest.proofs.GuestLemmas.{goes_none, goes_then}
use Rattle.seq_guest.proofs.PlacesLemmas.{below_none, below_more, below_all, still_but}
use Rattle.seq_guest.proofs.vcpus.Vcpus.step_aside.Goals as goal

pub loop-vcpu-init : goal.loop-vcpu-init
loop-vcpu-init c = let first = told c.args.port.now in (goes_none first first.actor c.args.self.now c.requires, below_none (but_one c.args.but gone_aside) c.args.self.now, ap (λ (shape : GuestShape). shape.vcpus) c.shape-vcpu-end.ensures)

pub loop-vcpu-preserved : goal.loop-vcpu-preserved
loop-vcpu-preserved c =
    let so = c.loop-vcpu.invariant in
    let change = but_one c.args.but gone_aside in (
      goes_then (told c.args.port.now) (told c.loop-vcpu.port) (told c.set_aside_but.new.port) c.args.self.now c.loop-vcpu.self c.set_aside_but.new.self so.0 c.set_aside_but.ensures.goes_on,
      below_more change c.loop-vcpu.vcpu c.args.self.now c.loop-vcpu.self c.set_aside_but.new.self so.1 c.set_aside_but.ensures.spots,
      so.2,
    )

pub returns-clause-spots : goal.returns-clause-spots
returns-clause-spots c =
    let so = c.loop-vcpu.invariant in
    let change = but_one c.args.but gone_aside in
    below_all (told c.args.port.now) change c.args.self.now c.loop-vcpu.self c.requires (still_but c.args.but) (subst (λ n. ChangesSpots (for_below n change) c.args.self.now c.loop-vcpu.self) (search rules) so.1)
