-- Each comes back.
use Rattle.std.proofs.Common.{refl, subst, ap, rules}
use Rattle.guest_end.specs.Words.{GuestShape}
use Rattle.port_seq.specs.Ports.{told}
use Rattle.pe_place.specs.Place.{returned}
use Rattle.seq_guest.specs.Guest.{ChangesSpots, for_all, for_below}
use Rattle.seq_guest.proofs.GuestLemmas.{goes_none, goes_then}
use Rattle.seq_guest.proofs.PlacesLemmas.{below_none, below_more, below_all}
use Rattle.seq_guest.proofs.vcpus.Vcpus.come_back.Goals as goal

pub loop-vcpu-init : goal.loop-vcpu-init
loop-vcpu-init c = let first = told c.args.port.now in (goes_none first first.actor c.args.self.now c.requires, below_none (for_all returned) c.args.self.now, ap (λ (shape : GuestShape). shape.vcpus) c.shape-vcpu-end.ensures)

pub loop-vcpu-preserved : goal.loop-vcpu-preserved
loop-vcpu-preserved c =
    let so = c.loop-vcpu.invariant in
    let change = for_all returned in (
      goes_then (told c.args.port.now) (told c.loop-vcpu.port) (told c.bring_back.new.port) c.args.self.now c.loop-vcpu.self c.bring_back.new.self so.0 c.bring_back.ensures.goes_on,
      below_more change c.loop-vcpu.vcpu c.args.self.now c.loop-vcpu.self c.bring_back.new.self so.1 c.bring_back.ensures.spots,
      so.2,
    )

pub returns-clause-spots : goal.returns-clause-spots
returns-clause-spots c =
    let so = c.loop-vcpu.invariant in
    let change = for_all returned in
    below_all (told c.args.port.now) change c.args.self.now c.loop-vcpu.self c.requires (λ vcpu. refl) (subst (λ n. ChangesSpots (for_below n change) c.args.self.now c.loop-vcpu.self) (search rules) so.1)
