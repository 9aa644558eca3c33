-- Each answers its kick.
use Rattle.std.proofs.Common.{sym, ap, subst, ◌∙◌, rules}
use Rattle.guest_end.specs.Words.{GuestShape}
use Rattle.guest_end.specs.IdealGuests.declared.guest.IdealGuest.{IdealGuest}
use Rattle.port_seq.specs.Ports.{told}
use Rattle.seq_guest.specs.Guest.{for_none}
use Rattle.seq_guest.proofs.GuestLemmas.{goes_none, goes_then}
use Rattle.seq_guest.proofs.KickLemmas.{NoneBelow, none_first, none_more, none_all, neither}
use Rattle.seq_guest.proofs.PlacesLemmas.{spots_none, spots_then}
use Rattle.seq_guest.proofs.vcpus.Vcpus.answer_each.Goals as goal

pub loop-vcpu-init : goal.loop-vcpu-init
loop-vcpu-init c = let first = told c.args.port.now in (goes_none first first.actor c.args.self.now c.requires, spots_none c.args.self.now, λ none. none_first first c.args.self.now, ap (λ (shape : GuestShape). shape.vcpus) c.shape-vcpu-end.ensures)

pub loop-vcpu-preserved : goal.loop-vcpu-preserved
loop-vcpu-preserved c =
    let so = c.loop-vcpu.invariant in (
      goes_then (told c.args.port.now) (told c.loop-vcpu.port) (told c.answer_one-answered.new.port) c.args.self.now c.loop-vcpu.self c.answer_one-answered.new.self so.0 c.answer_one-answered.ensures.goes_on,
      spots_then for_none c.args.self.now c.loop-vcpu.self c.answer_one-answered.new.self so.1 c.answer_one-answered.ensures.spots,
      λ none.
          let each = neither c.loop-vcpu.answered c.answer_one-answered.result none in
          none_more (told c.loop-vcpu.port) (told c.answer_one-answered.new.port) c.loop-vcpu.self c.answer_one-answered.new.self c.loop-vcpu.vcpu (so.2 each.0) c.answer_one-answered.ensures.goes_on.same c.answer_one-answered.ensures.spots
          (c.answer_one-answered.ensures.words each.1) (c.answer_one-answered.ensures.quiet each.1),
      so.3,
    )

pub returns-clause-quiet : goal.returns-clause-quiet
returns-clause-quiet c = λ none.
    let so = c.loop-vcpu.invariant in
    let last = told c.loop-vcpu.port in
    none_all last c.loop-vcpu.self so.0.at (subst (λ n. NoneBelow n last c.loop-vcpu.self) (search rules ∙ ap (λ (guest : IdealGuest). guest.shape.vcpus) (sym so.0.same.guest)) (so.2 none))
