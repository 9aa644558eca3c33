-- Rounds, one after the other.
use Rattle.port_seq.specs.Ports.{told}
use Rattle.seq_guest.specs.Guest.{for_none}
use Rattle.seq_guest.proofs.GuestLemmas.{goes_none, goes_then}
use Rattle.seq_guest.proofs.PlacesLemmas.{spots_none, spots_then}
use Rattle.seq_guest.proofs.vcpus.Vcpus.answer_kicks.Goals as goal

pub loop-init : goal.loop-init
loop-init g c = let first = told c.args.port.now in (tt, tt, goes_none first first.actor c.args.self.now c.requires, spots_none c.args.self.now)

pub returns-then-not-answer_each-clause-goes_on : goal.returns-then-not-answer_each-clause-goes_on
returns-then-not-answer_each-clause-goes_on g c =
    goes_then (told c.args.port.now) (told c.loop.port) (told c.answer_each.new.port) c.args.self.now c.loop.self c.answer_each.new.self c.loop.invariant.2 c.answer_each.ensures.goes_on

pub loop-preserved : goal.loop-preserved
loop-preserved g c = (
  tt,
  tt,
  goes_then (told c.args.port.now) (told c.loop.port) (told c.answer_each.new.port) c.args.self.now c.loop.self c.answer_each.new.self c.loop.invariant.2 c.answer_each.ensures.goes_on,
  spots_then for_none c.args.self.now c.loop.self c.answer_each.new.self c.loop.invariant.3 c.answer_each.ensures.spots,
)
