use Rattle.std.proofs.Common.{◌≤◌, All, map, length, sym, ap, subst, ◌∙◌, arith}
use Rattle.std.proofs.lemmas.List.{take_all}
use Rattle.port_ops.specs.PortCore.IdealGuests.CanOpen.{CanOpen}
use Rattle.port_ops.specs.PortCore.IdealGuests.Opening.{opening}
use Rattle.port_seq.proofs.GuestsLemmas.{opens_good}
use Rattle.port_seq.proofs.port.SeqPort.start.Goals as goal

pub start_from-requires-clause-good : goal.start_from-requires-clause-good
start_from-requires-clause-good c =
    let specs = c.args.scenario.now.guests in
    let all : length c.as_slice-guest-items.result.now ≤ c.loop-guest.guest-index = omega (arith, c.loop-guest-test.false) in
    subst (All CanOpen) (sym (c.loop-guest.invariant ∙ ap (map opening) (take_all c.loop-guest.guest-index c.as_slice-guest-items.result.now all) ∙ ap (map opening) c.as_slice-guest-items.ensures)) (opens_good specs c.requires.good)
