use Rattle.std.proofs.Common.{ap}
use Rattle.floor_calls.specs.Calls.{HappensFreely, View, lpi_event, parts}
use Rattle.floor_calls.proofs.GicCall.CommandLemmas.{parts_happen}
use Rattle.ideal_guest.specs.Ideal.{view_of}
use Rattle.ideal_guest.specs.Queue.{is_of_event}
use Rattle.ideal_guest.proofs.PartLemmas.{holds_of_one, mapd_maps}
use Rattle.ideal_guest.proofs.guest.IdealGuest.do_parts.Goals as goal

pub do_some-requires-clause-valid : goal.do_some-requires-clause-valid
do_some-requires-clause-valid c =
    let guest = c.args.self.now in
    let view : View = view_of guest in
    let command = c.args.command.now in
    holds_of_one (λ part. HappensFreely guest.shape (lpi_event guest.shape view view.targets part)) (is_of_event command) c.event_part.result (parts guest.shape guest.tables view.targets command) c.event_part.ensures
    (parts_happen guest.shape view guest.tables view.targets c.requires.sound.maps command c.requires.good)

pub returns-in-Mapd-clause-maps : goal.returns-in-Mapd-clause-maps
returns-in-Mapd-clause-maps c =
    rw c.in-Mapd.is (mapd_maps c.args.self.now.tables c.forget_events.new.self.tables c.in-Mapd.device c.in-Mapd.size c.in-Mapd.itt_addr c.in-Mapd.valid (ap (λ guest. guest.tables) c.forget_events.ensures.after))
