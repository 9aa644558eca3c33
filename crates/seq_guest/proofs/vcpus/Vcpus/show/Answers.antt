-- And the kicks are answered.
use Rattle.pe_place.specs.declared.place.Place.TheVariants.{Pe}
use Rattle.port_seq.specs.Ports.{told}
use Rattle.seq_guest.proofs.GuestLemmas.{goes_then}
use Rattle.seq_guest.proofs.vcpus.Vcpus.show.Goals as goal

pub answer_kicks-requires : goal.answer_kicks-requires
answer_kicks-requires g c = c.show_one-shown.ensures.shows.goes_on.at

pub returns-clause-goes_on : goal.returns-clause-goes_on
returns-clause-goes_on g c =
    goes_then (told c.args.port.now) (told c.show_one-shown.new.port) (told c.answer_kicks.new.port) c.args.self.now c.show_one-shown.new.self c.answer_kicks.new.self c.show_one-shown.ensures.shows.goes_on c.answer_kicks.ensures.goes_on

pub returns-clause-shown : goal.returns-clause-shown
returns-clause-shown g c =
    let shows = c.show_one-shown.ensures.shows in
    record { mid = told c.show_one-shown.new.port; between = c.show_one-shown.new.self; shows = shows; list_is = c.show_one-shown.ensures.list (Pe shows.loaded) shows.place; later = c.answer_kicks.ensures.goes_on }
