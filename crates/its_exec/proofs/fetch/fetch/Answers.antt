-- The four looks, one after the other.
use Rattle.its_exec.proofs.FetchLemmas.{fetches, fetched_holds, address_even}
use Rattle.its_exec.proofs.fetch.fetch.Goals as goal

pub doubleword-requires-clause-aligned : goal.doubleword-requires-clause-aligned
doubleword-requires-clause-aligned g c = address_even c.args.queue.now.cbaser c.args.queue.now.offset c.address-address.result c.requires.knows.in_range.place c.address-address.ensures.value

pub doubleword-requires-2-clause-aligned : goal.doubleword-requires-2-clause-aligned
doubleword-requires-2-clause-aligned g c = address_even c.args.queue.now.cbaser c.args.queue.now.offset c.address-address.result c.requires.knows.in_range.place c.address-address.ensures.value

pub doubleword-requires-3-clause-aligned : goal.doubleword-requires-3-clause-aligned
doubleword-requires-3-clause-aligned g c = address_even c.args.queue.now.cbaser c.args.queue.now.offset c.address-address.result c.requires.knows.in_range.place c.address-address.ensures.value

pub doubleword-requires-4-clause-aligned : goal.doubleword-requires-4-clause-aligned
doubleword-requires-4-clause-aligned g c = address_even c.args.queue.now.cbaser c.args.queue.now.offset c.address-address.result c.requires.knows.in_range.place c.address-address.ensures.value

pub returns-clause-fetches : goal.returns-clause-fetches
returns-clause-fetches g c =
    fetches (g.P.Port.seen c.args.port.now) (g.P.Port.seen c.doubleword.new.port) (g.P.Port.seen c.doubleword-2.new.port) (g.P.Port.seen c.doubleword-3.new.port) (g.P.Port.seen c.doubleword-4.new.port) c.args.queue.now c.address-address.result
    c.doubleword.result c.doubleword-2.result c.doubleword-3.result c.doubleword-4.result (g.P.Port.is_port c.args.port.now).good.sound.shape.ram_words c.requires.knows c.address-address.ensures.value c.doubleword.ensures.reads c.doubleword-2.ensures.reads
    c.doubleword-3.ensures.reads c.doubleword-4.ensures.reads

pub returns-clause-holds : goal.returns-clause-holds
returns-clause-holds g c =
    fetched_holds (g.P.Port.seen c.args.port.now) (g.P.Port.seen c.doubleword.new.port) (g.P.Port.seen c.doubleword-2.new.port) (g.P.Port.seen c.doubleword-3.new.port) (g.P.Port.seen c.doubleword-4.new.port) c.address-address.result
    c.doubleword.result c.doubleword-2.result c.doubleword-3.result c.doubleword-4.result (g.P.Port.is_port c.args.port.now).good.sound.shape.ram_words c.requires.lines
    (address_even c.args.queue.now.cbaser c.args.queue.now.offset c.address-address.result c.requires.knows.in_range.place c.address-address.ensures.value) c.doubleword.ensures.reads c.doubleword-2.ensures.reads c.doubleword-3.ensures.reads c.doubleword-4.ensures.reads
    c.doubleword.ensures.knows c.doubleword-2.ensures.knows c.doubleword-3.ensures.knows c.doubleword-4.ensures.knows
