-- GICR_PROPBASER, and the word of the byte.
use Rattle.std.proofs.Common.{Some, None}
use Rattle.its_exec.proofs.ConfigLemmas.{config_inside, config_outside, part_found, propbaser_holds}
use Rattle.its_exec.proofs.config.config_byte.Goals as goal

pub memory_word-requires-clause-holds : goal.memory_word-requires-clause-holds
memory_word-requires-clause-holds g c =
    propbaser_holds (g.P.Port.seen c.args.port.now) (g.P.Port.seen c.read_plain-propbaser.new.port) c.args.fetched.now c.args.vcpu c.read_plain-propbaser.result c.requires.vcpu c.read_plain-propbaser.ensures c.requires.holds

pub returns-in-Some : goal.returns-in-Some
returns-in-Some g c =
    config_inside (g.P.Port.seen c.args.port.now) (g.P.Port.seen c.read_plain-propbaser.new.port) (g.P.Port.seen c.memory_word.new.port) c.args.fetched.now c.args.vcpu c.args.lpi c.read_plain-propbaser.result c.memory_word.result c.extract.result
    c.in-Some.part c.requires.vcpu c.read_plain-propbaser.ensures
    (part_found (g.P.Port.seen c.args.port.now) (g.P.Port.seen c.read_plain-propbaser.new.port) c.args.vcpu c.args.lpi c.read_plain-propbaser.result c.config_address.result c.shape-ram.result (Some c.in-Some.part) c.read_plain-propbaser.ensures c.config_address.ensures c.shape-ram.ensures c.in-Some.ensures.value)
    c.memory_word.ensures c.extract.ensures.value

pub returns-in-None : goal.returns-in-None
returns-in-None g c =
    config_outside (g.P.Port.seen c.args.port.now) (g.P.Port.seen c.read_plain-propbaser.new.port) c.args.fetched.now c.args.vcpu c.args.lpi c.read_plain-propbaser.result c.requires.vcpu c.read_plain-propbaser.ensures
    (part_found (g.P.Port.seen c.args.port.now) (g.P.Port.seen c.read_plain-propbaser.new.port) c.args.vcpu c.args.lpi c.read_plain-propbaser.result c.config_address.result c.shape-ram.result None c.read_plain-propbaser.ensures c.config_address.ensures c.shape-ram.ensures c.in-None.ensures.value)
