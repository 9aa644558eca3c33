-- The turn round what is made while the actor has the ITS.
use Rattle.std.proofs.Common.{sym, ap, ◌∙◌}
use Rattle.pe_its.proofs.WriteLemmas.{turn_fresh, turn_has, turn_lpis, makes_write}
use Rattle.pe_its.proofs.write.its_write.Goals as goal

pub serve-requires-clause-has : goal.serve-requires-clause-has
serve-requires-clause-has g c =
    turn_has (g.P.Port.seen c.args.port.now) (g.P.Port.seen c.take_turn.new.port) (g.P.Port.seen c.shut.new.port) (g.P.Port.seen c.take_tables-tables.new.self) c.take_tables-tables.result c.requires.can c.take_turn.ensures c.shut.ensures
    c.take_tables-tables.ensures.seen
    c.take_tables-tables.ensures.value

pub shut-requires-clause-lpis : goal.shut-requires-clause-lpis
shut-requires-clause-lpis g c =
    turn_lpis (g.P.Port.seen c.args.port.now) (g.P.Port.seen c.take_turn.new.port) c.in-Plain.reg c.in-Plain.half c.args.offset c.args.size c.args.value (sym c.its_access.ensures.value ∙ c.in-Plain.is) c.requires.takes c.take_turn.ensures

pub serve-requires-clause-fresh : goal.serve-requires-clause-fresh
serve-requires-clause-fresh g c =
    turn_fresh (g.P.Port.seen c.args.port.now) (g.P.Port.seen c.take_turn.new.port) (g.P.Port.seen c.shut.new.port) (g.P.Port.seen c.take_tables-tables.new.self) c.take_turn.ensures c.shut.ensures c.take_tables-tables.ensures.seen

pub give_turn-requires-clause-turn : goal.give_turn-requires-clause-turn
give_turn-requires-clause-turn g c = ap (λ seen. seen.local.turn) c.put_tables.ensures ∙ (g.P.Port.is_port c.serve.new.port).turn c.serve.ensures.has.taken

pub returns : goal.returns
returns g c =
    makes_write (g.P.Port.seen c.args.port.now) (g.P.Port.seen c.take_turn.new.port) (g.P.Port.seen c.shut.new.port) (g.P.Port.seen c.take_tables-tables.new.self) (g.P.Port.seen c.serve.new.port) (g.P.Port.seen c.put_tables.new.self) (g.P.Port.seen c.give_turn.new.port) c.args.offset
    c.args.size c.args.value c.in-Plain.reg c.in-Plain.half (g.P.Port.is_port c.args.port.now) (g.P.Port.is_port c.give_turn.new.port) c.requires.can (sym c.its_access.ensures.value ∙ c.in-Plain.is) c.requires.takes c.take_turn.ensures c.shut.ensures c.take_tables-tables.ensures.seen c.serve.ensures.serves
    c.serve.ensures.has.ease c.put_tables.ensures c.give_turn.ensures
