-- The ITS is taken with valid tables, and still had when they are put back.
use Rattle.std.proofs.Common.{rules, ap, ◌∙◌}
use Rattle.its_rows.proofs.TurnLemmas.{shut_valid, shut_fresh_so}
use Rattle.its_rows.proofs.commands.run.Goals as goal

pub run_queue-end-requires-clause-valid : goal.run_queue-end-requires-clause-valid
run_queue-end-requires-clause-valid g c =
    shut_valid (g.P.Port.seen c.args.port.now) (g.P.Port.seen c.take_turn.new.port) (g.P.Port.seen c.shut.new.port) _ c.take_tables-tables.result (search rules) c.take_turn.ensures c.shut.ensures c.take_tables-tables.ensures.value

pub run_queue-end-requires-clause-fresh : goal.run_queue-end-requires-clause-fresh
run_queue-end-requires-clause-fresh g c =
    shut_fresh_so (g.P.Port.seen c.args.port.now) (g.P.Port.seen c.take_turn.new.port) (g.P.Port.seen c.shut.new.port) (g.P.Port.seen c.take_tables-tables.new.self) c.take_turn.ensures c.shut.ensures (search rules)

pub give_turn-requires-clause-turn : goal.give_turn-requires-clause-turn
give_turn-requires-clause-turn g c = ap (λ seen. seen.local.turn) c.put_tables.ensures ∙ (g.P.Port.is_port c.run_queue-end.new.port).turn c.run_queue-end.ensures.has.taken
