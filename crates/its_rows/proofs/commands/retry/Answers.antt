-- The ITS is taken with valid tables, its queue moved, and the ITS still had when its tables are put back.
use Rattle.std.proofs.Common.{rules, ap, ◌∙◌}
use Rattle.pe_op.proofs.ItsExec.QueueLemmas.{looked_ready}
use Rattle.its_rows.proofs.TurnLemmas.{shut_valid, shut_fresh_so}
use Rattle.its_rows.proofs.commands.retry.Goals as goal

pub run_commands-end-requires : goal.run_commands-end-requires
run_commands-end-requires g c =
    record {
      ready =
          c.move_queue.ensures.ready _ _
          (looked_ready (g.P.Port.seen c.take_tables-tables.new.self) (g.P.Port.seen c.look_at_queue-queue.new.port) _ c.take_tables-tables.result c.look_at_queue-queue.result (search rules) (search rules) (search rules) (search rules) (search rules)
          (shut_valid (g.P.Port.seen c.args.port.now) (g.P.Port.seen c.take_turn.new.port) (g.P.Port.seen c.shut.new.port) _ c.take_tables-tables.result (search rules) c.take_turn.ensures c.shut.ensures c.take_tables-tables.ensures.value)
          (shut_fresh_so (g.P.Port.seen c.args.port.now) (g.P.Port.seen c.take_turn.new.port) (g.P.Port.seen c.shut.new.port) (g.P.Port.seen c.take_tables-tables.new.self) c.take_turn.ensures c.shut.ensures (search rules)) c.look_at_queue-queue.ensures);
    }

pub give_turn-requires-clause-turn : goal.give_turn-requires-clause-turn
give_turn-requires-clause-turn g c = ap (λ seen. seen.local.turn) c.put_tables.ensures ∙ (g.P.Port.is_port c.run_commands-end.new.port).turn c.run_commands-end.ensures.has.taken
