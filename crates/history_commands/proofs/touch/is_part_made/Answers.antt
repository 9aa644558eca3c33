use Rattle.history_commands.specs.Mapped.{targets_by}
use Rattle.history_commands.proofs.PartLemmas.{part_decided, part_refused}
use Rattle.history_commands.proofs.touch.is_part_made.Goals as goal

pub returns-then-is_event_made : goal.returns-then-is_event_made
returns-then-is_event_made c =
    part_decided c.args.shape.now (targets_by c.args.commands.now c.args.number) c.args.part c.args.reads.now c.args.made.now c.part_event-event.result c.part_event-event.ensures.value c.is_event_made.result c.is_byte_read.result c.is_event_made.ensures
    c.is_byte_read.ensures c.if-is_event_made.true

pub returns-else-is_event_made : goal.returns-else-is_event_made
returns-else-is_event_made c =
    part_refused c.args.shape.now (targets_by c.args.commands.now c.args.number) c.args.part c.args.reads.now c.args.made.now c.part_event-event.result c.part_event-event.ensures.value c.is_event_made.result c.is_event_made.result c.is_event_made.ensures
    c.if-is_event_made.false c.if-is_event_made.false
