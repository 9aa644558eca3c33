use Rattle.std.proofs.Common.{sym}
use Rattle.history_commands.proofs.BegunWrites.{may_begin_told}
use Rattle.history_commands.proofs.begun.is_write_begun.Goals as goal

pub returns-in-Plain : goal.returns-in-Plain
returns-in-Plain c = may_begin_told c.args.shape.now c.args.actor c.args.offset c.args.size c.args.value c.args.piece.now c.in-Plain.reg c.in-Plain.half (sym c.in-Plain.ensures.value) c.requires.turn c.may_begin.result c.may_begin.ensures
