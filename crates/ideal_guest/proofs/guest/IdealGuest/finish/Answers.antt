use Rattle.std.proofs.Common.{ap, ◌∙◌}
use Rattle.floor_calls.specs.Registers.{queue_bytes, advanced}
use Rattle.ideal_guest.proofs.QueueLemmas.{command_done}
use Rattle.ideal_guest.proofs.guest.IdealGuest.finish.Goals as goal

pub returns-clause-ok : goal.returns-clause-ok
returns-clause-ok c =
    let guest = c.args.self.now in
    c.set_queue.ensures.value
    ∙ command_done guest c.carry_out.new.self c.args.command.now c.advance-next.result c.requires.next c.requires.good c.carry_out.ensures.after (c.advance-next.ensures.value ∙ ap (advanced guest.offset) (c.queue_bytes.ensures.value ∙ ap queue_bytes c.word.ensures))
