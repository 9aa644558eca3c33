-- What was fed is dropped, and the machine is reset.
use Rattle.std.proofs.Common.{Ok, ap, ◌∙◌}
use Rattle.vm_saved.specs.GicVm.Calls.{done_by}
use Rattle.vm_saved.specs.GicVm.Reset.{reset_of, reset_machine}
use Rattle.vm_saved.specs.GicVm.State.{MachineState}
use Rattle.vm_saved.specs.GicVm.declared.done.Done.{Done}
use Rattle.gic_c.specs.declared.answer.Refusal.{Refusal}
use Rattle.gic_c.specs.declared.answer.Reply.{Reply}
use Rattle.gic_c.specs.declared.answer.Reply.TheVariants.{Done as Finished}
use Rattle.gic_c.specs.declared.board.Board.{Board}
use Rattle.std.specs.Prelude.{Result}
use Rattle.gic_c.proofs.board.Board.reset.Goals as goal

finished : Done → Result Reply Refusal
finished done = Ok (Finished done)

pub returns-clause-reply : goal.returns-clause-reply
unfolding finished
returns-clause-reply c =
    ap finished (c.reset.ensures.done ∙ ap (λ (board : Board). done_by 0 board.machine.guest (reset_of board.machine.guest)) c.forget.ensures)

remade : MachineState → Board → Board
remade machine board = record board { machine = machine }

pub returns-clause-board : goal.returns-clause-board
unfolding remade
returns-clause-board c =
    ap (λ (machine : MachineState). remade machine c.forget.new.self) c.reset.ensures.machine
    ∙ ap (λ (board : Board). remade (reset_machine board.machine) board) c.forget.ensures
