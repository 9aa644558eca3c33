-- What a handle is to its caller.
use Rattle.std.specs.Prelude.{◌==◌, if◌then◌else◌, Option, None, Result, Err, ℤ}
use Rattle.std.specs.Option.{option_map, option_map_or}
use Rattle.gic_c.specs.declared.answer.Refusal.{Refusal}
use Rattle.gic_c.specs.declared.answer.Refusal.TheVariants.{Invalid}
use Rattle.gic_c.specs.declared.answer.Reply.{Reply}
use Rattle.gic_c.specs.declared.board.Board.{Board}
use Rattle.gic_c.specs.declared.handle.RvMachine.{RvMachine}
use Rattle.gic_c.specs.Answer.{errno_of}
use Rattle.gic_c.specs.Mark.{open_mark}

-- the machine that the handle has, with what was fed; none where the handle is closed
abbrev pub board_of : RvMachine → Option Board
board_of handle = if handle.mark == open_mark then handle.slot.value else None

-- what a call answers that asks the machine this
abbrev pub asked : (Board → Result Reply Refusal) → RvMachine → Result Reply Refusal
asked ask handle = option_map_or ask (board_of handle) (Err Invalid)

-- what a call returns that returns this of the machine
abbrev pub told : (Board → ℤ) → RvMachine → ℤ
told tell handle = option_map_or tell (board_of handle) (errno_of Invalid)

-- the machine after a call that makes this of it
abbrev pub left : (Board → Board) → RvMachine → Option Board
left make handle = option_map make (board_of handle)
