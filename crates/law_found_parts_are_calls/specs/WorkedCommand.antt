-- Worked parts that take the ITS, the last of which takes a command.
use Rattle.std.specs.Prelude.{ℕ, ◌+◌, ◌^◌, true, false, List, [], ◌∷◌, ◌++◌, map, Option, Some, None}
use Rattle.std.specs.List.{range_with_len}
use Rattle.law_unmapped_lpis.specs.Words.{Its, Mem}
use Rattle.law_unmapped_lpis.specs.Calls.{Access, place_of_plain, PlainWord, Cbaser, Cwriter, Fault, ItsCtlr}
use Rattle.law_unmapped_lpis.specs.Histories.{CanOpen}
use Rattle.law_unmapped_lpis.specs.Registers.{Maps}
use Rattle.pe_mem.specs.Core.{Made, CoreStep, CommandDone, LineClose, Look, RamLook, RamPut, TurnRelease, TurnTake, Queue, no_maps, IsProperRun}
use Rattle.law_unmapped_lpis.specs.Worked.{worked_guest}
use Rattle.law_serial_is_eager.specs.Serial.{AreFit, WholePart, moments_of}
use Rattle.law_found_parts_are_calls.specs.Found.{AreEagerCalls, AreFoundParts}

-- a step that found a word, left another and was handed these maps
abbrev pub step : CoreStep → ℕ → ℕ → Option Maps → Made
step what found left tables = record { step = what; found = found; left = left; tables = tables }

-- a look at a plain word, and a store there
abbrev pub looks_at : PlainWord → ℕ → Made
looks_at word found = step (RamLook (place_of_plain worked_guest.shape word)) found found None

abbrev pub stores_at : PlainWord → ℕ → ℕ → Made
stores_at word found value = step (RamPut (place_of_plain worked_guest.shape word) found value) found value None

-- the queue's word, as nobody has the ITS; as vCPU 0 has it; and when it is stalled besides
abbrev pub free : ℕ
free = 0

abbrev pub taken : ℕ
taken = 2 ^ 32

abbrev pub stalled : ℕ
stalled = 2 ^ 32 + 1

-- each translation line is closed: it has no message, and nobody is in it
abbrev pub closes : ℕ → Made
closes line = step (LineClose line) 0 0 None

abbrev pub lines : List ℕ
lines = range_with_len 0 64

-- a part of vCPU 0 on a PE with 4 list registers, for a write of a register of the ITS
abbrev pub writes : ℕ → ℕ → ℕ → List Made → WholePart
writes offset size value steps = record { actor = 0; operation = Access (Mem Its offset size (Some value)); lrs = 4; steps = steps; answer = None }

-- GITS_CBASER with a queue that begins at the address 4096, behind the guest's memory
abbrev pub queue : ℕ
queue = 2 ^ 63 + 4096

-- it makes that queue: the ITS is not enabled, and the queue begins anew
abbrev pub makes_queue : WholePart
makes_queue =
    writes 0x80 8 queue
    (step (Look Queue) free free None
    ∷ step (TurnTake free) free taken (Some no_maps)
    ∷ map closes lines
    ++ looks_at ItsCtlr 0
    ∷ looks_at Cwriter 0
    ∷ stores_at Cwriter 0 0
    ∷ step (CommandDone 0 false None) taken taken None
    ∷ looks_at Cbaser 0
    ∷ stores_at Cbaser 0 queue
    ∷ step TurnRelease taken free None
    ∷ [])

-- GITS_CWRITER has one command; no command is taken, since the ITS is not enabled
abbrev pub adds_command : WholePart
adds_command =
    writes 0x88 8 32
    (step (Look Queue) free free None
    ∷ step (TurnTake free) free taken (Some no_maps)
    ∷ step (Look Queue) taken taken None
    ∷ looks_at ItsCtlr 0
    ∷ looks_at Cbaser queue
    ∷ looks_at Cwriter 0
    ∷ stores_at Cwriter 0 32
    ∷ step TurnRelease taken free None
    ∷ [])

-- GITS_CTLR enables the ITS, which takes the command: its doublewords are 0 outside of the memory, and no command has the number 0. So it has a
-- fault, whose number is stored, and the queue stalls
abbrev pub enables : WholePart
enables =
    writes 0 4 1
    (step (Look Queue) free free None
    ∷ step (TurnTake free) free taken (Some no_maps)
    ∷ map closes lines
    ++ step (Look Queue) taken taken None
    ∷ looks_at Cbaser queue
    ∷ looks_at Cwriter 32
    ∷ looks_at ItsCtlr 0
    ∷ stores_at ItsCtlr 0 1
    ∷ looks_at Fault 0
    ∷ stores_at Fault 0 10
    ∷ step (CommandDone 0 true None) taken stalled None
    ∷ step TurnRelease stalled 1 None
    ∷ [])

-- one after the other
abbrev pub its_parts : List WholePart
its_parts = makes_queue ∷ adds_command ∷ enables ∷ []

-- they meet what the law asks of parts that take the ITS
pub record WorkedCommandIsFound : Type 0 where
  pub good : CanOpen worked_guest
  pub proper : IsProperRun worked_guest 0 (moments_of its_parts)
  pub found : AreFoundParts worked_guest 0 [] its_parts
  pub fits : AreFit worked_guest 0 [] its_parts
  pub eager : AreEagerCalls worked_guest 0 its_parts
