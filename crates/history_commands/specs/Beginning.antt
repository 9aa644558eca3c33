-- Which events a write of a register of the ITS begins with, in some guest: what each store found was in its word then, and all else can have been as it had to be
-- (own choice).
use Rattle.std.specs.Prelude.{◌≡◌, ℕ, IsTrue, List, [], ◌∷◌, Some}
use Rattle.history_commands.specs.Words.{bit_of, has_bit}
use Rattle.history_commands.specs.Registers.{Half, half_written, enabled_in, queue_offset, cbaser_bits, baser_bits, Cbaser as CbaserReg, Cwriter as CwriterReg, Baser0 as Baser0Reg, Baser1 as Baser1Reg}
use Rattle.history_commands.specs.GicImap.declared.map.Reg.{Reg as ItsReg}
use Rattle.history_commands.specs.GicImap.declared.map.Reg.TheVariants.{Ctlr as ItsCtlrReg}
use Rattle.history_commands.specs.Calls.{Put, Runs, Happened, PlainWord, ItsCtlr, Cbaser, Cwriter, Baser0, Baser1}
use Rattle.history_commands.specs.GicCall.declared.event.Event.TheVariants.{Queue}
use Rattle.history_commands.specs.GicCall.declared.event.Found.TheVariants.{Nothing, Word as FoundWord}
use Rattle.history_commands.specs.HistoryCalls.Found.{word_in}

-- what a plain word held, as an event handed it out
abbrev pub held_in : Happened → ℕ
held_in happened = word_in (Some happened.found)

-- a plain word is stored
abbrev pub IsStored : PlainWord → ℕ → Happened → Type 0
IsStored word value happened = happened ≡ record { event = Put word value; found = FoundWord (held_in happened) }

-- the queue runs, from an offset on
abbrev pub RunsFrom : ℕ → Happened → Type 0
RunsFrom offset happened = happened ≡ record { event = Queue offset Runs; found = Nothing }

-- the last of a write of GITS_CBASER
abbrev pub MayStore : Half → ℕ → List Happened → Type 0
MayStore half value [] = Unit {0}
MayStore half value (one ∷ named) = IsStored Cbaser (cbaser_bits (half_written half (held_in one) value)) one × (named ≡ [])

-- its last two: the queue is started anew
abbrev pub MayStart : Half → ℕ → List Happened → Type 0
MayStart half value [] = Unit {0}
MayStart half value (one ∷ named) = RunsFrom 0 one × MayStore half value named

-- the last of a write of GITS_CWRITER, of which this was written: a stall ended, at some offset
abbrev pub MayRun : ℕ → List Happened → Type 0
MayRun written [] = Unit {0}
MayRun written (one ∷ named) = IsTrue (has_bit written 0) × (((offset : ℕ) × RunsFrom offset one) × (named ≡ []))

-- the first event of a write of a register, and those after it
abbrev pub MayWrite : ItsReg → Half → ℕ → Happened → List Happened → Type 0
MayWrite ItsCtlrReg half value one named = IsStored ItsCtlr (bit_of (enabled_in value)) one × (named ≡ [])
MayWrite CbaserReg half value one named = IsStored Cwriter 0 one × MayStart half value named
MayWrite CwriterReg half value one named = IsStored Cwriter (queue_offset (half_written half (held_in one) value)) one × MayRun (half_written half (held_in one) value) named
MayWrite Baser0Reg half value one named = IsStored Baser0 (baser_bits (half_written half (held_in one) value)) one × (named ≡ [])
MayWrite Baser1Reg half value one named = IsStored Baser1 (baser_bits (half_written half (held_in one) value)) one × (named ≡ [])
MayWrite reg half value one named = ⊥

-- the events of a write of a register so far
abbrev pub MayBegin : ItsReg → Half → ℕ → List Happened → Type 0
MayBegin reg half value [] = Unit {0}
MayBegin reg half value (one ∷ named) = MayWrite reg half value one named
