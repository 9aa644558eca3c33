-- Worked calls: each made so by what its actor found while it has the ITS, or after it set EnableLPIs, and refused where it goes by a read before that; and a
-- MOVALL, by the vCPU that an LPI is for as it begins.
use Rattle.std.specs.Prelude.{◌≡◌, ℕ, ◌^◌, true, false, List, [], ◌∷◌, ◌++◌, Option, Some, None}
use Rattle.floor_histories.specs.Words.{GuestShape, Its, Redist, Mem, Lpi, Msi, SetPending}
use Rattle.floor_histories.specs.Registers.{Int, Movall, encoded}
use Rattle.floor_histories.specs.Calls.{PlainWord, Ram, Pendbaser, ItsCtlr, Cbaser, Cwriter, Event, Put, Touch, Enable, ItsBegin, Found, Record, Register, opening_irq, Operation, Access, Device, Runs, Done, Beside, command_targets, Happened, IsCall}
use Rattle.floor_histories.specs.GicCall.declared.event.Event.TheVariants.{Raise, Read, ItsEnd, Queue}
use Rattle.floor_histories.specs.GicCall.declared.event.Found.TheVariants.{Nothing, Word as FoundWord, Queue as FoundQueue, Lpis as FoundLpis}
use Rattle.floor_histories.specs.GicCall.declared.touch.Touching.TheVariants.{Retarget}
use Rattle.floor_histories.specs.GicCall.declared.event.Place.TheVariants.{Word, Queue as QueuePlace}

-- two vCPUs, an LPI, and memory for three commands; a device
abbrev pub reads_shape : GuestShape
reads_shape = record { vcpus = 2; spis = 0; espis = 0; devices = 1; lpis = 1; ram = 96 }

-- an event of the actor, and what it found of a word
abbrev pub makes : Event → Found → Happened
makes event found = record { event = event; found = found }

abbrev pub looks : PlainWord → ℕ → Happened
looks word value = makes (Read (Word word)) (FoundWord value)

abbrev pub looks_at_queue : ℕ → Happened
looks_at_queue offset = makes (Read QueuePlace) (FoundQueue offset false)

abbrev pub begins : Happened
begins = makes ItsBegin Nothing

abbrev pub ends : Happened
ends = makes ItsEnd Nothing

abbrev pub raises : Happened
raises = makes (Raise (Lpi 8192)) Nothing

-- vCPU 1 writes GITS_CWRITER; a device sends a message; vCPU 0 sets EnableLPIs
abbrev pub writes_cwriter : Operation
writes_cwriter = Access (Mem Its 0x88 8 (Some 64))

abbrev pub writes_cbaser : Operation
writes_cbaser = Access (Mem Its 0x80 8 (Some (2 ^ 63)))

abbrev pub sends : Operation
sends = Device (Msi 0 0)

abbrev pub sets_lpis : Operation
sets_lpis = Access (Mem (Redist 0) 0 4 (Some 1))

-- an INT, as it is fetched and done
abbrev pub does_int : List Happened
does_int = looks (Ram 4) 3 ∷ looks (Ram 5) 0 ∷ looks (Ram 6) 0 ∷ looks (Ram 7) 0 ∷ raises ∷ makes (Queue 64 (Done (encoded (Int 0 0)))) Nothing ∷ []

-- it saw the queue before the INT, which another vCPU has done when it takes the ITS: it does that again; or it finds the queue after the INT
abbrev pub by_old_queue : List Happened
by_old_queue = looks_at_queue 32 ∷ begins ∷ looks ItsCtlr 1 ∷ looks Cbaser (2 ^ 63) ∷ looks Cwriter 64 ∷ makes (Put Cwriter 64) (FoundWord 64) ∷ does_int ++ ends ∷ []

abbrev pub by_queue : List Happened
by_queue = begins ∷ looks ItsCtlr 1 ∷ looks Cbaser (2 ^ 63) ∷ looks_at_queue 64 ∷ looks Cwriter 64 ∷ makes (Put Cwriter 64) (FoundWord 64) ∷ ends ∷ []

-- it saw the ITS enabled, which was seen quiescent since: it does a command; or it finds it disabled, and does none
abbrev pub by_old_enable : List Happened
by_old_enable = looks ItsCtlr 1 ∷ begins ∷ looks Cbaser (2 ^ 63) ∷ looks_at_queue 32 ∷ looks Cwriter 32 ∷ makes (Put Cwriter 64) (FoundWord 32) ∷ does_int ++ ends ∷ []

abbrev pub by_enable : List Happened
by_enable = begins ∷ looks ItsCtlr 0 ∷ looks Cbaser (2 ^ 63) ∷ looks_at_queue 32 ∷ looks Cwriter 32 ∷ makes (Put Cwriter 64) (FoundWord 32) ∷ ends ∷ []

-- it saw the ITS disabled, which was enabled since: it starts the queue anew; or it finds it enabled, and the write is ignored
abbrev pub base_by_old_enable : List Happened
base_by_old_enable = looks ItsCtlr 0 ∷ begins ∷ makes (Put Cwriter 0) (FoundWord 64) ∷ makes (Queue 0 Runs) Nothing ∷ makes (Put Cbaser (2 ^ 63)) (FoundWord 0) ∷ ends ∷ []

abbrev pub base_by_enable : List Happened
base_by_enable = begins ∷ looks ItsCtlr 1 ∷ ends ∷ []

-- a message by an ITS that was seen enabled before it was taken; or by one that is found disabled
abbrev pub message_by_old_enable : List Happened
message_by_old_enable = looks ItsCtlr 1 ∷ begins ∷ raises ∷ ends ∷ []

abbrev pub message_by_enable : List Happened
message_by_enable = begins ∷ looks ItsCtlr 0 ∷ ends ∷ []

-- it saw where the pending table is before EnableLPIs rose, and PENDBASER was stored since; or it finds there that the table has only zeros
abbrev pub lpis_by_old_table : List Happened
lpis_by_old_table =
    looks (Pendbaser 0) 0 ∷ makes (Enable 0) (FoundLpis false) ∷ looks (Ram 8) 1 ∷ makes (Touch (Lpi 8192) (Register SetPending 1)) (Record (opening_irq true (Lpi 8192))) ∷ []

abbrev pub lpis_by_table : List Happened
lpis_by_table = makes (Enable 0) (FoundLpis false) ∷ looks (Pendbaser 0) (2 ^ 62) ∷ []

-- a MOVALL of the LPIs of vCPU 0 to vCPU 1, by a call that waited for the ITS: 8192 is for vCPU 0 as it takes that, whatever it was for before; it moves 8192, or
-- leaves it where it is
abbrev pub begins_movall : List Happened
begins_movall =
    begins
    ∷ looks ItsCtlr 1
    ∷ looks Cbaser (2 ^ 63)
    ∷ looks_at_queue 32
    ∷ looks Cwriter 32
    ∷ makes (Put Cwriter 64) (FoundWord 32)
    ∷ looks (Ram 4) 14
    ∷ looks (Ram 5) 0
    ∷ looks (Ram 6) 0
    ∷ looks (Ram 7) (2 ^ 16)
    ∷ []

abbrev pub moves : Happened
moves = makes (Touch (Lpi 8192) (Retarget (Some 1))) (Record (opening_irq true (Lpi 8192)))

abbrev pub ends_movall : List Happened
ends_movall = makes (Queue 64 (Done (encoded (Movall 0 1)))) Nothing ∷ ends ∷ []

-- an ITS that has mapped nothing
abbrev pub unmapped : List (ℕ → Option ℕ) → Beside
unmapped commands = record { maps = record { devices = []; events = []; collections = [] }; targets = λ id. None; commands = commands; signals = false }

-- the calls by what was found are calls, and the others are none, whatever is beside them
pub record ReadsCount : Type 0 where
  pub queue : IsCall reads_shape (unmapped ((λ id. None) ∷ [])) (Some 1) writes_cwriter by_queue None
  pub old_queue : (beside : Beside) (answer : Option ℕ) → IsCall reads_shape beside (Some 1) writes_cwriter by_old_queue answer → ⊥
  pub enable : IsCall reads_shape (unmapped ((λ id. None) ∷ [])) (Some 1) writes_cwriter by_enable None
  pub old_enable : (beside : Beside) (answer : Option ℕ) → IsCall reads_shape beside (Some 1) writes_cwriter by_old_enable answer → ⊥
  pub base : IsCall reads_shape (unmapped ((λ id. None) ∷ [])) (Some 1) writes_cbaser base_by_enable None
  pub old_base : (beside : Beside) (answer : Option ℕ) → IsCall reads_shape beside (Some 1) writes_cbaser base_by_old_enable answer → ⊥
  pub message : IsCall reads_shape (unmapped ((λ id. None) ∷ [])) None sends message_by_enable None
  pub old_message : (beside : Beside) (answer : Option ℕ) → IsCall reads_shape beside None sends message_by_old_enable answer → ⊥
  pub table : IsCall reads_shape (unmapped []) (Some 0) sets_lpis lpis_by_table None
  pub old_table : (beside : Beside) (answer : Option ℕ) → IsCall reads_shape beside (Some 0) sets_lpis lpis_by_old_table answer → ⊥
  pub movall : IsCall reads_shape (unmapped ((λ id. Some 0) ∷ (λ id. Some 1) ∷ [])) (Some 1) writes_cwriter (begins_movall ++ moves ∷ ends_movall) None
  pub no_movall : (beside : Beside) (answer : Option ℕ) → command_targets beside 0 8192 ≡ Some 0 → IsCall reads_shape beside (Some 1) writes_cwriter (begins_movall ++ ends_movall) answer → ⊥
