-- A worked run: a device fills a translation line with a message and posts the message by it; a vCPU shuts all lines and discards the event; the device does not
-- find the message any more.
use Rattle.std.specs.Prelude.{◌≡◌, ℕ, ◌+◌, ◌*◌, ◌^◌, ◌==◌, true, false, IsTrue, List, [], ◌∷◌, ◌++◌, map, if◌then◌else◌, Some, None}
use Rattle.std.specs.List.{range_with_len}
use Rattle.law_lines_translate.specs.Words.{Key, Lpi}
use Rattle.law_lines_translate.specs.Registers.{Maps}
use Rattle.law_lines_translate.specs.Calls.{GuestSpec, MapLpi, touched}
use Rattle.law_lines_translate.specs.GicCall.declared.touch.Touching.TheVariants.{Forget}
use Rattle.law_lines_translate.specs.Histories.{IdealGuest, CanOpen, changed_irq, opening_guest}
use Rattle.law_lines_translate.specs.Core.{CoreStep, Look, Raise, Kick, Mark, Touch, RamLook, TurnTake, TurnRelease, CommandDone, LineEnter, LineLeave, LineFill, LineClose, Line, Entry, IsRun, line_of, opening}
use Rattle.law_discarded_stay_out.specs.StayOut.{ends_command, is_discard, is_stored_in}

-- a vCPU, a device, LPIs 8192 to 8195, and four doublewords of memory
abbrev pub discard_spec : GuestSpec
discard_spec = record { shape = record { vcpus = 1; spis = 0; espis = 0; devices = 1; lpis = 4; ram = 32 }; on = true; presets = [] }

abbrev pub lpi : Key
lpi = Lpi 8195

-- its ITS is enabled; event 3 of DeviceID 8 is LPI 8195, which is for vCPU 0; and a command is in the queue, which is at address 0: DISCARD of this event
abbrev pub discard : List ℕ
discard = (0xf + 8 * 2 ^ 32) ∷ 3 ∷ 0 ∷ 0 ∷ []

abbrev pub discard_plain : List ℕ
discard_plain = discard ++ 0 ∷ 0 ∷ 1 ∷ 2 ^ 63 ∷ 0x20 ∷ 0 ∷ 0 ∷ 0 ∷ []

abbrev pub discard_maps : Maps
discard_maps = record { devices = (8, 4) ∷ []; events = ((8, 3), (8195, 0)) ∷ []; collections = (0, 0) ∷ [] }

abbrev pub discard_guest : IdealGuest
discard_guest = record (changed_irq lpi (touched discard_spec.shape lpi (MapLpi 0 true 0xa0)) (opening_guest discard_spec)) { words = discard_plain; tables = discard_maps }

-- the message, and the word of its line with it: before and after the device is in the line, and while it is
abbrev pub message : ℕ × ℕ
message = (8, 3)

abbrev pub filled_word : ℕ
filled_word = 0x20000c0070

abbrev pub inside_word : ℕ
inside_word = 0x20000c0071

-- the LPI's word while it is not pending, once it is raised, and once it is forgotten
abbrev pub opened_word : ℕ
opened_word = 0x80028f8

abbrev pub raised_word : ℕ
raised_word = 0x80028f9

abbrev pub forgotten_word : ℕ
forgotten_word = 0xe8

-- the queue's word while the device has the ITS, while the vCPU has it, and after the command
abbrev pub device_turn : ℕ
device_turn = 0x300000000

abbrev pub vcpu_turn : ℕ
vcpu_turn = 0x100000000

abbrev pub done_turn : ℕ
done_turn = 0x100000020

-- the steps of the vCPU and of the device, with the words that they found and left
abbrev pub vcpu_makes : CoreStep → ℕ → ℕ → Entry
vcpu_makes step found left = record { actor = 0; made = record { step = step; found = found; left = left; tables = None } }

abbrev pub device_makes : CoreStep → ℕ → ℕ → Entry
device_makes step found left = record { actor = 1; made = record { step = step; found = found; left = left; tables = None } }

-- one that takes the ITS, with the maps
abbrev pub takes_its : ℕ → ℕ → Entry
takes_its actor left = record { actor = actor; made = record { step = TurnTake 0; found = 0; left = left; tables = Some discard_maps } }

-- the device fills line 59: it has the ITS, which it found enabled
abbrev pub fill : List Entry
fill = takes_its 1 device_turn ∷ device_makes (RamLook 6) 1 1 ∷ device_makes (LineFill 59 8 3 8195) 0 filled_word ∷ device_makes TurnRelease device_turn 0 ∷ []

-- it posts the message: in the words of the vCPUs, 2 is a kick
abbrev pub post : List Entry
post =
    device_makes (Look (Line 59)) filled_word filled_word
    ∷ device_makes (LineEnter 59 filled_word) filled_word inside_word
    ∷ device_makes (Raise lpi) opened_word raised_word
    ∷ device_makes (Mark lpi 0) 0 (2 ^ 35)
    ∷ device_makes (Kick 0) 0 2
    ∷ device_makes (LineLeave 59) inside_word filled_word
    ∷ []

-- the vCPU takes the ITS and closes all lines, one of which has a message
abbrev pub close : ℕ → Entry
close line = vcpu_makes (LineClose line) (if line == 59 then filled_word else 0) 0

abbrev pub shut : List Entry
shut = takes_its 0 vcpu_turn ∷ map close (range_with_len 0 64)

-- it reads the command, and GITS_CBASER; and it forgets the LPI, and tells its vCPU
abbrev pub fetch : List Entry
fetch = vcpu_makes (RamLook 7) (2 ^ 63) (2 ^ 63) ∷ vcpu_makes (RamLook 0) 0x80000000f 0x80000000f ∷ vcpu_makes (RamLook 1) 3 3 ∷ vcpu_makes (RamLook 2) 0 0 ∷ vcpu_makes (RamLook 3) 0 0 ∷ []

abbrev pub forget : List Entry
forget = vcpu_makes (Touch lpi raised_word Forget) raised_word forgotten_word ∷ vcpu_makes (Mark lpi 0) (2 ^ 35) (2 ^ 35) ∷ vcpu_makes (Kick 0) 2 2 ∷ []

-- the command ends
abbrev pub done : Entry
done = vcpu_makes (CommandDone 32 false (Some discard)) vcpu_turn done_turn

-- the vCPU gives the ITS back, and the device looks for its message
abbrev pub late : List Entry
late = vcpu_makes TurnRelease done_turn 0x20 ∷ device_makes (Look (Line 59)) 0 0 ∷ []

abbrev pub early : List Entry
early = fill ++ post ++ shut ++ fetch ++ forget

-- the run is one, and as the law asks: its command is a discard of the message. Before it the message was stored in a line, and a look found it; after it, it was not, and a
-- look does not find it
pub record WorkedDiscard : Type 0 where
  pub good : CanOpen discard_guest
  pub run : IsRun discard_guest.shape (opening discard_guest 0) (early ++ done ∷ late)
  pub discards : IsTrue (ends_command (is_discard message) done.made.step)
  pub stored : is_stored_in message early ≡ true
  pub found : (line_of filled_word).pair ≡ Some message
  pub not_stored : is_stored_in message late ≡ false
  pub missed : (line_of 0).pair ≡ None
