-- How the program goes through the commands of a call: what it keeps, as the stage that it stands for (own choice).
use Rattle.std.specs.Prelude.{ℕ, Bool, true, false, List, [], drop, Option, if◌then◌else◌}
use Rattle.std.specs.Option.{option_map_or}
use Rattle.history_commands.specs.Words.{GuestShape}
use Rattle.history_commands.specs.Registers.{Maps}
use Rattle.history_commands.specs.Calls.{Event, Touch, Found, Record, Happened, View, takes_command, command_parts, command_places}
use Rattle.history_commands.specs.GicCall.declared.event.Event.TheVariants.{Raise}
use Rattle.history_commands.specs.GicCall.declared.event.Found.TheVariants.{Nothing}
use Rattle.history_commands.specs.declared.its.Its.{Its}
use Rattle.history_commands.specs.declared.walk.Step.{Step}
use Rattle.history_commands.specs.declared.walk.Step.TheVariants.{BetweenCommands, InCommand, AtEnd, AfterEnd}
use Rattle.history_commands.specs.declared.walk.Walk.{Walk}
use Rattle.history_commands.specs.Known.{view_by}
use Rattle.history_commands.specs.Stage.{Stage, Between, Within, Ending, Over, AreReadBy}

-- before the first command, with the ITS so; where none is taken, the ITS is given back next
abbrev pub stage_from : Maps → Option Its → Stage
stage_from maps start = option_map_or (λ its. Between 0 its maps []) start Ending

-- the stage that a walk is at, where it is at this step
abbrev pub stage_at : Step → Walk → Stage
stage_at BetweenCommands walk = Between walk.number walk.its walk.tables walk.reads
stage_at InCommand walk = Within walk.number walk.its walk.tables walk.fetch (drop walk.made walk.parts) walk.reads
stage_at AtEnd walk = Ending
stage_at AfterEnd walk = Over

-- the stage that it has come to
abbrev pub stage_of : Walk → Stage
stage_of walk = stage_at walk.step walk

-- as an event that is named comes: the next command begins, or none is taken and the end comes
abbrev pub begun : GuestShape → (ℕ → ℕ → Option ℕ) → Stage → Stage
begun shape targets (Between number its maps reads) =
    let view = view_by its maps (targets number) reads in if takes_command view then Within number its maps reads (command_parts shape view) reads else Ending
begun shape targets stage = stage

-- the doublewords of the next command were read, if one is taken
abbrev pub IsFetched : GuestShape → View → List Happened → Bool → Type 0
IsFetched shape view reads true = AreReadBy view reads (command_places shape view)
IsFetched shape view reads false = Unit {0}

-- those of the command that begins were, if one does
abbrev pub CanBegin : GuestShape → (ℕ → ℕ → Option ℕ) → Stage → Type 0
CanBegin shape targets (Between number its maps reads) = let view = view_by its maps (targets number) reads in IsFetched shape view reads (takes_command view)
CanBegin shape targets stage = Unit {0}

-- a raise hands out nothing, and a touch some record
abbrev pub hands_some : Event → Found → Bool
hands_some (Touch key touching) (Record irq) = true
hands_some (Raise key) Nothing = true
hands_some event found = false
