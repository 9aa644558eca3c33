-- What the top call answers to words and an input (own choice).
use Rattle.std.specs.Prelude.{◌≡◌, ℕ, ◌+◌, ◌-◌, ◌^◌, ◌<◌, ◌≤◌, ◌⊎◌, nat_le, List, [], ◌∷◌, ◌++◌, length, codes, decimal, IsUtf8, Bool, true, false, if◌then◌else◌, Option, Some, None, IfSome, OnSome, IsSome, Result, Ok, Err}
use Rattle.serde_json.specs.Data.{Data}
use Rattle.serde_json.specs.Read.{read}
use Rattle.serde_json.specs.Written.{compact_text}
use Rattle.run_saved.specs.RunSeq.LawEagerIsHistory.Possible.{IsPossible}
use Rattle.gic_host.specs.GicReport.GicIo.Faults.{HasRisen}
use Rattle.gic_host.specs.GicReport.GicIo.Sink.{Grew, GrewByPrefix}
use Rattle.gic_host.specs.GicReport.GicIo.Source.{HasReadCount, HasReadAtMost}
use Rattle.gic_host.specs.ScnRead.ScnBase.declared.scenario.Scenario.{Scenario}
use Rattle.run_saved.specs.RunSeq.Calls.{RunOut}
use Rattle.gic_host.specs.ScnRead.ScnBase.declared.step.Mode.{Mode}
use Rattle.gic_host.specs.ScnRead.ScnBase.declared.step.Mode.TheVariants.{Schedule, Threads as OnThreads}
use Rattle.gic_host.specs.ScnRead.ScnBase.declared.fault.Fault.{Fault}
use Rattle.gic_host.specs.ScnRead.Reading.{reading as scenario_in}
use Rattle.gic_host.specs.ScnRead.ScnBase.Shown.{fault_text}
use Rattle.run_saved.specs.RunSeq.GicIdeal.Eager.{eager}
use Rattle.gic_host.specs.GicReport.GicSoak.Generated.{generated}
use Rattle.gic_host.specs.GicReport.Text.{text, newline}
use Rattle.gic_host.specs.GicReport.Rest.{text_saved}
use Rattle.gic_host.specs.GicReport.Soak.{soak_line}
use Rattle.gic_host.specs.declared.scenario.HostScenario.{HostScenario}
use Rattle.gic_host.specs.Reading.{reading as links_in}
use Rattle.gic_host.specs.Text.{text as host_text}
use Rattle.image_read.specs.GicResume.GicSave.ScnSaved.declared.saved.Saved.{Saved}
use Rattle.image_read.specs.GicResume.GicSave.Image.{image_of}
use Rattle.image_read.specs.GicResume.Reading.{IsImage, IsNoImage}
use Rattle.run_saved.specs.SavedTake.Taken.{saved_of}
use Rattle.run_saved.specs.SavesGoOn.Resume.{reached, resumed}
use Rattle.gic_check.specs.Histories.{opening_guest}
use Rattle.gic_check.specs.TraceRead.declared.trace.Trace.{Trace}
use Rattle.gic_check.specs.TraceRead.Reading.{reading as trace_in}
use Rattle.gic_check.specs.TraceTold.Verdict.{IsVerdict}
use Rattle.gic_check.specs.TraceTold.declared.verdict.Verdict.{Verdict}
use Rattle.gic_check.specs.TraceTold.declared.verdict.Verdict.TheVariants.{Yes, No}
use Rattle.gic_top.specs.declared.command.Command.{Command}
use Rattle.gic_top.specs.declared.command.Command.TheVariants.{Run, Threads, Soak, Host, Save, Resume, Check}

-- the bytes are UTF-8, and JSON that reads as this value
pub record Spells (bytes : List ℕ) (value : Data) : Type 0 where
  pub utf8 : IsUtf8 bytes
  pub reads : read bytes ≡ Some value

-- the bytes are no JSON
abbrev pub IsNoJson : List ℕ → Type 0
IsNoJson bytes = (value : Data) → Spells bytes value → ⊥

-- what an input is read as: a scenario, to be run in a mode or of which so many steps are to be done, links of physical interrupts, an image, or a trace
pub data Reading : Type 0 where
  scenarios : Mode → Reading
  first_steps : ℕ → Reading
  links : Reading
  images : Reading
  traces : Reading

-- what is read so
abbrev pub Said : Reading → Type 0
Said (scenarios mode) = Scenario
Said (first_steps steps) = Scenario
Said links = HostScenario
Said images = Saved
Said traces = Trace

-- the fault of a scenario that has fewer steps than are to be done
abbrev pub step_range : Fault
step_range = record { code = 13; step = 0 }

-- a scenario of which so many steps are to be done, or its fault
abbrev pub long_enough : ℕ → Result Scenario Fault → Result Scenario Fault
long_enough steps (Ok scenario) = if nat_le steps (length scenario.steps) then Ok scenario else Err step_range
long_enough steps (Err fault) = Err fault

abbrev pub first_steps_in : ℕ → Data → Result Scenario Fault
first_steps_in steps value = long_enough steps (scenario_in Schedule value)

-- a value says this, read so
abbrev pub Says : (reading : Reading) → Data → Said reading → Type 0
Says (scenarios mode) value scenario = scenario_in mode value ≡ Ok scenario
Says (first_steps steps) value scenario = first_steps_in steps value ≡ Ok scenario
Says links value scenario = links_in value ≡ Ok scenario
Says images value saved = IsImage value saved
Says traces value trace = trace_in value ≡ Ok trace

-- a value has this fault, read so
abbrev pub Lacks : Reading → Data → Fault → Type 0
Lacks (scenarios mode) value fault = scenario_in mode value ≡ Err fault
Lacks (first_steps steps) value fault = first_steps_in steps value ≡ Err fault
Lacks links value fault = links_in value ≡ Err fault
Lacks images value fault = IsNoImage value fault
Lacks traces value fault = trace_in value ≡ Err fault

-- the bytes spell a value that says this, read so
pub record SpellsSaid (reading : Reading) (bytes : List ℕ) (what : Said reading) : Type 0 where
  pub value : Data
  pub spelled : Spells bytes value
  pub said_is : Says reading value what

-- the bytes spell a value that has this fault, read so
pub record SpellsFault (reading : Reading) (bytes : List ℕ) (fault : Fault) : Type 0 where
  pub value : Data
  pub spelled : Spells bytes value
  pub fault_is : Lacks reading value fault

-- the bytes spell this scenario, to be run in this mode
abbrev pub SpellsScenario : Mode → List ℕ → Scenario → Type 0
SpellsScenario mode bytes scenario = SpellsSaid (scenarios mode) bytes scenario

-- the bytes spell these links and the steps of a run with them
abbrev pub SpellsLinks : List ℕ → HostScenario → Type 0
SpellsLinks bytes scenario = SpellsSaid links bytes scenario

-- the bytes spell this scenario, of which so many steps are to be done
abbrev pub SpellsFirst : ℕ → List ℕ → Scenario → Type 0
SpellsFirst steps bytes scenario = SpellsSaid (first_steps steps) bytes scenario

-- the bytes spell an image of this saved run
abbrev pub SpellsImage : List ℕ → Saved → Type 0
SpellsImage bytes saved = SpellsSaid images bytes saved

-- the bytes spell this trace
abbrev pub SpellsTrace : List ℕ → Trace → Type 0
SpellsTrace bytes trace = SpellsSaid traces bytes trace

-- what a run may answer: where steps are done in order, what the ideal controller answers; on threads, what it answers in a fresh history that holds each actor's steps in order
abbrev pub MayAnswer : Mode → Scenario → RunOut → Type 0
MayAnswer Schedule scenario out = out ≡ eager scenario
MayAnswer OnThreads scenario out = IsPossible scenario out

-- the line of the run, by the ideal controller, of the scenario that a number stands for
abbrev pub soak_text : ℕ → ℕ → List ℕ
soak_text number steps = soak_line number (eager (generated number steps)).answers

-- the line of a message
abbrev pub line : List ℕ → List ℕ
line message = message ++ newline

-- the line of the image of a scenario after so many of its steps: of the ideal controller's state then
unfoldable pub save_text : ℕ → Scenario → List ℕ
save_text steps scenario = line (compact_text (image_of (saved_of scenario steps (reached scenario steps))))

-- the text of what is left of a saved run, by the ideal controller from the state that was saved
unfoldable pub resume_text : Saved → List ℕ
resume_text saved = text_saved saved (resumed saved)

-- a trace has this verdict: whether it can be a record of what the actors of its guest did
abbrev pub HasVerdict : Trace → Verdict → Type 0
HasVerdict trace verdict = IsVerdict (opening_guest trace.guest) trace.events verdict

-- the line of a trace that can be, with how many events it has
abbrev pub yes_line : Trace → List ℕ
yes_line trace = line (codes "yes " ++ decimal (length trace.events))

-- and that of one that cannot, with the least number of its first events that cannot
abbrev pub no_line : ℕ → List ℕ
no_line index = line (codes "no " ++ decimal index)

-- the message of a fault
abbrev pub fault_line : Fault → List ℕ
fault_line fault = line (codes "bad scenario: " ++ fault_text fault)

-- the most bytes of an input
abbrev pub max_input : ℕ
max_input = 16777216

-- the statuses of the table of answers, beside which there are none
abbrev pub statuses : List ℕ
statuses = 0 ∷ 1 ∷ 2 ∷ 3 ∷ 4 ∷ 5 ∷ 6 ∷ 7 ∷ 9 ∷ []

-- a watch that was shown `before` runs was shown one more, the last; where it tells the scenario of that, it is this one
pub record WasShown (before after : ℕ) (last : Option Scenario) (scenario : Scenario) : Type 0 where
  pub counted : after ≡ before + 1
  pub told : IfSome last (λ shown. shown ≡ scenario)

-- of each mode, the run of which scenario the watch was shown
abbrev pub ShownIn : (Scenario → Type 0) → (Scenario → Type 0) → Mode → Scenario → Type 0
ShownIn scheduled threaded Schedule = scheduled
ShownIn scheduled threaded OnThreads = threaded

-- so it is between a watch and what it became, by what it tells of both kinds of runs
abbrev pub Showed : {Watch : Type 0} → (Watch → ℕ) → (Watch → Option Scenario) → (Watch → ℕ) → (Watch → Option Scenario) → Watch → Watch → Mode → Scenario → Type 0
Showed scheduled last_schedule threaded last_threads old new =
    ShownIn (WasShown (scheduled old) (scheduled new) (last_schedule new)) (WasShown (threaded old) (threaded new) (last_threads new))

-- the most runs of a kind that a watch counts
abbrev pub most_runs : ℕ
most_runs = 2 ^ 64 - 1

-- what a command reads its input as; none where it reads none
abbrev pub input_reading : Option Command → Option Reading
input_reading (Some Run) = Some (scenarios Schedule)
input_reading (Some (Threads pes per_turn)) = Some (scenarios OnThreads)
input_reading (Some (Soak number steps)) = None
input_reading (Some Host) = Some links
input_reading (Some (Save steps)) = Some (first_steps steps)
input_reading (Some Resume) = Some images
input_reading (Some Check) = Some traces
input_reading None = None

-- whether the run that a command makes is shown to the watch
abbrev pub is_shown : Option Command → Bool
is_shown (Some Run) = true
is_shown (Some (Threads pes per_turn)) = true
is_shown (Some (Soak number steps)) = true
is_shown (Some Host) = false
is_shown (Some (Save steps)) = false
is_shown (Some Resume) = false
is_shown (Some Check) = false
is_shown None = false

-- The rows of the table of answers to a command, or to words that are none. Where the source told the bytes that it had left before the call, they are `before`, and
-- `after` those that it then has left; `wrote` says what the sink took, and `showed` the run of which scenario the watch was shown, in which mode.

-- an input was read to its end, which is within the limit, and P holds of it, where it was told
pub record HasInput (before after : Option (List ℕ)) (P : List ℕ → Type 0) : Type 0 where
  pub input : IfSome before P
  pub within : IfSome before (λ bytes. length bytes ≤ max_input)
  pub to_end : OnSome before (after ≡ Some [])

-- a scenario was read, its run in this mode shown, and the text of what that may answer written
pub record IsRun (mode : Mode) (before after : Option (List ℕ)) (wrote : List ℕ → Type 0) (showed : Mode → Scenario → Type 0) : Type 0 where
  pub scenario : Scenario
  pub out : RunOut
  pub read : HasInput before after (λ bytes. SpellsScenario mode bytes scenario)
  pub shown : showed mode scenario
  pub answers : MayAnswer mode scenario out
  pub written : wrote (text scenario out)

-- nothing was read, the run of a number's scenario shown, and its line written
pub record IsSoak (number steps : ℕ) (before after : Option (List ℕ)) (wrote : List ℕ → Type 0) (showed : Mode → Scenario → Type 0) : Type 0 where
  pub unread : after ≡ before
  pub shown : showed Schedule (generated number steps)
  pub written : wrote (soak_text number steps)

-- links and steps were read, and the text of their run written
pub record IsHosted (before after : Option (List ℕ)) (wrote : List ℕ → Type 0) : Type 0 where
  pub scenario : HostScenario
  pub read : HasInput before after (λ bytes. SpellsLinks bytes scenario)
  pub written : wrote (host_text scenario)

-- a scenario was read, and the image of what is saved after so many of its steps written
pub record IsSave (steps : ℕ) (before after : Option (List ℕ)) (wrote : List ℕ → Type 0) : Type 0 where
  pub scenario : Scenario
  pub read : HasInput before after (λ bytes. SpellsFirst steps bytes scenario)
  pub written : wrote (save_text steps scenario)

-- an image was read, and the text of what is left of its run written
pub record IsResumed (before after : Option (List ℕ)) (wrote : List ℕ → Type 0) : Type 0 where
  pub saved : Saved
  pub read : HasInput before after (λ bytes. SpellsImage bytes saved)
  pub written : wrote (resume_text saved)

-- a trace was read that can be, and its line written
pub record IsAccepted (before after : Option (List ℕ)) (wrote : List ℕ → Type 0) : Type 0 where
  pub trace : Trace
  pub read : HasInput before after (λ bytes. SpellsTrace bytes trace)
  pub verdict : HasVerdict trace Yes
  pub written : wrote (yes_line trace)

-- what a command asks for was done
abbrev pub IsOk : Option Command → Option (List ℕ) → Option (List ℕ) → (List ℕ → Type 0) → (Mode → Scenario → Type 0) → Type 0
IsOk (Some Run) before after wrote showed = IsRun Schedule before after wrote showed
IsOk (Some (Threads pes per_turn)) before after wrote showed = IsRun OnThreads before after wrote showed
IsOk (Some (Soak number steps)) before after wrote showed = IsSoak number steps before after wrote showed
IsOk (Some Host) before after wrote showed = IsHosted before after wrote
IsOk (Some (Save steps)) before after wrote showed = IsSave steps before after wrote
IsOk (Some Resume) before after wrote showed = IsResumed before after wrote
IsOk (Some Check) before after wrote showed = IsAccepted before after wrote
IsOk None before after wrote showed = ⊥

-- a trace was read that cannot be, and its line written
pub record IsRefused (command : Option Command) (before after : Option (List ℕ)) (wrote : List ℕ → Type 0) : Type 0 where
  pub trace : Trace
  pub index : ℕ
  pub asked : command ≡ Some Check
  pub read : HasInput before after (λ bytes. SpellsTrace bytes trace)
  pub verdict : HasVerdict trace (No index)
  pub written : wrote (no_line index)

-- the words are no command
pub record IsUsage (command : Option Command) (wrote : List ℕ → Type 0) : Type 0 where
  pub asked : command ≡ None
  pub written : wrote (line (codes "usage"))

-- the input is no JSON
pub record IsBadJson (command : Option Command) (before after : Option (List ℕ)) (wrote : List ℕ → Type 0) : Type 0 where
  pub asked : IsSome (input_reading command)
  pub read : HasInput before after IsNoJson
  pub written : wrote (line (codes "bad json"))

-- the input spells a value that has a fault as what the command reads
pub record IsBadScenario (command : Option Command) (before after : Option (List ℕ)) (wrote : List ℕ → Type 0) : Type 0 where
  pub reading : Reading
  pub fault : Fault
  pub asked : input_reading command ≡ Some reading
  pub read : HasInput before after (λ bytes. SpellsFault reading bytes fault)
  pub written : wrote (fault_line fault)

-- the source's count of faults rose
pub record IsReadFault (command : Option Command) (faults_before faults_after : ℕ) (wrote : List ℕ → Type 0) : Type 0 where
  pub asked : IsSome (input_reading command)
  pub risen : HasRisen faults_before faults_after
  pub written : wrote (line (codes "read fault"))

-- more bytes than the limit were taken from the source
pub record IsTooLong (command : Option Command) (before after : Option (List ℕ)) (wrote : List ℕ → Type 0) : Type 0 where
  pub asked : IsSome (input_reading command)
  pub taken : HasReadCount before after (max_input + 1)
  pub written : wrote (line (codes "too long"))

-- memory was refused, before more bytes than the limit were taken from the source
pub record IsNoMemory (command : Option Command) (before after : Option (List ℕ)) (wrote : List ℕ → Type 0) : Type 0 where
  pub asked : IsSome command
  pub taken : HasReadAtMost before after max_input
  pub written : wrote (line (codes "no memory"))

-- the row of a status, each but that of a fault of the sink
abbrev pub IsRow : Option Command → Option (List ℕ) → Option (List ℕ) → ℕ → ℕ → (List ℕ → Type 0) → (Mode → Scenario → Type 0) → ℕ → Type 0
IsRow command before after faults_before faults_after wrote showed status =
    ((status ≡ 0) × IsOk command before after wrote showed)
    ⊎ (((status ≡ 1) × IsRefused command before after wrote)
    ⊎ (((status ≡ 2) × IsUsage command wrote)
    ⊎ (((status ≡ 3) × IsBadJson command before after wrote)
    ⊎ (((status ≡ 4) × IsBadScenario command before after wrote)
    ⊎ (((status ≡ 5) × IsReadFault command faults_before faults_after wrote)
    ⊎ (((status ≡ 7) × IsTooLong command before after wrote)
    ⊎ ((status ≡ 9) × IsNoMemory command before after wrote)))))))

-- the sink's count of faults rose, and the sink took some first bytes of what another row gives
pub record IsWriteFault (command : Option Command) (before after : Option (List ℕ)) (faults_before faults_after : ℕ) (taken_before taken_after : Option (List ℕ)) (sink_before sink_after : ℕ) (showed : Mode → Scenario → Type 0) : Type 0 where
  pub risen : HasRisen sink_before sink_after
  pub other : ℕ
  pub row : IsRow command before after faults_before faults_after (GrewByPrefix taken_before taken_after) showed other

-- the whole table: what a status says of the command, of the source, of what the sink took, and of the run that was shown
pub record IsOutcome (command : Option Command) (before after : Option (List ℕ)) (faults_before faults_after : ℕ) (taken_before taken_after : Option (List ℕ)) (sink_before sink_after : ℕ) (showed : Mode → Scenario → Type 0) (status : ℕ) : Type 0 where
  pub row : IsRow command before after faults_before faults_after (Grew taken_before taken_after) showed status
      ⊎ ((status ≡ 6) × IsWriteFault command before after faults_before faults_after taken_before taken_after sink_before sink_after showed)

-- `text` was written, and the status is its own; or the sink's count of faults rose, and the sink took some first bytes
pub record IsWritten (taken_before taken_after : Option (List ℕ)) (sink_before sink_after : ℕ) (text : List ℕ) (own status : ℕ) : Type 0 where
  pub written : ((status ≡ own) × Grew taken_before taken_after text)
      ⊎ ((status ≡ 6) × HasRisen sink_before sink_after × GrewByPrefix taken_before taken_after text)

-- memory for the words was refused, and that was written
abbrev pub IsRefusal : Option (List ℕ) → Option (List ℕ) → ℕ → ℕ → ℕ → Type 0
IsRefusal taken_before taken_after sink_before sink_after status =
    IsWritten taken_before taken_after sink_before sink_after (line (codes "no memory")) 9 status

-- a trace has the status of its verdict, where memory is not refused
abbrev pub IsJudged : Trace → ℕ → Type 0
IsJudged trace status = ((status ≡ 0) × HasVerdict trace Yes) ⊎ (((status ≡ 1) × (index : ℕ) × HasVerdict trace (No index)) ⊎ (status ≡ 9))

-- what was read so has this status: a trace that of its verdict, and all else that of a run
abbrev pub IsAnswered : (reading : Reading) → Said reading → ℕ → Type 0
IsAnswered (scenarios mode) scenario status = (status ≡ 0) ⊎ (status ≡ 9)
IsAnswered (first_steps steps) scenario status = (status ≡ 0) ⊎ (status ≡ 9)
IsAnswered links scenario status = (status ≡ 0) ⊎ (status ≡ 9)
IsAnswered images saved status = (status ≡ 0) ⊎ (status ≡ 9)
IsAnswered traces trace status = IsJudged trace status

-- every input that is read so has its answer, where memory is not refused
pub record HasItsAnswer (reading : Reading) (bytes : List ℕ) (status : ℕ) : Type 0 where
  pub accepted : (what : Said reading) → SpellsSaid reading bytes what → length bytes ≤ max_input → IsAnswered reading what status
  pub no_json : IsNoJson bytes → length bytes ≤ max_input → (status ≡ 3) ⊎ (status ≡ 9)
  pub faulty : (fault : Fault) → SpellsFault reading bytes fault → length bytes ≤ max_input → (status ≡ 4) ⊎ (status ≡ 9)
  pub too_long : max_input < length bytes → (status ≡ 7) ⊎ (status ≡ 9)
