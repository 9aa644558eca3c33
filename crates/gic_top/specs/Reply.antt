-- What the tool has to write, inside the crate.
use Rattle.std.specs.Prelude.{◌≡◌, ℕ, ◌+◌, List, Option, Some, None, Bool, true, false, codes, ⊤}
use Rattle.serde_json.specs.Data.{Data}
use Rattle.gic_host.specs.GicReport.GicIo.Faults.{HasRisen}
use Rattle.gic_host.specs.GicReport.GicIo.Source.{HasReadCount, HasReadAtMost}
use Rattle.gic_host.specs.GicReport.GicSoak.Generated.{generated}
use Rattle.gic_host.specs.ScnRead.ScnBase.declared.scenario.Scenario.{Scenario}
use Rattle.gic_host.specs.ScnRead.ScnBase.declared.fault.Fault.{Fault}
use Rattle.run_saved.specs.RunSeq.Calls.{RunOut}
use Rattle.gic_host.specs.ScnRead.ScnBase.declared.step.Mode.{Mode}
use Rattle.gic_host.specs.ScnRead.ScnBase.declared.step.Mode.TheVariants.{Schedule, Threads as OnThreads}
use Rattle.gic_host.specs.GicReport.Text.{text as text_in}
use Rattle.gic_host.specs.Text.{text as host_text}
use Rattle.gic_host.specs.declared.scenario.HostScenario.{HostScenario}
use Rattle.image_read.specs.GicResume.GicSave.ScnSaved.declared.saved.Saved.{Saved}
use Rattle.gic_check.specs.TraceRead.declared.trace.Trace.{Trace}
use Rattle.gic_check.specs.TraceTold.declared.verdict.Verdict.TheVariants.{Yes, No}
use Rattle.gic_top.specs.declared.command.Command.{Command}
use Rattle.gic_top.specs.declared.command.Command.TheVariants.{Run, Threads, Soak, Host, Save, Resume, Check}
use Rattle.gic_top.specs.Command.{IsCount}
use Rattle.gic_top.specs.declared.judge.Judged.{Judged}
use Rattle.gic_top.specs.declared.judge.Judged.TheVariants.{Yes as JudgedYes, No as JudgedNo}
use Rattle.gic_top.specs.declared.tool.Way.{Way}
use Rattle.gic_top.specs.declared.tool.Way.TheVariants.{InOrder, OnPes}
use Rattle.gic_top.specs.declared.tool.Asked.{Asked}
use Rattle.gic_top.specs.declared.tool.Asked.TheVariants.{ScenarioRun, FirstSteps, LinksRun, ImageRun, TraceCheck}
use Rattle.gic_top.specs.declared.tool.Reply.{Reply}
use Rattle.gic_top.specs.declared.tool.Reply.TheVariants.{Ran, Refused, Usage, BadJson, BadScenario, ReadFault, TooLong, NoMemory}
use Rattle.gic_top.specs.Tool.{Reading, scenarios, first_steps, links, images, traces, Said, Says, Lacks, SpellsSaid, SpellsFault, IsNoJson, HasInput, MayAnswer, max_input, soak_text, save_text, resume_text, HasVerdict, yes_line, no_line, fault_line, line}

-- the mode of a way to run
abbrev pub mode_of : Way → Mode
mode_of InOrder = Schedule
mode_of (OnPes pes per_turn) = OnThreads

-- there are 1 to 8 PEs, and 1 to 1000 operations of a vCPU while it is on one
abbrev pub IsWay : Way → Type 0
IsWay InOrder = ⊤
IsWay (OnPes pes per_turn) = IsCount 8 pes × IsCount 1000 per_turn

-- what the input is read as
abbrev pub reading_of : Asked → Reading
reading_of (ScenarioRun way) = scenarios (mode_of way)
reading_of (FirstSteps steps) = first_steps steps
reading_of LinksRun = links
reading_of ImageRun = images
reading_of TraceCheck = traces

-- so it is asked for
abbrev pub IsAsked : Asked → Type 0
IsAsked (ScenarioRun way) = IsWay way
IsAsked (FirstSteps steps) = ⊤
IsAsked LinksRun = ⊤
IsAsked ImageRun = ⊤
IsAsked TraceCheck = ⊤

-- whether a run of it is shown to the watch
abbrev pub is_watched : Asked → Bool
is_watched (ScenarioRun way) = true
is_watched (FirstSteps steps) = false
is_watched LinksRun = false
is_watched ImageRun = false
is_watched TraceCheck = false

-- the text is that of what a run of the scenario in this mode, which was shown, may answer
pub record IsRunText (mode : Mode) (showed : Mode → Scenario → Type 0) (scenario : Scenario) (text : List ℕ) : Type 0 where
  pub out : RunOut
  pub shown : showed mode scenario
  pub answers : MayAnswer mode scenario out
  pub text_is : text ≡ text_in scenario out

-- the text is that of a run with links
abbrev pub IsHostText : HostScenario → List ℕ → Type 0
IsHostText scenario text = text ≡ host_text scenario

-- the text is the image of what is saved after so many steps
abbrev pub IsSaveText : ℕ → Scenario → List ℕ → Type 0
IsSaveText steps scenario text = text ≡ save_text steps scenario

-- the text is that of what is left of a saved run
abbrev pub IsResumeText : Saved → List ℕ → Type 0
IsResumeText saved text = text ≡ resume_text saved

-- the text is the line of a trace that can be
pub record IsYesText (trace : Trace) (text : List ℕ) : Type 0 where
  pub verdict : HasVerdict trace Yes
  pub text_is : text ≡ yes_line trace

-- the text is the line of a trace that cannot
pub record IsNoText (trace : Trace) (text : List ℕ) : Type 0 where
  pub index : ℕ
  pub verdict : HasVerdict trace (No index)
  pub text_is : text ≡ no_line index

-- the line is that of a trace's verdict
abbrev pub IsLineOf : Trace → Judged → Type 0
IsLineOf trace (JudgedYes line) = IsYesText trace line
IsLineOf trace (JudgedNo line) = IsNoText trace line

-- the text refuses what was read so: a trace that cannot be, and nothing else
abbrev pub IsRefusalOf : (reading : Reading) → Said reading → List ℕ → Type 0
IsRefusalOf (scenarios mode) scenario text = ⊥
IsRefusalOf (first_steps steps) scenario text = ⊥
IsRefusalOf links scenario text = ⊥
IsRefusalOf images saved text = ⊥
IsRefusalOf traces trace text = IsNoText trace text

-- the text is one that a run of what was read may give
abbrev pub IsTextOf : (reading : Reading) → (Mode → Scenario → Type 0) → Said reading → List ℕ → Type 0
IsTextOf (scenarios mode) showed = IsRunText mode showed
IsTextOf (first_steps steps) showed = IsSaveText steps
IsTextOf links showed = IsHostText
IsTextOf images showed = IsResumeText
IsTextOf traces showed = IsYesText

-- the status of a reply
abbrev pub status_of : Reply → ℕ
status_of (Ran text) = 0
status_of (Refused text) = 1
status_of Usage = 2
status_of BadJson = 3
status_of (BadScenario text) = 4
status_of ReadFault = 5
status_of TooLong = 7
status_of NoMemory = 9

-- what is written of it
abbrev pub text_of : Reply → List ℕ
text_of (Ran text) = text
text_of (Refused text) = text
text_of Usage = line (codes "usage")
text_of BadJson = line (codes "bad json")
text_of (BadScenario text) = text
text_of ReadFault = line (codes "read fault")
text_of TooLong = line (codes "too long")
text_of NoMemory = line (codes "no memory")

-- no run is made before such a reply
abbrev pub IsUnrun : Reply → Type 0
IsUnrun (Ran text) = ⊥
IsUnrun (Refused text) = ⊤
IsUnrun Usage = ⊤
IsUnrun BadJson = ⊤
IsUnrun (BadScenario text) = ⊤
IsUnrun ReadFault = ⊤
IsUnrun TooLong = ⊤
IsUnrun NoMemory = ⊥

-- nothing that a value says, read so, stands beside a fault of it
abbrev pub AreApart : Reading → Data → Type 0
AreApart reading value = (what : Said reading) (fault : Fault) → Says reading value what → Lacks reading value fault → ⊥

-- the bytes spell this, read so, and no fault
pub record SpellsOnly (reading : Reading) (bytes : List ℕ) (what : Said reading) : Type 0 where
  pub spelled : SpellsSaid reading bytes what
  pub alone : (fault : Fault) → SpellsFault reading bytes fault → ⊥

-- the bytes spell this fault, read so, and nothing else
pub record SpellsNothing (reading : Reading) (bytes : List ℕ) (fault : Fault) : Type 0 where
  pub spelled : SpellsFault reading bytes fault
  pub alone : (what : Said reading) → SpellsSaid reading bytes what → ⊥

-- the reply is the one to a value that is read so; `Gives` says which texts a run of what was read may give
abbrev pub IsValueReply : (reading : Reading) → (Said reading → List ℕ → Type 0) → Data → Reply → Type 0
IsValueReply reading Gives value (Ran text) = (what : Said reading) × Says reading value what × Gives what text
IsValueReply reading Gives value (Refused text) = (what : Said reading) × Says reading value what × IsRefusalOf reading what text
IsValueReply reading Gives value Usage = ⊥
IsValueReply reading Gives value BadJson = ⊥
IsValueReply reading Gives value (BadScenario text) = (fault : Fault) × Lacks reading value fault × (text ≡ fault_line fault)
IsValueReply reading Gives value ReadFault = ⊥
IsValueReply reading Gives value TooLong = ⊥
IsValueReply reading Gives value NoMemory = ⊥

-- the reply is the one to these bytes, read so; `showed` says the run of which scenario the watch was shown, in which mode
abbrev pub IsReplyTo : (reading : Reading) → (Mode → Scenario → Type 0) → List ℕ → Reply → Type 0
IsReplyTo reading showed bytes (Ran text) = (what : Said reading) × SpellsOnly reading bytes what × IsTextOf reading showed what text
IsReplyTo reading showed bytes (Refused text) = (what : Said reading) × SpellsOnly reading bytes what × IsRefusalOf reading what text
IsReplyTo reading showed bytes Usage = ⊥
IsReplyTo reading showed bytes BadJson = IsNoJson bytes
IsReplyTo reading showed bytes (BadScenario text) = (fault : Fault) × SpellsNothing reading bytes fault × (text ≡ fault_line fault)
IsReplyTo reading showed bytes ReadFault = ⊥
IsReplyTo reading showed bytes TooLong = ⊥
IsReplyTo reading showed bytes NoMemory = ⊤

-- the reply is the one to what a source gave
abbrev pub IsReplyOf : (reading : Reading) → (Mode → Scenario → Type 0) → Option (List ℕ) → Option (List ℕ) → ℕ → ℕ → Reply → Type 0
IsReplyOf reading showed before after faults_before faults_after (Ran text) =
    (what : Said reading) × HasInput before after (λ bytes. SpellsOnly reading bytes what) × IsTextOf reading showed what text
IsReplyOf reading showed before after faults_before faults_after (Refused text) =
    (what : Said reading) × HasInput before after (λ bytes. SpellsOnly reading bytes what) × IsRefusalOf reading what text
IsReplyOf reading showed before after faults_before faults_after Usage = ⊥
IsReplyOf reading showed before after faults_before faults_after BadJson = HasInput before after IsNoJson
IsReplyOf reading showed before after faults_before faults_after (BadScenario text) =
    (fault : Fault) × HasInput before after (λ bytes. SpellsNothing reading bytes fault) × (text ≡ fault_line fault)
IsReplyOf reading showed before after faults_before faults_after ReadFault = HasRisen faults_before faults_after
IsReplyOf reading showed before after faults_before faults_after TooLong = HasReadCount before after (max_input + 1)
IsReplyOf reading showed before after faults_before faults_after NoMemory = HasReadAtMost before after max_input

-- the reply is the one to `soak`
abbrev pub IsSoakReply : (Scenario → Type 0) → ℕ → ℕ → Reply → Type 0
IsSoakReply showed number steps (Ran text) = showed (generated number steps) × (text ≡ soak_text number steps)
IsSoakReply showed number steps (Refused text) = ⊥
IsSoakReply showed number steps Usage = ⊥
IsSoakReply showed number steps BadJson = ⊥
IsSoakReply showed number steps (BadScenario text) = ⊥
IsSoakReply showed number steps ReadFault = ⊥
IsSoakReply showed number steps TooLong = ⊥
IsSoakReply showed number steps NoMemory = ⊤

-- the reply is the one to a command, or to words that are none, and to what a source gave
abbrev pub IsReplyFor : (Mode → Scenario → Type 0) → Option Command → Option (List ℕ) → Option (List ℕ) → ℕ → ℕ → Reply → Type 0
IsReplyFor showed (Some Run) before after faults_before faults_after reply = IsReplyOf (scenarios Schedule) showed before after faults_before faults_after reply
IsReplyFor showed (Some (Threads pes per_turn)) before after faults_before faults_after reply =
    IsReplyOf (scenarios OnThreads) showed before after faults_before faults_after reply
IsReplyFor showed (Some (Soak number steps)) before after faults_before faults_after reply = (after ≡ before) × IsSoakReply (showed Schedule) number steps reply
IsReplyFor showed (Some Host) before after faults_before faults_after reply = IsReplyOf links showed before after faults_before faults_after reply
IsReplyFor showed (Some (Save steps)) before after faults_before faults_after reply = IsReplyOf (first_steps steps) showed before after faults_before faults_after reply
IsReplyFor showed (Some Resume) before after faults_before faults_after reply = IsReplyOf images showed before after faults_before faults_after reply
IsReplyFor showed (Some Check) before after faults_before faults_after reply = IsReplyOf traces showed before after faults_before faults_after reply
IsReplyFor showed None before after faults_before faults_after reply = reply ≡ Usage
