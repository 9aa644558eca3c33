-- The rows of the table of answers, from what the tool has to write.
use Rattle.std.proofs.Common.{◌≡◌, ℕ, ◌+◌, ◌<◌, ◌≤◌, ◌⊎◌, List, [], ◌++◌, length, Contains, codes, lit<, lit≤, Option, Some, None, IfSome, OnSome, IsSome, IsSomeAnd, Result, Ok, Err, IfOk, OnOk, length-append, append-nil, inl, inr, refl, sym, ap, ◌∙◌, subst, arith}
use Rattle.std.specs.Result.{result_unwrap_or}
use Rattle.std.proofs.lemmas.Option.{same_Some}
use Rattle.gic_host.specs.GicReport.GicIo.Faults.{HasRisen}
use Rattle.gic_host.specs.GicReport.GicIo.Sink.{Grew, GrewByPrefix}
use Rattle.gic_host.specs.GicReport.GicIo.Source.{HasReadCount, HasReadAtMost}
use Rattle.serde_json.specs.Data.{Data}
use Rattle.gic_host.specs.ScnRead.ScnBase.declared.scenario.Scenario.{Scenario}
use Rattle.gic_host.specs.ScnRead.ScnBase.declared.fault.Fault.{Fault}
use Rattle.gic_host.specs.ScnRead.Reading.{reading as scenario_in}
use Rattle.gic_host.specs.Reading.{reading as links_in}
use Rattle.gic_host.specs.ScnRead.ScnBase.declared.step.Mode.{Mode}
use Rattle.gic_host.specs.ScnRead.ScnBase.declared.step.Mode.TheVariants.{Schedule, Threads as OnThreads}
use Rattle.gic_host.specs.declared.scenario.HostScenario.{HostScenario}
use Rattle.image_read.specs.GicResume.GicSave.ScnSaved.declared.saved.Saved.{Saved}
use Rattle.gic_check.specs.TraceRead.declared.trace.Trace.{Trace}
use Rattle.gic_check.specs.TraceRead.Reading.{reading as trace_in}
use Rattle.gic_top.specs.declared.command.Command.{Command}
use Rattle.gic_top.specs.declared.command.Command.TheVariants.{Run, Threads, Soak, Host, Save, Resume, Check}
use Rattle.gic_top.specs.declared.tool.Reply.{Reply}
use Rattle.gic_top.specs.declared.tool.Reply.TheVariants.{Ran, Refused, Usage, BadJson, BadScenario, ReadFault, TooLong, NoMemory}
use Rattle.gic_check.specs.TraceTold.declared.verdict.Verdict.TheVariants.{Yes, No}
use Rattle.gic_top.specs.Tool.{max_input, statuses, HasVerdict, Reading, scenarios, first_steps, links, images, traces, Said, Says, Lacks, first_steps_in, input_reading, line, HasInput, IsNoJson, Spells, SpellsSaid, SpellsFault, IsRun, IsHosted, IsSave, IsResumed, IsAccepted, IsRefused, IsOk, IsUsage, IsBadJson, IsBadScenario, IsReadFault, IsWriteFault, IsTooLong, IsNoMemory, IsRow, IsOutcome, IsWritten, IsRefusal, IsAnswered, HasItsAnswer, WasShown}
use Rattle.gic_top.specs.Reply.{status_of, text_of, AreApart, SpellsOnly, SpellsNothing, IsRefusalOf, IsTextOf, IsValueReply, IsReplyTo, IsReplyOf, IsSoakReply, IsReplyFor, IsUnrun}

-- one more run was shown, and where the watch tells of which scenario, it tells this
pub shown_once : {A E : Type 0} (result : Result A E) (before after : ℕ) (last : Option Scenario) (scenario : Scenario) → OnOk result (after ≡ before + 1) → OnOk result (IfSome last (λ shown. shown ≡ scenario))
    → OnOk result (WasShown before after last scenario)
shown_once (Ok value) before after last scenario counted told = record { counted = counted; told = told }
shown_once (Err error) before after last scenario counted told = tt

-- an input of which P holds, where each of its bytes' readings gives Q
as_input : (before after : Option (List ℕ)) (P Q : List ℕ → Type 0) → ((bytes : List ℕ) → P bytes → Q bytes) → HasInput before after P → HasInput before after Q
as_input before after P Q gives read = record { input = each before read.input; within = read.within; to_end = read.to_end }
  where
    each : (told : Option (List ℕ)) → IfSome told P → IfSome told Q
    each None holds = tt
    each (Some bytes) holds = gives bytes holds

-- only `check` reads a trace
asks_check : (command : Option Command) → input_reading command ≡ Some traces → command ≡ Some Check
asks_check None is = let clash : ◌≡◌ {A = Option Reading} None (Some traces) = is in absurd cc
asks_check (Some Run) is = let clash : ◌≡◌ {A = Option Reading} (Some (scenarios Schedule)) (Some traces) = is in absurd cc
asks_check (Some (Threads pes per_turn)) is = let clash : ◌≡◌ {A = Option Reading} (Some (scenarios OnThreads)) (Some traces) = is in absurd cc
asks_check (Some (Soak number steps)) is = let clash : ◌≡◌ {A = Option Reading} None (Some traces) = is in absurd cc
asks_check (Some Host) is = let clash : ◌≡◌ {A = Option Reading} (Some links) (Some traces) = is in absurd cc
asks_check (Some (Save steps)) is = let clash : ◌≡◌ {A = Option Reading} (Some (first_steps steps)) (Some traces) = is in absurd cc
asks_check (Some Resume) is = let clash : ◌≡◌ {A = Option Reading} (Some images) (Some traces) = is in absurd cc
asks_check (Some Check) is = refl

-- a text that refuses what was read is the row of a trace that cannot be
refusal_row : (reading : Reading) (command : Option Command) (before after : Option (List ℕ)) (wrote : List ℕ → Type 0) (what : Said reading) (text : List ℕ) → input_reading command ≡ Some reading
    → HasInput before after (λ bytes. SpellsSaid reading bytes what) → IsRefusalOf reading what text → wrote text → IsRefused command before after wrote
refusal_row (scenarios mode) command before after wrote what text asked read is written = absurd is
refusal_row (first_steps steps) command before after wrote what text asked read is written = absurd is
refusal_row links command before after wrote what text asked read is written = absurd is
refusal_row images command before after wrote what text asked read is written = absurd is
refusal_row traces command before after wrote what text asked read is written =
    record { trace = what; index = is.index; asked = asks_check command asked; read = read; verdict = is.verdict; written = subst wrote is.text_is written }

-- a reply to an input is the row of its status, where the command reads it so, and what it does with what was read is that
read_row : (reading : Reading) (command : Option Command) (before after : Option (List ℕ)) (faults_before faults_after : ℕ) (wrote : List ℕ → Type 0) (showed : Mode → Scenario → Type 0) (reply : Reply) → input_reading command ≡ Some reading
    → ((what : Said reading) (text : List ℕ) → HasInput before after (λ bytes. SpellsSaid reading bytes what) → IsTextOf reading showed what text → wrote text → IsOk command before after wrote showed)
    → IsReplyOf reading showed before after faults_before faults_after reply → wrote (text_of reply) → IsRow command before after faults_before faults_after wrote showed (status_of reply)
read_row reading command before after fb fa wrote showed reply asked ok is written = row reply is written
  where
    reads : IsSome (input_reading command)
    reads = subst IsSome (sym asked) refl

    row : (reply : Reply) → IsReplyOf reading showed before after fb fa reply → wrote (text_of reply) → IsRow command before after fb fa wrote showed (status_of reply)
    row (Ran text) is written = inl (refl, ok is.0 text (as_input before after (λ bytes. SpellsOnly reading bytes is.0) (λ bytes. SpellsSaid reading bytes is.0) (λ bytes only. only.spelled) is.1) is.2 written)
    row (Refused text) is written =
        let read = as_input before after (λ bytes. SpellsOnly reading bytes is.0) (λ bytes. SpellsSaid reading bytes is.0) (λ bytes only. only.spelled) is.1 in
        inr (inl (refl, refusal_row reading command before after wrote is.0 text asked read is.2 written))
    row Usage is written = absurd is
    row BadJson is written = inr (inr (inr (inl (refl, record { asked = reads; read = is; written = written }))))
    row (BadScenario text) is written =
        let read = as_input before after (λ bytes. SpellsNothing reading bytes is.0) (λ bytes. SpellsFault reading bytes is.0) (λ bytes only. only.spelled) is.1 in
        inr (inr (inr (inr (inl (refl, record { reading = reading; fault = is.0; asked = asked; read = read; written = subst wrote is.2 written })))))
    row ReadFault is written = inr (inr (inr (inr (inr (inl (refl, record { asked = reads; risen = is; written = written }))))))
    row TooLong is written = inr (inr (inr (inr (inr (inr (inl (refl, record { asked = reads; taken = is; written = written })))))))
    row NoMemory is written = inr (inr (inr (inr (inr (inr (inr (refl, record { asked = some command asked; taken = is; written = written })))))))
      where
        some : (asked : Option Command) → input_reading asked ≡ Some reading → IsSome asked
        some None is = let none : ◌≡◌ {A = Option Reading} None (Some reading) = is in absurd cc
        some (Some command) is = refl

-- what was read was run: in a mode, with links, its first steps, or the rest of it
mode_run : (mode : Mode) (before after : Option (List ℕ)) (wrote : List ℕ → Type 0) (showed : Mode → Scenario → Type 0) (scenario : Scenario) (text : List ℕ) → HasInput before after (λ bytes. SpellsSaid (scenarios mode) bytes scenario)
    → IsTextOf (scenarios mode) showed scenario text → wrote text → IsRun mode before after wrote showed
mode_run mode before after wrote showed scenario text read run written =
    record { scenario = scenario; out = run.out; read = read; shown = run.shown; answers = run.answers; written = subst wrote run.text_is written }

links_run : (before after : Option (List ℕ)) (wrote : List ℕ → Type 0) (showed : Mode → Scenario → Type 0) (scenario : HostScenario) (text : List ℕ) → HasInput before after (λ bytes. SpellsSaid links bytes scenario)
    → IsTextOf links showed scenario text → wrote text → IsHosted before after wrote
links_run before after wrote showed scenario text read is written = record { scenario = scenario; read = read; written = subst wrote is written }

save_run : (steps : ℕ) (before after : Option (List ℕ)) (wrote : List ℕ → Type 0) (showed : Mode → Scenario → Type 0) (scenario : Scenario) (text : List ℕ) → HasInput before after (λ bytes. SpellsSaid (first_steps steps) bytes scenario)
    → IsTextOf (first_steps steps) showed scenario text → wrote text → IsSave steps before after wrote
save_run steps before after wrote showed scenario text read is written = record { scenario = scenario; read = read; written = subst wrote is written }

rest_run : (before after : Option (List ℕ)) (wrote : List ℕ → Type 0) (showed : Mode → Scenario → Type 0) (saved : Saved) (text : List ℕ) → HasInput before after (λ bytes. SpellsSaid images bytes saved)
    → IsTextOf images showed saved text → wrote text → IsResumed before after wrote
rest_run before after wrote showed saved text read is written = record { saved = saved; read = read; written = subst wrote is written }

trace_row : (before after : Option (List ℕ)) (wrote : List ℕ → Type 0) (showed : Mode → Scenario → Type 0) (trace : Trace) (text : List ℕ) → HasInput before after (λ bytes. SpellsSaid traces bytes trace)
    → IsTextOf traces showed trace text → wrote text → IsAccepted before after wrote
trace_row before after wrote showed trace text read is written = record { trace = trace; read = read; verdict = is.verdict; written = subst wrote is.text_is written }

-- where a source tells what it told before, nothing was read
none_told : (before : Option (List ℕ)) → IfSome before (λ all. IsSomeAnd before (λ rest. all ≡ [] ++ rest))
none_told None = tt
none_told (Some all) = refl

none_read : (before after : Option (List ℕ)) → after ≡ before → HasReadAtMost before after max_input
none_read before after same =
    record {
      part = [];
      within = lit≤ tt;
      read = record { told = subst (λ now. IfSome before (λ all. IsSomeAnd now (λ rest. all ≡ [] ++ rest))) (sym same) (none_told before) };
    }

-- a reply to `soak` is the row of its status
soak_row : (number steps : ℕ) (before after : Option (List ℕ)) (faults_before faults_after : ℕ) (wrote : List ℕ → Type 0) (showed : Mode → Scenario → Type 0) (reply : Reply) → after ≡ before → IsSoakReply (showed Schedule) number steps reply → wrote (text_of reply)
    → IsRow (Some (Soak number steps)) before after faults_before faults_after wrote showed (status_of reply)
soak_row number steps before after fb fa wrote showed (Ran text) same is written = inl (refl, record { unread = same; shown = is.0; written = subst wrote is.1 written })
soak_row number steps before after fb fa wrote showed (Refused text) same is written = absurd is
soak_row number steps before after fb fa wrote showed Usage same is written = absurd is
soak_row number steps before after fb fa wrote showed BadJson same is written = absurd is
soak_row number steps before after fb fa wrote showed (BadScenario text) same is written = absurd is
soak_row number steps before after fb fa wrote showed ReadFault same is written = absurd is
soak_row number steps before after fb fa wrote showed TooLong same is written = absurd is
soak_row number steps before after fb fa wrote showed NoMemory same is written = inr (inr (inr (inr (inr (inr (inr (refl, record { asked = refl; taken = none_read before after same; written = written })))))))

-- a reply is the row of its status
row_of : (command : Option Command) (before after : Option (List ℕ)) (faults_before faults_after : ℕ) (wrote : List ℕ → Type 0) (showed : Mode → Scenario → Type 0) (reply : Reply) → IsReplyFor showed command before after faults_before faults_after reply → wrote (text_of reply)
    → IsRow command before after faults_before faults_after wrote showed (status_of reply)
row_of (Some Run) before after fb fa wrote showed reply is written =
    read_row (scenarios Schedule) (Some Run) before after fb fa wrote showed reply refl (mode_run Schedule before after wrote showed) is written
row_of (Some (Threads pes per_turn)) before after fb fa wrote showed reply is written =
    read_row (scenarios OnThreads) (Some (Threads pes per_turn)) before after fb fa wrote showed reply refl (mode_run OnThreads before after wrote showed) is written
row_of (Some Host) before after fb fa wrote showed reply is written = read_row links (Some Host) before after fb fa wrote showed reply refl (links_run before after wrote showed) is written
row_of (Some (Save steps)) before after fb fa wrote showed reply is written =
    read_row (first_steps steps) (Some (Save steps)) before after fb fa wrote showed reply refl (save_run steps before after wrote showed) is written
row_of (Some Resume) before after fb fa wrote showed reply is written = read_row images (Some Resume) before after fb fa wrote showed reply refl (rest_run before after wrote showed) is written
row_of (Some Check) before after fb fa wrote showed reply is written = read_row traces (Some Check) before after fb fa wrote showed reply refl (trace_row before after wrote showed) is written
row_of (Some (Soak number steps)) before after fb fa wrote showed reply is written = soak_row number steps before after fb fa wrote showed reply is.0 is.1 written
row_of None before after fb fa wrote showed reply is written = inr (inr (inl (ap status_of is, record { asked = refl; written = subst (λ r. wrote (text_of r)) is written })))

-- a reply that was written is an outcome
written_row : (command : Option Command) (before after : Option (List ℕ)) (faults_before faults_after : ℕ) (taken_before taken_after : Option (List ℕ)) (sink_before sink_after : ℕ) (showed : Mode → Scenario → Type 0) (reply : Reply) (status : ℕ)
    → IsReplyFor showed command before after faults_before faults_after reply
    → ((status ≡ status_of reply) × Grew taken_before taken_after (text_of reply)) ⊎ ((status ≡ 6) × HasRisen sink_before sink_after × GrewByPrefix taken_before taken_after (text_of reply))
    → IsOutcome command before after faults_before faults_after taken_before taken_after sink_before sink_after showed status
written_row command before after fb fa tb ta kb ka showed reply status is (inl whole) = record {
  row = inl (subst (IsRow command before after fb fa (Grew tb ta) showed) (sym whole.0) (row_of command before after fb fa (Grew tb ta) showed reply is whole.1));
}
written_row command before after fb fa tb ta kb ka showed reply status is (inr part) = record {
  row = inr (part.0, record { risen = part.1; other = status_of reply; row = row_of command before after fb fa (GrewByPrefix tb ta) showed reply is part.2 });
}

pub outcome : (command : Option Command) (before after : Option (List ℕ)) (faults_before faults_after : ℕ) (taken_before taken_after : Option (List ℕ)) (sink_before sink_after : ℕ) (showed : Mode → Scenario → Type 0) (reply : Reply) (status : ℕ)
    → IsReplyFor showed command before after faults_before faults_after reply → IsWritten taken_before taken_after sink_before sink_after (text_of reply) (status_of reply) status
    → IsOutcome command before after faults_before faults_after taken_before taken_after sink_before sink_after showed status
outcome command before after fb fa tb ta kb ka showed reply status is done = written_row command before after fb fa tb ta kb ka showed reply status is done.written

-- each status of a row is one of the table's
row_closed : (command : Option Command) (before after : Option (List ℕ)) (faults_before faults_after : ℕ) (wrote : List ℕ → Type 0) (showed : Mode → Scenario → Type 0) (status : ℕ) → IsRow command before after faults_before faults_after wrote showed status → Contains statuses status
row_closed command before after fb fa wrote showed status (inl row) = subst (Contains statuses) (sym row.0) (0, lit< tt, refl)
row_closed command before after fb fa wrote showed status (inr (inl row)) = subst (Contains statuses) (sym row.0) (1, lit< tt, refl)
row_closed command before after fb fa wrote showed status (inr (inr (inl row))) = subst (Contains statuses) (sym row.0) (2, lit< tt, refl)
row_closed command before after fb fa wrote showed status (inr (inr (inr (inl row)))) = subst (Contains statuses) (sym row.0) (3, lit< tt, refl)
row_closed command before after fb fa wrote showed status (inr (inr (inr (inr (inl row))))) = subst (Contains statuses) (sym row.0) (4, lit< tt, refl)
row_closed command before after fb fa wrote showed status (inr (inr (inr (inr (inr (inl row)))))) = subst (Contains statuses) (sym row.0) (5, lit< tt, refl)
row_closed command before after fb fa wrote showed status (inr (inr (inr (inr (inr (inr (inl row))))))) = subst (Contains statuses) (sym row.0) (7, lit< tt, refl)
row_closed command before after fb fa wrote showed status (inr (inr (inr (inr (inr (inr (inr row))))))) = subst (Contains statuses) (sym row.0) (8, lit< tt, refl)

outcome_closed : (command : Option Command) (before after : Option (List ℕ)) (faults_before faults_after : ℕ) (wrote : List ℕ → Type 0) (showed : Mode → Scenario → Type 0) (part : Type 0) (status : ℕ) → IsRow command before after faults_before faults_after wrote showed status ⊎ ((status ≡ 6) × part) → Contains statuses status
outcome_closed command before after fb fa wrote showed part status (inl row) = row_closed command before after fb fa wrote showed status row
outcome_closed command before after fb fa wrote showed part status (inr fault) = subst (Contains statuses) (sym fault.0) (6, lit< tt, refl)

-- the status where memory for the words was refused
written_closed : (tb ta : Option (List ℕ)) (kb ka : ℕ) (text : List ℕ) (status : ℕ) → ((status ≡ 9) × Grew tb ta text) ⊎ ((status ≡ 6) × HasRisen kb ka × GrewByPrefix tb ta text) → Contains statuses status
written_closed tb ta kb ka text status (inl whole) = subst (Contains statuses) (sym whole.0) (8, lit< tt, refl)
written_closed tb ta kb ka text status (inr part) = subst (Contains statuses) (sym part.0) (6, lit< tt, refl)

pub refused_closed : (tb ta : Option (List ℕ)) (kb ka : ℕ) (status : ℕ) → IsRefusal tb ta kb ka status → Contains statuses status
refused_closed tb ta kb ka status done = written_closed tb ta kb ka (line (codes "no memory")) status done.written

-- the row of each status, of an outcome
pub closed : {command : Option Command} {before after : Option (List ℕ)} {fb fa : ℕ} {tb ta : Option (List ℕ)} {kb ka : ℕ} {showed : Mode → Scenario → Type 0} (status : ℕ) → IsOutcome command before after fb fa tb ta kb ka showed status → Contains statuses status
closed {command = command} {before = before} {after = after} {fb = fb} {fa = fa} {tb = tb} {ta = ta} {kb = kb} {ka = ka} {showed = showed} status o = outcome_closed command before after fb fa (Grew tb ta) showed (IsWriteFault command before after fb fa tb ta kb ka showed) status o.row

pub ok_row : {command : Option Command} {before after : Option (List ℕ)} {fb fa : ℕ} {tb ta : Option (List ℕ)} {kb ka : ℕ} {showed : Mode → Scenario → Type 0} (status : ℕ) → IsOutcome command before after fb fa tb ta kb ka showed status → status ≡ 0 → IsOk command before after (Grew tb ta) showed
ok_row status o e = let row = o.row in grind arith

pub refused_row : {command : Option Command} {before after : Option (List ℕ)} {fb fa : ℕ} {tb ta : Option (List ℕ)} {kb ka : ℕ} {showed : Mode → Scenario → Type 0} (status : ℕ) → IsOutcome command before after fb fa tb ta kb ka showed status → status ≡ 1 → IsRefused command before after (Grew tb ta)
refused_row status o e = let row = o.row in grind arith

pub usage_row : {command : Option Command} {before after : Option (List ℕ)} {fb fa : ℕ} {tb ta : Option (List ℕ)} {kb ka : ℕ} {showed : Mode → Scenario → Type 0} (status : ℕ) → IsOutcome command before after fb fa tb ta kb ka showed status → status ≡ 2 → IsUsage command (Grew tb ta)
usage_row status o e = let row = o.row in grind arith

pub bad_json_row : {command : Option Command} {before after : Option (List ℕ)} {fb fa : ℕ} {tb ta : Option (List ℕ)} {kb ka : ℕ} {showed : Mode → Scenario → Type 0} (status : ℕ) → IsOutcome command before after fb fa tb ta kb ka showed status → status ≡ 3 → IsBadJson command before after (Grew tb ta)
bad_json_row status o e = let row = o.row in grind arith

pub bad_scenario_row : {command : Option Command} {before after : Option (List ℕ)} {fb fa : ℕ} {tb ta : Option (List ℕ)} {kb ka : ℕ} {showed : Mode → Scenario → Type 0} (status : ℕ) → IsOutcome command before after fb fa tb ta kb ka showed status → status ≡ 4 → IsBadScenario command before after (Grew tb ta)
bad_scenario_row status o e = let row = o.row in grind arith

pub read_fault_row : {command : Option Command} {before after : Option (List ℕ)} {fb fa : ℕ} {tb ta : Option (List ℕ)} {kb ka : ℕ} {showed : Mode → Scenario → Type 0} (status : ℕ) → IsOutcome command before after fb fa tb ta kb ka showed status → status ≡ 5 → IsReadFault command fb fa (Grew tb ta)
read_fault_row status o e = let row = o.row in grind arith

pub write_fault_row : {command : Option Command} {before after : Option (List ℕ)} {fb fa : ℕ} {tb ta : Option (List ℕ)} {kb ka : ℕ} {showed : Mode → Scenario → Type 0} (status : ℕ) → IsOutcome command before after fb fa tb ta kb ka showed status → status ≡ 6 → IsWriteFault command before after fb fa tb ta kb ka showed
write_fault_row status o e = let row = o.row in grind arith

pub too_long_row : {command : Option Command} {before after : Option (List ℕ)} {fb fa : ℕ} {tb ta : Option (List ℕ)} {kb ka : ℕ} {showed : Mode → Scenario → Type 0} (status : ℕ) → IsOutcome command before after fb fa tb ta kb ka showed status → status ≡ 7 → IsTooLong command before after (Grew tb ta)
too_long_row status o e = let row = o.row in grind arith

pub no_memory_row : {command : Option Command} {before after : Option (List ℕ)} {fb fa : ℕ} {tb ta : Option (List ℕ)} {kb ka : ℕ} {showed : Mode → Scenario → Type 0} (status : ℕ) → IsOutcome command before after fb fa tb ta kb ka showed status → status ≡ 9 → IsNoMemory command before after (Grew tb ta)
no_memory_row status o e = let row = o.row in grind arith

-- the status for words that are no command
pub no_command_status : {command : Option Command} {before after : Option (List ℕ)} {fb fa : ℕ} {tb ta : Option (List ℕ)} {kb ka : ℕ} {showed : Mode → Scenario → Type 0} (status : ℕ) → IsOutcome command before after fb fa tb ta kb ka showed status → command ≡ None → (status ≡ 2) ⊎ (status ≡ 6)
no_command_status status o other = let row = o.row in grind arith

-- the status of `soak`, where the sink had no fault
pub soak_status : {command : Option Command} {before after : Option (List ℕ)} {fb fa : ℕ} {tb ta : Option (List ℕ)} {kb ka : ℕ} {showed : Mode → Scenario → Type 0} (status : ℕ) → IsOutcome command before after fb fa tb ta kb ka showed status
    → (number steps : ℕ) → command ≡ Some (Soak number steps) → (HasRisen kb ka → ⊥) → (status ≡ 0) ⊎ (status ≡ 9)
soak_status status o number steps asked sure = let row = o.row in grind arith

-- bytes spell one value
one_value : (bytes : List ℕ) (a b : Data) → Spells bytes a → Spells bytes b → a ≡ b
one_value bytes a b x y = same_Some a b (sym x.reads ∙ y.reads)

-- what is read by a function has no fault beside what it says
is_apart : (W : Type 0) (answer : Result W Fault) (what : W) (fault : Fault) → answer ≡ Ok what → answer ≡ Err fault → ⊥
is_apart W answer what fault s f = let clash : ◌≡◌ {A = Result W Fault} (Ok what) (Err fault) = sym s ∙ f in absurd cc

pub scenarios_apart : (mode : Mode) (value : Data) → AreApart (scenarios mode) value
scenarios_apart mode value what fault s f = is_apart Scenario (scenario_in mode value) what fault s f

pub first_steps_apart : (steps : ℕ) (value : Data) → AreApart (first_steps steps) value
first_steps_apart steps value what fault s f = is_apart Scenario (first_steps_in steps value) what fault s f

pub links_apart : (value : Data) → AreApart links value
links_apart value what fault s f = is_apart HostScenario (links_in value) what fault s f

pub traces_apart : (value : Data) → AreApart traces value
traces_apart value what fault s f = is_apart Trace (trace_in value) what fault s f

-- bytes spell one trace
one_trace : (bytes : List ℕ) (a b : Trace) → SpellsSaid traces bytes a → SpellsSaid traces bytes b → a ≡ b
one_trace bytes a b x y =
    let says = subst (λ d. Says traces d a) (one_value bytes x.value y.value x.spelled y.spelled) x.said_is in
    let same : ◌≡◌ {A = Result Trace Fault} (Ok a) (Ok b) = sym says ∙ y.said_is in
    cc

-- the answer to what bytes say, where what was read was run, or refused, or where memory was
ran_answer : (reading : Reading) (showed : Mode → Scenario → Type 0) (bytes : List ℕ) (what other : Said reading) (text : List ℕ) → SpellsSaid reading bytes what → SpellsSaid reading bytes other → IsTextOf reading showed what text → IsAnswered reading other 0
ran_answer (scenarios mode) showed bytes what other text one two is = inl refl
ran_answer (first_steps steps) showed bytes what other text one two is = inl refl
ran_answer links showed bytes what other text one two is = inl refl
ran_answer images showed bytes what other text one two is = inl refl
ran_answer traces showed bytes what other text one two is = inl (refl, subst (λ trace. HasVerdict trace Yes) (one_trace bytes what other one two) is.verdict)

refused_answer : (reading : Reading) (bytes : List ℕ) (what other : Said reading) (text : List ℕ) → SpellsSaid reading bytes what → SpellsSaid reading bytes other → IsRefusalOf reading what text → IsAnswered reading other 1
refused_answer (scenarios mode) bytes what other text one two is = absurd is
refused_answer (first_steps steps) bytes what other text one two is = absurd is
refused_answer links bytes what other text one two is = absurd is
refused_answer images bytes what other text one two is = absurd is
refused_answer traces bytes what other text one two is = inr (inl (refl, is.index, subst (λ trace. HasVerdict trace (No is.index)) (one_trace bytes what other one two) is.verdict))

memory_answer : (reading : Reading) (what : Said reading) → IsAnswered reading what 9
memory_answer (scenarios mode) what = inr refl
memory_answer (first_steps steps) what = inr refl
memory_answer links what = inr refl
memory_answer images what = inr refl
memory_answer traces what = inr (inr refl)

-- more bytes than the limit were taken, so there were more
taken_past : (bytes : List ℕ) (after : Option (List ℕ)) → HasReadCount (Some bytes) after (max_input + 1) → max_input < length bytes
taken_past bytes None taken = absurd taken.read.told
taken_past bytes (Some rest) taken = omega (arith, ap length taken.read.told, length-append taken.part rest, taken.counted)

-- the reply to bytes that were told is the answer that they have
told_answer : (reading : Reading) (showed : Mode → Scenario → Type 0) (bytes : List ℕ) (after : Option (List ℕ)) (faults_before faults_after : ℕ) (reply : Reply) → (HasRisen faults_before faults_after → ⊥) → IsReplyOf reading showed (Some bytes) after faults_before faults_after reply
    → HasItsAnswer reading bytes (status_of reply)
told_answer reading showed bytes after fb fa (Ran text) sure is =
    let input = is.1 in
    record {
      accepted = λ what other within. ran_answer reading showed bytes is.0 what text input.input.spelled other is.2;
      no_json = λ none within. absurd (none input.input.spelled.value input.input.spelled.spelled);
      faulty = λ fault other within. absurd (input.input.alone fault other);
      too_long = λ past. absurd (omega (arith, past, input.within));
    }
told_answer reading showed bytes after fb fa (Refused text) sure is =
    let input = is.1 in
    record {
      accepted = λ what other within. refused_answer reading bytes is.0 what text input.input.spelled other is.2;
      no_json = λ none within. absurd (none input.input.spelled.value input.input.spelled.spelled);
      faulty = λ fault other within. absurd (input.input.alone fault other);
      too_long = λ past. absurd (omega (arith, past, input.within));
    }
told_answer reading showed bytes after fb fa Usage sure is = absurd is
told_answer reading showed bytes after fb fa BadJson sure is =
    record {
      accepted = λ what other within. absurd (is.input other.value other.spelled);
      no_json = λ none within. inl refl;
      faulty = λ fault other within. absurd (is.input other.value other.spelled);
      too_long = λ past. absurd (omega (arith, past, is.within));
    }
told_answer reading showed bytes after fb fa (BadScenario text) sure is =
    let input = is.1 in
    record {
      accepted = λ what other within. absurd (input.input.alone what other);
      no_json = λ none within. absurd (none input.input.spelled.value input.input.spelled.spelled);
      faulty = λ fault other within. inl refl;
      too_long = λ past. absurd (omega (arith, past, input.within));
    }
told_answer reading showed bytes after fb fa ReadFault sure is = absurd (sure is)
told_answer reading showed bytes after fb fa TooLong sure is =
    let past : max_input < length bytes = taken_past bytes after is in
    record {
      accepted = λ what other within. absurd (omega (arith, past, within));
      no_json = λ none within. absurd (omega (arith, past, within));
      faulty = λ fault other within. absurd (omega (arith, past, within));
      too_long = λ past. inl refl;
    }
told_answer reading showed bytes after fb fa NoMemory sure is =
    record {
      accepted = λ what other within. memory_answer reading what;
      no_json = λ none within. inr refl;
      faulty = λ fault other within. inr refl;
      too_long = λ past. inr refl;
    }

-- so it is of a reply to a command that reads
for_reading : (reading : Reading) (showed : Mode → Scenario → Type 0) (before after : Option (List ℕ)) (faults_before faults_after : ℕ) (reply : Reply) → (HasRisen faults_before faults_after → ⊥) → IsReplyOf reading showed before after faults_before faults_after reply
    → IfSome before (λ bytes. HasItsAnswer reading bytes (status_of reply))
for_reading reading showed None after fb fa reply sure is = tt
for_reading reading showed (Some bytes) after fb fa reply sure is = told_answer reading showed bytes after fb fa reply sure is

for_its_answer : (showed : Mode → Scenario → Type 0) (command : Option Command) (before after : Option (List ℕ)) (faults_before faults_after : ℕ) (reply : Reply) → (HasRisen faults_before faults_after → ⊥) → IsReplyFor showed command before after faults_before faults_after reply
    → IfSome (input_reading command) (λ reading. IfSome before (λ bytes. HasItsAnswer reading bytes (status_of reply)))
for_its_answer showed (Some Run) before after fb fa reply sure is = for_reading (scenarios Schedule) showed before after fb fa reply sure is
for_its_answer showed (Some (Threads pes per_turn)) before after fb fa reply sure is = for_reading (scenarios OnThreads) showed before after fb fa reply sure is
for_its_answer showed (Some (Soak number steps)) before after fb fa reply sure is = tt
for_its_answer showed (Some Host) before after fb fa reply sure is = for_reading links showed before after fb fa reply sure is
for_its_answer showed (Some (Save steps)) before after fb fa reply sure is = for_reading (first_steps steps) showed before after fb fa reply sure is
for_its_answer showed (Some Resume) before after fb fa reply sure is = for_reading images showed before after fb fa reply sure is
for_its_answer showed (Some Check) before after fb fa reply sure is = for_reading traces showed before after fb fa reply sure is
for_its_answer showed None before after fb fa reply sure is = tt

-- the status where neither the source nor the sink had a fault
status_there : (tb ta : Option (List ℕ)) (kb ka : ℕ) (text : List ℕ) (own status : ℕ) → (HasRisen kb ka → ⊥) → ((status ≡ own) × Grew tb ta text) ⊎ ((status ≡ 6) × HasRisen kb ka × GrewByPrefix tb ta text) → status ≡ own
status_there tb ta kb ka text own status sure (inl whole) = whole.0
status_there tb ta kb ka text own status sure (inr part) = absurd (sure part.1)

-- what holds of each reading, where a fact is known of it, holds once the fact is
where_so : {A P : Type 0} (asked : Option A) (Q : A → Type 0) → (P → IfSome asked Q) → IfSome asked (λ a. P → Q a)
where_so None Q each = tt
where_so (Some a) Q each = each

pub its_answer : (showed : Mode → Scenario → Type 0) (command : Option Command) (before after : Option (List ℕ)) (faults_before faults_after : ℕ) (taken_before taken_after : Option (List ℕ)) (sink_before sink_after : ℕ) (reply : Reply) (status : ℕ)
    → IsReplyFor showed command before after faults_before faults_after reply → IsWritten taken_before taken_after sink_before sink_after (text_of reply) (status_of reply) status
    → IfSome (input_reading command) (λ reading. (HasRisen faults_before faults_after → ⊥) → (HasRisen sink_before sink_after → ⊥) → IfSome before (λ bytes. HasItsAnswer reading bytes status))
its_answer showed command before after fb fa tb ta kb ka reply status is done =
    where_so (input_reading command) (λ reading. (HasRisen kb ka → ⊥) → IfSome before (λ bytes. HasItsAnswer reading bytes status))
    (λ sure. where_so (input_reading command) (λ reading. IfSome before (λ bytes. HasItsAnswer reading bytes status))
    (λ sure_sink. subst (λ (s : ℕ). IfSome (input_reading command) (λ reading. IfSome before (λ bytes. HasItsAnswer reading bytes s))) (sym (status_there tb ta kb ka (text_of reply) (status_of reply) status sure_sink done.written))
    (for_its_answer showed command before after fb fa reply sure is)))

-- a status that is not 0, 6 or 9 is that of a reply before which no run is made
unrun_there : (tb ta : Option (List ℕ)) (kb ka : ℕ) (text : List ℕ) (own status : ℕ) → (status ≡ 6 → ⊥) → ((status ≡ own) × Grew tb ta text) ⊎ ((status ≡ 6) × HasRisen kb ka × GrewByPrefix tb ta text) → status ≡ own
unrun_there tb ta kb ka text own status whole (inl all) = all.0
unrun_there tb ta kb ka text own status whole (inr part) = absurd (whole part.0)

unrun_of : (reply : Reply) → (status_of reply ≡ 0 → ⊥) → (status_of reply ≡ 9 → ⊥) → IsUnrun reply
unrun_of (Ran text) written refused = absurd (written refl)
unrun_of (Refused text) written refused = tt
unrun_of Usage written refused = tt
unrun_of BadJson written refused = tt
unrun_of (BadScenario text) written refused = tt
unrun_of ReadFault written refused = tt
unrun_of TooLong written refused = tt
unrun_of NoMemory written refused = absurd (refused refl)

pub unrun : (taken_before taken_after : Option (List ℕ)) (sink_before sink_after : ℕ) (reply : Reply) (status : ℕ) → IsWritten taken_before taken_after sink_before sink_after (text_of reply) (status_of reply) status
    → (status ≡ 0 → ⊥) → (status ≡ 6 → ⊥) → (status ≡ 9 → ⊥) → IsUnrun reply
unrun tb ta kb ka reply status done written whole refused =
    let is = unrun_there tb ta kb ka (text_of reply) (status_of reply) status whole done.written in
    unrun_of reply (λ zero. written (is ∙ zero)) (λ nine. refused (is ∙ nine))

-- An input that was read to its end, and the reply to its bytes.

module _ (reading : Reading) (showed : Mode → Scenario → Type 0) (before after : Option (List ℕ)) (faults_before faults_after : ℕ) (bytes : List ℕ) (whole : IfSome before (λ all. bytes ≡ all)) (within : length bytes ≤ max_input) (ended : OnSome before (after ≡ Some [])) where
  input_of : (told : Option (List ℕ)) (P : List ℕ → Type 0) → IfSome told (λ all. bytes ≡ all) → P bytes → IfSome told P
  input_of None P same holds = tt
  input_of (Some all) P same holds = subst P same holds

  input : (P : List ℕ → Type 0) → P bytes → HasInput before after P
  input P holds = record { input = input_of before P whole holds; within = input_of before (λ all. length all ≤ max_input) whole within; to_end = ended }

  rest_of : (told : Option (List ℕ)) → IfSome told (λ all. bytes ≡ all) → OnSome told (after ≡ Some []) → IfSome told (λ all. IsSomeAnd after (λ rest. all ≡ bytes ++ rest))
  rest_of None same end = tt
  rest_of (Some all) same end = subst (λ now. IsSomeAnd now (λ rest. all ≡ bytes ++ rest)) (sym end) (sym same ∙ sym (append-nil bytes))

  at_most : HasReadAtMost before after max_input
  at_most = record { part = bytes; within = within; read = record { told = rest_of before whole ended } }

  reply_is : (reply : Reply) → IsReplyTo reading showed bytes reply → IsReplyOf reading showed before after faults_before faults_after reply
  reply_is (Ran text) is = (is.0, input (λ all. SpellsOnly reading all is.0) is.1, is.2)
  reply_is (Refused text) is = (is.0, input (λ all. SpellsOnly reading all is.0) is.1, is.2)
  reply_is Usage is = absurd is
  reply_is BadJson is = input IsNoJson is
  reply_is (BadScenario text) is = (is.0, input (λ all. SpellsNothing reading all is.0) is.1, is.2)
  reply_is ReadFault is = absurd is
  reply_is TooLong is = absurd is
  reply_is NoMemory is = at_most

  pub whole_reply : {E : Type 0} (result : Result Reply E) → IfOk result (IsReplyTo reading showed bytes) → IsReplyOf reading showed before after faults_before faults_after (result_unwrap_or result NoMemory)
  whole_reply (Ok reply) is = reply_is reply is
  whole_reply (Err error) is = at_most

-- The reply to a value that some bytes spell is the reply to these.

module _ (reading : Reading) (showed : Mode → Scenario → Type 0) (bytes : List ℕ) (value : Data) (spelled : Spells bytes value) (apart : AreApart reading value) where
  -- it has no fault where it says something
  only_said : (what : Said reading) → Says reading value what → SpellsOnly reading bytes what
  only_said what says = record {
    spelled = record { value = value; spelled = spelled; said_is = says };
    alone = λ fault other. apart what fault says (subst (λ d. Lacks reading d fault) (one_value bytes other.value value other.spelled spelled) other.fault_is);
  }

  only_fault : (fault : Fault) → Lacks reading value fault → SpellsNothing reading bytes fault
  only_fault fault lacks = record {
    spelled = record { value = value; spelled = spelled; fault_is = lacks };
    alone = λ what other. apart what fault (subst (λ d. Says reading d what) (one_value bytes other.value value other.spelled spelled) other.said_is) lacks;
  }

  spelled_is : (reply : Reply) → IsValueReply reading (IsTextOf reading showed) value reply → IsReplyTo reading showed bytes reply
  spelled_is (Ran text) is = (is.0, only_said is.0 is.1, is.2)
  spelled_is (Refused text) is = (is.0, only_said is.0 is.1, is.2)
  spelled_is Usage is = absurd is
  spelled_is BadJson is = absurd is
  spelled_is (BadScenario text) is = (is.0, only_fault is.0 is.1, is.2)
  spelled_is ReadFault is = absurd is
  spelled_is TooLong is = absurd is
  spelled_is NoMemory is = absurd is

  pub spelled_reply : {E : Type 0} (result : Result Reply E) → IfOk result (IsValueReply reading (IsTextOf reading showed) value) → IfOk result (IsReplyTo reading showed bytes)
  spelled_reply (Ok reply) is = spelled_is reply is
  spelled_reply (Err error) is = tt

-- the same, where they stand apart once there is a reply
pub apart_reply : (reading : Reading) (showed : Mode → Scenario → Type 0) (bytes : List ℕ) (value : Data) → Spells bytes value → {E : Type 0} (result : Result Reply E) → OnOk result (AreApart reading value)
    → IfOk result (IsValueReply reading (IsTextOf reading showed) value) → IfOk result (IsReplyTo reading showed bytes)
apart_reply reading showed bytes value spelled (Ok reply) apart is = spelled_is reading showed bytes value spelled apart reply is
apart_reply reading showed bytes value spelled (Err error) apart is = tt
