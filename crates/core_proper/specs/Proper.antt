-- Proper runs (own choice): what the protocol asks of each step and of each end of a part, so that changes reach the CPU interfaces in time.
use Rattle.std.specs.Prelude.{ℕ, ◌<◌, ◌==◌, ◌&&◌, ◌||◌, not, Bool, true, false, IsTrue, List, [], ◌∷◌, ◌++◌, fold, if◌then◌else◌, Option, Some, None, unwrap_or, is_none, is_some}
use Rattle.std.specs.List.{list_any}
use Rattle.std.specs.Option.{option_map_or}
use Rattle.floor_histories.specs.Words.{IccReg, Iar0, Iar1, Hppir0, Hppir1, Key, GuestShape, is_number}
use Rattle.floor_histories.specs.Calls.{Cbaser, Place, Operation, command_places}
use Rattle.floor_histories.specs.GicCall.declared.event.Place.TheVariants.{Word}
use Rattle.port_core.specs.declared.at_list.AtIrq.{AtIrq}
use Rattle.port_core.specs.declared.local.Local.{Local}
use Rattle.port_core.specs.declared.local.Phase.{Phase}
use Rattle.port_core.specs.declared.local.Phase.TheVariants.{Folding}
use Rattle.port_core.specs.declared.run.Made.{Made}
use Rattle.port_core.specs.declared.step.CoreStep.{CoreStep}
use Rattle.port_core.specs.declared.step.CoreStep.TheVariants.{Claim, CommandDone, Poll, Touch, Want, RamLook, RamPut, CtlrTake, TurnTake, TurnRelease, TakeIndex, LineEnter}
use Rattle.port_core.specs.Known.{known, known_view, is_known}
use Rattle.port_core.specs.Local.{is_at, owes_nothing}
use Rattle.port_core.specs.Actor.{actor_count}
use Rattle.port_core.specs.Step.{word_of}
use Rattle.floor_histories.specs.Histories.{is_memory_at, names, takes_commands, IdealGuest}
use Rattle.core_proper.specs.Parts.{Act, begins, makes, ends, CoreMoment, own_acts, IsPartedRun}
use Rattle.core_proper.specs.Progress.{Progress, opening_progress, Debt, paid, after_end, before_next, ended_by, is_end_of, is_paid, progressed}
use Rattle.core_proper.specs.Scan.{is_idle, scan_allows}

-- nothing is at the interface
abbrev pub is_empty : List AtIrq → Bool
is_empty [] = true
is_empty (entry ∷ entries) = false

-- The scan: after a look for a kick that begins one, the vCPU takes each word of its index once in rising order, looks at each candidate once in key order
-- and at no other interrupt, claims what the plan chose of those found at no interface and not wanted, takes the causes of each with State 3, and marks
-- the candidates that are left to itself. Before the last of it, it makes no other step but kicks, and ends no part.
abbrev pub keeps_scan : GuestShape → ℕ → Progress → CoreStep → Bool
keeps_scan shape actor p step = scan_allows shape actor p.local p.scan step

-- The scan of trap mode: with no scan in progress, the index is taken in trap mode alone, from its first word on, with nothing at the interface; and an
-- access that asks for the first interrupt comes after such a scan since the last look for a kick
abbrev pub asks_first : IccReg → Bool
asks_first Iar0 = true
asks_first Iar1 = true
asks_first Hppir0 = true
asks_first Hppir1 = true
asks_first reg = false

abbrev pub keeps_trap_scan : Progress → CoreStep → Bool
keeps_trap_scan p (TakeIndex word) = not (is_idle p.scan) || (p.trapping && word == 0 && is_empty p.local.at)
keeps_trap_scan p (Poll (Some reg) write) = not (p.trapping && asks_first reg) || p.scanned
keeps_trap_scan p step = true

-- The failed claim: a vCPU looks for a kick only once it kicked itself after each claim and take that failed
abbrev pub keeps_failed_claim : Progress → CoreStep → Bool
keeps_failed_claim p (Poll reg write) = not p.failed
keeps_failed_claim p step = true

-- The far end of interrupt: an interrupt that is not at the interface is ended or deactivated only after a look at it since the last look for a kick, and
-- where that found it active by the vCPU, after a claim; with no scan in progress, a claim is of such an interrupt, with nothing at the interface
abbrev pub keeps_far_end : GuestShape → ℕ → Progress → CoreStep → Bool
keeps_far_end shape actor p (Claim key seen) = not (is_idle p.scan) || (unwrap_or p.far false && is_end_of shape actor p.operation key && is_empty p.local.at)
keeps_far_end shape actor p (Poll (Some reg) write) =
    option_map_or (λ key. is_at key p.local.at || (is_end_of shape actor p.operation key && not (unwrap_or p.far true))) (ended_by shape actor reg write) true
keeps_far_end shape actor p step = true

-- The refill: a scan is owed after an access with which a maintenance interrupt is asserted, after each access of trap mode, after an end of interrupt that
-- is not at the interface, and round each memory-mapped access (see Progress). No access is done while a scan is owed before it, and only an end of
-- interrupt while one is owed after that
abbrev pub may_access : Debt → Option Key → Bool
may_access paid ended = true
may_access after_end ended = is_some ended
may_access before_next ended = false

abbrev pub keeps_refill : GuestShape → ℕ → Progress → CoreStep → Bool
keeps_refill shape actor p (Poll (Some reg) write) = may_access p.debt (ended_by shape actor reg write)
keeps_refill shape actor p step = true

-- and a part ends with nothing at the interface while a scan is owed, or while the vCPU gives back what was there
abbrev pub gives_back : Phase → Bool
gives_back Folding = true
gives_back phase = false

abbrev pub ends_refill : Progress → Bool
ends_refill p = is_empty p.local.at || (is_paid p.debt && not (gives_back p.local.phase))

-- The want: an actor asks only for an interrupt that its call names, by a command of the ITS only once it has the ITS and has begun to read that command; and
-- touches it before its part ends, and before the command that it is in ends

-- the steps of the actor since it took the ITS, stored a word or moved the queue, where it has the ITS
abbrev pub read_after : CoreStep → Made → List Made → Option (List Made)
read_after TurnRelease made read = None
read_after (RamPut index seen value) made read = Some []
read_after (CommandDone offset stalled ending) made read = Some []
read_after step made read = Some (read ++ made ∷ [])

abbrev pub reading_after : Option (List Made) → Made → Option (List Made)
reading_after None made = if is_some made.tables then Some [] else None
reading_after (Some read) made = if is_some made.tables then Some [] else read_after made.step made read

abbrev pub reading_of : List Made → Option (List Made)
reading_of own = fold reading_after None own

-- a look at a word of memory that is among some places
abbrev pub is_look_at : List Place → CoreStep → Bool
is_look_at places (RamLook index) = list_any (is_memory_at index) places
is_look_at places step = false

-- one of these was at a doubleword of the next command of the queue that it knows
abbrev pub has_begun : GuestShape → ℕ → List Made → Bool
has_begun shape actor own =
    is_known shape actor own (Word Cbaser) && option_map_or (λ read. list_any (λ made. is_look_at (command_places shape (known_view shape actor own)) made.step) read) (reading_of own) false

abbrev pub may_name : GuestShape → ℕ → List Made → Operation → Key → Bool
may_name shape actor own operation key = names shape (known_view shape actor own) actor operation key && (not (takes_commands shape operation) || has_begun shape actor own)

abbrev pub wants_nothing : List Key → Bool
wants_nothing [] = true
wants_nothing (key ∷ keys) = false

abbrev pub keeps_want : GuestShape → ℕ → Progress → CoreStep → Bool
keeps_want shape actor p (Want key) = option_map_or (λ operation. may_name shape actor p.own operation key) p.operation false
keeps_want shape actor p (CommandDone offset stalled ending) = wants_nothing p.wants
keeps_want shape actor p step = true

-- The settled end: at the end of a part the actor owes no kick and no mark, has no candidate, has neither the ITS nor the mark of GICD_CTLR, and is
-- in no translation line
abbrev pub is_settled : Local → Bool
is_settled local = owes_nothing local && not local.turn && not local.ctlr && is_none local.line

-- The seen word: a step that goes by a word that was seen goes by the word as the actor's last step on it left it
abbrev pub seen_by : CoreStep → Option ℕ
seen_by (Claim key seen) = Some seen
seen_by (Touch key seen kind) = Some seen
seen_by (RamPut index seen value) = Some seen
seen_by (CtlrTake seen value) = Some seen
seen_by (TurnTake seen) = Some seen
seen_by (LineEnter line seen) = Some seen
seen_by step = None

abbrev pub keeps_seen : GuestShape → ℕ → Progress → CoreStep → Bool
keeps_seen shape actor p step = option_map_or (λ seen. is_number seen (known shape actor p.own (word_of shape actor step))) (seen_by step) true

-- a step of an actor that is so far is proper
pub record IsProperStep (shape : GuestShape) (actor : ℕ) (p : Progress) (step : CoreStep) : Type 0 where
  pub scan : IsTrue (keeps_scan shape actor p step)
  pub trap : IsTrue (keeps_trap_scan p step)
  pub failed : IsTrue (keeps_failed_claim p step)
  pub far : IsTrue (keeps_far_end shape actor p step)
  pub refill : IsTrue (keeps_refill shape actor p step)
  pub want : IsTrue (keeps_want shape actor p step)
  pub seen : IsTrue (keeps_seen shape actor p step)

-- a part may end
pub record IsProperEnd (p : Progress) : Type 0 where
  pub scan : IsTrue (is_idle p.scan)
  pub refill : IsTrue (ends_refill p)
  pub want : IsTrue (wants_nothing p.wants)
  pub settled : IsTrue (is_settled p.local)

abbrev pub IsProperAct : GuestShape → ℕ → Progress → Act → Type 0
IsProperAct shape actor p (begins operation lrs) = Unit {0}
IsProperAct shape actor p (makes made) = IsProperStep shape actor p made.step
IsProperAct shape actor p (ends answer) = IsProperEnd p

-- what an actor that is so far does is proper
abbrev pub IsProper : GuestShape → ℕ → Progress → List Act → Type 0
IsProper shape actor p [] = Unit {0}
IsProper shape actor p (act ∷ acts) = IsProperAct shape actor p act × IsProper shape actor (progressed shape actor p act) acts

-- a run of a guest from its opening, with its parts, is proper: each actor's own list is
pub record IsProperRun (guest : IdealGuest) (number : ℕ) (moments : List CoreMoment) : Type 0 where
  pub parted : IsPartedRun guest number moments
  pub proper : (actor : ℕ) → actor < actor_count guest.shape → IsProper guest.shape actor (opening_progress guest number actor) (own_acts actor moments)
