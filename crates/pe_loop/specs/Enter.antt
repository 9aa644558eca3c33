-- A vCPU enters a PE (own choice).
use Rattle.std.specs.Prelude.{◌≡◌, ℕ, Bool, false, IsTrue, List, [], ◌∷◌, ◌++◌, map, replicate, Option, None, if◌then◌else◌, unwrap_or}
use Rattle.port_call.specs.Calls.{Residence}
use Rattle.port_call.specs.Registers.{CpuRec}
use Rattle.port_call.specs.Lists.{Fill, regs_of, HasEntries, IchRegs}
use Rattle.vcpu_state.specs.declared.shelved.Shelved.{Shelved}
use Rattle.vcpu_state.specs.declared.loaded.Loaded.{Loaded}
use Rattle.vcpu_state.specs.Moves.{shelved_of}
use Rattle.port_call.specs.Core.{Claiming, Made, Kick, Poll, has_no_cand, owes_no_kick, Seen, Adds, shape_of, part_events, IsAtRest, MakesCall, makes, part_of, Progress, paid, begun, owed_after_scan, progress_of, IsProper, idle, keys_chosen, keys_of_both}
use Rattle.port_call.specs.Piece.{steps_of, takes_none, IsIdle}
use Rattle.pe_loop.specs.Claiming.{claims_by, IsPlanOf}
use Rattle.pe_loop.specs.Counting.{are_quiet, bits_taken, looks_in}
use Rattle.pe_loop.specs.Moves.{are_moves}
use Rattle.pe_loop.specs.Scanning.{told_by}
use Rattle.pe_loop.specs.Stay.{IsUp}
use Rattle.pe_loop.specs.Steps.{all_are, is_mark, is_search, IsEntryPart}

-- The scan.

-- an actor's protocol so far lets it begin a scan for a plan: no scan is in progress, its call did not find the interrupt that it ends active, and no claim failed
pub record MayEnter (seen : Seen) (lrs : ℕ) (p : Progress) : Type 0 where
  pub idle : IsIdle seen p
  pub near : unwrap_or p.far false ≡ false
  pub lrs_is : p.lrs ≡ lrs
  pub none_failed : p.failed ≡ false

-- a scan has these claims to make; of the interrupt that its call ends, if any, it goes by the last look
pub record IsPlanned (seen : Seen) (lrs : ℕ) (fill : Fill) (p q : Progress) : Type 0 where
  pub far : Option Bool
  pub is : q ≡ claims_by seen (keys_chosen fill) (keys_of_both fill) (regs_of fill seen.local.cpu lrs) fill.trapping false (record (begun false p) { far = far })

-- a vCPU looked for a kick, took its index, looked at its candidates, and has the plan over what it found at no interface and not wanted
pub record Scans (old new : Seen) (lrs : ℕ) (fill : Fill) : Type 0 where
  pub part : List Made
  pub adds : Adds old new part
  pub look : Made
  pub rest : List Made
  pub part_is : part ≡ look ∷ rest
  pub look_is : look.step ≡ Poll None None
  pub rest_is : IsTrue (all_are is_search rest)
  pub none_taken : IsTrue (takes_none part)
  pub silent : part_events old part ≡ []
  pub looks : looks_in part ≡ bits_taken part
  pub same : record new.local { cands = old.local.cands; phase = old.local.phase; cpu = old.local.cpu } ≡ old.local
  pub phase : new.local.phase ≡ Claiming
  pub cpu : record new.local.cpu { lpis = old.local.cpu.lpis } ≡ old.local.cpu
  pub plan : IsPlanOf new lrs fill
  pub entries : HasEntries fill.choice
  pub proper : (p : Progress) → MayEnter old lrs p → IsProper (shape_of old) old.actor p (map makes part)
  pub goes_on : (p : Progress) → MayEnter old lrs p → IsPlanned new lrs fill p (progress_of (shape_of old) old.actor p (map makes part))

-- The vCPU on its PE.

-- the vCPU with this CPU record and the registers that a fill asks for, before it takes an interrupt
pub record IsReady (vcpu : Shelved) (cpu : CpuRec) (lrs : ℕ) (fill : Fill) (loaded : Loaded) : Type 0 where
  pub base : loaded.base ≡ record vcpu { cpu = cpu }
  pub regs : loaded.regs ≡ record (regs_of fill cpu lrs) { lr = replicate 16 0 }
  pub held : loaded.held ≡ replicate 16 None
  pub trapping : loaded.trapping ≡ fill.trapping
  pub back : shelved_of loaded ≡ record vcpu { cpu = cpu }

-- a scan is over: its vCPU marked what is left to itself, and kicked itself where a claim failed
pub record EndsScan (old new : Seen) (failed : Bool) : Type 0 where
  pub part : List Made
  pub adds : Adds old new part
  pub marks : List Made
  pub kick : List Made
  pub part_is : part ≡ marks ++ kick
  pub marks_are : IsTrue (all_are is_mark marks)
  pub kick_is : steps_of kick ≡ (if failed then Kick old.actor ∷ [] else [])
  pub none_taken : IsTrue (takes_none part)
  pub quiet : IsTrue (are_quiet part)
  pub silent : part_events old part ≡ []
  pub same : record new.local { cands = old.local.cands; owes = old.local.owes } ≡ old.local
  pub none : IsTrue (has_no_cand new.local)
  pub owes : IsTrue (owes_no_kick old.local) → IsTrue (owes_no_kick new.local)
  pub proper : (regs : IchRegs) (trapping : Bool) (p : Progress) → IsProper (shape_of old) old.actor (claims_by old [] [] regs trapping failed p) (map makes part)
  pub goes_on :
      (regs : IchRegs) (trapping : Bool) (p : Progress)
      → progress_of (shape_of old) old.actor (claims_by old [] [] regs trapping failed p) (map makes part) ≡ record (told_by new p) { scan = idle; regs = regs; trapping = trapping; failed = false }

-- The entry.

-- the protocol of a vCPU that has entered, with what its port tells: no scan is in progress and none is to come for a failed claim, its registers are those of the PE,
-- and only a scan that it owed after an end of interrupt is owed; of the interrupt that its call ends, if any, it goes by the last look
abbrev pub entered : Seen → Loaded → Option Bool → Progress → Progress
entered seen vcpu far p = record (told_by seen p) { scan = idle; regs = vcpu.regs; trapping = vcpu.trapping; scanned = false; far = far; failed = false; debt = owed_after_scan p.debt }

pub record HasEntered (seen : Seen) (vcpu : Loaded) (p q : Progress) : Type 0 where
  pub far : Option Bool
  pub is : q ≡ entered seen vcpu far p

-- an actor between two parts, that owes no scan after an end of interrupt and had no claim fail
pub record IsBetween (seen : Seen) (p : Progress) : Type 0 where
  pub rest : IsAtRest seen p
  pub none_failed : p.failed ≡ false
  pub debt : owed_after_scan p.debt ≡ paid

-- a vCPU entered a PE with so many list registers: what its scan found and the plan chose is at its interface, but for what changed meanwhile; its CPU record is the
-- same, but for a newer copy of EnableLPIs
pub record Enters (old new : Seen) (vcpu : Shelved) (lrs : ℕ) (loaded : Loaded) : Type 0 where
  pub part : List Made
  pub adds : Adds old new part
  pub steps : IsEntryPart old.actor part
  pub none_taken : IsTrue (takes_none part)
  pub looks : looks_in part ≡ bits_taken part
  pub moves : IsTrue (are_moves old.actor (part_events old part))
  pub call : MakesCall old part Residence None
  pub proper : (p : Progress) → MayEnter old lrs p → IsProper (shape_of old) old.actor p (map makes part)
  pub goes_on : (p : Progress) → MayEnter old lrs p → HasEntered new loaded p (progress_of (shape_of old) old.actor p (map makes part))
  pub whole_part : (p : Progress) → IsBetween old p → IsProper (shape_of old) old.actor p (part_of Residence lrs part None)
  pub up : IsUp new loaded
  pub lrs_is : loaded.regs.n ≡ lrs
  pub cpu : record new.local.cpu { lpis = old.local.cpu.lpis } ≡ old.local.cpu
  pub kept : record loaded.base { cpu = vcpu.cpu } ≡ vcpu
