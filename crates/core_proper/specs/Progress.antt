-- What an actor's own list of steps and parts says of its protocol: a fold over the list.
use Rattle.std.specs.Prelude.{ℕ, ◌==◌, ◌&&◌, ◌||◌, not, Bool, true, false, List, [], ◌∷◌, ◌++◌, fold, filter, is_none, if◌then◌else◌, Option, Some, None, option_to_list, unwrap_or}
use Rattle.std.specs.Option.{option_map, option_map_or}
use Rattle.floor_histories.specs.Words.{IccReg, Eoir0, Eoir1, Dir, Key, Icc, Mem, GuestShape, is_same_key, key_of, Irq, is_number, irq_of}
use Rattle.floor_histories.specs.Calls.{Operation, Access}
use Rattle.floor_histories.specs.Histories.{IdealGuest}
use Rattle.floor_lists.specs.Lists.{IchRegs, misr_of, Pending, Active, Offer, first_among, plan, regs_of, chosen_as}
use Rattle.floor_histories.specs.Registers.{intid_written}
use Rattle.port_core.specs.declared.local.Local.{Local}
use Rattle.port_core.specs.declared.run.Made.{Made}
use Rattle.port_core.specs.declared.step.CoreStep.{CoreStep}
use Rattle.port_core.specs.declared.step.CoreStep.TheVariants.{Look, Claim, Poll, Kick, Touch, Want, TakeIndex}
use Rattle.port_core.specs.CoreWords.declared.word_id.WordId.TheVariants.{Irq as IrqWord}
use Rattle.port_core.specs.After.{local_after}
use Rattle.port_core.specs.Effect.{succeeds}
use Rattle.port_core.specs.Forms.{vcpu_of}
use Rattle.port_core.specs.Place.{index_words}
use Rattle.port_core.specs.Run.{opening_seat}
use Rattle.core_proper.specs.Parts.{Act, begins, makes, ends, CoreMoment, own_acts}
use Rattle.core_proper.specs.RunRegisters.{alone, without_claim, without_take, after_operation}
use Rattle.core_proper.specs.Scan.{Purpose, planned, trapped, bare, Scan, idle, is_idle, taking, looking, claiming, has_key, next_cand, keys_chosen, keys_of_both, word_taken, scan_looked, tried, ended_scan}

-- the scan that a vCPU owes: none; one after the end of interrupt that it is about to do; or one before its next access
pub data Debt : Type 0 where
  paid : Debt
  after_end : Debt
  before_next : Debt

-- an actor in the course of its protocol
pub record Progress : Type 0 where
  -- what it has for itself, and the steps that it made
  pub local : Local
  pub own : List Made
  -- the call of the part in progress, and the list registers of the PE
  pub operation : Option Operation
  pub lrs : ℕ
  -- the scan in progress
  pub scan : Scan
  -- the registers, and whether the plan that they began as is of trap mode
  pub regs : IchRegs
  pub trapping : Bool
  -- since its last look for a kick: it began a scan of trap mode; and it looked at the interrupt that its call ends, and is still to take it to its interface
  -- or not
  pub scanned : Bool
  pub far : Option Bool
  -- a claim or take failed, and it did not kick itself since
  pub failed : Bool
  -- the scan that it owes
  pub debt : Debt
  -- the interrupts that it wants and did not touch since
  pub wants : List Key

abbrev pub opening_progress : IdealGuest → ℕ → ℕ → Progress
opening_progress guest number actor =
    let local = (opening_seat guest number actor).local in
    record {
      local = local;
      own = [];
      operation = None;
      lrs = 0;
      scan = idle;
      regs = alone None local.cpu 0;
      trapping = false;
      scanned = false;
      far = None;
      failed = false;
      debt = paid;
      wants = [];
    }

-- The end of an interrupt.

-- the interrupt that an access ends or deactivates, if the guest has one with the INTID that is written
abbrev pub ended_by : GuestShape → ℕ → IccReg → Option ℕ → Option Key
ended_by shape vcpu Eoir0 (Some value) = key_of (intid_written value) vcpu shape
ended_by shape vcpu Eoir1 (Some value) = key_of (intid_written value) vcpu shape
ended_by shape vcpu Dir (Some value) = key_of (intid_written value) vcpu shape
ended_by shape vcpu reg write = None

-- a call ends or deactivates the interrupt
abbrev pub is_end_of : GuestShape → ℕ → Option Operation → Key → Bool
is_end_of shape vcpu (Some (Access (Icc reg write))) key = option_map_or (is_same_key key) (ended_by shape vcpu reg write) false
is_end_of shape vcpu operation key = false

-- Scans.

-- all candidates were looked at: what the scan has to claim now, and the registers that it fills
abbrev pub filled : GuestShape → ℕ → Purpose → List Offer → Progress → Progress
filled shape vcpu planned offers p =
    let fill = plan offers vcpu p.local.cpu shape p.lrs in
    record p { scan = claiming (keys_chosen fill) (keys_of_both fill); regs = regs_of fill p.local.cpu p.lrs; trapping = fill.trapping }
filled shape vcpu trapped offers p =
    let first = first_among offers vcpu p.local.cpu shape in
    record p { scan = claiming (option_to_list (option_map (λ offer. offer.key) first)) []; regs = alone (option_map (chosen_as Pending) first) p.local.cpu p.lrs }
filled shape vcpu bare offers p = record p { scan = claiming [] []; regs = alone None p.local.cpu p.lrs }

-- how a scan goes on: once it has all words it looks at the candidates, and after the last of them it claims
abbrev pub looks_on : GuestShape → ℕ → Purpose → ℕ → List Offer → Progress → Progress
looks_on shape vcpu purpose from offers p =
    if is_none (next_cand shape vcpu p.local.cands from) then filled shape vcpu purpose offers p
    else record p { scan = looking purpose from offers }

abbrev pub goes_on : GuestShape → ℕ → Scan → Progress → Progress
goes_on shape vcpu (taking purpose words) p = if words == index_words shape then looks_on shape vcpu purpose 0 [] p else p
goes_on shape vcpu (looking purpose from offers) p = looks_on shape vcpu purpose from offers p
goes_on shape vcpu scan p = p

-- a scan that has come so far, and is over where nothing is left
abbrev pub scan_on : GuestShape → ℕ → Progress → Progress
scan_on shape vcpu p = let on = goes_on shape vcpu p.scan p in record on { scan = ended_scan on.local on.scan }

-- Steps.

-- after a look at an interrupt
abbrev pub after_look : GuestShape → ℕ → Key → Irq → Progress → Progress
after_look shape actor key irq p =
    record p {
      scan = scan_looked shape key irq p.scan;
      far = if is_end_of shape actor p.operation key then Some (is_number actor irq.act_by) else p.far;
    }

-- the registers after a claim of a scan, or a take
abbrev pub claim_left : Key → Bool → List Key → IchRegs → IchRegs
claim_left key true claims regs = regs
claim_left key false claims regs = if has_key key claims then without_claim key regs else without_take key regs

-- a scan is owed after the end of interrupt, unless it is owed before
abbrev pub owing_after : Debt → Debt
owing_after before_next = before_next
owing_after debt = after_end

-- after a claim of a scan; with no scan in progress, of the interrupt that its call ends, which gets list register 0 with State 2
abbrev pub after_claim : Key → Irq → Bool → Scan → Progress → Progress
after_claim key irq done (claiming claims takes) p =
    record p { scan = tried key done (claiming claims takes); regs = claim_left key done claims p.regs; failed = p.failed || not done }
after_claim key irq done scan p =
    record p {
      far = Some false;
      debt = owing_after p.debt;
      regs = alone (if done then Some (chosen_as Active (record { key = key; irq = irq })) else None) p.local.cpu p.lrs;
      failed = p.failed || not done;
    }

-- what is owed once a scan begins: a scan that is owed after the end of an interrupt stays owed
abbrev pub owed_after_scan : Debt → Debt
owed_after_scan after_end = after_end
owed_after_scan debt = paid

-- after a look for a kick with which a scan begins: it is bare where the call is to end an interrupt that was found active by the vCPU
abbrev pub begun : Bool → Progress → Progress
begun true p = record p { scan = taking bare 0; trapping = false; scanned = false; debt = after_end }
begun false p = record p { scan = taking planned 0; trapping = false; scanned = false; far = None; debt = owed_after_scan p.debt }

-- no scan is owed
abbrev pub is_paid : Debt → Bool
is_paid paid = true
is_paid debt = false

-- the vCPU has to scan again after an access: a maintenance interrupt is asserted, it is in trap mode, or it took an interrupt to its interface to end it
abbrev pub is_to_scan : IchRegs → Bool → Debt → Bool
is_to_scan regs trapping debt = not (misr_of regs == 0) || trapping || not (is_paid debt)

-- after an access, and after one that found a kick
abbrev pub after_icc : IccReg → Option ℕ → Progress → Progress
after_icc reg write p =
    let regs = after_operation p.trapping reg write p.regs in
    record p { regs = regs; scanned = false; far = None; debt = if is_to_scan regs p.trapping p.debt then before_next else paid }

abbrev pub after_poll : Option IccReg → Option ℕ → Bool → Progress → Progress
after_poll None write kicked p = begun (unwrap_or p.far false) p
after_poll (Some reg) write true p = record p { scanned = false; far = None }
after_poll (Some reg) write false p = after_icc reg write p

-- what a step changes besides what the actor has for itself; `done` says whether it did what it is for
abbrev pub changed_by : GuestShape → ℕ → CoreStep → ℕ → Bool → Progress → Progress
changed_by shape actor (TakeIndex word) found done p = record p { scan = word_taken p.scan; scanned = p.scanned || is_idle p.scan }
changed_by shape actor (Look (IrqWord key)) found done p = after_look shape actor key (irq_of found) p
changed_by shape actor (Claim key seen) found done p = after_claim key (irq_of found) done p.scan p
changed_by shape actor (Poll reg write) found done p = after_poll reg write (vcpu_of found).kick p
changed_by shape actor (Kick vcpu) found done p = record p { failed = p.failed && not (vcpu == actor) }
changed_by shape actor (Touch key seen kind) found done p = record p { wants = if done then filter (λ other. not (is_same_key key other)) p.wants else p.wants }
changed_by shape actor (Want key) found done p = record p { wants = key ∷ p.wants }
changed_by shape actor step found done p = p

-- after a step
abbrev pub stepped : GuestShape → ℕ → Made → Progress → Progress
stepped shape actor made p =
    let done = succeeds shape actor p.local made.step made.found in
    let after = changed_by shape actor made.step made.found done p in
    scan_on shape actor (record after { local = local_after shape actor p.local made.step made.found; own = p.own ++ made ∷ [] })

-- Parts.

-- a vCPU leaves its PE and enters again round each memory-mapped access, and scans then
abbrev pub owed_by_call : Operation → Debt → Debt
owed_by_call (Access (Mem frame offset size write)) debt = before_next
owed_by_call operation debt = debt

-- an end of interrupt that was not done is over with its part
abbrev pub owed_after_part : Debt → Debt
owed_after_part paid = paid
owed_after_part debt = before_next

-- after a moment
abbrev pub progressed : GuestShape → ℕ → Progress → Act → Progress
progressed shape actor p (begins operation lrs) =
    record p { operation = Some operation; lrs = lrs; far = None; debt = owed_by_call operation p.debt }
progressed shape actor p (makes made) = stepped shape actor made p
progressed shape actor p (ends answer) = record p { operation = None; debt = owed_after_part p.debt }

-- after some
abbrev pub progress_of : GuestShape → ℕ → Progress → List Act → Progress
progress_of shape actor p acts = fold (progressed shape actor) p acts

-- an actor at the end of a run of a guest from its opening
abbrev pub progress_in : IdealGuest → ℕ → List CoreMoment → ℕ → Progress
progress_in guest number moments actor = progress_of guest.shape actor (opening_progress guest number actor) (own_acts actor moments)
