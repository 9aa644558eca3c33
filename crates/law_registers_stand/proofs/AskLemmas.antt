-- What a vCPU's registers ask for, by how far its scan is.
use Rattle.std.proofs.Common.{◌≡◌, ℕ, ◌+◌, ◌%◌, ◌/◌, ◌^◌, ◌≤◌, ◌==◌, true≢false, Bool, true, false, if◌then◌else◌, IsTrue, List, [], ◌∷◌, Option, Some, None, is_none, set, get_or, refl, sym, ap, subst, ◌∙◌, arith}
use Rattle.std.specs.List.{position}
use Rattle.std.specs.Option.{option_map_or}
use Rattle.law_core_is_history.specs.Words.{IccReg, Key, GuestShape, intid_of, IsShape}
use Rattle.law_core_is_history.specs.Lists.{IchRegs, seen_in, listed_of, misr_of, is_live, acknowledged_word, deactivated_word, has_active, has_candidate, after_acknowledge, after_deactivation, candidates_of, counted, cpu_in, is_counted, registers_after, Offer}
use Rattle.law_core_is_history.specs.Registers.{Candidate, CpuRec, deactivated_by, taken_by}
use Rattle.law_core_is_history.specs.Core.{is_ready, has_no_cand, index_words, CoreState, IsLocal, Progress, filled, looks_on, goes_on, scan_on, is_paid, with_changed, Purpose, planned, trapped, bare, Scan, idle, taking, looking, claiming, next_cand, ended_scan}
use Rattle.law_registers_stand.specs.Asks.{IsMirrored, HasAll}
use Rattle.law_registers_stand.proofs.AskFill.{plan_mirrors, plan_quiet}
use Rattle.law_registers_stand.proofs.LookSteps.{IsLooking, looks_at_none}
use Rattle.law_registers_stand.proofs.StandLemmas.{Standing}

-- where a vCPU may do accesses, out of trap mode and with no scan owed, the groups' changes are asked for; and once it claimed all, none is asserted
abbrev pub Asking : GuestShape → CoreState → ℕ → Bool → Progress → Type 0
Asking shape state vcpu ready p = IsTrue ready → p.trapping ≡ false → IsTrue (is_paid p.debt) → IsMirrored p.regs.hcr p.local.cpu × (HasAll shape state vcpu p → misr_of p.regs ≡ 0)

-- a scan fills the registers by the plan, or is one of trap mode, or one after which another is owed
abbrev pub IsMeant : Purpose → Progress → Type 0
IsMeant planned p = Unit {0}
IsMeant trapped p = p.trapping ≡ true
IsMeant bare p = is_paid p.debt ≡ false

abbrev pub Asks : GuestShape → CoreState → ℕ → Progress → Scan → Type 0
Asks shape state vcpu p idle = Asking shape state vcpu (is_ready p.local.phase) p
Asks shape state vcpu p (taking purpose words) = IsMeant purpose p
Asks shape state vcpu p (looking purpose from offers) = IsMeant purpose p
Asks shape state vcpu p (claiming claims takes) = Asking shape state vcpu true p

-- the same of an actor with the same registers
pub asking_as :
    (shape : GuestShape) (state later : CoreState) (vcpu : ℕ) (ready now : Bool) (p q : Progress) → q.regs ≡ p.regs → q.local.cpu ≡ p.local.cpu → q.trapping ≡ p.trapping → (IsTrue (is_paid q.debt) → IsTrue (is_paid p.debt)) → (IsTrue now → IsTrue ready) → (HasAll shape later vcpu q → HasAll shape state vcpu p)
    → Asking shape state vcpu ready p → Asking shape later vcpu now q
asking_as shape state later vcpu ready now p q regs cpu trapping debt phase all before = λ is untrapped paid.
    let was = before (phase is) (sym trapping ∙ untrapped) (debt paid) in
    (subst (λ c. IsMirrored q.regs.hcr c) (sym cpu) (subst (λ (r : IchRegs). IsMirrored r.hcr p.local.cpu) (sym regs) was.0), λ has. ap misr_of regs ∙ was.1 (all has))

-- A scan that has come so far goes on.

module _ (shape : GuestShape) (good : IsShape shape) (state : CoreState) (vcpu : ℕ) (q : Progress) (few : q.lrs ≤ 16) (is_local : IsLocal shape vcpu q.local) where
  fills : (purpose : Purpose) (from : ℕ) (offers : List Offer) → IsLooking shape vcpu q.local q.own from offers → IsMeant purpose q → let on = filled shape vcpu purpose offers q in Asks shape state vcpu on on.scan
  fills planned from offers is meant = λ ready untrapped paid.
      (plan_mirrors shape good vcpu q.lrs few q.local is.empty q.own offers is.each is.apart untrapped, λ all. plan_quiet shape good vcpu q.lrs few q.local is.empty q.own offers is.each is.apart untrapped is_local.points)
  fills trapped from offers is meant = λ ready untrapped paid. absurd (true≢false (sym meant ∙ untrapped))
  fills bare from offers is meant = λ ready untrapped paid. absurd (true≢false (sym paid ∙ meant))

  looks_at : (purpose : Purpose) (from : ℕ) (offers : List Offer) → IsLooking shape vcpu q.local q.own from offers → IsMeant purpose q → let on = looks_on shape vcpu purpose from offers q in Asks shape state vcpu on on.scan
  looks_at purpose from offers is meant = of (is_none (next_cand shape vcpu q.local.cands from))
    where
      meant_on : (purpose : Purpose) → IsMeant purpose q → IsMeant purpose (record q { scan = looking purpose from offers })
      meant_on planned h = h
      meant_on trapped h = h
      meant_on bare h = h

      of : (b : Bool) → let on = (if b then filled shape vcpu purpose offers q else record q { scan = looking purpose from offers }) in Asks shape state vcpu on on.scan
      of true = fills purpose from offers is meant
      of false = meant_on purpose meant

  goes : (finds : Bool) (scan : Scan) → q.scan ≡ scan → Standing finds shape vcpu q scan → Asks shape state vcpu q scan → let on = goes_on shape vcpu scan q in Asks shape state vcpu on on.scan
  goes finds idle e is asks = subst (Asks shape state vcpu q) (sym e) asks
  goes finds (taking purpose words) e is asks = of (words == index_words shape)
    where
      of : (b : Bool) → let on = (if b then looks_on shape vcpu purpose 0 [] q else q) in Asks shape state vcpu on on.scan
      of true = looks_at purpose 0 [] (looks_at_none shape vcpu q.local q.own is) asks
      of false = subst (Asks shape state vcpu q) (sym e) asks
  goes finds (looking purpose from offers) e is asks = looks_at purpose from offers is asks
  goes finds (claiming claims takes) e is asks = subst (Asks shape state vcpu q) (sym e) asks

ended : (shape : GuestShape) (state : CoreState) (vcpu : ℕ) (q : Progress) → Asks shape state vcpu q q.scan → Asks shape state vcpu (record q { scan = ended_scan q.local q.scan }) (ended_scan q.local q.scan)
ended shape state vcpu q asks = of q.scan asks
  where
    scanned : (scan : Scan) → HasAll shape state vcpu (record q { scan = scan }) → HasAll shape state vcpu q
    scanned scan all = record { none_failed = all.none_failed; unkicked = all.unkicked }

    again : (scan : Scan) (ready now : Bool) → (IsTrue now → IsTrue ready) → Asking shape state vcpu ready q → Asking shape state vcpu now (record q { scan = scan })
    again scan ready now to asking = asking_as shape state state vcpu ready now q (record q { scan = scan }) refl refl refl (λ h. h) to (scanned scan) asking

    meant : (purpose : Purpose) (scan : Scan) → IsMeant purpose q → IsMeant purpose (record q { scan = scan })
    meant planned scan h = h
    meant trapped scan h = h
    meant bare scan h = h

    over : (b : Bool) → Asking shape state vcpu true q → Asks shape state vcpu (record q { scan = if b then idle else claiming [] [] }) (if b then idle else claiming [] [])
    over true asking = again idle true (is_ready q.local.phase) (λ h. refl) asking
    over false asking = again (claiming [] []) true true (λ h. h) asking

    of : (scan : Scan) → Asks shape state vcpu q scan → Asks shape state vcpu (record q { scan = ended_scan q.local scan }) (ended_scan q.local scan)
    of idle asks = again idle (is_ready q.local.phase) (is_ready q.local.phase) (λ h. h) asks
    of (taking purpose words) asks = meant purpose (taking purpose words) asks
    of (looking purpose from offers) asks = meant purpose (looking purpose from offers) asks
    of (claiming [] []) asks = over (has_no_cand q.local) asks
    of (claiming [] (k ∷ takes)) asks = again (claiming [] (k ∷ takes)) true true (λ h. h) asks
    of (claiming (k ∷ claims) takes) asks = again (claiming (k ∷ claims) takes) true true (λ h. h) asks

pub asks_on : (finds : Bool) (shape : GuestShape) (state : CoreState) (vcpu : ℕ) (q : Progress) → IsShape shape → q.lrs ≤ 16 → IsLocal shape vcpu q.local → Standing finds shape vcpu q q.scan → Asks shape state vcpu q q.scan → let on = scan_on shape vcpu q in Asks shape state vcpu on on.scan
asks_on finds shape state vcpu q good few is_local is asks = let on = goes_on shape vcpu q.scan q in ended shape state vcpu on (goes shape good state vcpu q few is_local finds q.scan refl is asks)

-- What is asked for stays: a claim or a take that failed, and an access, change nothing of it.

pub changed_hcr : (key : Key) (change : ℕ → ℕ) (regs : IchRegs) → (with_changed key change regs).hcr ≡ regs.hcr
changed_hcr key change regs = of (position (λ word. is_live (intid_of key) (seen_in word)) (listed_of regs))
  where
    of : (o : Option ℕ) → (option_map_or (λ place. record regs { lr = set regs.lr place (change (get_or regs.lr place 0)) }) o regs).hcr ≡ regs.hcr
    of None = refl
    of (Some place) = refl

mirrors_counted : (regs : IchRegs) (cpu : CpuRec) (b : Bool) → IsMirrored regs.hcr cpu → IsMirrored (if b then counted regs else regs).hcr cpu
mirrors_counted regs cpu false mirrored = mirrored
mirrors_counted regs cpu true mirrored =
    let bit4 : (regs.hcr + 2 ^ 27) % 2 ^ 32 / 2 ^ 4 % 2 ≡ regs.hcr / 2 ^ 4 % 2 = omega arith in
    let bit5 : (regs.hcr + 2 ^ 27) % 2 ^ 32 / 2 ^ 5 % 2 ≡ regs.hcr / 2 ^ 5 % 2 = omega arith in
    let bit6 : (regs.hcr + 2 ^ 27) % 2 ^ 32 / 2 ^ 6 % 2 ≡ regs.hcr / 2 ^ 6 % 2 = omega arith in
    let bit7 : (regs.hcr + 2 ^ 27) % 2 ^ 32 / 2 ^ 7 % 2 ≡ regs.hcr / 2 ^ 7 % 2 = omega arith in
    record {
      enabled0 = ap (λ n. n == 1) bit4 ∙ mirrored.enabled0;
      disabled0 = ap (λ n. n == 1) bit5 ∙ mirrored.disabled0;
      enabled1 = ap (λ n. n == 1) bit6 ∙ mirrored.enabled1;
      disabled1 = ap (λ n. n == 1) bit7 ∙ mirrored.disabled1;
    }

pub mirrors_after : (reg : IccReg) (write : Option ℕ) (regs : IchRegs) (cpu : CpuRec) → IsMirrored regs.hcr cpu → IsMirrored (registers_after reg write regs).hcr cpu
mirrors_after reg write regs cpu mirrored = by_ended (deactivated_by reg write (cpu_in regs)) (after_acknowledge (taken_by reg write (cpu_in regs) (candidates_of regs)) regs) (by_taken (taken_by reg write (cpu_in regs) (candidates_of regs)))
  where
    by_taken : (o : Option Candidate) → IsMirrored (after_acknowledge o regs).hcr cpu
    by_taken None = mirrored
    by_taken (Some f) = of (position (has_candidate f) (listed_of regs))
      where
        of : (o : Option ℕ) → IsMirrored (option_map_or (λ place. record regs { lr = set regs.lr place (acknowledged_word (get_or regs.lr place 0)) }) o regs).hcr cpu
        of None = mirrored
        of (Some place) = mirrored

    by_ended : (o : Option ℕ) (r : IchRegs) → IsMirrored r.hcr cpu → IsMirrored (after_deactivation o r).hcr cpu
    by_ended None r m = m
    by_ended (Some k) r m = of (position (has_active k) (listed_of r))
      where
        of : (o : Option ℕ) → IsMirrored (option_map_or (λ place. record r { lr = set r.lr place (deactivated_word (get_or r.lr place 0)) }) o (if is_counted k then counted r else r)).hcr cpu
        of None = mirrors_counted r cpu (is_counted k) m
        of (Some place) = m
