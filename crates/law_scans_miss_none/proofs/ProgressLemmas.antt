-- What a step leaves of how far an actor is, besides its scan.
use Rattle.std.proofs.Common.{◌≡◌, ℕ, Bool, true, false, Option, Some, None, unwrap_or, refl, ◌∙◌}
use Rattle.law_registers_stand.specs.Words.{IccReg, Key, GuestShape, Irq as IrqRecord}
use Rattle.law_registers_stand.specs.Core.{Made, CoreStep, Look, Claim, Poll, Irq, local_after, succeeds, vcpu_of, Progress, after_claim, after_poll, begun, stepped, Scan, claiming}
use Rattle.law_registers_stand.specs.CoreProper.Progress.{changed_by}
use Rattle.law_registers_stand.proofs.CoreProper.ScanLemmas.{kept_on}
use Rattle.law_scans_miss_none.proofs.ScanSteps.{with_made}

claim_operation : (key : Key) (irq : IrqRecord) (done : Bool) (scan : Scan) (p : Progress) → (after_claim key irq done scan p).operation ≡ p.operation
claim_operation key irq done (claiming claims takes) p = refl
claim_operation key irq done scan p = refl

poll_operation : (reg : Option IccReg) (write : Option ℕ) (kicked : Bool) (p : Progress) → (after_poll reg write kicked p).operation ≡ p.operation
poll_operation None write kicked p = of (unwrap_or p.far false)
  where
    of : (b : Bool) → (begun b p).operation ≡ p.operation
    of true = refl
    of false = refl
poll_operation (Some reg) write true p = refl
poll_operation (Some reg) write false p = refl

changed_operation : (shape : GuestShape) (actor : ℕ) (step : CoreStep) (found : ℕ) (done : Bool) (p : Progress) → (changed_by shape actor step found done p).operation ≡ p.operation
changed_operation shape actor (Claim key seen) found done p = claim_operation key _ done p.scan p
changed_operation shape actor (Poll reg write) found done p = poll_operation reg write (vcpu_of found).kick p
changed_operation shape actor (Look (Irq key)) found done p = refl
changed_operation shape actor step found done p = refl

-- the call goes on
pub operation_on : (shape : GuestShape) (actor : ℕ) (made : Made) (p : Progress) → (stepped shape actor made p).operation ≡ p.operation
operation_on shape actor made p =
    let after = changed_by shape actor made.step made.found (succeeds shape actor p.local made.step made.found) p in
    kept_on (λ (q : Progress). q.operation) (λ q scan regs trapping. refl) shape actor (with_made shape actor made p after) ∙ changed_operation shape actor made.step made.found (succeeds shape actor p.local made.step made.found) p

-- and what the actor has for itself is what the step leaves it
pub local_on : (shape : GuestShape) (actor : ℕ) (made : Made) (p : Progress) → (stepped shape actor made p).local ≡ local_after shape actor p.local made.step made.found
local_on shape actor made p =
    let after = changed_by shape actor made.step made.found (succeeds shape actor p.local made.step made.found) p in
    kept_on (λ (q : Progress). q.local) (λ q scan regs trapping. refl) shape actor (with_made shape actor made p after)

-- what is not of the scan is what the step leaves before the scan goes on
pub far_on : (shape : GuestShape) (actor : ℕ) (made : Made) (p : Progress) → (stepped shape actor made p).far ≡ (changed_by shape actor made.step made.found (succeeds shape actor p.local made.step made.found) p).far
far_on shape actor made p =
    let after = changed_by shape actor made.step made.found (succeeds shape actor p.local made.step made.found) p in
    kept_on (λ (q : Progress). q.far) (λ q scan regs trapping. refl) shape actor (with_made shape actor made p after)

pub failure_on : (shape : GuestShape) (actor : ℕ) (made : Made) (p : Progress) → (stepped shape actor made p).failed ≡ (changed_by shape actor made.step made.found (succeeds shape actor p.local made.step made.found) p).failed
failure_on shape actor made p =
    let after = changed_by shape actor made.step made.found (succeeds shape actor p.local made.step made.found) p in
    kept_on (λ (q : Progress). q.failed) (λ q scan regs trapping. refl) shape actor (with_made shape actor made p after)
