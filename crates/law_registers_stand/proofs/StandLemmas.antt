-- What the registers of a vCPU stand for, by how far its scan is.
use Rattle.std.proofs.Common.{◌≡◌, ℕ, ◌≤◌, ◌==◌, ◌||◌, Bool, true, false, if◌then◌else◌, IsTrue, List, [], ◌∷◌, None, is_none, refl, sym, subst}
use Rattle.law_core_is_history.specs.Words.{GuestShape, IsShape}
use Rattle.law_core_is_history.specs.Lists.{Offer}
use Rattle.law_core_is_history.specs.Core.{is_ready, has_no_cand, index_words, IsLocal, Progress, filled, looks_on, goes_on, scan_on, is_paid, RegistersAgree, Purpose, planned, trapped, bare, Scan, idle, taking, looking, claiming, next_cand, ended_scan}
use Rattle.law_core_is_history.proofs.CoreProper.ScanLemmas.{local_on}
use Rattle.law_registers_stand.proofs.ComeLemmas.{IsClaiming}
use Rattle.law_registers_stand.proofs.EndLemmas.{settled_agrees}
use Rattle.law_registers_stand.proofs.FillLemmas.{plan_claims, alone_claims, first_claims}
use Rattle.law_registers_stand.proofs.LookSteps.{IsLooking, looks_at_none}

-- with no scan in progress the registers agree with the interface, where the vCPU may do accesses, and owes no scan unless it finds active what it takes to end it;
-- a scan begins with nothing at the interface; and while it claims, the registers show what is still to be claimed and taken besides
abbrev pub Standing : Bool → GuestShape → ℕ → Progress → Scan → Type 0
Standing finds shape vcpu p idle = IsTrue (is_ready p.local.phase) → IsTrue (finds || is_paid p.debt) → RegistersAgree p.regs p.local
Standing finds shape vcpu p (taking purpose words) = p.local.at ≡ []
Standing finds shape vcpu p (looking purpose from offers) = IsLooking shape vcpu p.local p.own from offers
Standing finds shape vcpu p (claiming claims takes) = IsClaiming shape vcpu p.local p.own p.regs claims takes

-- A scan that has come so far goes on.

module _ (finds : Bool) (shape : GuestShape) (good : IsShape shape) (vcpu : ℕ) (q : Progress) (some : 1 ≤ q.lrs) (few : q.lrs ≤ 16) (is_local : IsLocal shape vcpu q.local) where
  fills : (purpose : Purpose) (from : ℕ) (offers : List Offer) → IsLooking shape vcpu q.local q.own from offers → let on = filled shape vcpu purpose offers q in Standing finds shape vcpu on on.scan
  fills planned from offers is = plan_claims shape good vcpu q.lrs few q.local is.empty q.own offers is.each is.apart
  fills trapped from offers is = first_claims shape vcpu q.lrs some few q.local is.empty q.own offers is.each
  fills bare from offers is = alone_claims shape vcpu q.lrs some few q.local is.empty q.own None (λ offer e. absurd (cc))

  looks_at : (purpose : Purpose) (from : ℕ) (offers : List Offer) → IsLooking shape vcpu q.local q.own from offers → let on = looks_on shape vcpu purpose from offers q in Standing finds shape vcpu on on.scan
  looks_at purpose from offers is = of (is_none (next_cand shape vcpu q.local.cands from))
    where
      of : (b : Bool) → let on = (if b then filled shape vcpu purpose offers q else record q { scan = looking purpose from offers }) in Standing finds shape vcpu on on.scan
      of true = fills purpose from offers is
      of false = is

  goes : (scan : Scan) → q.scan ≡ scan → Standing finds shape vcpu q scan → let on = goes_on shape vcpu scan q in Standing finds shape vcpu on on.scan
  goes idle e is = subst (Standing finds shape vcpu q) (sym e) is
  goes (taking purpose words) e is = of (words == index_words shape)
    where
      of : (b : Bool) → let on = (if b then looks_on shape vcpu purpose 0 [] q else q) in Standing finds shape vcpu on on.scan
      of true = looks_at purpose 0 [] (looks_at_none shape vcpu q.local q.own is)
      of false = subst (Standing finds shape vcpu q) (sym e) is
  goes (looking purpose from offers) e is = looks_at purpose from offers is
  goes (claiming claims takes) e is = subst (Standing finds shape vcpu q) (sym e) is

-- its end
ended : (finds : Bool) (shape : GuestShape) (vcpu : ℕ) (q : Progress) → IsShape shape → IsLocal shape vcpu q.local → Standing finds shape vcpu q q.scan → Standing finds shape vcpu (record q { scan = ended_scan q.local q.scan }) (ended_scan q.local q.scan)
ended finds shape vcpu q good is_local is = of q.scan is
  where
    over : (b : Bool) → IsClaiming shape vcpu q.local q.own q.regs [] [] → Standing finds shape vcpu (record q { scan = if b then idle else claiming [] [] }) (if b then idle else claiming [] [])
    over true is = λ ready owed. settled_agrees shape vcpu q.local q.own q.regs good is_local is
    over false is = is

    of : (scan : Scan) → Standing finds shape vcpu q scan → Standing finds shape vcpu (record q { scan = ended_scan q.local scan }) (ended_scan q.local scan)
    of idle is = is
    of (taking purpose words) is = is
    of (looking purpose from offers) is = is
    of (claiming [] []) is = over (has_no_cand q.local) is
    of (claiming [] (k ∷ takes)) is = is
    of (claiming (k ∷ claims) takes) is = is

pub stands_on : (finds : Bool) (shape : GuestShape) (vcpu : ℕ) (q : Progress) → IsShape shape → 1 ≤ q.lrs → q.lrs ≤ 16 → IsLocal shape vcpu q.local → Standing finds shape vcpu q q.scan → let on = scan_on shape vcpu q in Standing finds shape vcpu on on.scan
stands_on finds shape vcpu q good some few is_local is =
    let on = goes_on shape vcpu q.scan q in
    ended finds shape vcpu on good (subst (IsLocal shape vcpu) (sym (local_on shape vcpu q)) is_local) (goes finds shape good vcpu q some few is_local q.scan refl is)
