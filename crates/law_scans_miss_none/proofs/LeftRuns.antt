-- What a vCPU's registers leave out comes later, at every moment of every proper run.
use Rattle.std.proofs.Common.{◌≡◌, ℕ, ◌≤◌, ◌==◌, ◌||◌, ◌⊎◌, true≢false, not, Bool, true, false, IsTrue, List, [], Contains, is_none, if◌then◌else◌, refl, sym, ◌∙◌, subst}
use Rattle.law_registers_stand.specs.Words.{Key, GuestShape, IsShape}
use Rattle.law_registers_stand.specs.Histories.{Track}
use Rattle.law_registers_stand.specs.Lists.{Offer}
use Rattle.law_registers_stand.specs.Core.{is_ready, has_no_cand, index_words, CoreState, Progress, filled, looks_on, goes_on, scan_on, is_paid, Purpose, planned, trapped, bare, Scan, idle, taking, looking, claiming, next_cand, ended_scan}
use Rattle.law_registers_stand.proofs.AskLemmas.{IsMeant, Asks}
use Rattle.law_registers_stand.proofs.LookSteps.{IsLooking, looks_at_none}
use Rattle.law_registers_stand.proofs.StandLemmas.{Standing}
use Rattle.law_scans_miss_none.specs.Scan.{IsAhead, Covers, offer_in}
use Rattle.law_scans_miss_none.specs.Waiting.{IsDue}
use Rattle.law_scans_miss_none.proofs.LeftLemmas.{IsBounded, plan_bounds, trap_bounds}
use Rattle.law_scans_miss_none.proofs.ScanLemmas.{all_found, all_taken}

-- What a vCPU has where it may ask for its first interrupt.

-- it owes no scan, and in trap mode it scanned since its last look for a kick
abbrev pub IsAsking : Progress → Type 0
IsAsking p = IsTrue (is_paid p.debt) × IsTrue (not p.trapping || p.scanned)

abbrev pub Bounds : GuestShape → CoreState → Track → ℕ → Progress → Type 0
Bounds shape state track vcpu p = IsBounded shape state track vcpu p.trapping p.regs p.local.cpu

abbrev pub Leaves : GuestShape → CoreState → Track → ℕ → Progress → Scan → Type 0
Leaves shape state track vcpu p idle = IsTrue (is_ready p.local.phase) → Bounds shape state track vcpu p
Leaves shape state track vcpu p (taking purpose words) = Unit {0}
Leaves shape state track vcpu p (looking purpose from offers) = Unit {0}
Leaves shape state track vcpu p (claiming claims takes) = Bounds shape state track vcpu p

-- a scan by the plan began with the last look for a kick
abbrev pub BeganWith : Progress → Scan → Type 0
BeganWith p (taking planned words) = p.scanned ≡ false
BeganWith p (looking planned from offers) = p.scanned ≡ false
BeganWith p scan = Unit {0}

-- so none of trap mode began since
began_taking : (q : Progress) (purpose : Purpose) (words : ℕ) → BeganWith q (taking purpose words) → purpose ≡ planned → q.scanned ≡ false
began_taking q planned words h e = h
began_taking q purpose words h e = absurd (cc)

began_looking : (q : Progress) (purpose : Purpose) (from : ℕ) (offers : List Offer) → BeganWith q (looking purpose from offers) → purpose ≡ planned → q.scanned ≡ false
began_looking q planned from offers h e = h
began_looking q purpose from offers h e = absurd (cc)

-- an actor that differs in other things alone began it so too
pub began_like : (p q : Progress) (scan : Scan) → q.scanned ≡ p.scanned → BeganWith p scan → BeganWith q scan
began_like p q (taking planned words) same h = same ∙ h
began_like p q (looking planned from offers) same h = same ∙ h
began_like p q scan same h = tt

-- A scan that has come so far goes on.

module _ (shape : GuestShape) (good : IsShape shape) (state : CoreState) (track : Track) (vcpu : ℕ) (q : Progress) (some : 1 ≤ q.lrs) (few : q.lrs ≤ 16) (paid : IsTrue (is_paid q.debt)) where
  fills :
      (purpose : Purpose) (from : ℕ) (offers : List Offer) → IsLooking shape vcpu q.local q.own from offers → IsMeant purpose q → (purpose ≡ planned → q.scanned ≡ false) → ((key : Key) → IsDue shape state track vcpu key → Contains offers (offer_in shape state key))
      → let on = filled shape vcpu purpose offers q in IsTrue (not on.trapping || on.scanned) → Leaves shape state track vcpu on on.scan
  fills planned from offers is meant fresh covers scanned =
      let fill = filled shape vcpu planned offers q in
      let plain : fill.trapping ≡ false = untrapped fill.trapping q.scanned (fresh refl) scanned in
      subst (λ t. IsBounded shape state track vcpu t fill.regs q.local.cpu) (sym plain) (plan_bounds shape good vcpu q.lrs few q.local is.empty q.own offers is.each is.apart state track covers plain)
    where
      untrapped : (a b : Bool) → b ≡ false → IsTrue (not a || b) → a ≡ false
      untrapped true b e h = absurd (true≢false (sym h ∙ e))
      untrapped false b e h = refl
  fills trapped from offers is meant fresh covers scanned =
      let on = filled shape vcpu trapped offers q in
      subst (λ t. IsBounded shape state track vcpu t on.regs q.local.cpu) (sym meant) (trap_bounds shape good vcpu q.lrs few q.local is.empty q.own offers is.each is.apart state track covers some)
  fills bare from offers is meant fresh covers scanned = absurd (true≢false (sym paid ∙ meant))

  looks : (purpose : Purpose) (from : ℕ) (offers : List Offer) → IsLooking shape vcpu q.local q.own from offers → IsMeant purpose q → (purpose ≡ planned → q.scanned ≡ false) → ((key : Key) → IsDue shape state track vcpu key → IsAhead shape q from key ⊎ Contains offers (offer_in shape state key))
      → let on = looks_on shape vcpu purpose from offers q in IsTrue (not on.trapping || on.scanned) → Leaves shape state track vcpu on on.scan
  looks purpose from offers is meant fresh covers = of (is_none (next_cand shape vcpu q.local.cands from)) refl
    where
      of : (b : Bool) → is_none (next_cand shape vcpu q.local.cands from) ≡ b → let on = (if b then filled shape vcpu purpose offers q else record q { scan = looking purpose from offers }) in IsTrue (not on.trapping || on.scanned) → Leaves shape state track vcpu on on.scan
      of true e scanned = fills purpose from offers is meant fresh (all_found shape state track vcpu good from offers q covers e) scanned
      of false e scanned = tt

  goes :
      (scan : Scan) → q.scan ≡ scan → Standing false shape vcpu q scan → Asks shape state vcpu q scan → BeganWith q scan → Covers shape state track vcpu q scan → (IsTrue (not q.trapping || q.scanned) → Leaves shape state track vcpu q scan)
      → let on = goes_on shape vcpu scan q in IsTrue (not on.trapping || on.scanned) → Leaves shape state track vcpu on on.scan
  goes idle e is asks fresh covers before scanned = subst (Leaves shape state track vcpu q) (sym e) (before scanned)
  goes (claiming claims takes) e is asks fresh covers before scanned = subst (Leaves shape state track vcpu q) (sym e) (before scanned)
  goes (looking purpose from offers) e is asks fresh covers before scanned = looks purpose from offers is asks (began_looking q purpose from offers fresh) covers scanned
  goes (taking purpose words) e is asks fresh covers before scanned = of (words == index_words shape) refl scanned
    where
      of : (b : Bool) → (words == index_words shape) ≡ b → let on = (if b then looks_on shape vcpu purpose 0 [] q else q) in IsTrue (not on.trapping || on.scanned) → Leaves shape state track vcpu on on.scan
      of true h scanned = looks purpose 0 [] (looks_at_none shape vcpu q.local q.own is) asks (began_taking q purpose words fresh) (all_taken shape state track vcpu good words q h covers) scanned
      of false h scanned = subst (Leaves shape state track vcpu q) (sym e) tt

-- its end
ended : (shape : GuestShape) (state : CoreState) (track : Track) (vcpu : ℕ) (q : Progress) → Leaves shape state track vcpu q q.scan → Leaves shape state track vcpu (record q { scan = ended_scan q.local q.scan }) (ended_scan q.local q.scan)
ended shape state track vcpu q leaves = of q.scan leaves
  where
    over : (b : Bool) → Bounds shape state track vcpu q → Leaves shape state track vcpu (record q { scan = if b then idle else claiming [] [] }) (if b then idle else claiming [] [])
    over true bounds = λ ready. bounds
    over false bounds = bounds

    of : (scan : Scan) → Leaves shape state track vcpu q scan → Leaves shape state track vcpu (record q { scan = ended_scan q.local scan }) (ended_scan q.local scan)
    of (claiming [] []) leaves = over (has_no_cand q.local) leaves
    of scan leaves = leaves

pub leaves_on :
    (shape : GuestShape) (good : IsShape shape) (state : CoreState) (track : Track) (vcpu : ℕ) (q : Progress) → 1 ≤ q.lrs → q.lrs ≤ 16 → IsTrue (is_paid q.debt) → Standing false shape vcpu q q.scan → Asks shape state vcpu q q.scan → BeganWith q q.scan → Covers shape state track vcpu q q.scan
    → (IsTrue (not q.trapping || q.scanned) → Leaves shape state track vcpu q q.scan) → let on = scan_on shape vcpu q in IsTrue (not on.trapping || on.scanned) → Leaves shape state track vcpu on on.scan
leaves_on shape good state track vcpu q some few paid is asks fresh covers before scanned =
    ended shape state track vcpu (goes_on shape vcpu q.scan q) (goes shape good state track vcpu q some few paid q.scan refl is asks fresh covers before scanned)

-- and what began with the last look for a kick did so
pub began_on : (shape : GuestShape) (vcpu : ℕ) (q : Progress) → BeganWith q q.scan → BeganWith (scan_on shape vcpu q) (scan_on shape vcpu q).scan
began_on shape vcpu q h = ended_began (goes_on shape vcpu q.scan q) (goes_began q.scan refl h)
  where
    fills_began : (purpose : Purpose) (offers : List Offer) → let on = filled shape vcpu purpose offers q in BeganWith on on.scan
    fills_began planned offers = tt
    fills_began purpose offers = tt

    looks_began : (purpose : Purpose) (from : ℕ) (offers : List Offer) → (purpose ≡ planned → q.scanned ≡ false) → (b : Bool) → let on = (if b then filled shape vcpu purpose offers q else record q { scan = looking purpose from offers }) in BeganWith on on.scan
    looks_began purpose from offers fresh true = fills_began purpose offers
    looks_began planned from offers fresh false = fresh refl
    looks_began purpose from offers fresh false = tt

    goes_began : (scan : Scan) → q.scan ≡ scan → BeganWith q scan → let on = goes_on shape vcpu scan q in BeganWith on on.scan
    goes_began idle e h = subst (BeganWith q) (sym e) h
    goes_began (claiming claims takes) e h = subst (BeganWith q) (sym e) h
    goes_began (looking purpose from offers) e h = looks_began purpose from offers (began_looking q purpose from offers h) (is_none (next_cand shape vcpu q.local.cands from))
    goes_began (taking purpose words) e h = of (words == index_words shape)
      where
        of : (b : Bool) → let on = (if b then looks_on shape vcpu purpose 0 [] q else q) in BeganWith on on.scan
        of true = looks_began purpose 0 [] (began_taking q purpose words h) (is_none (next_cand shape vcpu q.local.cands 0))
        of false = subst (BeganWith q) (sym e) h

    ended_began : (r : Progress) → BeganWith r r.scan → BeganWith (record r { scan = ended_scan r.local r.scan }) (ended_scan r.local r.scan)
    ended_began r h = of r.scan h
      where
        over : (b : Bool) → BeganWith (record r { scan = if b then idle else claiming [] [] }) (if b then idle else claiming [] [])
        over true = tt
        over false = tt

        of : (scan : Scan) → BeganWith r scan → BeganWith (record r { scan = ended_scan r.local scan }) (ended_scan r.local scan)
        of (claiming [] []) h = over (has_no_cand r.local)
        of (taking planned words) h = h
        of (looking planned from offers) h = h
        of scan h = tt
