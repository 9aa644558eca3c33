-- A scan of a vCPU that enters goes on: after its last candidate it fills the registers with the plan over the guest.
use Rattle.std.proofs.Common.{◌≡◌, ℕ, ◌<◌, ◌==◌, true≢false, Bool, true, false, IsTrue, List, [], ◌∷◌, Contains, is_none, if◌then◌else◌, refl, sym, ap, subst}
use Rattle.law_serial_is_eager.specs.Words.{Key, GuestShape, has_interrupt, IsShape}
use Rattle.law_serial_is_eager.specs.Histories.{Track, IdealGuest, cpu_at}
use Rattle.law_serial_is_eager.specs.Lists.{Offer}
use Rattle.law_serial_is_eager.specs.Core.{Local, has_no_cand, index_words, CoreState, Progress, filled, goes_on, looks_on, scan_on, planned, Scan, idle, taking, looking, claiming, ended_scan, next_cand}
use Rattle.law_serial_is_eager.specs.LawScansMissNone.Scan.{Covers, offer_in}
use Rattle.law_serial_is_eager.specs.LawScansMissNone.Waiting.{IsDue}
use Rattle.law_serial_is_eager.proofs.LawScansMissNone.ScanLemmas.{all_found, all_taken}
use Rattle.law_entries_are_plans.proofs.DueLemmas.{IsShown}
use Rattle.law_entries_are_plans.proofs.PlanLemmas.{AreFound, Passes, fills, none_found}
use Rattle.law_entries_are_plans.proofs.EnterSteps.{Enters, IsScanning, has, is_filled, looks, takes}

ended_filled : (local : Local) (scan : Scan) → is_filled scan ≡ true → is_filled (ended_scan local scan) ≡ true
ended_filled local idle h = refl
ended_filled local (taking purpose words) h = h
ended_filled local (looking purpose from offers) h = h
ended_filled local (claiming [] (t ∷ ts)) h = refl
ended_filled local (claiming (c ∷ cs) ts) h = refl
ended_filled local (claiming [] []) h = of (has_no_cand local)
  where
    of : (b : Bool) → is_filled (if b then idle else claiming [] []) ≡ true
    of true = refl
    of false = refl

-- what is so where the vCPU fills its registers: it has the guest's CPU record, and what the plan looks at is due, and in the words as it is in the guest
pub record IsReady (shape : GuestShape) (guest : IdealGuest) (state : CoreState) (track : Track) (vcpu : ℕ) (local : Local) : Type 0 where
  pub cpu : local.cpu ≡ cpu_at guest vcpu
  pub shown : (key : Key) → IsTrue (has_interrupt shape key) → Passes shape guest vcpu key → IsShown shape guest state track vcpu key

module _ (shape : GuestShape) (good : IsShape shape) (guest : IdealGuest) (state : CoreState) (track : Track) (vcpu n : ℕ) (few : vcpu < shape.vcpus) (q : Progress) (lrs : q.lrs ≡ n) (ready : IsScanning q.local → IsReady shape guest state track vcpu q.local) where
  abbrev Then : Progress → Type 0
  Then on = Enters shape guest vcpu n (record on { scan = ended_scan on.local on.scan })

  fills_it : (from : ℕ) (offers : List Offer) → AreFound shape guest vcpu from offers → IsScanning q.local → ((key : Key) → IsDue shape state track vcpu key → Contains offers (offer_in shape state key)) → Then (filled shape vcpu planned offers q)
  fills_it from offers are is covers =
      let now = ready is in
      let on = filled shape vcpu planned offers q in
      has (ended_filled on.local on.scan refl)
      (fills shape guest vcpu from good few offers are (λ key there passes. let is = now.shown key there passes in subst (Contains offers) is.same (covers key is.due)) q.local.cpu q.lrs n now.cpu lrs)

  looks_so : (from : ℕ) (offers : List Offer) → AreFound shape guest vcpu from offers → IsScanning q.local → Covers shape state track vcpu q (looking planned from offers) → Then (looks_on shape vcpu planned from offers q)
  looks_so from offers are is covers = of (is_none (next_cand shape vcpu q.local.cands from)) refl
    where
      of : (b : Bool) → is_none (next_cand shape vcpu q.local.cands from) ≡ b → Then (if b then filled shape vcpu planned offers q else record q { scan = looking planned from offers })
      of true e = fills_it from offers are is (all_found shape state track vcpu good from offers q covers e)
      of false e = looks from offers refl are (record { empty = is.empty; stays = is.stays })

  pub enters_on : Enters shape guest vcpu n q → Covers shape state track vcpu q q.scan → Enters shape guest vcpu n (scan_on shape vcpu q)
  enters_on (takes words e is) covers = subst (λ s. Then (goes_on shape vcpu s q)) (sym e) (of (words == index_words shape) refl)
    where
      here : Covers shape state track vcpu q (taking planned words)
      here = subst (Covers shape state track vcpu q) e covers

      of : (b : Bool) → (words == index_words shape) ≡ b → Then (if b then looks_on shape vcpu planned 0 [] q else q)
      of true h = looks_so 0 [] (none_found shape guest vcpu 0) is (all_taken shape state track vcpu good words q h here)
      of false h = takes words (ap (ended_scan q.local) e) (record { empty = is.empty; stays = is.stays })
  enters_on (looks from offers e are is) covers = subst (λ s. Then (goes_on shape vcpu s q)) (sym e) (looks_so from offers are is (subst (Covers shape state track vcpu q) e covers))
  enters_on (has f plan) covers = of q.scan refl f
    where
      of : (scan : Scan) → q.scan ≡ scan → is_filled scan ≡ true → Then (goes_on shape vcpu scan q)
      of idle e f = has (ended_filled q.local q.scan (ap is_filled e)) plan
      of (taking purpose words) e f = absurd (true≢false (sym f))
      of (looking purpose from offers) e f = absurd (true≢false (sym f))
      of (claiming claims others) e f = has (ended_filled q.local q.scan (ap is_filled e)) plan
