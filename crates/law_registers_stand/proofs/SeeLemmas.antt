-- Which ends a vCPU's list registers see, by how far its scan is.
use Rattle.std.proofs.Common.{◌≡◌, ◌≢◌, ℕ, ◌^◌, ◌<◌, ◌≤◌, ◌==◌, true≢false, not, Bool, true, false, if◌then◌else◌, IsTrue, List, [], ◌∷◌, map, Contains, All, AllPairs, Option, Some, None, is_none, refl, sym, ap, subst, ◌∙◌}
use Rattle.std.proofs.lemmas.Option.{same_Some}
use Rattle.law_core_is_history.specs.Words.{Key, GuestShape, has_interrupt, intid_of, IsShape, Irq, is_pending, irq_of}
use Rattle.law_core_is_history.specs.Histories.{changes_of}
use Rattle.law_core_is_history.specs.Lists.{IchRegs, Seen, seen_in, listed_of, is_live, unpacked, Choice, Fill, Offer, offer_of, plan, regs_of, sees_end, word_of}
use Rattle.law_core_is_history.proofs.GicIcv.PlaceLemmas.{live_id, not_live}
use Rattle.law_core_is_history.proofs.VcpuRefill.ElementLemmas.{map_cases}
use Rattle.law_core_is_history.specs.Core.{Local, Made, Irq as IrqWord, is_ready, known, has_no_cand, is_at, index_words, CoreState, word_in, Progress, filled, looks_on, goes_on, scan_on, is_paid, Purpose, planned, trapped, bare, Scan, idle, taking, looking, claiming, ended_scan, has_key, keys_chosen, keys_of_both, next_cand}
use Rattle.law_core_is_history.specs.Related.{bare as bare_irq}
use Rattle.law_registers_stand.specs.Asks.{HasAll}
use Rattle.law_registers_stand.specs.Ends.{SeesEnd}
use Rattle.law_registers_stand.specs.Followed.{Followed}
use Rattle.law_registers_stand.proofs.AskFill.{from_take}
use Rattle.law_registers_stand.proofs.AskLemmas.{Asks, IsMeant}
use Rattle.law_registers_stand.proofs.ComeLemmas.{key_by_id}
use Rattle.law_registers_stand.proofs.EoiLemmas.{eoi_packed, same_state}
use Rattle.law_registers_stand.proofs.FillLemmas.{IsOffered, by_right, chosen, in_chosen, keys_chosen_of, offered_so, seen_so}
use Rattle.law_registers_stand.proofs.KeyLemmas.{of_key}
use Rattle.law_registers_stand.proofs.LookSteps.{IsLooking, looks_at_none}
use Rattle.law_registers_stand.proofs.StandLemmas.{Standing}

-- an interrupt that is pending behind its list register, or, where its causes are still to be taken, may be once it is ended
abbrev pub behind : Bool → Irq → Bool
behind true irq = not irq.edge
behind false irq = is_pending irq

pub behind_bare : (b : Bool) (irq : Irq) → behind b (bare_irq irq) ≡ behind b irq
behind_bare true irq = refl
behind_bare false irq = refl

-- the ends of what is at the interface are seen, where nobody changed it since it got there; and what is still to be claimed stands as its record asks
pub record IsSeeing (shape : GuestShape) (vcpu : ℕ) (state : CoreState) (telling : Followed) (local : Local) (own : List Made) (regs : IchRegs) (claims takes : List Key) : Type 0 where
  pub here : (key : Key) → IsTrue (has_interrupt shape key) → is_at key local.at ≡ true → (changes_of shape telling.track key).since ≡ [] → behind (has_key key takes) (irq_of (word_in shape state (IrqWord key))) ≡ true → SeesEnd regs key
  pub coming :
      (key : Key) → has_key key claims ≡ true → (word w : ℕ) → Contains (listed_of regs) word → is_live (intid_of key) (seen_in word) ≡ true → known shape vcpu own (IrqWord key) ≡ Some w → (unpacked word).eoi ≡ sees_end (unpacked word).state (record { key = key; irq = irq_of w })

abbrev pub Seeing : GuestShape → CoreState → ℕ → Followed → Progress → List Key → List Key → Type 0
Seeing shape state vcpu telling p claims takes =
    IsTrue (is_ready p.local.phase) → p.trapping ≡ false → IsTrue (is_paid p.debt) → HasAll shape state vcpu p → IsSeeing shape vcpu state telling p.local p.own p.regs claims takes

abbrev pub Sees : GuestShape → CoreState → ℕ → Followed → Progress → Scan → Type 0
Sees shape state vcpu telling p idle = Seeing shape state vcpu telling p [] []
Sees shape state vcpu telling p (taking purpose words) = Unit {0}
Sees shape state vcpu telling p (looking purpose from offers) = Unit {0}
Sees shape state vcpu telling p (claiming claims takes) = Seeing shape state vcpu telling p claims takes

-- The registers that a plan fills.

module _ (shape : GuestShape) (good : IsShape shape) (vcpu n : ℕ) (few : n ≤ 16) (local : Local) (empty : local.at ≡ []) (own : List Made) (offers : List Offer) (each : All (IsOffered shape vcpu own) offers) (apart : AllPairs (λ early late. early.key ≢ late.key) offers) where
  abbrev filling : Fill
  filling = plan offers vcpu local.cpu shape n

  by_choice : (key : Key) → has_key key (keys_chosen filling) ≡ true → (word w : ℕ) → (o : Option Choice) → Contains filling.choice o → word_of o ≡ word → is_live (intid_of key) (seen_in word) ≡ true → known shape vcpu own (IrqWord key) ≡ Some w
      → (unpacked word).eoi ≡ sees_end (unpacked word).state (record { key = key; irq = irq_of w })
  by_choice key h word w None there e live knows = absurd (true≢false (sym live ∙ ap (λ x. is_live (intid_of key) (seen_in x)) (sym e) ∙ not_live (intid_of key)))
  by_choice key h word w (Some c) there e live knows =
      let among = in_chosen filling.choice c there in
      let other = of_key key (chosen filling.choice) (ap (has_key key) (sym (keys_chosen_of filling.choice)) ∙ h) in
      let mine = offered_so shape good vcpu n few local empty own offers each apart c among in
      let its = offered_so shape good vcpu n few local empty own offers each apart other.0 other.1 in
      let whole = (by_right shape good vcpu n few local empty own offers each apart c among).whole in
      let seen = ap seen_in (sym e) ∙ seen_so shape good vcpu n few local empty own offers each apart c among in
      let id : intid_of c.key ≡ intid_of other.0.key = ap (λ (s : Seen). s.id) (sym seen) ∙ live_id (seen_in word) (intid_of key) live ∙ ap intid_of (sym other.2) in
      let key_is : c.key ≡ key = key_by_id shape vcpu c.key other.0.key good mine.there its.there mine.mine its.mine id ∙ other.2 in
      let word_is : mine.word ≡ w = same_Some mine.word w (sym mine.known_as ∙ ap (λ k. known shape vcpu own (IrqWord k)) key_is ∙ knows) in
      let state = same_state (unpacked word).state c.entry.state (ap (λ (s : Seen). s.pending) seen) (ap (λ (s : Seen). s.active) seen) in
      let hw = ap (λ (x : Choice). x.entry.hw) whole in
      let id_fits = subst (λ k. k < 2 ^ 32) (sym (ap (λ (x : Choice). x.entry.id) whole)) mine.fits.id in
      let prio_fits = subst (λ k. k < 2 ^ 8) (sym (ap (λ (x : Choice). x.entry.prio) whole)) mine.fits.prio in
      ap (λ x. (unpacked x).eoi) (sym e) ∙ eoi_packed c.entry hw id_fits prio_fits ∙ ap (λ (x : Choice). x.entry.eoi) whole
      ∙ ap (λ s. sees_end s (offer_of c)) (sym state)
      ∙ ap (λ i. sees_end (unpacked word).state (record { key = key; irq = i })) (sym mine.irq ∙ ap irq_of word_is)

  pub plan_sees : (state : CoreState) (telling : Followed) → IsSeeing shape vcpu state telling local own (regs_of filling local.cpu n) (keys_chosen filling) (keys_of_both filling)
  plan_sees state telling = record {
    here = λ key there at. absurd (true≢false (sym at ∙ ap (is_at key) empty));
    coming = λ key h word w among live knows. let from = map_cases word_of filling.choice word (from_take n (map word_of filling.choice) word among) in by_choice key h word w from.0 from.1 from.2 live knows;
  }

-- A scan that has come so far goes on.

-- the same of an actor that differs in how far its scan is
as_scanned : (shape : GuestShape) (state : CoreState) (vcpu : ℕ) (telling : Followed) (q : Progress) (scan : Scan) (claims takes : List Key) → Seeing shape state vcpu telling q claims takes → Seeing shape state vcpu telling (record q { scan = scan }) claims takes
as_scanned shape state vcpu telling q scan claims takes seeing = λ ready untrapped owed all. seeing ready untrapped owed (record { none_failed = all.none_failed; unkicked = all.unkicked })

module _ (shape : GuestShape) (good : IsShape shape) (state : CoreState) (vcpu : ℕ) (telling : Followed) (q : Progress) (few : q.lrs ≤ 16) where
  fills : (purpose : Purpose) (from : ℕ) (offers : List Offer) → IsLooking shape vcpu q.local q.own from offers → IsMeant purpose q → let on = filled shape vcpu purpose offers q in Sees shape state vcpu telling on on.scan
  fills planned from offers is meant = λ ready untrapped owed all. plan_sees shape good vcpu q.lrs few q.local is.empty q.own offers is.each is.apart state telling
  fills trapped from offers is meant = λ ready untrapped. absurd (true≢false (sym meant ∙ untrapped))
  fills bare from offers is meant = λ ready untrapped owed. absurd (true≢false (sym owed ∙ meant))

  looks_at : (purpose : Purpose) (from : ℕ) (offers : List Offer) → IsLooking shape vcpu q.local q.own from offers → IsMeant purpose q → let on = looks_on shape vcpu purpose from offers q in Sees shape state vcpu telling on on.scan
  looks_at purpose from offers is meant = of (is_none (next_cand shape vcpu q.local.cands from))
    where
      of : (b : Bool) → let on = (if b then filled shape vcpu purpose offers q else record q { scan = looking purpose from offers }) in Sees shape state vcpu telling on on.scan
      of true = fills purpose from offers is meant
      of false = tt

  goes : (finds : Bool) (scan : Scan) → q.scan ≡ scan → Standing finds shape vcpu q scan → Asks shape state vcpu q scan → Sees shape state vcpu telling q scan → let on = goes_on shape vcpu scan q in Sees shape state vcpu telling on on.scan
  goes finds idle e is asks sees = subst (Sees shape state vcpu telling q) (sym e) sees
  goes finds (taking purpose words) e is asks sees = of (words == index_words shape)
    where
      of : (b : Bool) → let on = (if b then looks_on shape vcpu purpose 0 [] q else q) in Sees shape state vcpu telling on on.scan
      of true = looks_at purpose 0 [] (looks_at_none shape vcpu q.local q.own is) asks
      of false = subst (Sees shape state vcpu telling q) (sym e) tt
  goes finds (looking purpose from offers) e is asks sees = looks_at purpose from offers is asks
  goes finds (claiming claims takes) e is asks sees = subst (Sees shape state vcpu telling q) (sym e) sees

ended : (shape : GuestShape) (state : CoreState) (vcpu : ℕ) (telling : Followed) (q : Progress) → Sees shape state vcpu telling q q.scan → Sees shape state vcpu telling (record q { scan = ended_scan q.local q.scan }) (ended_scan q.local q.scan)
ended shape state vcpu telling q sees = of q.scan sees
  where
    over : (b : Bool) → Seeing shape state vcpu telling q [] [] → Sees shape state vcpu telling (record q { scan = if b then idle else claiming [] [] }) (if b then idle else claiming [] [])
    over true seeing = as_scanned shape state vcpu telling q idle [] [] seeing
    over false seeing = as_scanned shape state vcpu telling q (claiming [] []) [] [] seeing

    of : (scan : Scan) → Sees shape state vcpu telling q scan → Sees shape state vcpu telling (record q { scan = ended_scan q.local scan }) (ended_scan q.local scan)
    of idle sees = as_scanned shape state vcpu telling q idle [] [] sees
    of (taking purpose words) sees = tt
    of (looking purpose from offers) sees = tt
    of (claiming [] []) sees = over (has_no_cand q.local) sees
    of (claiming [] (k ∷ takes)) sees = as_scanned shape state vcpu telling q (claiming [] (k ∷ takes)) [] (k ∷ takes) sees
    of (claiming (k ∷ claims) takes) sees = as_scanned shape state vcpu telling q (claiming (k ∷ claims) takes) (k ∷ claims) takes sees

pub sees_on : (finds : Bool) (shape : GuestShape) (state : CoreState) (vcpu : ℕ) (telling : Followed) (q : Progress) → IsShape shape → q.lrs ≤ 16 → Standing finds shape vcpu q q.scan → Asks shape state vcpu q q.scan → Sees shape state vcpu telling q q.scan → let on = scan_on shape vcpu q in Sees shape state vcpu telling on on.scan
sees_on finds shape state vcpu telling q good few is asks sees = ended shape state vcpu telling (goes_on shape vcpu q.scan q) (goes shape good state vcpu telling q few finds q.scan refl is asks sees)

-- What stays of it after a step.

pub seeing_on :
    (shape : GuestShape) (vcpu : ℕ) (state later : CoreState) (telling now : Followed) (local after : Local) (own made : List Made) (regs left : IchRegs) (claims takes : List Key) → ((key : Key) → is_at key after.at ≡ true → is_at key local.at ≡ true) → ((key : Key) → SeesEnd regs key → SeesEnd left key)
    → ((key : Key) → has_key key claims ≡ true → (word : ℕ) → Contains (listed_of left) word → Contains (listed_of regs) word) → ((key : Key) → has_key key claims ≡ true → known shape vcpu made (IrqWord key) ≡ known shape vcpu own (IrqWord key))
    → ((key : Key) → IsTrue (has_interrupt shape key) → is_at key after.at ≡ true → (changes_of shape now.track key).since ≡ [] → ((changes_of shape telling.track key).since ≡ []) × (bare_irq (irq_of (word_in shape later (IrqWord key))) ≡ bare_irq (irq_of (word_in shape state (IrqWord key)))))
    → IsSeeing shape vcpu state telling local own regs claims takes → IsSeeing shape vcpu later now after made left claims takes
seeing_on shape vcpu state later telling now local after own made regs left claims takes at seen words knows same is = record {
  here = λ key there here none behind_it.
      let was = same key there here none in
      let before = irq_of (word_in shape state (IrqWord key)) in
      let irq = irq_of (word_in shape later (IrqWord key)) in
      let b = has_key key takes in
      seen key (is.here key there (at key here) was.0 (sym (behind_bare b before) ∙ ap (behind b) (sym was.1) ∙ behind_bare b irq ∙ behind_it));
  coming = λ key h word w among live e. is.coming key h word w (words key h word among) live (sym (knows key h) ∙ e);
}
