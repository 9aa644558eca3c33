-- A scan goes on.
use Rattle.std.proofs.Common.{◌≡◌, ◌≤◌, ◌/◌, ℕ, ◌-◌, ◌==◌, ◌⊎◌, inl, inr, true≢false, Bool, true, false, IsTrue, List, [], Contains, Option, Some, None, is_none, if◌then◌else◌, find, refl, sym, ◌∙◌, subst, arith}
use Rattle.std.specs.List.{range_with_len}
use Rattle.std.specs.Option.{option_map}
use Rattle.std.proofs.lemmas.Bool.{eqb-true}
use Rattle.law_registers_stand.specs.Words.{Key, GuestShape, IsShape}
use Rattle.law_registers_stand.specs.Lists.{Offer}
use Rattle.law_registers_stand.specs.Core.{is_cand, has_no_cand, index_bit, index_bits, index_words, key_of_bit, CoreState, Progress, filled, looks_on, goes_on, scan_on, Purpose, planned, trapped, bare, Scan, idle, taking, looking, claiming, next_cand, ended_scan}
use Rattle.law_registers_stand.proofs.PortCore.StepLocals.{bit_there}
use Rattle.law_registers_stand.proofs.CoreProper.SearchLemmas.{found_nowhere}
use Rattle.law_registers_stand.specs.Histories.{Track}
use Rattle.law_scans_miss_none.specs.Waiting.{IsDue}
use Rattle.law_scans_miss_none.specs.Scan.{offer_in, IsAhead, IsFilled, HasScanned, Covers}

mapped_none : {A B : Type 0} (f : A → B) (o : Option A) → is_none (option_map f o) ≡ true → o ≡ None
mapped_none f None h = refl
mapped_none f (Some x) h = absurd (cc)

-- A scan that has come so far goes on: after its last word it looks, and after its last candidate it fills the registers.

module _ (shape : GuestShape) (state : CoreState) (track : Track) (vcpu : ℕ) (good : IsShape shape) where
  -- its end does not count
  ended : (q : Progress) → Covers shape state track vcpu q q.scan → Covers shape state track vcpu (record q { scan = ended_scan q.local q.scan }) (ended_scan q.local q.scan)
  ended q covers = of q.scan covers
    where
      kept_on : (claims takes : List Key) → HasScanned shape state track vcpu q → HasScanned shape state track vcpu (record q { scan = claiming claims takes })
      kept_on claims takes scanned = record { offers = scanned.offers; lrs = scanned.lrs; purpose = scanned.purpose; filled = kept scanned.purpose scanned.filled; covers = scanned.covers }
        where
          kept : (purpose : Purpose) → IsFilled shape vcpu q scanned.offers scanned.lrs purpose → IsFilled shape vcpu (record q { scan = claiming claims takes }) scanned.offers scanned.lrs purpose
          kept planned f = f
          kept purpose f = f

      over : (b : Bool) → HasScanned shape state track vcpu q → Covers shape state track vcpu (record q { scan = if b then idle else claiming [] [] }) (if b then idle else claiming [] [])
      over true scanned = tt
      over false scanned = kept_on [] [] scanned

      ahead : (scan : Scan) (from : ℕ) (key : Key) → IsAhead shape q from key → IsAhead shape (record q { scan = scan }) from key
      ahead scan from key is = record { cand = is.cand; ahead = is.ahead }

      of : (scan : Scan) → Covers shape state track vcpu q scan → Covers shape state track vcpu (record q { scan = ended_scan q.local scan }) (ended_scan q.local scan)
      of idle c = tt
      of (taking purpose words) c = c
      of (looking purpose from offers) c = λ key due. elim (c key due) [ inl is ↦ inl (ahead (looking purpose from offers) from key is) | inr there ↦ inr there ]
      of (claiming [] []) c = over (has_no_cand q.local) c
      of (claiming claims takes) c = kept_on claims takes c

  -- the registers are filled
  fills : (purpose : Purpose) (offers : List Offer) (q : Progress) → ((key : Key) → IsDue shape state track vcpu key → Contains offers (offer_in shape state key)) → let on = filled shape vcpu purpose offers q in Covers shape state track vcpu on on.scan
  fills planned offers q covers = record { offers = offers; lrs = q.lrs; purpose = planned; filled = (refl, refl); covers = covers }
  fills trapped offers q covers = record { offers = offers; lrs = q.lrs; purpose = trapped; filled = refl; covers = covers }
  fills bare offers q covers = record { offers = offers; lrs = q.lrs; purpose = bare; filled = refl; covers = covers }

  -- where no candidate is left, all that is due was found
  pub all_found : (from : ℕ) (offers : List Offer) (q : Progress) → ((key : Key) → IsDue shape state track vcpu key → IsAhead shape q from key ⊎ Contains offers (offer_in shape state key)) → is_none (next_cand shape vcpu q.local.cands from) ≡ true → (key : Key)
      → IsDue shape state track vcpu key → Contains offers (offer_in shape state key)
  all_found from offers q covers e key due = elim (covers key due) [
    | inl is ↦
        (let search = mapped_none (key_of_bit shape vcpu) (find (is_cand q.local.cands) (range_with_len from (index_bits shape - from))) e in
        let bit = bit_there shape key good due.waiting.there in
        let ahead = is.ahead in
        absurd (true≢false (sym is.cand ∙ found_nowhere (is_cand q.local.cands) from (index_bits shape - from) search (index_bit shape key) ahead (omega (arith, bit, ahead)))))
    | inr there ↦ there
  ]

  -- and where all words are taken, all that is due is among the candidates
  pub all_taken : (words : ℕ) (q : Progress) → (words == index_words shape) ≡ true → ((key : Key) → IsDue shape state track vcpu key → IsTrue (is_cand q.local.cands (index_bit shape key)) ⊎ (words ≤ index_bit shape key / 64)) → (key : Key) → IsDue shape state track vcpu key
      → IsAhead shape q 0 key ⊎ Contains [] (offer_in shape state key)
  all_taken words q h c key due =
      inl (record {
        cand = elim (c key due) [
          | inl cand ↦ cand
          | inr late ↦
              (let bit = bit_there shape key good due.waiting.there in
              let all = eqb-true words (index_words shape) h in
              absurd (omega (arith, bit, late, all)))
        ];
        ahead = omega arith;
      })

  looks : (purpose : Purpose) (from : ℕ) (offers : List Offer) (q : Progress) → ((key : Key) → IsDue shape state track vcpu key → IsAhead shape q from key ⊎ Contains offers (offer_in shape state key))
      → let on = looks_on shape vcpu purpose from offers q in Covers shape state track vcpu on on.scan
  looks purpose from offers q covers = of (is_none (next_cand shape vcpu q.local.cands from)) refl
    where
      of : (b : Bool) → is_none (next_cand shape vcpu q.local.cands from) ≡ b → let on = (if b then filled shape vcpu purpose offers q else record q { scan = looking purpose from offers }) in Covers shape state track vcpu on on.scan
      of true e = fills purpose offers q (all_found from offers q covers e)
      of false e = λ key due. elim (covers key due) [ inl is ↦ inl (record { cand = is.cand; ahead = is.ahead }) | inr there ↦ inr there ]

  goes : (scan : Scan) (q : Progress) → q.scan ≡ scan → Covers shape state track vcpu q scan → let on = goes_on shape vcpu scan q in Covers shape state track vcpu on on.scan
  goes idle q e c = subst (Covers shape state track vcpu q) (sym e) tt
  goes (taking purpose words) q e c = of (words == index_words shape) refl
    where
      of : (b : Bool) → (words == index_words shape) ≡ b → let on = (if b then looks_on shape vcpu purpose 0 [] q else q) in Covers shape state track vcpu on on.scan
      of false h = subst (Covers shape state track vcpu q) (sym e) c
      of true h = looks purpose 0 [] q (all_taken words q h c)
  goes (looking purpose from offers) q e c = looks purpose from offers q c
  goes (claiming claims takes) q e c = subst (Covers shape state track vcpu q) (sym e) c

  pub covers_on : (q : Progress) → Covers shape state track vcpu q q.scan → let on = scan_on shape vcpu q in Covers shape state track vcpu on on.scan
  covers_on q c = ended (goes_on shape vcpu q.scan q) (goes q.scan q refl c)
