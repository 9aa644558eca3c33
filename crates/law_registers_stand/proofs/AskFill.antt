-- The registers that a plan fills ask for what they are to, and assert nothing.
use Rattle.std.proofs.Common.{◌≡◌, ◌≢◌, ℕ, zero, suc, ◌+◌, ◌^◌, ◌≤◌, inl, inr, not, ◌&&◌, ◌||◌, Bool, true, false, if◌then◌else◌, List, [], ◌∷◌, map, take, Contains, All, AllPairs, Option, Some, None, is_some, slice_index_or, refl, sym, ap, subst, ◌∙◌}
use Rattle.std.specs.List.{list_any}
use Rattle.std.proofs.lemmas.List.Folds.{list_any_at}
use Rattle.law_core_is_history.specs.Words.{GuestShape, IsShape, has_bit}
use Rattle.law_core_is_history.specs.Lists.{IchRegs, hcr_en, hcr_uie, hcr_lrenpie, hcr_npie, hcr_vgrp0eie, hcr_vgrp0die, hcr_vgrp1eie, hcr_vgrp1die, Seen, seen_in, listed_of, is_pending, misr_of, LrState, Invalid, Pending, Active, Both, packed, state_has_active, state_has_pending, unpacked, has_ended, is_invalid, Choice, Fill, Offer, hcr_of, plan, regs_of, word_of}
use Rattle.law_core_is_history.proofs.GicIcv.FirstLemmas.{pending_alone}
use Rattle.law_core_is_history.specs.Registers.{HasBinaryPoints}
use Rattle.law_core_is_history.proofs.VcpuRefill.ElementLemmas.{Contains-here, Contains-there, Contains-cases, Contains-nothing, map_cases}
use Rattle.law_core_is_history.proofs.VcpuRefill.LawLemmas.{cut_leaves_pending}
use Rattle.law_core_is_history.specs.Core.{Local, Made, keys_chosen, keys_of_both}
use Rattle.law_registers_stand.specs.Asks.{IsMirrored}
use Rattle.law_registers_stand.proofs.ClaimSteps.{right_lives}
use Rattle.law_registers_stand.proofs.ComeLemmas.{seen_choice, IsClaiming}
use Rattle.law_registers_stand.proofs.FillLemmas.{IsOffered, in_chosen, plan_claims, right_so, seen_so, stands_at}
use Rattle.law_registers_stand.proofs.MisrLemmas.{none_asserted}
use Rattle.law_registers_stand.proofs.ShowLemmas.{lives}

-- The bits of ICH_HCR out of trap mode.

abbrev pub hcr_by : Bool → Bool → Bool → ℕ
hcr_by cut en0 en1 =
    2 ^ hcr_en + (if cut then 2 ^ hcr_npie else 0) + (if en0 then 2 ^ hcr_vgrp0die else 2 ^ hcr_vgrp0eie) + (if en1 then 2 ^ hcr_vgrp1die else 2 ^ hcr_vgrp1eie) + 0

pub record AsksFor (hcr : ℕ) (cut en0 en1 : Bool) : Type 0 where
  pub uie : has_bit hcr hcr_uie ≡ false
  pub lrenpie : has_bit hcr hcr_lrenpie ≡ false
  pub npie : has_bit hcr hcr_npie ≡ cut
  pub enabled0 : has_bit hcr hcr_vgrp0eie ≡ not en0
  pub disabled0 : has_bit hcr hcr_vgrp0die ≡ en0
  pub enabled1 : has_bit hcr hcr_vgrp1eie ≡ not en1
  pub disabled1 : has_bit hcr hcr_vgrp1die ≡ en1

pub asks_for : (cut en0 en1 : Bool) → AsksFor (hcr_by cut en0 en1) cut en0 en1
asks_for true true true = record { uie = refl; lrenpie = refl; npie = refl; enabled0 = refl; disabled0 = refl; enabled1 = refl; disabled1 = refl }
asks_for true true false = record { uie = refl; lrenpie = refl; npie = refl; enabled0 = refl; disabled0 = refl; enabled1 = refl; disabled1 = refl }
asks_for true false true = record { uie = refl; lrenpie = refl; npie = refl; enabled0 = refl; disabled0 = refl; enabled1 = refl; disabled1 = refl }
asks_for true false false = record { uie = refl; lrenpie = refl; npie = refl; enabled0 = refl; disabled0 = refl; enabled1 = refl; disabled1 = refl }
asks_for false true true = record { uie = refl; lrenpie = refl; npie = refl; enabled0 = refl; disabled0 = refl; enabled1 = refl; disabled1 = refl }
asks_for false true false = record { uie = refl; lrenpie = refl; npie = refl; enabled0 = refl; disabled0 = refl; enabled1 = refl; disabled1 = refl }
asks_for false false true = record { uie = refl; lrenpie = refl; npie = refl; enabled0 = refl; disabled0 = refl; enabled1 = refl; disabled1 = refl }
asks_for false false false = record { uie = refl; lrenpie = refl; npie = refl; enabled0 = refl; disabled0 = refl; enabled1 = refl; disabled1 = refl }

-- List registers.

pub from_take : (n : ℕ) (words : List ℕ) (word : ℕ) → Contains (take n words) word → Contains words word
from_take zero words word has = absurd (Contains-nothing word has)
from_take (suc n) [] word has = absurd (Contains-nothing word has)
from_take (suc n) (first ∷ words) word has = elim (Contains-cases first word (take n words) has) [
  | inl same ↦ subst (Contains (first ∷ words)) same (Contains-here first words)
  | inr later ↦ Contains-there first word words (from_take n words word later)
]

-- a list register with something live has not State 0, and one with something pending alone has State 1
live_state : (word : ℕ) → lives (seen_in word) ≡ true → has_ended word ≡ false
live_state word h = of (unpacked word).state h
  where
    of : (state : LrState) → (state_has_pending state || state_has_active state) ≡ true → (is_invalid state && not (is_some (unpacked word).hw) && (unpacked word).eoi) ≡ false
    of Invalid h = absurd (cc)
    of Pending h = refl
    of Active h = refl
    of Both h = refl

module _ (shape : GuestShape) (good : IsShape shape) (vcpu n : ℕ) (few : n ≤ 16) (local : Local) (empty : local.at ≡ []) (own : List Made) (offers : List Offer) (each : All (IsOffered shape vcpu own) offers) (apart : AllPairs (λ early late. early.key ≢ late.key) offers) (untrapped : (plan offers vcpu local.cpu shape n).trapping ≡ false) where
  abbrev pub filling : Fill
  filling = plan offers vcpu local.cpu shape n

  abbrev pub filled : IchRegs
  filled = regs_of filling local.cpu n

  pub hcr_is : filling.hcr ≡ hcr_by filling.cut local.cpu.en0 local.cpu.en1
  hcr_is = ap (hcr_of local.cpu filling.cut) untrapped

  pub asks : AsksFor filling.hcr filling.cut local.cpu.en0 local.cpu.en1
  asks = subst (λ hcr. AsksFor hcr filling.cut local.cpu.en0 local.cpu.en1) (sym hcr_is) (asks_for filling.cut local.cpu.en0 local.cpu.en1)

  pub plan_mirrors : IsMirrored filling.hcr local.cpu
  plan_mirrors = record { enabled0 = asks.enabled0; disabled0 = asks.disabled0; enabled1 = asks.enabled1; disabled1 = asks.disabled1 }

  claiming_all : IsClaiming shape vcpu local own filled (keys_chosen filling) (keys_of_both filling)
  claiming_all = plan_claims shape good vcpu n few local empty own offers each apart

  not_ended : (word : ℕ) → Contains (listed_of filled) word → has_ended word ≡ false
  not_ended word has =
      let from = map_cases word_of filling.choice word (from_take n (map word_of filling.choice) word has) in
      of from.0 from.1 from.2
    where
      of : (o : Option Choice) → Contains filling.choice o → word_of o ≡ word → has_ended word ≡ false
      of None there e = ap has_ended (sym e)
      of (Some c) there e =
          let among = in_chosen filling.choice c there in
          ap has_ended (sym e)
          ∙ live_state (packed c.entry) (ap lives (seen_so shape good vcpu n few local empty own offers each apart c among) ∙ right_lives vcpu c (right_so shape good vcpu n few local empty own offers each apart c among))

  some_pending : filling.cut ≡ true → list_any is_pending (listed_of filled) ≡ true
  some_pending cut =
      let left = cut_leaves_pending offers vcpu local.cpu shape n few cut in
      let at = stands_at shape good vcpu n few local empty own offers each apart left.0 (in_chosen filling.choice left.0 left.1) in
      list_any_at is_pending (listed_of filled) at.0 0 at.1 (pending_word (slice_index_or (listed_of filled) at.0 0) left.0 left.2 at.2)
    where
      pending_word : (word : ℕ) (c : Choice) → c.entry.state ≡ Pending → seen_in word ≡ seen_choice c → is_pending word ≡ true
      pending_word word c state seen =
          pending_alone (unpacked word).state ∙ ap (λ (s : Seen). s.pending && not s.active) seen ∙ ap (λ state. state_has_pending state && not (state_has_active state)) state

  pub plan_quiet : HasBinaryPoints local.cpu → misr_of filled ≡ 0
  plan_quiet points = none_asserted filled local.cpu points claiming_all.holds plan_mirrors asks.uie asks.lrenpie (λ npie. some_pending (sym asks.npie ∙ npie)) not_ended
