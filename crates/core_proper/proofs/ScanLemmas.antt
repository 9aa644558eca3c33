-- How far a scan is, and the bits that it goes by.
use Rattle.std.proofs.Common.{◌≡◌, ℕ, ◌-◌, ◌<◌, ◌==◌, true≢false, Bool, true, false, IsTrue, List, [], find, Option, Some, None, is_none, if◌then◌else◌, refl, sym, ◌∙◌, arith}
use Rattle.std.specs.List.{range_with_len}
use Rattle.std.specs.Option.{option_map, option_map_or}
use Rattle.std.proofs.lemmas.Grind.{common_steps}
use Rattle.floor_histories.specs.Words.{GuestShape, Key, is_of_vcpu, is_same_key, IsShape}
use Rattle.floor_histories.proofs.GicBase.KeyLemmas.{same_key}
use Rattle.floor_lists.specs.Lists.{IchRegs, Offer}
use Rattle.port_core.specs.Local.{is_cand}
use Rattle.port_core.specs.Place.{index_bit, index_bits, index_words, key_of_bit}
use Rattle.core_proper.specs.Progress.{Progress, filled, looks_on, goes_on, scan_on}
use Rattle.core_proper.specs.Scan.{Purpose, planned, trapped, bare, Scan, idle, taking, looking, claiming, next_cand, is_next, ended_scan}
use Rattle.core_proper.proofs.SearchLemmas.{found_in, IsFoundIn}

-- The bits of an index, and their interrupts.

pub bit_of_key : (shape : GuestShape) (vcpu bit : ℕ) → IsShape shape → bit < index_bits shape → index_bit shape (key_of_bit shape vcpu bit) ≡ bit
bit_of_key shape vcpu bit good within = grind (arith, common_steps, within, good.spis, good.espis, good.lpis)

pub own_of_bit : (shape : GuestShape) (vcpu bit : ℕ) → IsTrue (is_of_vcpu vcpu (key_of_bit shape vcpu bit))
own_of_bit shape vcpu bit = grind (arith, common_steps)

-- how far a scan is does not count for what it has nothing to do with
pub kept_on : {T : Type 0} (part : Progress → T) → ((q : Progress) (scan : Scan) (regs : IchRegs) (trapping : Bool) → part (record q { scan = scan; regs = regs; trapping = trapping }) ≡ part q) → (shape : GuestShape) (vcpu : ℕ) (q : Progress) → part (scan_on shape vcpu q) ≡ part q
kept_on part same shape vcpu q = let on = goes_on shape vcpu q.scan q in same on (ended_scan on.local on.scan) on.regs on.trapping ∙ goes q.scan
  where
    fills_same : (purpose : Purpose) (offers : List Offer) → part (filled shape vcpu purpose offers q) ≡ part q
    fills_same planned offers = same q _ _ _
    fills_same trapped offers = same q _ _ q.trapping
    fills_same bare offers = same q _ _ q.trapping

    looks_same : (purpose : Purpose) (from : ℕ) (offers : List Offer) (b : Bool) → part (if b then filled shape vcpu purpose offers q else record q { scan = looking purpose from offers }) ≡ part q
    looks_same purpose from offers true = fills_same purpose offers
    looks_same purpose from offers false = same q (looking purpose from offers) q.regs q.trapping

    goes : (scan : Scan) → part (goes_on shape vcpu scan q) ≡ part q
    goes idle = refl
    goes (taking purpose words) = of (words == index_words shape)
      where
        of : (b : Bool) → part (if b then looks_on shape vcpu purpose 0 [] q else q) ≡ part q
        of true = looks_same purpose 0 [] (is_none (next_cand shape vcpu q.local.cands 0))
        of false = refl
    goes (looking purpose from offers) = looks_same purpose from offers (is_none (next_cand shape vcpu q.local.cands from))
    goes (claiming claims takes) = refl

pub local_on : (shape : GuestShape) (vcpu : ℕ) (q : Progress) → (scan_on shape vcpu q).local ≡ q.local
local_on shape vcpu q = kept_on (λ (p : Progress). p.local) (λ p scan regs trapping. refl) shape vcpu q

pub lrs_on : (shape : GuestShape) (vcpu : ℕ) (q : Progress) → (scan_on shape vcpu q).lrs ≡ q.lrs
lrs_on shape vcpu q = kept_on (λ (p : Progress). p.lrs) (λ p scan regs trapping. refl) shape vcpu q

pub debt_on : (shape : GuestShape) (vcpu : ℕ) (q : Progress) → (scan_on shape vcpu q).debt ≡ q.debt
debt_on shape vcpu q = kept_on (λ (p : Progress). p.debt) (λ p scan regs trapping. refl) shape vcpu q

pub failed_on : (shape : GuestShape) (vcpu : ℕ) (q : Progress) → (scan_on shape vcpu q).failed ≡ q.failed
failed_on shape vcpu q = kept_on (λ (p : Progress). p.failed) (λ p scan regs trapping. refl) shape vcpu q

pub wants_on : (shape : GuestShape) (vcpu : ℕ) (q : Progress) → (scan_on shape vcpu q).wants ≡ q.wants
wants_on shape vcpu q = kept_on (λ (p : Progress). p.wants) (λ p scan regs trapping. refl) shape vcpu q

-- the interrupt that a look is at
pub record IsNext (shape : GuestShape) (vcpu : ℕ) (p : Progress) (from : ℕ) (k : Key) : Type 0 where
  pub bit : ℕ
  pub search : IsFoundIn (is_cand p.local.cands) from (index_bits shape - from) bit
  pub is : k ≡ key_of_bit shape vcpu bit

pub next_is : (shape : GuestShape) (vcpu : ℕ) (p : Progress) (from : ℕ) (k : Key) → IsTrue (is_next shape vcpu p.local.cands from k) → IsNext shape vcpu p from k
next_is shape vcpu p from k h = of (find (is_cand p.local.cands) (range_with_len from (index_bits shape - from))) refl h
  where
    of : (o : Option ℕ) → find (is_cand p.local.cands) (range_with_len from (index_bits shape - from)) ≡ o → IsTrue (option_map_or (is_same_key k) (option_map (key_of_bit shape vcpu) o) false) → IsNext shape vcpu p from k
    of None e same = absurd (true≢false (sym same))
    of (Some bit) e same = record { bit = bit; search = found_in (is_cand p.local.cands) from (index_bits shape - from) bit e; is = same_key k (key_of_bit shape vcpu bit) same }
