-- ICH_MISR: when it is 0, and what that says of ICH_HCR, of the groups and of the list registers.
use Rattle.std.proofs.Common.{◌≡◌, ℕ, ◌+◌, ◌==◌, ◌&&◌, not, Bool, true, false, nat_le, List, [], ◌∷◌, length, filter, Contains, inl, inr, if◌then◌else◌, refl, sym, ap, ◌∙◌, arith}
use Rattle.std.specs.List.{list_any}
use Rattle.std.proofs.lemmas.Bool.{eqb-true}
use Rattle.law_core_is_history.proofs.VcpuRefill.ElementLemmas.{Contains-here, Contains-there, Contains-cases, Contains-nothing}
use Rattle.law_core_is_history.specs.Words.{bit_of, has_bit, field_at}
use Rattle.law_core_is_history.specs.Lists.{IchRegs, hcr_en, hcr_uie, hcr_lrenpie, hcr_npie, hcr_vgrp0eie, hcr_vgrp0die, hcr_vgrp1eie, hcr_vgrp1die, hcr_eoicount, HoldCpu, listed_of, asked, entries_part, groups_part, is_pending, is_valid, misr_of, veng0, veng1, bits_where, has_ended}
use Rattle.law_core_is_history.proofs.GicIcv.CpuLemmas.{holds}
use Rattle.law_core_is_history.specs.Registers.{CpuRec, HasBinaryPoints}
use Rattle.law_registers_stand.specs.Asks.{IsMirrored, IsQuiet}

-- Bits.

no_bit : (b : Bool) → bit_of b ≡ 0 → b ≡ false
no_bit true e = absurd (omega (arith, e))
no_bit false e = refl

bit_no : (b : Bool) → b ≡ false → bit_of b ≡ 0
bit_no b e = ap bit_of e

not_false : (b : Bool) → not b ≡ false → b ≡ true
not_false true e = refl
not_false false e = absurd (cc)

-- no word is so
none_where : (is_so : ℕ → Bool) (words : List ℕ) → ((word : ℕ) → Contains words word → is_so word ≡ false) → bits_where is_so words ≡ 0
none_where is_so [] none = refl
none_where is_so (word ∷ words) none =
    let first = bit_no (is_so word) (none word (Contains-here word words)) in
    let rest = none_where is_so words (λ other has. none other (Contains-there word other words has)) in
    omega (arith, first, rest)

where_none : (is_so : ℕ → Bool) (words : List ℕ) → bits_where is_so words ≡ 0 → (word : ℕ) → Contains words word → is_so word ≡ false
where_none is_so [] e word has = absurd (Contains-nothing word has)
where_none is_so (first ∷ words) e word has = elim (Contains-cases first word words has) [
  | inl same ↦ ap is_so (sym same) ∙ no_bit (is_so first) (omega (arith, e))
  | inr later ↦ where_none is_so words (omega (arith, e)) word later
]

-- The group enables that the registers hold.

pub holds_groups : (regs : IchRegs) (cpu : CpuRec) → HasBinaryPoints cpu → HoldCpu regs cpu → (has_bit regs.vmcr veng0 ≡ cpu.en0) × (has_bit regs.vmcr veng1 ≡ cpu.en1)
holds_groups regs cpu points hold =
    let same = holds regs cpu points hold.vmcr hold.ap0 hold.ap1 in
    (ap (λ (c : CpuRec). c.en0) same, ap (λ (c : CpuRec). c.en1) same)

-- none is asserted where none that is asked for happened
pub none_asserted :
    (regs : IchRegs) (cpu : CpuRec) → HasBinaryPoints cpu → HoldCpu regs cpu → IsMirrored regs.hcr cpu → has_bit regs.hcr hcr_uie ≡ false → has_bit regs.hcr hcr_lrenpie ≡ false → (has_bit regs.hcr hcr_npie ≡ true → list_any is_pending (listed_of regs) ≡ true)
    → ((word : ℕ) → Contains (listed_of regs) word → has_ended word ≡ false) → misr_of regs ≡ 0
none_asserted regs cpu points hold mirrored uie lrenpie pending ended =
    let groups = holds_groups regs cpu points hold in
    let eoi : bit_of (not (bits_where has_ended (listed_of regs) == 0)) ≡ 0 = ap (λ n. bit_of (not (n == 0))) (none_where has_ended (listed_of regs) ended) in
    let u : asked regs.hcr hcr_uie (nat_le (length (filter is_valid (listed_of regs))) 1) ≡ 0 = ap (λ b. bit_of (b && nat_le (length (filter is_valid (listed_of regs))) 1)) uie in
    let l : asked regs.hcr hcr_lrenpie (not (field_at regs.hcr hcr_eoicount 5 == 0)) ≡ 0 = ap (λ b. bit_of (b && not (field_at regs.hcr hcr_eoicount 5 == 0))) lrenpie in
    let n : asked regs.hcr hcr_npie (not (list_any is_pending (listed_of regs))) ≡ 0 = ap bit_of (none_pending (has_bit regs.hcr hcr_npie) (list_any is_pending (listed_of regs)) pending) in
    let e0 : asked regs.hcr hcr_vgrp0eie (has_bit regs.vmcr veng0) ≡ 0 = ap (λ b. bit_of (b && has_bit regs.vmcr veng0)) mirrored.enabled0 ∙ ap (λ b. bit_of (not cpu.en0 && b)) groups.0 ∙ ap bit_of (not_both cpu.en0) in
    let d0 : asked regs.hcr hcr_vgrp0die (not (has_bit regs.vmcr veng0)) ≡ 0 = ap (λ b. bit_of (b && not (has_bit regs.vmcr veng0))) mirrored.disabled0 ∙ ap (λ b. bit_of (cpu.en0 && not b)) groups.0 ∙ ap bit_of (both_not cpu.en0) in
    let e1 : asked regs.hcr hcr_vgrp1eie (has_bit regs.vmcr veng1) ≡ 0 = ap (λ b. bit_of (b && has_bit regs.vmcr veng1)) mirrored.enabled1 ∙ ap (λ b. bit_of (not cpu.en1 && b)) groups.1 ∙ ap bit_of (not_both cpu.en1) in
    let d1 : asked regs.hcr hcr_vgrp1die (not (has_bit regs.vmcr veng1)) ≡ 0 = ap (λ b. bit_of (b && not (has_bit regs.vmcr veng1))) mirrored.disabled1 ∙ ap (λ b. bit_of (cpu.en1 && not b)) groups.1 ∙ ap bit_of (both_not cpu.en1) in
    let sum : entries_part regs + groups_part regs.hcr regs.vmcr ≡ 0 = omega (arith, eoi, u, l, n, e0, d0, e1, d1) in
    ap (λ b. if b then entries_part regs + groups_part regs.hcr regs.vmcr else 0) hold.enabled ∙ sum
  where
    none_pending : (a b : Bool) → (a ≡ true → b ≡ true) → (a && not b) ≡ false
    none_pending true b h = ap not (h refl)
    none_pending false b h = refl

    not_both : (b : Bool) → (not b && b) ≡ false
    not_both true = refl
    not_both false = refl

    both_not : (b : Bool) → (b && not b) ≡ false
    both_not true = refl
    both_not false = refl

-- What it says that none is asserted.

module _ (regs : IchRegs) (enabled : has_bit regs.hcr hcr_en ≡ true) (misr : misr_of regs ≡ 0) where
  sum : entries_part regs + groups_part regs.hcr regs.vmcr ≡ 0
  sum = sym (ap (λ b. if b then entries_part regs + groups_part regs.hcr regs.vmcr else 0) enabled) ∙ misr

  -- a group's change that is asked for did not happen
  unasked : (a b : Bool) → (a && b) ≡ false → a ≡ true → b ≡ false
  unasked true b e f = e
  unasked false b e f = absurd (cc)

  pub quiet_regs : IsQuiet regs
  quiet_regs = record {
    misr = misr;
    pending = λ asks. not_false (list_any is_pending (listed_of regs)) (unasked (has_bit regs.hcr hcr_npie) (not (list_any is_pending (listed_of regs))) (no_bit (has_bit regs.hcr hcr_npie && not (list_any is_pending (listed_of regs))) (omega (arith, sum))) asks);
    ended = where_none has_ended (listed_of regs) (eqb-true (bits_where has_ended (listed_of regs)) 0 (not_false (bits_where has_ended (listed_of regs) == 0) (no_bit (not (bits_where has_ended (listed_of regs) == 0)) (omega (arith, sum)))));
  }

  -- so the registers that asked for changes of a record's enables hold one with the same enables
  pub groups_kept : (cpu after : CpuRec) → IsMirrored regs.hcr cpu → has_bit regs.vmcr veng0 ≡ after.en0 → has_bit regs.vmcr veng1 ≡ after.en1 → (after.en0 ≡ cpu.en0) × (after.en1 ≡ cpu.en1)
  groups_kept cpu after mirrored en0 en1 = (
    same cpu.en0 after.en0 (has_bit regs.hcr hcr_vgrp0eie) (has_bit regs.hcr hcr_vgrp0die) (has_bit regs.vmcr veng0) mirrored.enabled0 mirrored.disabled0 en0 (no_bit _ (omega (arith, sum))) (no_bit _ (omega (arith, sum))),
    same cpu.en1 after.en1 (has_bit regs.hcr hcr_vgrp1eie) (has_bit regs.hcr hcr_vgrp1die) (has_bit regs.vmcr veng1) mirrored.enabled1 mirrored.disabled1 en1 (no_bit _ (omega (arith, sum))) (no_bit _ (omega (arith, sum))),
  )
    where
      same : (old new enables disables now : Bool) → enables ≡ not old → disables ≡ old → now ≡ new → (enables && now) ≡ false → (disables && not now) ≡ false → new ≡ old
      same true true enables disables now e d n a b = refl
      same false false enables disables now e d n a b = refl
      same true false enables disables now e d n a b = absurd (let no : true ≡ false = sym (ap (λ x. x && not now) d ∙ ap not n) ∙ b in cc)
      same false true enables disables now e d n a b = absurd (let no : true ≡ false = sym (ap (λ x. x && now) e ∙ n) ∙ a in cc)
