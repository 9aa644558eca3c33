-- Why there is a maintenance interrupt (IHI 0069, ICH_MISR_EL2 and ICH_HCR_EL2).
use Rattle.std.specs.Prelude.{ℕ, ◌+◌, ◌*◌, ◌^◌, ◌==◌, ◌&&◌, not, nat_le, Bool, true, false, if◌then◌else◌, length, filter}
use Rattle.std.specs.List.{list_any}
use Rattle.gic_lr.specs.Words.{bit_of, has_bit, field_at}
use Rattle.gic_lr.specs.declared.entry.LrState.{LrState}
use Rattle.gic_lr.specs.declared.entry.LrState.TheVariants.{Pending}
use Rattle.gic_lr.specs.Entry.{unpacked}
use Rattle.gic_lr.specs.Status.{bits_where, has_ended, is_invalid}
use Rattle.gic_ich.specs.Hcr.{hcr_en, hcr_uie, hcr_lrenpie, hcr_npie, hcr_vgrp0eie, hcr_vgrp0die, hcr_vgrp1eie, hcr_vgrp1die, hcr_eoicount}
use Rattle.gic_ich.specs.Regs.{listed_of}
use Rattle.gic_ich.specs.Vmcr.{veng0, veng1}
use Rattle.gic_ich.specs.declared.regs.IchRegs.{IchRegs}

-- State is not 0
abbrev pub is_valid : ℕ → Bool
is_valid word = not (is_invalid (unpacked word).state)

-- State is 1
abbrev pub is_pending_state : LrState → Bool
is_pending_state Pending = true
is_pending_state state = false

abbrev pub is_pending : ℕ → Bool
is_pending word = is_pending_state (unpacked word).state

-- a bit of ICH_MISR: the bit of ICH_HCR at this place asks for it, and it happened
abbrev pub asked : ℕ → ℕ → Bool → ℕ
asked hcr place happened = bit_of (has_bit hcr place && happened)

-- EOI at bit 0, U at 1, LRENP at 2 and NP at 3
abbrev pub entries_part : IchRegs → ℕ
entries_part regs =
    bit_of (not (bits_where has_ended (listed_of regs) == 0))
    + asked regs.hcr hcr_uie (nat_le (length (filter is_valid (listed_of regs))) 1) * 2 ^ 1
    + asked regs.hcr hcr_lrenpie (not (field_at regs.hcr hcr_eoicount 5 == 0)) * 2 ^ 2
    + asked regs.hcr hcr_npie (not (list_any is_pending (listed_of regs))) * 2 ^ 3

-- VGrp0E, VGrp0D, VGrp1E and VGrp1D at bits 4 to 7
abbrev pub groups_part : ℕ → ℕ → ℕ
groups_part hcr vmcr =
    asked hcr hcr_vgrp0eie (has_bit vmcr veng0) * 2 ^ 4
    + asked hcr hcr_vgrp0die (not (has_bit vmcr veng0)) * 2 ^ 5
    + asked hcr hcr_vgrp1eie (has_bit vmcr veng1) * 2 ^ 6
    + asked hcr hcr_vgrp1die (not (has_bit vmcr veng1)) * 2 ^ 7

-- ICH_MISR; all bits are 0 while ICH_HCR.En is 0 (own choice)
abbrev pub misr_of : IchRegs → ℕ
misr_of regs = if has_bit regs.hcr hcr_en then entries_part regs + groups_part regs.hcr regs.vmcr else 0
