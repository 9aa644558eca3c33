-- ICH_HCR: the numbers of its bits (IHI 0069, ICH_HCR_EL2). Those up to VGrp1DIE but En ask for a maintenance interrupt.
use Rattle.std.specs.Prelude.{ℕ}

-- En: the virtual CPU interface is on
abbrev pub hcr_en : ℕ
hcr_en = 0

-- UIE: at most one list register in use
abbrev pub hcr_uie : ℕ
hcr_uie = 1

-- LRENPIE: an end of interrupt found no list register
abbrev pub hcr_lrenpie : ℕ
hcr_lrenpie = 2

-- NPIE: no list register pending
abbrev pub hcr_npie : ℕ
hcr_npie = 3

-- VGrp0EIE: group 0 enabled
abbrev pub hcr_vgrp0eie : ℕ
hcr_vgrp0eie = 4

-- VGrp0DIE: group 0 disabled
abbrev pub hcr_vgrp0die : ℕ
hcr_vgrp0die = 5

-- VGrp1EIE: group 1 enabled
abbrev pub hcr_vgrp1eie : ℕ
hcr_vgrp1eie = 6

-- VGrp1DIE: group 1 disabled
abbrev pub hcr_vgrp1die : ℕ
hcr_vgrp1die = 7

-- TC: accesses of the registers that both groups share are trapped
abbrev pub hcr_tc : ℕ
hcr_tc = 10

-- TALL0: those of group 0
abbrev pub hcr_tall0 : ℕ
hcr_tall0 = 11

-- TALL1: those of group 1
abbrev pub hcr_tall1 : ℕ
hcr_tall1 = 12

-- TDIR: writes of DIR
abbrev pub hcr_tdir : ℕ
hcr_tdir = 14

-- EOIcount [31:27]: its lowest bit
abbrev pub hcr_eoicount : ℕ
hcr_eoicount = 27
