-- The names of the CPU interface registers, and which of them are read and written (IHI 0069, "AArch64 System register descriptions").
use Rattle.std.specs.Prelude.{ℕ, List, [], ◌∷◌, codes, find, Bool, true, false, Option}
use Rattle.std.specs.Str.{bytes_eq}
use Rattle.gic_base.specs.declared.icc.IccReg.{IccReg}
use Rattle.gic_base.specs.declared.icc.IccReg.TheVariants.{Iar0, Iar1, Hppir0, Hppir1, Eoir0, Eoir1, Dir, Rpr, Pmr, Bpr0, Bpr1, Ctlr, Igrpen0, Igrpen1, Ap0r0, Ap1r0, Sgi1r, Sre}

-- a register's name in bytes, without ICC_ and _EL1
abbrev pub name_of : IccReg → List ℕ
name_of Iar0 = codes "IAR0"
name_of Iar1 = codes "IAR1"
name_of Hppir0 = codes "HPPIR0"
name_of Hppir1 = codes "HPPIR1"
name_of Eoir0 = codes "EOIR0"
name_of Eoir1 = codes "EOIR1"
name_of Dir = codes "DIR"
name_of Rpr = codes "RPR"
name_of Pmr = codes "PMR"
name_of Bpr0 = codes "BPR0"
name_of Bpr1 = codes "BPR1"
name_of Ctlr = codes "CTLR"
name_of Igrpen0 = codes "IGRPEN0"
name_of Igrpen1 = codes "IGRPEN1"
name_of Ap0r0 = codes "AP0R0"
name_of Ap1r0 = codes "AP1R0"
name_of Sgi1r = codes "SGI1R"
name_of Sre = codes "SRE"

-- all registers
abbrev pub registers : List IccReg
registers = Iar0 ∷ Iar1 ∷ Hppir0 ∷ Hppir1 ∷ Eoir0 ∷ Eoir1 ∷ Dir ∷ Rpr ∷ Pmr ∷ Bpr0 ∷ Bpr1 ∷ Ctlr ∷ Igrpen0 ∷ Igrpen1 ∷ Ap0r0 ∷ Ap1r0 ∷ Sgi1r ∷ Sre ∷ []

-- the register that has this name
abbrev pub register_named : List ℕ → Option IccReg
register_named name = find (λ reg. bytes_eq (name_of reg) name) registers

-- there is a read of the register: of all but those that end or deactivate an interrupt or send one
abbrev pub is_readable : IccReg → Bool
is_readable Eoir0 = false
is_readable Eoir1 = false
is_readable Dir = false
is_readable Sgi1r = false
is_readable reg = true

-- there is a write of the register: of all but those that answer an interrupt or the running priority
abbrev pub is_writable : IccReg → Bool
is_writable Iar0 = false
is_writable Iar1 = false
is_writable Hppir0 = false
is_writable Hppir1 = false
is_writable Rpr = false
is_writable reg = true
