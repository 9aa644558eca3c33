-- What an access finds in a register map fits its size.
use Rattle.std.proofs.Common.{◌≡◌, ℕ, ◌+◌, ◌-◌, ◌*◌, ◌%◌, ◌≤◌, ◌<◌, ◌^◌, ◌==◌, ◌&&◌, Bool, true, false, cond, IsTrue, IfSome, Option, Some, None, List, [], ◌∷◌, refl, sym, subst, inl, inr, arith}
use Rattle.std.specs.List.{list_all}
use Rattle.std.proofs.lemmas.Grind.{common_steps}
use Rattle.floor_registers.specs.Words.{Kind, SetEnable, ClearEnable, SetPending, ClearPending, SetActive, ClearActive, Priority, Config, Routing}
use Rattle.floor_registers.specs.GicBase.declared.operation.Kind.TheVariants.{Group}
use Rattle.floor_registers.specs.Registers.{Half, Low, High, Whole, Access, Word, WordOrLowHalf, WordOrByte, Doubleword, Line, Register, Interrupts, Found, InRegister, InParts, half_of, takes, bank_of, found_in, access_at, found_at, part_bits, parts_in, parts_bank, AreWithin, is_size}
use Rattle.floor_registers.specs.GicFrame.Bank.{byte_of}
use Rattle.floor_registers.proofs.GicFrame.LineLemmas.{found_passes}
use Rattle.floor_registers.proofs.GicFrame.TestLemmas.{same, under}
use Rattle.gic_open.specs.GicGuest.Good.{fits}
use Rattle.floor_registers.specs.GicDmap.declared.map.Reg.{Reg as DistReg}
use Rattle.floor_registers.specs.GicDmap.declared.map.RegRef.TheVariants.{Bits as DistBits}
use Rattle.floor_registers.specs.GicDmap.Map.{lines as dist_lines, decoded as dist_decoded, NamesIntids}
use Rattle.floor_registers.specs.GicRmap.declared.map.Reg.{Reg as RedistReg}
use Rattle.floor_registers.specs.GicRmap.declared.map.RegRef.TheVariants.{Bits as RedistBits}
use Rattle.floor_registers.specs.GicRmap.Map.{lines as redist_lines, decoded as redist_decoded, NamesIntids as NamesPrivate}
use Rattle.floor_registers.specs.GicImap.declared.map.Reg.{Reg as ItsReg}
use Rattle.floor_registers.specs.GicImap.Map.{lines as its_lines, decoded as its_decoded}
use Rattle.gic_call.specs.Fit.{FitsHalf, FitParts, FitsDist, FitsRedist, FitsIts}

-- an access is to a half exactly where it has half the size of a register of 64 bits
abbrev IsHalfOf : ℕ → Half → Type 0
IsHalfOf size Low = size ≡ 4
IsHalfOf size High = size ≡ 4
IsHalfOf size Whole = Unit {0}

half_of_size : (access : Access) (byte size : ℕ) → IsHalfOf size (half_of access byte size)
half_of_size Word byte size = tt
half_of_size WordOrLowHalf byte size = tt
half_of_size WordOrByte byte size = tt
half_of_size Doubleword byte size = of (size == 4) refl
  where
    of_byte : (b : Bool) → size ≡ 4 → IsHalfOf size (cond b Low High)
    of_byte true e = e
    of_byte false e = e

    of : (b : Bool) → (size == 4) ≡ b → IsHalfOf size (cond b (cond (byte == 0) Low High) Whole)
    of true e = of_byte (byte == 0) (same size 4 e)
    of false e = tt

-- what is found is a half of its size, and as many parts as the size has
abbrev pub FoundFits : {R : Type 0} → ℕ → Found R → Type 0
FoundFits size (InRegister reg half) = IsHalfOf size half
FoundFits size (InParts kind first count half) = IsHalfOf size half × (count * part_bits kind ≤ 8 * size)

parts_fit : (kind : Kind) (size : ℕ) → parts_in kind size * part_bits kind ≤ 8 * size
parts_fit Group size = omega arith
parts_fit SetEnable size = omega arith
parts_fit ClearEnable size = omega arith
parts_fit SetPending size = omega arith
parts_fit ClearPending size = omega arith
parts_fit SetActive size = omega arith
parts_fit ClearActive size = omega arith
parts_fit Priority size = omega arith
parts_fit Config size = omega arith
parts_fit Routing size = omega arith

line_fits : {R : Type 0} (line : Line R) (offset size : ℕ) → IfSome (access_at line offset size) (FoundFits size)
line_fits {R} line offset size = of (offset % size == 0 && takes (bank_of line).access (byte_of (bank_of line) offset) size) refl
  where
    found : (line : Line R) → FoundFits size (found_in line (offset - (bank_of line).start) size (half_of (bank_of line).access (byte_of (bank_of line) offset) size))
    found (Register start access reg) = half_of_size access (byte_of (bank_of (Register start access reg)) offset) size
    found (Interrupts start kind first count) = (half_of_size (parts_bank start kind count).access (byte_of (parts_bank start kind count) offset) size, parts_fit kind size)

    of : (b : Bool) → (offset % size == 0 && takes (bank_of line).access (byte_of (bank_of line) offset) size) ≡ b → IfSome (access_at line offset size) (FoundFits size)
    of true e = rw e (found line)
    of false e = rw e tt

all_lines : {R : Type 0} (lines : List (Line R)) → IsTrue (list_all (λ line. true) lines)
all_lines [] = refl
all_lines (line ∷ lines) = all_lines lines

pub found_fits : {R : Type 0} (lines : List (Line R)) (offset size : ℕ) → IfSome (found_at lines offset size) (FoundFits size)
found_fits lines offset size = found_passes (λ line. true) (FoundFits size) offset size (λ line h here. line_fits line offset size) lines (all_lines lines)

-- a value that fits its size fits the half
pub half_fits : (half : Half) (size : ℕ) (write : Option ℕ) → IsHalfOf size half → IsTrue (fits size write) → IfSome write (λ value. value < 2 ^ 64) → FitsHalf half write
half_fits half size None is fit small = tt
half_fits Low size (Some value) is fit small = subst (λ n. value < 2 ^ (8 * n)) is (under value (2 ^ (8 * size)) fit)
half_fits High size (Some value) is fit small = subst (λ n. value < 2 ^ (8 * n)) is (under value (2 ^ (8 * size)) fit)
half_fits Whole size (Some value) is fit small = small

-- a size is at most eight bytes
pub size_small : (size : ℕ) → IsTrue (is_size size) → size ≤ 8
size_small size h = grind (arith, common_steps, h)

-- what an access to each map is to fits
pub dist_fits : (offset size : ℕ) (write : Option ℕ) → IsTrue (is_size size) → IsTrue (fits size write) → IfSome write (λ value. value < 2 ^ 64) → NamesIntids (dist_decoded offset size) → FitsDist (dist_decoded offset size) write
dist_fits offset size write sized fit small named = of (found_at dist_lines offset size) refl (found_fits dist_lines offset size)
  where
    parts : (kind : Kind) (first count : ℕ) → count * part_bits kind ≤ 8 * size → dist_decoded offset size ≡ DistBits kind first count → FitParts kind first count
    parts kind first count h e = record { bits = omega (arith, h, size_small size sized); intids = below (subst NamesIntids e named) }
      where
        below : NamesIntids (DistBits kind first count) → first + count < 2 ^ 32
        below (inl is) = omega (arith, is.below)
        below (inr is) = omega (arith, is.below)

    of : (o : Option (Found DistReg)) → found_at dist_lines offset size ≡ o → IfSome o (FoundFits size) → FitsDist (dist_decoded offset size) write
    of None e h = rw e tt
    of (Some (InRegister reg half)) e h = rw e (half_fits half size write h fit small)
    of (Some (InParts kind first count Whole)) e h =
        let here : dist_decoded offset size ≡ DistBits kind first count = rw e refl in
        subst (λ ref. FitsDist ref write) (sym here) (parts kind first count h.1 here)
    of (Some (InParts kind first count Low)) e h = rw e (half_fits Low size write h.0 fit small)
    of (Some (InParts kind first count High)) e h = rw e (half_fits High size write h.0 fit small)

pub redist_fits : (offset size : ℕ) (write : Option ℕ) → IsTrue (is_size size) → IsTrue (fits size write) → IfSome write (λ value. value < 2 ^ 64) → NamesPrivate (redist_decoded offset size) → FitsRedist (redist_decoded offset size) write
redist_fits offset size write sized fit small named = of (found_at redist_lines offset size) refl (found_fits redist_lines offset size)
  where
    parts : (kind : Kind) (first count : ℕ) → count * part_bits kind ≤ 8 * size → redist_decoded offset size ≡ RedistBits kind first count → FitParts kind first count
    parts kind first count h e = let is : AreWithin 0 32 first count = subst NamesPrivate e named in record { bits = omega (arith, h, size_small size sized); intids = omega (arith, is.below) }

    of : (o : Option (Found RedistReg)) → found_at redist_lines offset size ≡ o → IfSome o (FoundFits size) → FitsRedist (redist_decoded offset size) write
    of None e h = rw e tt
    of (Some (InRegister reg half)) e h = rw e (half_fits half size write h fit small)
    of (Some (InParts kind first count half)) e h =
        let here : redist_decoded offset size ≡ RedistBits kind first count = rw e refl in
        subst (λ ref. FitsRedist ref write) (sym here) (parts kind first count h.1 here)

pub its_fits : (offset size : ℕ) (write : Option ℕ) → IsTrue (fits size write) → IfSome write (λ value. value < 2 ^ 64) → FitsIts (its_decoded offset size) write
its_fits offset size write fit small = of (found_at its_lines offset size) refl (found_fits its_lines offset size)
  where
    of : (o : Option (Found ItsReg)) → found_at its_lines offset size ≡ o → IfSome o (FoundFits size) → FitsIts (its_decoded offset size) write
    of None e h = rw e tt
    of (Some (InRegister reg half)) e h = rw e (half_fits half size write h fit small)
    of (Some (InParts kind first count half)) e h = rw e tt
