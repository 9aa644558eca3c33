-- What an access to the map names, and where the parts of interrupts are.
use Rattle.std.proofs.Common.{◌≡◌, ℕ, ◌+◌, ◌<◌, ◌==◌, ◌&&◌, Bool, true, false, IsTrue, IfSome, Option, Some, None, refl, zero-add}
use Rattle.gic_frame.specs.Words.{Kind, SetEnable, ClearEnable, SetPending, ClearPending, SetActive, ClearActive, Priority, Config, Routing}
use Rattle.gic_frame.specs.GicBase.declared.operation.Kind.TheVariants.{Group}
use Rattle.gic_frame.specs.declared.bank.Half.{Half}
use Rattle.gic_frame.specs.declared.bank.Half.TheVariants.{Low, High, Whole}
use Rattle.gic_frame.specs.declared.line.Line.{Line}
use Rattle.gic_frame.specs.declared.line.Line.TheVariants.{Register, Interrupts}
use Rattle.gic_frame.specs.declared.line.Found.{Found}
use Rattle.gic_frame.specs.declared.line.Found.TheVariants.{InRegister, InParts}
use Rattle.gic_frame.specs.Bank.{contains, half_at}
use Rattle.gic_frame.specs.Part.{parts_bank, AreWithin}
use Rattle.gic_frame.specs.Line.{bank_of, access_at, found_at}
use Rattle.gic_frame.proofs.TestLemmas.{left, right, same}
use Rattle.gic_frame.proofs.PartLemmas.{width, is_full}
use Rattle.gic_frame.proofs.LineLemmas.{found_passes, parts_named, NamesWithin}
use Rattle.gic_frame.proofs.PlaceLemmas.{numbered, register_found, register_has, byte_found, byte_has}
use Rattle.gic_rmap.specs.declared.map.Reg.{Reg}
use Rattle.gic_rmap.specs.Map.{lines, decoded}
use Rattle.gic_rmap.specs.Law.{base_of, has_registers, IsToPart, PartIsAt, PartsAreInPlace}

-- what each line names
abbrev pub Names : Found Reg → Type 0
Names (InRegister reg half) = Unit {0}
Names (InParts kind first count half) = AreWithin 0 32 first count

abbrev is_not_router : Kind → Bool
is_not_router Routing = false
is_not_router kind = true

-- a line names INTIDs of private interrupts alone
abbrev names_intids : Line Reg → Bool
names_intids (Register start access reg) = true
names_intids (Interrupts start kind first count) = is_full kind start count && (first == 0 && count == 32) && is_not_router kind

private_ones : (first count named parts : ℕ) → IsTrue (first == 0 && count == 32) → AreWithin first (first + count) named parts → AreWithin 0 32 named parts
private_ones first count named parts h within =
    let from : first ≡ 0 = same _ _ (left _ _ h) in
    let of : count ≡ 32 = same _ _ (right _ _ h) in
    rw (from, of) at within

no_router : (kind : Kind) → IsTrue (is_not_router kind) → kind ≡ Routing → ⊥
no_router kind h e = let never : IsTrue false = rw e at h in absurd (cc)

each : (offset size : ℕ) (line : Line Reg) → IsTrue (names_intids line) → IsTrue (contains (bank_of line) offset) → IfSome (access_at line offset size) Names
each offset size (Register start access reg) good here = by_half (half_at (bank_of {R = Reg} (Register start access reg)) offset size) refl
  where
    by_half : (half : Option Half) → half_at (bank_of {R = Reg} (Register start access reg)) offset size ≡ half → IfSome (access_at (Register start access reg) offset size) Names
    by_half None e = rw e tt
    by_half (Some half) e = rw e tt
each offset size (Interrupts start kind first count) good here = by_half (half_at (parts_bank start kind count) offset size) refl
  where
    named : IfSome (access_at {R = Reg} (Interrupts start kind first count) offset size) (NamesWithin first (first + count))
    named = parts_named Reg start kind first count offset size (left _ _ (left _ _ good)) here

    by_half : (half : Option Half) → half_at (parts_bank start kind count) offset size ≡ half → IfSome (access_at {R = Reg} (Interrupts start kind first count) offset size) Names
    by_half None e = rw e tt
    by_half (Some Whole) e = rw e (private_ones first count _ _ (right _ _ (left _ _ good)) (rw e at named))
    by_half (Some Low) e = absurd (no_router kind (right _ _ good) (rw e at named).0)
    by_half (Some High) e = absurd (no_router kind (right _ _ good) (rw e at named).0)

-- what is found in the map names INTIDs within the limits
pub intids_named : (offset size : ℕ) (found : Found Reg) → found_at lines offset size ≡ Some found → Names found
intids_named offset size found is =
    let all : IfSome (found_at lines offset size) Names = found_passes names_intids Names offset size (each offset size) lines refl in
    rw is at all

-- the part of an interrupt in a line
row : (n start : ℕ) (kind : Kind) (id : ℕ) → numbered lines n ≡ Some (Interrupts start kind 0 32) → IsTrue (is_full kind start 32) → id < 32 → PartIsAt start kind id
row n start kind id is full within =
    rw (register_found 0x20000 (width kind) lines n start kind 0 32 id is refl full within refl) (rw (zero-add id) at (register_has kind start 0 id))

parts : (kind : Kind) (id : ℕ) → IsTrue (has_registers kind) → id < 32 → PartIsAt (0x10000 + base_of kind) kind id
parts Group id there within = row 6 0x10080 Group id refl refl within
parts SetEnable id there within = row 7 0x10100 SetEnable id refl refl within
parts ClearEnable id there within = row 8 0x10180 ClearEnable id refl refl within
parts SetPending id there within = row 9 0x10200 SetPending id refl refl within
parts ClearPending id there within = row 10 0x10280 ClearPending id refl refl within
parts SetActive id there within = row 11 0x10300 SetActive id refl refl within
parts ClearActive id there within = row 12 0x10380 ClearActive id refl refl within
parts Priority id there within = row 13 0x10400 Priority id refl refl within
parts Config id there within = row 14 0x10C00 Config id refl refl within
parts Routing id there within = absurd (cc)

byte_row : (id : ℕ) → id < 32 → IsToPart (decoded (0x10400 + id) 1) Priority id 0
byte_row id within = rw (byte_found 0x20000 lines 13 0x10400 0 32 id refl refl refl within) (rw (zero-add id) at (byte_has 0x10400 0 id))

pub parts_in_place : PartsAreInPlace
parts_in_place = record { parts = parts; bytes = byte_row }
