-- What an access to the map names, and where the parts of interrupts are.
use Rattle.std.proofs.Common.{◌≡◌, ℕ, ◌+◌, ◌-◌, ◌*◌, ◌/◌, ◌%◌, ◌<◌, ◌≤◌, ◌==◌, ◌&&◌, ◌||◌, ◌⊎◌, Bool, true, false, IsTrue, IfSome, Option, Some, None, refl, zero-add, inl, inr, arith}
use Rattle.gic_frame.specs.Words.{Kind, SetEnable, ClearEnable, SetPending, ClearPending, SetActive, ClearActive, Priority, Config, Routing}
use Rattle.gic_frame.specs.GicBase.declared.operation.Kind.TheVariants.{Group}
use Rattle.gic_frame.specs.declared.bank.Half.{Half}
use Rattle.gic_frame.specs.declared.bank.Half.TheVariants.{Low, High, Whole}
use Rattle.gic_frame.specs.declared.line.Line.{Line}
use Rattle.gic_frame.specs.declared.line.Line.TheVariants.{Register, Interrupts}
use Rattle.gic_frame.specs.declared.line.Found.{Found}
use Rattle.gic_frame.specs.declared.line.Found.TheVariants.{InRegister, InParts}
use Rattle.gic_frame.specs.Bank.{contains, half_at}
use Rattle.gic_frame.specs.Part.{parts_bank, AreWithin}
use Rattle.gic_frame.specs.Line.{bank_of, access_at, found_at}
use Rattle.gic_frame.proofs.TestLemmas.{left, right, same, at_most, under}
use Rattle.gic_frame.proofs.PartLemmas.{width, is_full, widened}
use Rattle.gic_frame.proofs.LineLemmas.{found_passes, parts_named, NamesWithin}
use Rattle.gic_frame.proofs.PlaceLemmas.{numbered, register_found, register_has, byte_found, byte_has}
use Rattle.gic_dmap.specs.declared.map.Reg.{Reg}
use Rattle.gic_dmap.specs.declared.map.Reg.TheVariants.{Ctlr, Typer, Iidr, SetSpi, ClrSpi, Router, Pidr2}
use Rattle.gic_dmap.specs.declared.map.RegRef.TheVariants.{Plain}
use Rattle.gic_dmap.specs.Map.{lines, decoded, NamesIntids}
use Rattle.gic_dmap.specs.Law.{base_of, extended_base_of, has_register, IsToPart, PartIsAt, PartsAreInPlace}

-- what each line names
abbrev pub Names : Found Reg → Type 0
Names (InRegister reg half) = NamesIntids (Plain reg half)
Names (InParts kind first count Whole) = AreWithin 0 1024 first count ⊎ AreWithin 4096 5120 first count
Names (InParts kind id count Low) = AreWithin 32 1020 id 1 ⊎ AreWithin 4096 5120 id 1
Names (InParts kind id count High) = AreWithin 32 1020 id 1 ⊎ AreWithin 4096 5120 id 1

-- a register that names no INTID
abbrev is_plain : Reg → Bool
is_plain (Router id) = false
is_plain reg = true

-- the INTIDs that a line can have: 0 to 1023, 32 to 1019 with an IROUTER, or 4096 to 5119
abbrev is_range : Kind → ℕ → ℕ → Bool
is_range Routing first count = first == 32 && count == 988 || (first == 4096 && count == 1024)
is_range kind first count = first == 0 && count == 1024 || (first == 4096 && count == 1024)

-- a line names INTIDs within the limits
abbrev names_intids : Line Reg → Bool
names_intids (Register start access reg) = is_plain reg
names_intids (Interrupts start kind first count) = is_full kind start count && is_range kind first count

plain : (reg : Reg) (half : Half) → IsTrue (is_plain reg) → NamesIntids (Plain reg half)
plain Ctlr half h = tt
plain Typer half h = tt
plain Iidr half h = tt
plain SetSpi half h = tt
plain ClrSpi half h = tt
plain Pidr2 half h = tt
plain (Router id) half h = absurd (cc)

two : (first count a c b d : ℕ) → IsTrue (first == a && count == c || (first == b && count == d)) → ((first ≡ a) × (count ≡ c)) ⊎ ((first ≡ b) × (count ≡ d))
two first count a c b d h = by_test (first == a && count == c) refl
  where
    by_test : (here : Bool) → (first == a && count == c) ≡ here → ((first ≡ a) × (count ≡ c)) ⊎ ((first ≡ b) × (count ≡ d))
    by_test true e = inl (same _ _ (left _ _ e), same _ _ (right _ _ e))
    by_test false e = let other : IsTrue (first == b && count == d) = rw e at h in inr (same _ _ (left _ _ other), same _ _ (right _ _ other))

-- interrupts of a line that begins with one of two INTIDs
either : (a c b d first count named parts : ℕ) → IsTrue (first == a && count == c || (first == b && count == d)) → AreWithin first (first + count) named parts → AreWithin a (a + c) named parts ⊎ AreWithin b (b + d) named parts
either a c b d first count named parts range within = by_two (two first count a c b d range)
  where
    by_two : ((first ≡ a) × (count ≡ c)) ⊎ ((first ≡ b) × (count ≡ d)) → AreWithin a (a + c) named parts ⊎ AreWithin b (b + d) named parts
    by_two (inl (f, n)) = inl (rw (f, n) at within)
    by_two (inr (f, n)) = inr (rw (f, n) at within)

wider : (named parts : ℕ) → AreWithin 32 1020 named parts ⊎ AreWithin 4096 5120 named parts → AreWithin 0 1024 named parts ⊎ AreWithin 4096 5120 named parts
wider named parts (inl within) = inl (widened 32 1020 0 1024 named parts (omega arith) (omega arith) within)
wider named parts (inr within) = inr within

whole : (kind : Kind) (first count named parts : ℕ) → IsTrue (is_range kind first count) → AreWithin first (first + count) named parts → AreWithin 0 1024 named parts ⊎ AreWithin 4096 5120 named parts
whole Routing first count named parts range within = wider named parts (either 32 988 4096 1024 first count named parts range within)
whole Group first count named parts range within = either 0 1024 4096 1024 first count named parts range within
whole SetEnable first count named parts range within = either 0 1024 4096 1024 first count named parts range within
whole ClearEnable first count named parts range within = either 0 1024 4096 1024 first count named parts range within
whole SetPending first count named parts range within = either 0 1024 4096 1024 first count named parts range within
whole ClearPending first count named parts range within = either 0 1024 4096 1024 first count named parts range within
whole SetActive first count named parts range within = either 0 1024 4096 1024 first count named parts range within
whole ClearActive first count named parts range within = either 0 1024 4096 1024 first count named parts range within
whole Priority first count named parts range within = either 0 1024 4096 1024 first count named parts range within
whole Config first count named parts range within = either 0 1024 4096 1024 first count named parts range within

router : (kind : Kind) (first count id : ℕ) → IsTrue (is_range kind first count) → (kind ≡ Routing) × AreWithin first (first + count) id 1 → AreWithin 32 1020 id 1 ⊎ AreWithin 4096 5120 id 1
router kind first count id range (is, within) = either 32 988 4096 1024 first count id 1 (rw is at range) within

each : (offset size : ℕ) (line : Line Reg) → IsTrue (names_intids line) → IsTrue (contains (bank_of line) offset) → IfSome (access_at line offset size) Names
each offset size (Register start access reg) good here = by_half (half_at (bank_of {R = Reg} (Register start access reg)) offset size) refl
  where
    by_half : (half : Option Half) → half_at (bank_of {R = Reg} (Register start access reg)) offset size ≡ half → IfSome (access_at (Register start access reg) offset size) Names
    by_half None e = rw e tt
    by_half (Some half) e = rw e (plain reg half good)
each offset size (Interrupts start kind first count) good here = by_half (half_at (parts_bank start kind count) offset size) refl
  where
    named : IfSome (access_at {R = Reg} (Interrupts start kind first count) offset size) (NamesWithin first (first + count))
    named = parts_named Reg start kind first count offset size (left _ _ good) here

    by_half : (half : Option Half) → half_at (parts_bank start kind count) offset size ≡ half → IfSome (access_at {R = Reg} (Interrupts start kind first count) offset size) Names
    by_half None e = rw e tt
    by_half (Some Whole) e = rw e (whole kind first count _ _ (right _ _ good) (rw e at named))
    by_half (Some Low) e = rw e (router kind first count _ (right _ _ good) (rw e at named))
    by_half (Some High) e = rw e (router kind first count _ (right _ _ good) (rw e at named))

-- what is found in the map names INTIDs within the limits
pub intids_named : (offset size : ℕ) (found : Found Reg) → found_at lines offset size ≡ Some found → Names found
intids_named offset size found is =
    let all : IfSome (found_at lines offset size) Names = found_passes names_intids Names offset size (each offset size) lines refl in
    rw is at all

-- an access by a half of an IROUTER
pub router_half : (offset size : ℕ) (found : Found Reg) (kind : Kind) (id count : ℕ) (half : Half) → found_at lines offset size ≡ Some found → found ≡ InParts kind id count half → (half ≡ Low) ⊎ (half ≡ High) → (Plain (Router id) half ≡ decoded offset size) × (AreWithin 32 1020 id 1 ⊎ AreWithin 4096 5120 id 1)
router_half offset size found kind id count half is parts (inl low) =
    let named : Names found = intids_named offset size found is in
    let at : found_at lines offset size ≡ Some (InParts kind id count Low) = cc in
    rw low (rw at refl, rw (parts, low) at named)
router_half offset size found kind id count half is parts (inr high) =
    let named : Names found = intids_named offset size found is in
    let at : found_at lines offset size ≡ Some (InParts kind id count High) = cc in
    rw high (rw at refl, rw (parts, high) at named)

-- the part of an interrupt by its number in a line
row : (n start : ℕ) (kind : Kind) (first count i : ℕ) → numbered lines n ≡ Some (Interrupts start kind first count) → IsTrue (is_full kind start count) → i < count → PartIsAt start kind i (first + i)
row n start kind first count i is full within =
    rw (register_found 0x10000 (width kind) lines n start kind first count i is refl full within refl) (register_has kind start first i)

-- of the registers that begin with INTID 0
low_row : (n start : ℕ) (kind : Kind) (id : ℕ) → numbered lines n ≡ Some (Interrupts start kind 0 1024) → IsTrue (is_full kind start 1024) → id < 1024 → PartIsAt start kind id id
low_row n start kind id is full within = rw (zero-add id) at (row n start kind 0 1024 id is full within)

moved : (offset offset' id id' bit bit' : ℕ) → offset ≡ offset' → id ≡ id' → bit ≡ bit' → IsToPart (decoded offset 8) Routing id bit → IsToPart (decoded offset' 8) Routing id' bit'
moved offset offset' id id' bit bit' o i b h = rw (← o, ← i, ← b) h

router_row : (id : ℕ) → 32 ≤ id → id < 1020 → PartIsAt 0x6000 Routing id id
router_row id from to =
    moved (0x6100 + (id - 32) * 64 / 64 * 8) (0x6000 + id * 64 / 64 * 8) (32 + (id - 32)) id ((id - 32) * 64 % 64) (id * 64 % 64) (omega arith) (omega arith) (omega arith) (row 23 0x6100 Routing 32 988 (id - 32) refl refl (omega arith))

parts : (kind : Kind) (id : ℕ) → IsTrue (has_register kind id) → PartIsAt (base_of kind) kind id id
parts Group id h = low_row 5 0x0080 Group id refl refl (under _ _ h)
parts SetEnable id h = low_row 6 0x0100 SetEnable id refl refl (under _ _ h)
parts ClearEnable id h = low_row 7 0x0180 ClearEnable id refl refl (under _ _ h)
parts SetPending id h = low_row 8 0x0200 SetPending id refl refl (under _ _ h)
parts ClearPending id h = low_row 9 0x0280 ClearPending id refl refl (under _ _ h)
parts SetActive id h = low_row 10 0x0300 SetActive id refl refl (under _ _ h)
parts ClearActive id h = low_row 11 0x0380 ClearActive id refl refl (under _ _ h)
parts Priority id h = low_row 12 0x0400 Priority id refl refl (under _ _ h)
parts Config id h = low_row 13 0x0C00 Config id refl refl (under _ _ h)
parts Routing id h = router_row id (at_most _ _ (left _ _ h)) (under _ _ (right _ _ h))

extended : (kind : Kind) (n : ℕ) → n < 1024 → PartIsAt (extended_base_of kind) kind n (4096 + n)
extended Group n h = row 14 0x1000 Group 4096 1024 n refl refl h
extended SetEnable n h = row 15 0x1200 SetEnable 4096 1024 n refl refl h
extended ClearEnable n h = row 16 0x1400 ClearEnable 4096 1024 n refl refl h
extended SetPending n h = row 17 0x1600 SetPending 4096 1024 n refl refl h
extended ClearPending n h = row 18 0x1800 ClearPending 4096 1024 n refl refl h
extended SetActive n h = row 19 0x1A00 SetActive 4096 1024 n refl refl h
extended ClearActive n h = row 20 0x1C00 ClearActive 4096 1024 n refl refl h
extended Priority n h = row 21 0x2000 Priority 4096 1024 n refl refl h
extended Config n h = row 22 0x3000 Config 4096 1024 n refl refl h
extended Routing n h = row 24 0x8000 Routing 4096 1024 n refl refl h

byte_row : (n start first i : ℕ) → numbered lines n ≡ Some (Interrupts start Priority first 1024) → IsTrue (is_full Priority start 1024) → i < 1024 → IsToPart (decoded (start + i) 1) Priority (first + i) 0
byte_row n start first i is full within = rw (byte_found 0x10000 lines n start first 1024 i is refl full within) (byte_has start first i)

pub parts_in_place : PartsAreInPlace
parts_in_place = record {
  parts = parts;
  extended = extended;
  bytes = λ id h. rw (zero-add id) at (byte_row 12 0x0400 0 id refl refl h);
  extended_bytes = λ n h. byte_row 21 0x2000 4096 n refl refl h;
}
