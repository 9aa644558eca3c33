-- Where in a map the part of an interrupt is.
use Rattle.std.proofs.Common.{◌≡◌, ◌≤◌, ◌<◌, ◌+◌, ◌-◌, ◌*◌, ◌/◌, ◌%◌, ◌==◌, ◌⊎◌, ℕ, zero, suc, List, [], ◌∷◌, Bool, true, false, IsTrue, Option, Some, None, refl, ◌∙◌, inl, inr, arith}
use Rattle.floor_words.specs.Words.{Kind, SetEnable, ClearEnable, SetPending, ClearPending, SetActive, ClearActive, Priority, Config, Routing}
use Rattle.floor_words.specs.GicBase.declared.operation.Kind.TheVariants.{Group}
use Rattle.gic_frame.specs.declared.bank.Half.TheVariants.{Whole}
use Rattle.gic_frame.specs.declared.line.Line.{Line}
use Rattle.gic_frame.specs.declared.line.Line.TheVariants.{Interrupts}
use Rattle.gic_frame.specs.declared.line.Found.TheVariants.{InParts}
use Rattle.gic_frame.specs.Bank.{width_of, contains, half_at}
use Rattle.gic_frame.specs.Part.{part_bits, parts_in, parts_bank, HasPart}
use Rattle.gic_frame.specs.Line.{bank_of, access_at, found_at, is_in_order}
use Rattle.gic_frame.proofs.TestLemmas.{left, right, both, same, at_most, under, is_same, is_at_most, is_under}
use Rattle.gic_frame.proofs.PartLemmas.{width, is_full, widths}

-- the line of a number, from 0
abbrev pub numbered : {A : Type 0} → List A → ℕ → Option A
numbered [] n = None
numbered (x ∷ xs) zero = Some x
numbered (x ∷ xs) (suc n) = numbered xs n

-- each line of a map in order begins where the map does, or later
begins_later : {R : Type 0} (from end : ℕ) (lines : List (Line R)) (n : ℕ) (line : Line R) → numbered lines n ≡ Some line → IsTrue (is_in_order from end lines) → from ≤ (bank_of line).start
begins_later from end [] n line is order = absurd (cc)
begins_later {R} from end (first ∷ lines) zero line is order =
    let it : first ≡ line = cc in
    let begins : from ≤ (bank_of first).start = at_most _ _ (left _ _ (left _ _ order)) in
    rw it at begins
begins_later from end (first ∷ lines) (suc n) line is order =
    let begins : from ≤ (bank_of first).start = at_most _ _ (left _ _ (left _ _ order)) in
    let later : (bank_of first).start + (bank_of first).count * width_of (bank_of first).access ≤ (bank_of line).start = begins_later ((bank_of first).start + (bank_of first).count * width_of (bank_of first).access) end lines n line is (right _ _ order) in
    omega arith

-- an offset in the registers of a line is found in that line
pub found_there : {R : Type 0} (from end offset size : ℕ) (lines : List (Line R)) (n : ℕ) (line : Line R) → numbered lines n ≡ Some line → IsTrue (is_in_order from end lines) → contains (bank_of line) offset ≡ true → found_at lines offset size ≡ access_at line offset size
found_there from end offset size [] n line is order here = absurd (cc)
found_there from end offset size (first ∷ lines) zero line is order here =
    let it : line ≡ first = cc in
    let there : contains (bank_of first) offset ≡ true = rw it at here in
    rw (it, there) refl
found_there {R} from end offset size (first ∷ lines) (suc n) line is order here = by_test (found_there ((bank_of first).start + (bank_of first).count * width_of (bank_of first).access) end offset size lines n line is (right _ _ order) here) (contains (bank_of first) offset) refl
  where
    by_test : found_at lines offset size ≡ access_at line offset size → (in_first : Bool) → contains (bank_of first) offset ≡ in_first → found_at (first ∷ lines) offset size ≡ access_at line offset size
    by_test later false e = rw e later
    by_test there true e =
        let later : (bank_of first).start + (bank_of first).count * width_of (bank_of first).access ≤ (bank_of line).start = begins_later ((bank_of first).start + (bank_of first).count * width_of (bank_of first).access) end lines n line is (right _ _ order) in
        let before : offset < (bank_of first).start + (bank_of first).count * width_of (bank_of first).access = under _ _ (right _ _ e) in
        let after : (bank_of line).start ≤ offset = at_most _ _ (left _ _ here) in
        absurd (omega arith)

-- the register with the part of an interrupt, by its number among those of the line
abbrev pub register_of : ℕ → Kind → ℕ → ℕ
register_of start kind i = start + i * part_bits kind / (8 * width kind) * width kind

in_registers : (bits width start count i : ℕ) → (bits ≡ 1) × (width ≡ 4) ⊎ ((bits ≡ 2) × (width ≡ 4) ⊎ ((bits ≡ 8) × (width ≡ 4) ⊎ (bits ≡ 64) × (width ≡ 8))) → count * bits % (8 * width) ≡ 0 → i < count → start + i * bits / (8 * width) * width < start + count * bits / 8 / width * width
in_registers bits width start count i (inl (b, w)) full within = rw (b, w) (let f : count * 1 % (8 * 4) ≡ 0 = rw (b, w) at full in omega arith)
in_registers bits width start count i (inr (inl (b, w))) full within = rw (b, w) (let f : count * 2 % (8 * 4) ≡ 0 = rw (b, w) at full in omega arith)
in_registers bits width start count i (inr (inr (inl (b, w)))) full within = rw (b, w) (let f : count * 8 % (8 * 4) ≡ 0 = rw (b, w) at full in omega arith)
in_registers bits width start count i (inr (inr (inr (b, w)))) full within = rw (b, w) (let f : count * 64 % (8 * 8) ≡ 0 = rw (b, w) at full in omega arith)

pub register_there : (kind : Kind) (start count i : ℕ) → IsTrue (is_full kind start count) → i < count → contains (parts_bank start kind count) (register_of start kind i) ≡ true
register_there kind start count i full within =
    both _ _ (is_at_most _ _ (omega arith)) (is_under _ _ (in_registers (part_bits kind) (width kind) start count i (widths kind) (same _ 0 (right _ _ full)) within))

-- an access to a whole register is to its whole parts
pub is_whole : (kind : Kind) (start count offset : ℕ) → (offset % width kind == 0) ≡ true → half_at (parts_bank start kind count) offset (width kind) ≡ Some Whole
is_whole Group start count offset e = rw e refl
is_whole SetEnable start count offset e = rw e refl
is_whole ClearEnable start count offset e = rw e refl
is_whole SetPending start count offset e = rw e refl
is_whole ClearPending start count offset e = rw e refl
is_whole SetActive start count offset e = rw e refl
is_whole ClearActive start count offset e = rw e refl
is_whole Priority start count offset e = rw e refl
is_whole Config start count offset e = rw e refl
is_whole Routing start count offset e = rw e refl

aligned : (n start width : ℕ) → (width ≡ 4) ⊎ (width ≡ 8) → start % width ≡ 0 → (start + n * width) % width ≡ 0
aligned n start width (inl w) h = rw w (let s : start % 4 ≡ 0 = rw w at h in omega arith)
aligned n start width (inr w) h = rw w (let s : start % 8 ≡ 0 = rw w at h in omega arith)

four_or_eight : (kind : Kind) → (width kind ≡ 4) ⊎ (width kind ≡ 8)
four_or_eight Group = inl refl
four_or_eight SetEnable = inl refl
four_or_eight ClearEnable = inl refl
four_or_eight SetPending = inl refl
four_or_eight ClearPending = inl refl
four_or_eight SetActive = inl refl
four_or_eight ClearActive = inl refl
four_or_eight Priority = inl refl
four_or_eight Config = inl refl
four_or_eight Routing = inr refl

-- in a map in order, the access to a register with the part of an interrupt is to the parts in that register
pub register_found : {R : Type 0} (end size : ℕ) (lines : List (Line R)) (n start : ℕ) (kind : Kind) (first count i : ℕ) → numbered lines n ≡ Some (Interrupts start kind first count) → IsTrue (is_in_order 0 end lines) → IsTrue (is_full kind start count) → i < count → size ≡ width kind → found_at lines (register_of start kind i) size ≡ Some (InParts kind (first + parts_in kind (register_of start kind i - start)) (parts_in kind size) Whole)
register_found {R} end size lines n start kind first count i is order full within s =
    let there : found_at lines (register_of start kind i) size ≡ access_at (Interrupts start kind first count) (register_of start kind i) size =
    found_there 0 end (register_of start kind i) size lines n (Interrupts start kind first count) is order (register_there kind start count i full within) in
    let whole : half_at (parts_bank start kind count) (register_of start kind i) size ≡ Some Whole =
    rw s (is_whole kind start count (register_of start kind i) (is_same _ 0 (aligned _ start (width kind) (four_or_eight kind) (same _ 0 (left _ _ full))))) in
    there ∙ rw whole refl

place : (bits width start first i : ℕ) → (bits ≡ 1) × (width ≡ 4) ⊎ ((bits ≡ 2) × (width ≡ 4) ⊎ ((bits ≡ 8) × (width ≡ 4) ⊎ (bits ≡ 64) × (width ≡ 8))) → let byte = start + i * bits / (8 * width) * width - start in (first + byte * 8 / bits ≤ first + i) × (first + i < first + byte * 8 / bits + width * 8 / bits) × ((first + i - (first + byte * 8 / bits)) * bits ≡ i * bits % (8 * width))
place bits width start first i (inl (b, w)) = rw (b, w) (omega arith, omega arith, omega arith)
place bits width start first i (inr (inl (b, w))) = rw (b, w) (omega arith, omega arith, omega arith)
place bits width start first i (inr (inr (inl (b, w)))) = rw (b, w) (omega arith, omega arith, omega arith)
place bits width start first i (inr (inr (inr (b, w)))) = rw (b, w) (omega arith, omega arith, omega arith)

-- these have the part of the interrupt, from its bit of the register on
pub register_has : (kind : Kind) (start first i : ℕ) → HasPart kind (first + parts_in kind (register_of start kind i - start)) (parts_in kind (width kind)) kind (first + i) (i * part_bits kind % (8 * width kind))
register_has kind start first i =
    let at = place (part_bits kind) (width kind) start first i (widths kind) in
    record { same_kind = refl; from = at.0; below = at.1; place = at.2 }

-- a byte of IPRIORITYR is the part of its interrupt alone
pub byte_found : {R : Type 0} (end : ℕ) (lines : List (Line R)) (n start first count i : ℕ) → numbered lines n ≡ Some (Interrupts start Priority first count) → IsTrue (is_in_order 0 end lines) → IsTrue (is_full Priority start count) → i < count → found_at lines (start + i) 1 ≡ Some (InParts Priority (first + (start + i - start) * 8 / 8) 1 Whole)
byte_found end lines n start first count i is order full within =
    let filled : count * 8 % 32 ≡ 0 = same _ 0 (right _ _ full) in
    let from : start ≤ start + i = omega arith in
    let to : start + i < start + count * 8 / 8 / 4 * 4 = omega arith in
    let there : contains (parts_bank start Priority count) (start + i) ≡ true = both _ _ (is_at_most _ _ from) (is_under _ _ to) in
    let whole : half_at (parts_bank start Priority count) (start + i) 1 ≡ Some Whole = rw (is_same ((start + i) % 1) 0 (omega arith)) refl in
    found_there 0 end (start + i) 1 lines n (Interrupts start Priority first count) is order there ∙ rw whole refl

pub byte_has : (start first i : ℕ) → HasPart Priority (first + (start + i - start) * 8 / 8) 1 Priority (first + i) 0
byte_has start first i = record { same_kind = refl; from = omega arith; below = omega arith; place = omega arith }
