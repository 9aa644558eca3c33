-- What is found in the lines of a map.
use Rattle.std.proofs.Common.{◌≡◌, ℕ, List, [], ◌∷◌, ◌+◌, Bool, true, false, IsTrue, IfSome, Option, Some, None, ◌⊎◌, refl, inl, inr}
use Rattle.std.specs.List.{list_all}
use Rattle.floor_words.specs.Words.{Kind, Routing}
use Rattle.gic_frame.specs.declared.bank.Half.{Half}
use Rattle.gic_frame.specs.declared.bank.Half.TheVariants.{Low, High, Whole}
use Rattle.gic_frame.specs.declared.line.Line.{Line}
use Rattle.gic_frame.specs.declared.line.Line.TheVariants.{Interrupts}
use Rattle.gic_frame.specs.declared.line.Found.{Found}
use Rattle.gic_frame.specs.declared.line.Found.TheVariants.{InRegister, InParts}
use Rattle.gic_frame.specs.Bank.{contains, half_at}
use Rattle.gic_frame.specs.Part.{parts_bank, AreWithin}
use Rattle.gic_frame.specs.Line.{bank_of, access_at, found_at}
use Rattle.gic_frame.proofs.TestLemmas.{left, right}
use Rattle.gic_frame.proofs.PartLemmas.{is_full, whole_parts, half_part, halves_of_routers}

-- what holds of each access to a line of a map holds of what is found in it
pub found_passes : {R : Type 0} (test : Line R → Bool) (P : Found R → Type 0) (offset size : ℕ) → ((line : Line R) → IsTrue (test line) → IsTrue (contains (bank_of line) offset) → IfSome (access_at line offset size) P) → (lines : List (Line R)) → IsTrue (list_all test lines) → IfSome (found_at lines offset size) P
found_passes test P offset size each [] all = tt
found_passes {R} test P offset size each (line ∷ lines) all = by_test (found_passes test P offset size each lines (right _ _ all)) (contains (bank_of line) offset) refl
  where
    by_test : IfSome (found_at lines offset size) P → (here : Bool) → contains (bank_of line) offset ≡ here → IfSome (found_at (line ∷ lines) offset size) P
    by_test later true e = rw e (each line (left _ _ all) e)
    by_test later false e = rw e later

-- what is found names interrupts from a first INTID on and below an end
abbrev pub NamesWithin : {R : Type 0} → ℕ → ℕ → Found R → Type 0
NamesWithin low end (InRegister reg half) = Unit {0}
NamesWithin low end (InParts kind first count Whole) = AreWithin low end first count
NamesWithin low end (InParts kind first count Low) = (kind ≡ Routing) × AreWithin low end first 1
NamesWithin low end (InParts kind first count High) = (kind ≡ Routing) × AreWithin low end first 1

-- an access to the registers of a line names interrupts of the line
pub parts_named : (R : Type 0) (start : ℕ) (kind : Kind) (first count offset size : ℕ) → IsTrue (is_full kind start count) → IsTrue (contains (parts_bank start kind count) offset) → IfSome (access_at {R = R} (Interrupts start kind first count) offset size) (NamesWithin first (first + count))
parts_named R start kind first count offset size full here = by_half (half_at (parts_bank start kind count) offset size) refl
  where
    by_half : (half : Option Half) → half_at (parts_bank start kind count) offset size ≡ half → IfSome (access_at {R = R} (Interrupts start kind first count) offset size) (NamesWithin first (first + count))
    by_half None e = rw e tt
    by_half (Some Whole) e = rw e (whole_parts kind first count start offset size full here e)
    by_half (Some Low) e = rw e (router (halves_of_routers kind start count offset size Low e), half_part kind first count start offset here)
      where
        router : (Low ≡ Whole) ⊎ (kind ≡ Routing) → kind ≡ Routing
        router (inl is) = absurd (cc)
        router (inr is) = is
    by_half (Some High) e = rw e (router (halves_of_routers kind start count offset size High e), half_part kind first count start offset here)
      where
        router : (High ≡ Whole) ⊎ (kind ≡ Routing) → kind ≡ Routing
        router (inl is) = absurd (cc)
        router (inr is) = is
