-- What one place came to in a scan.
use Rattle.std.specs.Prelude.{◌≡◌, ℕ, ◌++◌, Bool, Option, Some, None}
use Rattle.atomic_table.specs.Table.{Me}
use Rattle.vcpu_shelf.specs.declared.scan.Found.{Found}
use Rattle.vcpu_shelf.specs.declared.scan.Found.TheVariants.{Finished, Held, Had}
use Rattle.vcpu_shelf.specs.declared.view.View.{View}
use Rattle.vcpu_shelf.specs.Answer.{IsHandedOut}
use Rattle.vcpu_shelf.specs.Scan.{Finding, FoundFinished, FoundTaken, Lost, Won, IsFinding, deeds_at}
use Rattle.vcpu_shelf.specs.View.{slots_out}

-- the place whose traveller is out after a finding at it
abbrev pub out_at : ℕ → Finding → Option ℕ
out_at place (Won word) = Some place
out_at place finding = None

module _ {T : Type 0} (place_of next_of : T → ℕ) (done_of : T → Bool) where
  -- what is answered of a finding
  abbrev pub IsFound : ℕ → Finding → Found T → Type 0
  IsFound place (FoundFinished word) Finished = Unit {0}
  IsFound place (FoundTaken word) Held = Unit {0}
  IsFound place (Lost word found) Held = Unit {0}
  IsFound place (Won word) (Had traveller) = IsHandedOut place_of next_of done_of place word traveller
  IsFound place finding found = ⊥

  -- a seat with nothing out made the steps of one finding, and got what is answered of it
  pub record Finds (place : ℕ) (before : Me (Option T) View) (answer : Found T) (after : Me (Option T) View) : Type 0 where
    pub finding : Finding
    pub is : IsFinding finding
    pub answer_is : IsFound place finding answer
    pub knows : after.0 ≡ record { deeds = before.0.deeds ++ deeds_at place finding; out = out_at place finding }
    pub holds : after.1 ≡ slots_out (out_at place finding)
