-- What two seats know together, and a seat after a scan.
use Rattle.std.proofs.Common.{◌⊎◌, inl, inr, ℕ, IsTrue, List, ◌++◌, ◌∙◌}
use Rattle.std.proofs.lemmas.Bool.{or_left, or_right}
use Rattle.std.proofs.lemmas.List.Folds.{list_any-append}
use Rattle.vcpu_shelf.specs.declared.view.Deed.{Deed}
use Rattle.vcpu_shelf.specs.Told.{ShelfTold, SeatTold, SawAllDone, with_steps_of}
use Rattle.vcpu_shelf.specs.View.{finds_finished, is_found_finished}

pub found_left : (place : ℕ) (deeds more : List Deed) → IsTrue (is_found_finished place deeds) → IsTrue (is_found_finished place (deeds ++ more))
found_left place deeds more found = list_any-append (finds_finished place) deeds more ∙ or_left (is_found_finished place deeds) (is_found_finished place more) found

pub found_right : (place : ℕ) (deeds more : List Deed) → IsTrue (is_found_finished place more) → IsTrue (is_found_finished place (deeds ++ more))
found_right place deeds more found = list_any-append (finds_finished place) deeds more ∙ or_right (is_found_finished place deeds) (is_found_finished place more) found

pub all_done_joined : (shelf : ShelfTold) (seat other : SeatTold) → SawAllDone shelf seat ⊎ SawAllDone shelf other → SawAllDone shelf (with_steps_of other seat)
all_done_joined shelf seat other either =
    elim either [
      | inl saw ↦ record { each = λ place there. found_left place seat.deeds other.deeds (saw.each place there) }
      | inr saw ↦ record { each = λ place there. found_right place seat.deeds other.deeds (saw.each place there) }
    ]
