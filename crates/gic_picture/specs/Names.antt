-- The interrupts of all guests.
use Rattle.std.specs.Prelude.{ℕ, ◌+◌, Bool, List, [], ◌∷◌, ◌++◌, map, slice_get}
use Rattle.std.specs.List.{range_with_len}
use Rattle.ideal_guest.specs.Words.{GuestShape, has_interrupt, interrupt_count, key_at}
use Rattle.ideal_guest.specs.Calls.{passes}
use Rattle.gic_picture.specs.declared.names.IrqName.{IrqName}

-- the interrupt at a place in key order of a guest with this number and shape
abbrev pub irq_name : ℕ → GuestShape → ℕ → IrqName
irq_name guest shape place = record { guest = guest; key = key_at shape place }

-- the interrupts of the guests, the first of which has this number, in order of guest and key
abbrev pub names_from : ℕ → List GuestShape → List IrqName
names_from guest [] = []
names_from guest (shape ∷ shapes) = map (irq_name guest shape) (range_with_len 0 (interrupt_count shape)) ++ names_from (guest + 1) shapes

-- one of the guests has the interrupt
abbrev pub is_there : List GuestShape → IrqName → Bool
is_there shapes name = passes (λ shape. has_interrupt shape name.key) (slice_get shapes name.guest)
