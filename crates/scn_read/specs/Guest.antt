-- The guests of a scenario: their faults, and what they say where they have none (own choice).
use Rattle.std.specs.Prelude.{ℕ, ◌%◌, ◌&&◌, ◌==◌, not, min, List, [], ◌∷◌, map, Bool, false, nat_le, Option, is_some, unwrap_or, codes}
use Rattle.serde_json.specs.Data.{Data}
use Rattle.scn_base.specs.Words.{GuestShape}
use Rattle.scn_base.specs.GicGuest.declared.guest.GuestSpec.{GuestSpec}
use Rattle.scn_base.specs.Codes.{shape_code, limit_code, first_code, first_of, first_met}
use Rattle.scn_read.specs.declared.guest.Numbers.{Numbers}
use Rattle.json_field.specs.Field.{has_only, number_or, flag_or, list_or_empty, elements_at}
use Rattle.scn_read.specs.Preset.{preset_fault, preset_of}

-- the fields of a guest
abbrev pub guest_fields : List (List ℕ)
guest_fields =
    codes "vcpus" ∷ codes "spis" ∷ codes "espis" ∷ codes "devices" ∷ codes "lpis" ∷ codes "ram" ∷ codes "on" ∷ codes "irqs" ∷ []

-- each number of a guest is one
abbrev pub are_numbers : Data → Bool
are_numbers d =
    is_some (number_or (codes "vcpus") 1 d)
    && is_some (number_or (codes "spis") 32 d)
    && is_some (number_or (codes "espis") 0 d)
    && is_some (number_or (codes "devices") 1 d)
    && is_some (number_or (codes "lpis") 0 d)
    && is_some (number_or (codes "ram") 0 d)

-- the numbers of a guest, or their defaults
abbrev pub numbers_of : Data → Numbers
numbers_of d =
    record {
      vcpus = unwrap_or (number_or (codes "vcpus") 1 d) 0;
      spis = unwrap_or (number_or (codes "spis") 32 d) 0;
      espis = unwrap_or (number_or (codes "espis") 0 d) 0;
      devices = unwrap_or (number_or (codes "devices") 1 d) 0;
      lpis = unwrap_or (number_or (codes "lpis") 0 d) 0;
      ram = unwrap_or (number_or (codes "ram") 0 d) 0;
    }

-- each field of a guest is one of its table, and of its kind
abbrev pub is_guest : Data → Bool
is_guest d = has_only guest_fields d && are_numbers d && is_some (flag_or (codes "on") false d) && is_some (list_or_empty (codes "irqs") d)

-- each number of a guest is in its range
abbrev pub are_in_range : Numbers → Bool
are_in_range numbers =
    nat_le 1 numbers.vcpus
    && nat_le numbers.vcpus 32
    && nat_le numbers.spis 960
    && numbers.spis % 32 == 0
    && nat_le numbers.espis 1024
    && numbers.espis % 32 == 0
    && nat_le numbers.devices 4
    && nat_le numbers.lpis 4096
    && nat_le numbers.ram 262144
    && numbers.ram % 8 == 0

-- the fault of a guest's own fields
abbrev pub own_fault : Data → Option ℕ
own_fault d =
    first_met ((not (is_guest d), shape_code) ∷ (not (are_in_range (numbers_of d)), limit_code) ∷ [])

-- how many vCPUs a guest has, which is never more than there may be
abbrev pub vcpus_of : Data → ℕ
vcpus_of d = min (numbers_of d).vcpus 32

-- the same of SPIs
abbrev pub spis_of : Data → ℕ
spis_of d = min (numbers_of d).spis 960

-- the same of extended SPIs
abbrev pub espis_of : Data → ℕ
espis_of d = min (numbers_of d).espis 1024

-- the first fault of a guest and of its presets
abbrev pub guest_fault : Data → Option ℕ
guest_fault d = first_code (own_fault d) (first_of (map (preset_fault (vcpus_of d) (spis_of d) (espis_of d)) (elements_at (codes "irqs") d)))

-- the shape with these numbers
abbrev pub shape_with : Numbers → GuestShape
shape_with numbers =
    record {
      vcpus = numbers.vcpus;
      spis = numbers.spis;
      espis = numbers.espis;
      devices = numbers.devices;
      lpis = numbers.lpis;
      ram = numbers.ram;
    }

-- what a guest without a fault has of each kind
abbrev pub shape_of : Data → GuestShape
shape_of d = shape_with (numbers_of d)

-- whether a guest without a fault is on
abbrev pub on_of : Data → Bool
on_of d = unwrap_or (flag_or (codes "on") false d) false

-- what a guest without a fault is
abbrev pub guest_of : Data → GuestSpec
guest_of d = record { shape = shape_of d; on = on_of d; presets = map preset_of (elements_at (codes "irqs") d) }
