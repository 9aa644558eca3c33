-- A guest by its own fields and its presets.
use Rattle.std.proofs.Common.{◌≡◌, ℕ, List, map, Bool, Option, Some, None, Result, Ok, Err, codes, refl, ap}
use Rattle.serde_json.specs.Data.{Data}
use Rattle.scn_base.specs.Words.{GuestShape}
use Rattle.scn_base.specs.GicGuest.declared.preset.Preset.{Preset}
use Rattle.scn_base.specs.GicGuest.declared.guest.GuestSpec.{GuestSpec}
use Rattle.json_field.specs.Field.{elements_at}
use Rattle.scn_base.specs.Codes.{first_code, first_of, ok_unless, both}
use Rattle.scn_read.proofs.ListLemmas.{ok_parts}
use Rattle.scn_read.specs.Preset.{preset_fault, preset_of}
use Rattle.scn_read.specs.Guest.{own_fault, vcpus_of, spis_of, espis_of, shape_of, on_of, guest_fault, guest_of}

pub both-ok_unless : {X Y : Type 0} (f g : Option ℕ) (x : X) (y : Y) → both (ok_unless f x) (ok_unless g y) ≡ ok_unless (first_code f g) (x, y)
both-ok_unless None None x y = refl
both-ok_unless None (Some code) x y = refl
both-ok_unless (Some code) None x y = refl
both-ok_unless (Some code) (Some other) x y = refl

abbrev parts : GuestShape → Bool → List Preset → (GuestShape × Bool) × List Preset
parts shape on presets = ((shape, on), presets)

abbrev spec : GuestShape → Bool → List Preset → GuestSpec
spec shape on presets = record { shape = shape; on = on; presets = presets }

part_ok : (fault : Option ℕ) (shape s : GuestShape) (on o : Bool) (presets p : List Preset) → Ok (parts s o p) ≡ ok_unless fault (parts shape on presets)
    → Ok (spec s o p) ≡ ok_unless fault (spec shape on presets)
part_ok None shape s on o presets p e =
    let same = (ok_parts None (parts shape on presets) (parts s o p) e).1 in
    ap (λ (x : (GuestShape × Bool) × List Preset). Ok (spec x.0.0 x.0.1 x.1)) same
part_ok (Some code) shape s on o presets p e = absurd cc

part_err : {X Y : Type 0} (fault : Option ℕ) (x : X) (y : Y) (code : ℕ) → Err code ≡ ok_unless fault x → Err code ≡ ok_unless fault y
part_err None x y code e = absurd cc
part_err (Some other) x y code e = cc

-- a guest's own fields and its presets, as they were read
module _ (d : Data) (head : Result (GuestShape × Bool) ℕ) (presets : Result (List Preset) ℕ) (vcpus spis espis : ℕ) (ds : List Data)
    (head_is : head ≡ ok_unless (own_fault d) (shape_of d, on_of d)) (vcpus_are : vcpus ≡ vcpus_of d) (spis_are : spis ≡ spis_of d) (espis_are : espis ≡ espis_of d) (are : ds ≡ elements_at (codes "irqs") d)
    (presets_are : presets ≡ ok_unless (first_of (map (preset_fault vcpus spis espis) ds)) (map preset_of ds)) where
  both_are : both head presets ≡ ok_unless (guest_fault d) ((shape_of d, on_of d), map preset_of (elements_at (codes "irqs") d))
  both_are =
      rw (head_is, presets_are, vcpus_are, spis_are, espis_are, are)
      (both-ok_unless (own_fault d) (first_of (map (preset_fault (vcpus_of d) (spis_of d) (espis_of d)) (elements_at (codes "irqs") d))) (shape_of d, on_of d) (map preset_of (elements_at (codes "irqs") d)))

  -- both without a fault
  pub guest_is : (shape : GuestShape) (on : Bool) (read : List Preset) → Ok (parts shape on read) ≡ both head presets
      → Ok (spec shape on read) ≡ ok_unless (guest_fault d) (guest_of d)
  guest_is shape on read e = part_ok (guest_fault d) (shape_of d) shape (on_of d) on (map preset_of (elements_at (codes "irqs") d)) read (rw both_are at e)

  -- one of them with a fault
  pub guest_fails : (code : ℕ) → Err code ≡ both head presets → Err code ≡ ok_unless (guest_fault d) (guest_of d)
  guest_fails code e = part_err (guest_fault d) ((shape_of d, on_of d), map preset_of (elements_at (codes "irqs") d)) (guest_of d) code (rw both_are at e)
