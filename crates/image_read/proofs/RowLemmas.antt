-- Rows that are read number by number.
use Rattle.std.proofs.Common.{◌≡◌, ℕ, ◌<◌, ◌≤◌, ◌^◌, Bool, true, false, IsTrue, IfSome, Option, Some, None, unwrap_or, List, [], refl, sym, ap, ◌∙◌, nat_lt, arith}
use Rattle.std.proofs.lemmas.Option.{none-some, same_Some}
use Rattle.std.proofs.lemmas.Grind.{common_steps}
use Rattle.serde_json.specs.Data.{Data, null, boolean, number, string, array, object, Items, no_items, item}
use Rattle.serde_json.specs.View.{items_of}
use Rattle.json_field.specs.Field.{elements, list_of}
use Rattle.saved_check.specs.SavedGuest.IdealGuests.Words.{GuestShape, Key, Private, Spi, Lpi, IsShape, has_interrupt, is_vcpu_or_none}
use Rattle.saved_check.specs.SavedGuest.IdealGuests.GicGuest.Good.{IsGoodPreset, is_addressed, preset_key}
use Rattle.saved_check.specs.SavedGuest.IdealGuests.GicGuest.declared.preset.Preset.{Preset}
use Rattle.saved_check.specs.SavedGuest.Valid.{is_route, is_device_or_none}

-- the array of the elements is the value
items_back : (ds : Items) → items_of (elements ds) ≡ ds
items_back no_items = refl
items_back (item d ds) = ap (λ rest. item d rest) (items_back ds)

pub row_is : (d : Data) (cells : List Data) → list_of d ≡ Some cells → array (items_of cells) ≡ d
row_is null cells e = absurd (none-some cells e)
row_is (boolean b) cells e = absurd (none-some cells e)
row_is (number n) cells e = absurd (none-some cells e)
row_is (string s) cells e = absurd (none-some cells e)
row_is (array ds) cells e = ap (λ es. array (items_of es)) (sym (same_Some (elements ds) cells e)) ∙ ap array (items_back ds)
row_is (object ms) cells e = absurd (none-some cells e)

-- what was read at the end of a row
pub read_as : {X : Type 0} (written : X → Data) (d : Data) (o : Option X) (read : X) (rest : Option (List Data)) → IfSome o (λ found. (found ≡ read) × (rest ≡ Some [])) → (rest ≡ Some [] → written read ≡ d) → IfSome o (λ x. written x ≡ d)
read_as written d None read rest told is = tt
read_as written d (Some x) read rest told is = ap written told.0 ∙ is told.1

-- ---- numbers that fit

abbrev pub IsWord : ℕ → Type 0
IsWord n = n < 2 ^ 32

pub word_below : (n limit : ℕ) → n < limit → limit ≤ 16777216 → IsWord n
word_below n limit below few = omega (arith, below, few)

pub vcpu_fits : (shape : GuestShape) (vcpu : Option ℕ) → IsShape shape → IsTrue (is_vcpu_or_none shape vcpu) → IfSome vcpu IsWord
vcpu_fits shape None is h = tt
vcpu_fits shape (Some vcpu) is h = let below : vcpu < shape.vcpus = grind (arith, common_steps) in omega (arith, below, is.vcpus)

pub device_fits : (shape : GuestShape) (device : Option ℕ) → IsShape shape → IsTrue (is_device_or_none shape device) → IfSome device IsWord
device_fits shape None is h = tt
device_fits shape (Some device) is h = let below : device < shape.devices = grind (arith, common_steps) in omega (arith, below, is.devices)

pub route_fits : (shape : GuestShape) (key : Key) (route : Option ℕ) → IsShape shape → IsTrue (is_route shape key route) → IfSome route IsWord
route_fits shape (Private vcpu id) None is h = tt
route_fits shape (Private vcpu id) (Some n) is h = absurd (cc)
route_fits shape (Spi id) None is h = tt
route_fits shape (Spi id) (Some affinity) is h = let below : affinity < 2 ^ 32 = grind (arith, common_steps) in below
route_fits shape (Lpi id) route is h = vcpu_fits shape route is h

-- a preset's numbers fit
pub preset_id : (shape : GuestShape) (preset : Preset) → IsShape shape → IsGoodPreset shape preset → IsWord preset.id
preset_id shape preset is good = of (nat_lt preset.id 32) refl good.there
  where
    of : (b : Bool) → nat_lt preset.id 32 ≡ b → IsTrue (has_interrupt shape (preset_key preset)) → IsWord preset.id
    of true e there = grind (arith, common_steps)
    of false e there = grind (arith, common_steps, is.spis, is.espis)

pub to_fits : (shape : GuestShape) (preset : Preset) (to vcpu : Option ℕ) → to ≡ preset.to → IsShape shape → IsTrue (is_addressed shape preset) → IfSome to IsWord
to_fits shape preset None vcpu e is h = tt
to_fits shape preset (Some to) vcpu e is h = grind (arith, common_steps, is.vcpus)

pub vcpu_of_preset : (shape : GuestShape) (preset : Preset) (vcpu : Option ℕ) → vcpu ≡ preset.vcpu → IsShape shape → IsTrue (is_addressed shape preset) → IsTrue (has_interrupt shape (preset_key preset)) → IfSome vcpu IsWord
vcpu_of_preset shape preset None e is h there = tt
vcpu_of_preset shape preset (Some vcpu) e is h there = let same : unwrap_or preset.vcpu 0 ≡ vcpu = ap (λ o. unwrap_or o 0) (sym e) in grind (arith, common_steps, is.vcpus)
