-- What has no fault is good.
use Rattle.std.proofs.Common.{◌≡◌, ℕ, ◌≤◌, not, List, [], ◌∷◌, map, fold, Bool, true, false, Option, Some, None, min, subst, if◌then◌else◌, Result, Ok, Err, codes, refl, ap, sym, ◌∙◌, arith}
use Rattle.std.specs.List.{All}
use Rattle.std.specs.Result.{MatchResult}
use Rattle.std.proofs.lemmas.Bool.Decides.{nat_tests}
use Rattle.std.proofs.lemmas.List.Elements.{All-nil, All-cons}
use Rattle.serde_json.specs.Data.{Data}
use Rattle.scn_base.specs.Words.{GuestShape, IsShape}
use Rattle.json_field.specs.Field.{elements_at}
use Rattle.scn_base.specs.Codes.{first_code, first_of, ok_unless, both}
use Rattle.scn_base.specs.GicGuest.Good.{IsGoodPreset, IsGoodGuest}
use Rattle.scn_read.specs.declared.guest.Numbers.{Numbers}
use Rattle.scn_read.specs.declared.preset.WrittenPreset.{WrittenPreset}
use Rattle.scn_read.specs.Preset.{is_preset, written_of, is_in_range, is_there, preset_fault, preset_with, preset_of}
use Rattle.scn_read.specs.Guest.{is_guest, are_in_range, numbers_of, own_fault, vcpus_of, spis_of, espis_of, guest_fault, shape_with, shape_of, guest_of}
use Rattle.scn_read.proofs.ListLemmas.{ok_parts}

-- no first code, and no first row that is met
first_code_none : (a b : Option ℕ) → first_code a b ≡ None → (a ≡ None) × (b ≡ None)
first_code_none None b e = (refl, e)
first_code_none (Some code) None e = absurd cc
first_code_none (Some code) (Some other) e = absurd cc

fold_none : (before : Option ℕ) (faults : List (Option ℕ)) → fold first_code before faults ≡ None → before ≡ None
fold_none before [] e = e
fold_none before (fault ∷ faults) e = (first_code_none before fault (fold_none (first_code before fault) faults e)).0

unmet : (test : Bool) (code : ℕ) (rest : Option ℕ) → (if test then Some code else rest) ≡ None → (test ≡ false) × (rest ≡ None)
unmet true code rest e = absurd cc
unmet false code rest e = (refl, e)

not_false : (b : Bool) → not b ≡ false → b ≡ true
not_false true e = refl
not_false false e = absurd cc

-- ---- presets

-- a preset whose numbers are in range, and which is there, is good
good_written : (shape : GuestShape) (preset : WrittenPreset) → IsShape shape → is_in_range preset ≡ true → is_there shape.vcpus shape.spis shape.espis preset ≡ true → IsGoodPreset shape (preset_with preset)
good_written shape preset is within there =
    record {
      there = grind (arith, nat_tests);
      addressed = grind (arith, nat_tests);
      prio = grind (arith, nat_tests);
      prio_bits = grind (arith, nat_tests);
      group = grind (arith, nat_tests);
      sgi_is_edge = grind (arith, nat_tests);
    }

good_preset : (shape : GuestShape) (d : Data) → IsShape shape → preset_fault shape.vcpus shape.spis shape.espis d ≡ None → IsGoodPreset shape (preset_of d)
good_preset shape d is e =
    let formed = unmet (not (is_preset d)) 1 _ e in
    let within = unmet (not (is_in_range (written_of d))) 2 _ formed.1 in
    let there = unmet (not (is_there shape.vcpus shape.spis shape.espis (written_of d))) 4 _ within.1 in
    good_written shape (written_of d) is (not_false (is_in_range (written_of d)) within.0) (not_false (is_there shape.vcpus shape.spis shape.espis (written_of d)) there.0)

good_presets : (shape : GuestShape) (before : Option ℕ) (ds : List Data) → IsShape shape → fold first_code before (map (preset_fault shape.vcpus shape.spis shape.espis) ds) ≡ None
    → All (IsGoodPreset shape) (map preset_of ds)
good_presets shape before [] is e = All-nil (IsGoodPreset shape)
good_presets shape before (d ∷ ds) is e =
    let fault = preset_fault shape.vcpus shape.spis shape.espis in
    let first = first_code_none before (fault d) (fold_none (first_code before (fault d)) (map fault ds) e) in
    All-cons (IsGoodPreset shape) (preset_of d) (map preset_of ds) (good_preset shape d is first.1) (good_presets shape (first_code before (fault d)) ds is e)

-- ---- guests

good_numbers : (numbers : Numbers) → are_in_range numbers ≡ true → IsShape (shape_with numbers)
good_numbers numbers e =
    record {
      some_vcpu = grind (arith, nat_tests);
      vcpus = grind (arith, nat_tests);
      spis = grind (arith, nat_tests);
      spi_blocks = grind (arith, nat_tests);
      espis = grind (arith, nat_tests);
      espi_blocks = grind (arith, nat_tests);
      devices = grind (arith, nat_tests);
      lpis = grind (arith, nat_tests);
      ram = grind (arith, nat_tests);
      ram_words = grind (arith, nat_tests);
    }

good_shape : (d : Data) → own_fault d ≡ None → IsShape (shape_of d)
good_shape d e =
    let formed = unmet (not (is_guest d)) 1 _ e in
    let within = unmet (not (are_in_range (numbers_of d))) 2 _ formed.1 in
    good_numbers (numbers_of d) (not_false (are_in_range (numbers_of d)) within.0)

all_of : (n m : ℕ) → n ≤ m → min n m ≡ n
all_of n m within = omega arith

pub good_guest : (d : Data) → guest_fault d ≡ None → IsGoodGuest (guest_of d)
good_guest d e =
    let both = first_code_none (own_fault d) (first_of (map (preset_fault (vcpus_of d) (spis_of d) (espis_of d)) (elements_at (codes "irqs") d))) e in
    let is = good_shape d both.0 in
    let presets = rw (all_of (numbers_of d).vcpus 32 is.vcpus, all_of (numbers_of d).spis 960 is.spis, all_of (numbers_of d).espis 1024 is.espis) at both.1 in
    record { shape = is; presets = good_presets (shape_of d) None (elements_at (codes "irqs") d) is presets }

good_guests_after : (before : Option ℕ) (ds : List Data) → fold first_code before (map guest_fault ds) ≡ None → All IsGoodGuest (map guest_of ds)
good_guests_after before [] e = All-nil IsGoodGuest
good_guests_after before (d ∷ ds) e =
    let first = first_code_none before (guest_fault d) (fold_none (first_code before (guest_fault d)) (map guest_fault ds) e) in
    All-cons IsGoodGuest (guest_of d) (map guest_of ds) (good_guest d first.1) (good_guests_after (first_code before (guest_fault d)) ds e)

-- guests without a fault are good
pub good_guests : (ds : List Data) → first_of (map guest_fault ds) ≡ None → All IsGoodGuest (map guest_of ds)
good_guests ds e = good_guests_after None ds e

-- ---- what is read of the parts of a scenario

-- two parts that were both read
pub read_parts : {X Y : Type 0} (Q : X → Type 0) (Bad : ℕ → Type 0) (first : Result X ℕ) (fault : Option ℕ) (second : Result Y ℕ) (y : Y) (both_read : X × Y)
    → MatchResult first Q Bad → second ≡ ok_unless fault y → Ok both_read ≡ both first second → Q both_read.0 × (fault ≡ None) × (both_read.1 ≡ y)
read_parts Q Bad (Err code) fault (Ok z) y both_read is e h = absurd cc
read_parts Q Bad (Err code) fault (Err other) y both_read is e h = absurd cc
read_parts Q Bad (Ok x) fault (Err other) y both_read is e h = absurd cc
read_parts Q Bad (Ok x) fault (Ok z) y both_read is e h =
    let same : both_read ≡ (x, z) = cc in
    let second = ok_parts fault y z e in
    (subst Q (sym (ap (λ p. p.0) same)) is, second.0, ap (λ p. p.1) same ∙ second.1)
