-- A good guest opens in a state in which a guest can open.
use Rattle.std.proofs.Common.{◌≡◌, ℕ, suc, ◌<◌, ◌^◌, Bool, true, false, cond, nat_lt, inl, inr, IsTrue, None, unwrap_or, All, List, [], ◌∷◌, fold, length, slice_index_or, refl, ap, subst, ◌∙◌, lit<, arith}
use Rattle.std.proofs.lemmas.Bool.{cases_eq}
use Rattle.std.proofs.lemmas.List.Elements.{All-replicate}
use Rattle.std.proofs.lemmas.List.FromFn.{get_or-map-range_with_len, length-map-range_with_len}
use Rattle.floor_calls.specs.Words.{Key, Private, Spi, Lpi, GuestShape, has_interrupt, interrupt_count, place_of, key_at, IsShape, Irq, target_in}
use Rattle.floor_calls.specs.Registers.{Enables, enables_in}
use Rattle.floor_calls.specs.Calls.{opening_irq, irq_in, with_preset, after_preset, opening_irqs, irqs_of, opening_enables, GuestSpec, Preset, preset_key, IsGoodPreset, IsGoodGuest, Cbaser, Cwriter, Fault, plain_count}
use Rattle.floor_calls.proofs.GicOpen.KeyLemmas.{place_within, key_at_place, place_same, irq_in_there, irq_same, irq_other, length-with_irq_in}
use Rattle.floor_calls.proofs.GicOpen.OpeningLemmas.{opening_valid}
use Rattle.ideal_guest.specs.CanOpen.{copy_in, is_own, AreForNone, OpeningsCanOpen}
use Rattle.ideal_guest.specs.Opening.{opening}
use Rattle.ideal_guest.proofs.OpeningLemmas.{empty_valid, sound_opening, word_opening}

-- The copies of the enables.

both : Bool → Enables
both on = record { group0 = on; group1 = on }

record AreCopies (shape : GuestShape) (on : Bool) (irqs : List Irq) : Type 0 where
  pub each : length irqs ≡ interrupt_count shape
  pub copies : (key : Key) → IsTrue (has_interrupt shape key) → copy_in (irq_in shape irqs key) ≡ both on

unset_copy : (on : Bool) (key : Key) → copy_in (opening_irq on key) ≡ both on
unfolding both
unset_copy on (Private vcpu id) = refl
unset_copy on (Spi id) = refl
unset_copy on (Lpi id) = refl

-- a record before any preset
unset_irq : (on : Bool) (shape : GuestShape) (key : Key) → IsShape shape → IsTrue (has_interrupt shape key) → irq_in shape (opening_irqs on shape) key ≡ opening_irq on key
unset_irq on shape key is there =
    let place = place_of shape key in
    irq_in_there shape (opening_irqs on shape) key there
    ∙ get_or-map-range_with_len (λ place. opening_irq on (key_at shape place)) 0 (interrupt_count shape) place place (opening_irq false key) (place_within shape key is there) (omega arith)
    ∙ ap (opening_irq on) (key_at_place shape key is there)

unset_copies : (on : Bool) (shape : GuestShape) → IsShape shape → AreCopies shape on (opening_irqs on shape)
unset_copies on shape is = record {
  each = length-map-range_with_len (λ place. opening_irq on (key_at shape place)) 0 (interrupt_count shape);
  copies = λ key there. ap copy_in (unset_irq on shape key is there) ∙ unset_copy on key;
}

preset_copies : (shape : GuestShape) (on : Bool) (irqs : List Irq) (preset : Preset) → IsShape shape → IsGoodPreset shape preset → AreCopies shape on irqs → AreCopies shape on (after_preset shape irqs preset)
preset_copies shape on irqs preset is good are =
    let j = preset_key preset in
    let made = with_preset preset (irq_in shape irqs j) in
    record {
      each = length-with_irq_in shape j made irqs ∙ are.each;
      copies = λ key there.
          elim (cases_eq (place_of shape j) (place_of shape key)) [
            | inl same ↦ subst (λ k. copy_in (irq_in shape (after_preset shape irqs preset) k) ≡ both on) (place_same shape j key is good.there there same) (ap copy_in (irq_same shape j made irqs is are.each good.there) ∙ are.copies j good.there)
            | inr differ ↦ ap copy_in (irq_other shape j key made irqs is (λ e. differ (ap (place_of shape) e))) ∙ are.copies key there
          ];
    }

presets_copies : (shape : GuestShape) (on : Bool) (irqs : List Irq) (presets : List Preset) → IsShape shape → All (IsGoodPreset shape) presets → AreCopies shape on irqs → AreCopies shape on (fold (after_preset shape) irqs presets)
presets_copies shape on irqs [] is good are = are
presets_copies shape on irqs (preset ∷ presets) is good are =
    presets_copies shape on (after_preset shape irqs preset) presets is (λ k d h. good (suc k) d (omega (arith, h))) (preset_copies shape on irqs preset is (good 0 preset (omega arith)) are)

opening_both : (on : Bool) → both on ≡ enables_in (opening_enables on)
unfolding both
opening_both true = refl
opening_both false = refl

opening_copies : (guest : GuestSpec) (key : Key) → IsGoodGuest guest → IsTrue (has_interrupt guest.shape key) → copy_in (irq_in guest.shape (irqs_of guest) key) ≡ enables_in (opening_enables guest.on)
opening_copies guest key good there =
    (presets_copies guest.shape guest.on (opening_irqs guest.on guest.shape) guest.presets good.shape good.presets (unset_copies guest.on guest.shape good.shape)).copies key there
    ∙ opening_both guest.on

-- LPIs.

module _ (shape : GuestShape) (is : IsShape shape) (id : ℕ) where
  -- no preset is of an LPI
  not_lpi : (preset : Preset) → preset_key preset ≡ Lpi id → ⊥
  not_lpi preset e = of (nat_lt preset.id 32) e
    where
      of : (b : Bool) → cond b (Private (unwrap_or preset.vcpu 0) preset.id) (Spi preset.id) ≡ Lpi id → ⊥
      of true e = absurd (cc)
      of false e = absurd (cc)

  presets_leave : (presets : List Preset) (irqs : List Irq) → irq_in shape (fold (after_preset shape) irqs presets) (Lpi id) ≡ irq_in shape irqs (Lpi id)
  presets_leave [] irqs = refl
  presets_leave (preset ∷ presets) irqs =
      presets_leave presets (after_preset shape irqs preset) ∙ irq_other shape (preset_key preset) (Lpi id) (with_preset preset (irq_in shape irqs (preset_key preset))) irqs is (not_lpi preset)

  unset_target : (on : Bool) → target_in (irq_in shape (opening_irqs on shape) (Lpi id)).route shape ≡ None
  unset_target on = of (has_interrupt shape (Lpi id)) refl
    where
      of : (b : Bool) → has_interrupt shape (Lpi id) ≡ b → target_in (irq_in shape (opening_irqs on shape) (Lpi id)).route shape ≡ None
      of true there = ap (λ (irq : Irq). target_in irq.route shape) (unset_irq on shape (Lpi id) is there)
      of false there = ap (λ b. target_in (cond b (slice_index_or (opening_irqs on shape) (place_of shape (Lpi id)) (opening_irq false (Lpi id))) (opening_irq false (Lpi id))).route shape) there

open_for_none : (guest : GuestSpec) → IsGoodGuest guest → AreForNone (opening guest)
open_for_none guest good id lost = ap (λ (irq : Irq). target_in irq.route guest.shape) (presets_leave guest.shape good.shape id guest.presets (opening_irqs guest.on guest.shape)) ∙ unset_target guest.shape good.shape id guest.on

pub openings_can_open : OpeningsCanOpen
openings_can_open guest good = record {
  sound = sound_opening guest good (empty_valid guest.shape);
  own = λ key there. ap (is_own key) (opening_valid guest key good there).inactive;
  copies = λ key there. opening_copies guest key good there;
  none = open_for_none guest good;
  fits = All-replicate (λ word. word < 2 ^ 64) (plain_count guest.shape) 0 (lit< tt);
  queue = record {
    next = rw (word_opening guest Cbaser) (lit< tt);
    writer = rw (word_opening guest Cwriter, word_opening guest Cbaser) (lit< tt);
    place = rw (word_opening guest Cwriter) refl;
  };
  fault = λ e. word_opening guest Fault;
}
