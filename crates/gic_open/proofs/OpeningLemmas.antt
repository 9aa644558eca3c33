-- A good guest opens with records that its interrupts can have.
use Rattle.std.proofs.Common.{◌≡◌, ℕ, suc, ◌<◌, ◌^◌, ◌==◌, ◌&&◌, ◌||◌, inl, inr, Bool, true, false, not, nat_lt, if◌then◌else◌, lit<, is_some, is_none, unwrap_or, IsTrue, Option, Some, None, List, [], ◌∷◌, All, length, fold, refl, sym, ap, subst, ◌∙◌, arith}
use Rattle.std.specs.Option.{option_map_or}
use Rattle.std.proofs.lemmas.Grind.{common_steps}
use Rattle.std.proofs.Math.Bool.{not-or_self}
use Rattle.std.proofs.lemmas.Bool.Decides.{eqb_tells}
use Rattle.std.proofs.lemmas.List.FromFn.{length-map-range_with_len, get_or-map-range_with_len}
use Rattle.gic_guest.specs.Words.{GuestShape, Key, Private, Spi, Lpi, IsShape, is_sgi, has_interrupt, interrupt_count, key_at, place_of, G0, G1, Route, Affinity, Target, Irq, IsRoute, is_routed_as, is_of_kind, IsRecordOf, IsHome}
use Rattle.gic_guest.specs.GicWord.declared.record.Group.{Group}
use Rattle.gic_guest.specs.declared.guest.GuestSpec.{GuestSpec}
use Rattle.gic_guest.specs.declared.preset.Preset.{Preset}
use Rattle.gic_guest.specs.Good.{passes, preset_key, IsGoodPreset, IsGoodGuest}
use Rattle.gic_open.specs.Opening.{idle_irq, opening_irq, with_preset, irq_in, after_preset, opening_irqs, irqs_of}
use Rattle.gic_open.proofs.KeyLemmas.{place_within, key_at_place, place_same, irq_in_there, length-with_irq_in, irq_same, irq_other}

-- a record that an interrupt of the guest can have, at no interface, inactive and without a latched cause
pub record IsValid (shape : GuestShape) (key : Key) (irq : Irq) : Type 0 where
  pub record_of : IsRecordOf shape key irq
  pub home : IsHome irq
  pub inactive : irq.act_by ≡ None
  pub no_rise : irq.rise ≡ false
  pub no_soft : irq.soft ≡ false

-- a number is itself
eqb_same : (n : ℕ) → IsTrue (n == n)
eqb_same n = grind (arith, common_steps)

-- a record without a cause, inactive and disabled is such, where its route and its kind are those of the interrupt
idle_valid : (shape : GuestShape) (on : Bool) (key : Key) (group : Group) (edge : Bool) (route : Route) → IsRoute route → IsTrue (is_routed_as shape key route) → IsTrue (is_of_kind key (idle_irq on group edge route))
    → IsValid shape key (idle_irq on group edge route)
idle_valid shape on key group edge route fits routed kind =
    record {
      record_of = record { packable = record { prio = refl; prio_bits = lit< tt; active = tt; holder = tt; route = fits }; route = routed; kind = kind; active = refl; holder = refl };
      home = record { unheld = refl; unwanted = refl };
      inactive = refl;
      no_rise = refl;
      no_soft = refl;
    }

-- the opening records are such
opening_irq_valid : (shape : GuestShape) (on : Bool) (key : Key) → IsShape shape → IsTrue (has_interrupt shape key) → IsValid shape key (opening_irq on key)
opening_irq_valid shape on (Private vcpu id) is there =
    let few : vcpu < 32 = grind (arith, common_steps, is.vcpus) in
    idle_valid shape on (Private vcpu id) G0 (nat_lt id 16) (Target (Some vcpu)) few (eqb_same vcpu) (not-or_self (nat_lt id 16))
opening_irq_valid shape on (Spi id) is there = idle_valid shape on (Spi id) G0 false (Affinity 0) (lit< tt) refl refl
opening_irq_valid shape on (Lpi id) is there = idle_valid shape on (Lpi id) G1 true (Target None) tt refl refl

-- a preset's parts make such a record of one
preset_made : (shape : GuestShape) (preset : Preset) (key : Key) (irq : Irq) → IsGoodPreset shape preset → IsRoute (option_map_or Affinity preset.to irq.route) → IsTrue (is_routed_as shape key (option_map_or Affinity preset.to irq.route))
    → IsTrue (is_of_kind key (with_preset preset irq)) → IsValid shape key irq → IsValid shape key (with_preset preset irq)
preset_made shape preset key irq good fits routed kind valid =
    let is = valid.record_of in
    record {
      record_of =
          record {
            packable = record { prio = good.prio_bits; prio_bits = omega (arith, good.prio); active = is.packable.active; holder = is.packable.holder; route = fits };
            route = routed;
            kind = kind;
            active = is.active;
            holder = is.holder;
          };
      home = record { unheld = valid.home.unheld; unwanted = valid.home.unwanted };
      inactive = valid.inactive;
      no_rise = valid.no_rise;
      no_soft = valid.no_soft;
    }

-- of a private interrupt, and of a shared one
private_made : (shape : GuestShape) (preset : Preset) (vcpu id : ℕ) (irq : Irq) → IsGoodPreset shape preset → preset.to ≡ None → IsTrue (preset.edge || not (nat_lt id 16)) → IsValid shape (Private vcpu id) irq → IsValid shape (Private vcpu id) (with_preset preset irq)
private_made shape preset vcpu id irq good to edge valid =
    preset_made shape preset (Private vcpu id) irq good (rw to valid.record_of.packable.route) (rw to valid.record_of.route) (or_comm preset.edge (not (nat_lt id 16)) edge) valid
  where
    or_comm : (a b : Bool) → IsTrue (a || b) → IsTrue (b || a)
    or_comm true true h = refl
    or_comm true false h = refl
    or_comm false true h = refl
    or_comm false false h = h

shared_made : (shape : GuestShape) (preset : Preset) (id vcpu : ℕ) (irq : Irq) → IsGoodPreset shape preset → preset.to ≡ Some vcpu → vcpu < 32 → IsValid shape (Spi id) irq → IsValid shape (Spi id) (with_preset preset irq)
shared_made shape preset id vcpu irq good to few valid =
    let fits : vcpu < 2 ^ 32 = omega arith in
    preset_made shape preset (Spi id) irq good (rw to fits) (rw to refl) refl valid

-- the target of a shared preset
target_there : (shape : GuestShape) (to vcpu : Option ℕ) → IsTrue (is_none vcpu && passes (λ to. nat_lt to shape.vcpus) to) → (target : ℕ) × (to ≡ Some target) × (target < shape.vcpus)
target_there shape None None h = absurd (cc)
target_there shape None (Some vcpu) h = absurd (cc)
target_there shape (Some target) None h = (target, refl, grind (arith, common_steps))
target_there shape (Some target) (Some vcpu) h = absurd (cc)

no_target : (to vcpu : Option ℕ) → IsTrue (is_none to && is_some vcpu) → to ≡ None
no_target None vcpu h = refl
no_target (Some to) vcpu h = absurd (cc)

-- a good preset makes such a record of one
preset_valid : (shape : GuestShape) (preset : Preset) (irq : Irq) → IsShape shape → IsGoodPreset shape preset → IsValid shape (preset_key preset) irq → IsValid shape (preset_key preset) (with_preset preset irq)
preset_valid shape preset irq is good = by_kind (nat_lt preset.id 32) good.addressed good.sgi_is_edge
  where
    by_kind : (private : Bool) → IsTrue (if private then is_none preset.to && is_some preset.vcpu else is_none preset.vcpu && passes (λ to. nat_lt to shape.vcpus) preset.to)
        → IsTrue (preset.edge || not (is_sgi (if private then Private (unwrap_or preset.vcpu 0) preset.id else Spi preset.id)))
        → IsValid shape (if private then Private (unwrap_or preset.vcpu 0) preset.id else Spi preset.id) irq
        → IsValid shape (if private then Private (unwrap_or preset.vcpu 0) preset.id else Spi preset.id) (with_preset preset irq)
    by_kind true addressed edge valid = private_made shape preset (unwrap_or preset.vcpu 0) preset.id irq good (no_target preset.to preset.vcpu addressed) edge valid
    by_kind false addressed edge valid =
        let target = target_there shape preset.to preset.vcpu addressed in
        shared_made shape preset preset.id target.0 irq good target.1 (omega (arith, target.2, is.vcpus)) valid

-- a record for each interrupt, each of them such
pub record AreValid (shape : GuestShape) (irqs : List Irq) : Type 0 where
  pub each : length irqs ≡ interrupt_count shape
  pub valid : (key : Key) → IsTrue (has_interrupt shape key) → IsValid shape key (irq_in shape irqs key)

-- the records before any preset
unset_valid : (on : Bool) (shape : GuestShape) → IsShape shape → AreValid shape (opening_irqs on shape)
unset_valid on shape is =
    let at : ℕ → Irq = λ place. opening_irq on (key_at shape place) in
    record {
      each = length-map-range_with_len at 0 (interrupt_count shape);
      valid = λ key there.
          let place = place_of shape key in
          let read : irq_in shape (opening_irqs on shape) key ≡ opening_irq on key =
          irq_in_there shape (opening_irqs on shape) key there
          ∙ get_or-map-range_with_len at 0 (interrupt_count shape) place place (opening_irq false key) (place_within shape key is there) (omega arith)
          ∙ ap (opening_irq on) (key_at_place shape key is there) in
          subst (IsValid shape key) (sym read) (opening_irq_valid shape on key is there);
    }

-- the records after one more preset
after_preset_valid : (shape : GuestShape) (irqs : List Irq) (preset : Preset) → IsShape shape → IsGoodPreset shape preset → AreValid shape irqs → AreValid shape (after_preset shape irqs preset)
after_preset_valid shape irqs preset is good are =
    let j = preset_key preset in
    let made = with_preset preset (irq_in shape irqs j) in
    record {
      each = length-with_irq_in shape j made irqs ∙ are.each;
      valid = λ key there.
          elim (eqb_tells (place_of shape j) (place_of shape key)) [
            | inl same ↦
                subst (λ k. IsValid shape k (irq_in shape (after_preset shape irqs preset) k)) (place_same shape j key is good.there there same.1)
                (subst (IsValid shape j) (sym (irq_same shape j made irqs is are.each good.there)) (preset_valid shape preset (irq_in shape irqs j) is good (are.valid j good.there)))
            | inr differ ↦ subst (IsValid shape key) (sym (irq_other shape j key made irqs is (λ e. differ.1 (ap (place_of shape) e)))) (are.valid key there)
          ];
    }

-- the records after presets
presets_valid : (shape : GuestShape) (irqs : List Irq) (presets : List Preset) → IsShape shape → All (IsGoodPreset shape) presets → AreValid shape irqs → AreValid shape (fold (after_preset shape) irqs presets)
presets_valid shape irqs [] is good are = are
presets_valid shape irqs (preset ∷ presets) is good are =
    presets_valid shape (after_preset shape irqs preset) presets is (λ k d h. good (suc k) d (omega (arith, h))) (after_preset_valid shape irqs preset is (good 0 preset (omega arith)) are)

pub openings_valid : (guest : GuestSpec) → IsGoodGuest guest → AreValid guest.shape (irqs_of guest)
openings_valid guest good = presets_valid guest.shape (opening_irqs guest.on guest.shape) guest.presets good.shape good.presets (unset_valid guest.on guest.shape good.shape)

pub opening_valid : (guest : GuestSpec) (key : Key) → IsGoodGuest guest → IsTrue (has_interrupt guest.shape key) → IsValid guest.shape key (irq_in guest.shape (irqs_of guest) key)
opening_valid guest key good there = (openings_valid guest good).valid key there
