-- The guest of the worked run can open.
use Rattle.std.proofs.Common.{◌≡◌, ℕ, ◌^◌, true≢false, Bool, true, false, cond, IsTrue, None, refl, sym, ap, ◌∙◌, lit<, arith, nat_lt, slice_index_or}
use Rattle.std.proofs.lemmas.Bool.{eqb-true}
use Rattle.std.proofs.lemmas.List.Elements.{All-nil}
use Rattle.std.proofs.lemmas.List.Sums.{AllPass-from_list_all}
use Rattle.law_lines_translate.specs.Words.{Key, Lpi, Irq, has_interrupt, is_same_key, place_of, target_in}
use Rattle.law_lines_translate.specs.Registers.{IsValid, Mapd, Mapc, Mapti, has_target}
use Rattle.law_lines_translate.specs.Calls.{IsGoodGuest, IsGoodPreset, MapLpi, opening_irq, touched}
use Rattle.law_lines_translate.specs.Histories.{CanOpen, changed_irq, irq_at, opening_guest}
use Rattle.law_lines_translate.specs.CoreProper.PortCore.IdealGuests.CanOpen.{copy_in, is_own}
use Rattle.law_lines_translate.specs.CoreProper.PortCore.IdealGuests.Sound.{IsSound}
use Rattle.law_lines_translate.proofs.CoreProper.ItsTab.AfterLemmas.{kept_valid}
use Rattle.law_lines_translate.proofs.CoreProper.WorkedLemmas.{is_below}
use Rattle.law_lines_translate.proofs.PortCore.IdealGuests.CanOpenLemmas.{openings_can_open}
use Rattle.law_lines_translate.proofs.PortCore.IdealGuests.KeyLemmas.{irq_changed}
use Rattle.law_lines_translate.proofs.PortCore.IdealGuests.OpeningLemmas.{empty_valid}
use Rattle.law_lines_translate.proofs.PortCore.IdealGuests.SoundLemmas.{ideal_touch, sound_changed, whole_of}
use Rattle.law_discarded_stay_out.specs.Worked.{discard_guest, discard_maps, discard_spec, lpi}

spec_good : IsGoodGuest discard_spec
spec_good =
    record {
      shape = record { some_vcpu = omega arith; vcpus = omega arith; spis = omega arith; spi_blocks = refl; espis = omega arith; espi_blocks = refl; devices = omega arith; lpis = omega arith; ram = omega arith; ram_words = refl };
      presets = All-nil (IsGoodPreset discard_spec.shape);
    }

opens : CanOpen (opening_guest discard_spec)
opens = openings_can_open discard_spec spec_good

-- MAPD, MAPC and MAPTI make the maps
maps_valid : IsValid discard_spec.shape discard_maps
maps_valid =
    kept_valid discard_spec.shape _ (Mapti 8 3 8195 0) (kept_valid discard_spec.shape _ (Mapc 0 0 true) (kept_valid discard_spec.shape _ (Mapd 8 3 0 true) (empty_valid discard_spec.shape) refl) refl) refl

mapped_sound : IsSound (changed_irq lpi (touched discard_spec.shape lpi (MapLpi 0 true 0xa0)) (opening_guest discard_spec))
mapped_sound =
    sound_changed (opening_guest discard_spec) lpi (touched discard_spec.shape lpi (MapLpi 0 true 0xa0)) opens.sound
    (λ there is. ideal_touch discard_spec.shape lpi (MapLpi 0 true 0xa0) (irq_at (opening_guest discard_spec) lpi) spec_good.shape (record { there = refl; fits = refl }) is)

sound : IsSound discard_guest
sound =
    record {
      shape = mapped_sound.shape;
      irqs = mapped_sound.irqs;
      cpus = mapped_sound.cpus;
      records = mapped_sound.records;
      interfaces = mapped_sound.interfaces;
      words = refl;
      place = refl;
      offset = lit< tt;
      fault = lit< tt;
      maps = maps_valid;
    }

-- of each interrupt: as it opened, or as the LPI was mapped
record_is : (key : Key) → IsTrue (has_interrupt discard_spec.shape key) → irq_at discard_guest key ≡ cond (is_same_key key lpi) (touched discard_spec.shape lpi (MapLpi 0 true 0xa0) (irq_at (opening_guest discard_spec) key)) (irq_at (opening_guest discard_spec) key)
record_is key there = irq_changed (opening_guest discard_spec) lpi key (touched discard_spec.shape lpi (MapLpi 0 true 0xa0)) (whole_of (opening_guest discard_spec) opens.sound) there

same_part : {X : Type 0} (part : Irq → X) (b : Bool) (change : Irq → Irq) (irq : Irq) → part (change irq) ≡ part irq → part (cond b (change irq) irq) ≡ part irq
same_part part true change irq e = e
same_part part false change irq e = refl

for_none : (id : ℕ) → has_target discard_maps id ≡ false → target_in (irq_at discard_guest (Lpi id)).route discard_spec.shape ≡ None
for_none id lost = of (has_interrupt discard_spec.shape (Lpi id)) refl
  where
    by_key : (b : Bool) → is_same_key (Lpi id) lpi ≡ b
        → target_in (cond b (touched discard_spec.shape lpi (MapLpi 0 true 0xa0) (irq_at (opening_guest discard_spec) (Lpi id))) (irq_at (opening_guest discard_spec) (Lpi id))).route discard_spec.shape ≡ None
    by_key true e = absurd (true≢false (sym (ap (has_target discard_maps) (eqb-true id 8195 e)) ∙ lost))
    by_key false e = opens.none id refl

    of : (b : Bool) → has_interrupt discard_spec.shape (Lpi id) ≡ b → target_in (irq_at discard_guest (Lpi id)).route discard_spec.shape ≡ None
    of true there = ap (λ (irq : Irq). target_in irq.route discard_spec.shape) (record_is (Lpi id) there) ∙ by_key (is_same_key (Lpi id) lpi) refl
    of false there = ap (λ b. target_in (cond b (slice_index_or discard_guest.irqs (place_of discard_spec.shape (Lpi id)) (opening_irq false (Lpi id))) (opening_irq false (Lpi id))).route discard_spec.shape) there

pub guest_good : CanOpen discard_guest
guest_good =
    record {
      sound = sound;
      own = λ key there. ap (λ (irq : Irq). is_own key irq.act_by) (record_is key there) ∙ same_part (λ irq. is_own key irq.act_by) (is_same_key key lpi) (touched discard_spec.shape lpi (MapLpi 0 true 0xa0)) (irq_at (opening_guest discard_spec) key) refl ∙ opens.own key there;
      copies = λ key there. ap copy_in (record_is key there) ∙ same_part copy_in (is_same_key key lpi) (touched discard_spec.shape lpi (MapLpi 0 true 0xa0)) (irq_at (opening_guest discard_spec) key) refl ∙ opens.copies key there;
      none = for_none;
      fits = λ k d h. is_below (slice_index_or discard_guest.words k d) (2 ^ 64) (AllPass-from_list_all (λ word. nat_lt word (2 ^ 64)) discard_guest.words refl k d h);
      queue = record { next = lit< tt; writer = lit< tt; place = refl };
      fault = λ e. refl;
    }
