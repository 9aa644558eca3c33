-- The presets and the steps, one after the other.
use Rattle.std.proofs.Common.{◌≡◌, ℕ, suc, ◌+◌, ◌-◌, ◌<◌, ◌≤◌, List, [], ◌∷◌, ◌++◌, true, map, append_assoc, sym, ap, ◌∙◌, subst, arith}
use Rattle.std.specs.List.{range_with_len}
use Rattle.std.proofs.lemmas.List.FromFn.{map-range_with_len_more}
use Rattle.scn_base.specs.GicGuest.declared.guest.GuestSpec.{GuestSpec}
use Rattle.scn_base.specs.GicGuest.declared.preset.Preset.{Preset}
use Rattle.scn_base.specs.declared.step.Step.{Step}
use Rattle.gic_soak.specs.Generated.{shape, preset, guest, step, steps_from}

-- the presets of the SPIs below a number
abbrev presets_below : ℕ → List Preset
presets_below id = map preset (range_with_len 32 (id - 32))

-- one preset more
pub presets_more : (id : ℕ) (presets longer : List Preset) (made : Preset) → 32 ≤ id → presets ≡ presets_below id → made ≡ preset id → longer ≡ presets ++ made ∷ [] → longer ≡ presets_below (id + 1)
presets_more id presets longer made from so_far is pushed =
    let next : id + 1 - 32 ≡ (id - 32) + 1 = omega arith in
    let more = map-range_with_len_more preset 32 (id - 32) id (omega arith) in
    pushed ∙ ap (λ (m : Preset). presets ++ m ∷ []) is ∙ ap (λ (ps : List Preset). ps ++ preset id ∷ []) so_far ∙ sym more ∙ ap (λ (n : ℕ). map preset (range_with_len 32 n)) (sym next)

-- the guest with all its presets
pub all_presets : (id : ℕ) (presets : List Preset) → id ≤ 64 → 64 ≤ id → presets ≡ presets_below id → ◌≡◌ {A = GuestSpec} record { shape = shape; on = true; presets = presets } guest
all_presets id presets upto past so_far =
    let last : id ≡ 64 = omega arith in
    ap (λ (ps : List Preset). let made : GuestSpec = record { shape = shape; on = true; presets = ps } in made) (so_far ∙ ap presets_below last)

-- one step more
pub steps_more : (count done x y : ℕ) (made : Step) (steps longer all : List Step) → done < count → step x ≡ (made, y) → steps ++ steps_from (count - done) x ≡ all → longer ≡ steps ++ made ∷ []
    → longer ++ steps_from (count - (done + 1)) y ≡ all
steps_more count done x y made steps longer all before is so_far pushed =
    let left : count - done ≡ suc (count - (done + 1)) = omega arith in
    let whole : steps ++ (made ∷ steps_from (count - (done + 1)) y) ≡ all =
    subst (λ (m : Step × ℕ). steps ++ (m.0 ∷ steps_from (count - (done + 1)) m.1) ≡ all) is
    (subst (λ (n : ℕ). steps ++ steps_from n x ≡ all) left so_far) in
    rw (pushed, append_assoc) whole
