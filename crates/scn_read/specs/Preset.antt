-- The presets of a guest: their faults, and what they say where they have none (own choice).
use Rattle.std.specs.Prelude.{ℕ, ◌%◌, ◌&&◌, ◌||◌, ◌==◌, not, List, [], ◌∷◌, Bool, true, false, nat_lt, nat_le, if◌then◌else◌, Option, Some, None, is_some, unwrap_or, codes}
use Rattle.serde_json.specs.Data.{Data}
use Rattle.scn_base.specs.Words.{is_within}
use Rattle.json_field.specs.Field.{has_only, number_at, number_or, flag_or}
use Rattle.scn_base.specs.GicGuest.declared.preset.Preset.{Preset}
use Rattle.scn_read.specs.declared.preset.WrittenPreset.{WrittenPreset}
use Rattle.scn_base.specs.Codes.{shape_code, limit_code, unknown_actor_code, first_met}

-- the INTID that a preset names
abbrev pub id_of : Data → ℕ
id_of d = unwrap_or (number_at (codes "id") d) 0

-- it is that of a private interrupt, an SGI or a PPI
abbrev pub is_private : Data → Bool
is_private d = nat_lt (id_of d) 32

-- the fields of a preset: one of a private interrupt names its vCPU, and one of a shared interrupt may name its target
abbrev pub preset_fields : Data → List (List ℕ)
preset_fields d = codes "id" ∷ codes "prio" ∷ codes "edge" ∷ codes "group" ∷ (if is_private d then codes "vcpu" else codes "to") ∷ []

-- the vCPU of a private interrupt, and the target of a shared one
abbrev pub vcpu_at : Data → Option ℕ
vcpu_at d = if is_private d then number_at (codes "vcpu") d else number_or (codes "to") 0 d

-- each field of a preset is one of its table, and of its kind
abbrev pub is_preset : Data → Bool
is_preset d =
    is_some (number_at (codes "id") d)
    && has_only (preset_fields d) d
    && is_some (number_or (codes "prio") 160 d)
    && is_some (flag_or (codes "edge") true d)
    && is_some (number_or (codes "group") 1 d)
    && is_some (vcpu_at d)

-- a preset as it is written, or its defaults
abbrev pub written_of : Data → WrittenPreset
written_of d =
    record {
      id = id_of d;
      prio = unwrap_or (number_or (codes "prio") 160 d) 0;
      edge = unwrap_or (flag_or (codes "edge") true d) false;
      group = unwrap_or (number_or (codes "group") 1 d) 0;
      vcpu = unwrap_or (vcpu_at d) 0;
    }

-- each number of a preset is in its range, and an SGI is edge-triggered
abbrev pub is_in_range : WrittenPreset → Bool
is_in_range preset = nat_le preset.prio 248 && preset.prio % 8 == 0 && nat_le preset.group 1 && (preset.edge || nat_le 16 preset.id)

-- an INTID is that of an SPI or an extended SPI of a guest with so many of them
abbrev pub is_spi : ℕ → ℕ → ℕ → Bool
is_spi spis espis id = is_within 32 spis id || is_within 4096 espis id

-- a guest with so many vCPUs, SPIs and extended SPIs has the interrupt of a preset and its vCPU
abbrev pub is_there : ℕ → ℕ → ℕ → WrittenPreset → Bool
is_there vcpus spis espis preset = nat_lt preset.vcpu vcpus && (nat_lt preset.id 32 || is_spi spis espis preset.id)

-- the fault of a preset, in a guest with so many vCPUs, SPIs and extended SPIs
abbrev pub preset_fault : ℕ → ℕ → ℕ → Data → Option ℕ
preset_fault vcpus spis espis d =
    first_met
    ((not (is_preset d), shape_code)
    ∷ (not (is_in_range (written_of d)), limit_code)
    ∷ (not (is_there vcpus spis espis (written_of d)), unknown_actor_code)
    ∷ [])

-- the preset that is written so
abbrev pub preset_with : WrittenPreset → Preset
preset_with preset =
    record {
      id = preset.id;
      prio = preset.prio;
      edge = preset.edge;
      group = preset.group;
      to = if nat_lt preset.id 32 then None else Some preset.vcpu;
      vcpu = if nat_lt preset.id 32 then Some preset.vcpu else None;
    }

-- what a preset without a fault says
abbrev pub preset_of : Data → Preset
preset_of d = preset_with (written_of d)
