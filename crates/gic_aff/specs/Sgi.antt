-- The write of ICC_SGI1R (IHI 0069, ICC_SGI1R_EL1).
use Rattle.std.specs.Prelude.{ℕ, ◌/◌, ◌%◌, ◌==◌, ◌&&◌, not, Bool, if◌then◌else◌}
use Rattle.floor_words.specs.Words.{has_bit, field_at, set_of, GuestShape}
use Rattle.gic_aff.specs.declared.sgi.Targets.{Targets}

-- INTID: bits [27:24]
abbrev pub intid_of : ℕ → ℕ
intid_of value = field_at value 24 4

-- IRM, bit 40: the SGI goes to all vCPUs but the sender
abbrev pub is_to_all : ℕ → Bool
is_to_all value = has_bit value 40

-- Aff1 [23:16], Aff2 [39:32] and Aff3 [55:48] are 0, as each vCPU's affinity has them
abbrev pub is_to_aff0 : ℕ → Bool
is_to_aff0 value = field_at value 16 8 == 0 && field_at value 32 8 == 0 && field_at value 48 8 == 0

-- RS [47:44] is the vCPU's range of 16, and its bit in that range is 1 in TargetList [15:0]
abbrev pub is_listed : ℕ → ℕ → Bool
is_listed value vcpu = field_at value 44 4 == vcpu / 16 && has_bit value (vcpu % 16)

-- a write by this sender names a vCPU: by IRM any but the sender, else by its affinity
abbrev pub is_target : ℕ → ℕ → ℕ → Bool
is_target value sender vcpu = if is_to_all value then not (vcpu == sender) else (is_to_aff0 value && is_listed value vcpu)

-- the vCPUs of the guest that a write names
abbrev pub targets_of : ℕ → ℕ → GuestShape → Targets
targets_of value sender shape = record { 0 = set_of (is_target value sender) shape.vcpus }
