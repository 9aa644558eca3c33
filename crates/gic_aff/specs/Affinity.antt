-- The affinities of vCPUs (IHI 0069, "Affinity routing").
use Rattle.std.specs.Prelude.{ℕ, Option}
use Rattle.floor_words.specs.Words.{GuestShape, Affinity, target_in}

-- the affinity of a vCPU: its number in Aff0, with Aff1, Aff2 and Aff3 0 (own choice)
abbrev pub affinity_of : ℕ → ℕ
affinity_of vcpu = vcpu

-- the vCPU of a guest that has this affinity
abbrev pub vcpu_of : ℕ → GuestShape → Option ℕ
vcpu_of affinity shape = target_in (Affinity affinity) shape
