-- The actors of a guest: the vCPUs come first, and then the devices.
use Rattle.std.specs.Prelude.{ℕ, ◌+◌, ◌-◌, Bool, nat_lt, if◌then◌else◌}
use Rattle.core_words.specs.Words.{Actor, Vcpu as VcpuActor, Device, GuestShape}

-- how many actors a guest has
abbrev pub actor_count : GuestShape → ℕ
actor_count shape = shape.vcpus + shape.devices

-- the actor of a number, in the guest of a number
abbrev pub actor_at : GuestShape → ℕ → ℕ → Actor
actor_at shape guest number = if nat_lt number shape.vcpus then VcpuActor guest number else Device guest (number - shape.vcpus)

-- the number of the guest that an actor is of, and its own number there
abbrev pub guest_of : Actor → ℕ
guest_of (VcpuActor guest vcpu) = guest
guest_of (Device guest device) = guest

abbrev pub number_of : GuestShape → Actor → ℕ
number_of shape (VcpuActor guest vcpu) = vcpu
number_of shape (Device guest device) = shape.vcpus + device

-- a guest has an actor
abbrev pub has_actor : GuestShape → Actor → Bool
has_actor shape (VcpuActor guest vcpu) = nat_lt vcpu shape.vcpus
has_actor shape (Device guest device) = nat_lt device shape.devices
