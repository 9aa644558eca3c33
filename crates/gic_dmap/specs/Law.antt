-- Where IHI 0069, "The Distributor register map", has the part of each interrupt.
use Rattle.std.specs.Prelude.{ℕ, ◌+◌, ◌*◌, ◌/◌, ◌%◌, ◌<◌, ◌&&◌, Bool, IsTrue, nat_le, nat_lt}
use Rattle.gic_frame.specs.Words.{Kind, SetEnable, ClearEnable, SetPending, ClearPending, SetActive, ClearActive, Priority, Config, Routing}
use Rattle.gic_frame.specs.GicBase.declared.operation.Kind.TheVariants.{Group}
use Rattle.gic_frame.specs.Bank.{width_of}
use Rattle.gic_frame.specs.Part.{part_bits, access_of, HasPart}
use Rattle.gic_dmap.specs.declared.map.RegRef.{RegRef}
use Rattle.gic_dmap.specs.declared.map.RegRef.TheVariants.{Bits, Plain, Reserved}
use Rattle.gic_dmap.specs.Map.{decoded}

-- the offset from which the registers of a kind are numbered by the INTID, from 0 on
abbrev pub base_of : Kind → ℕ
base_of Group = 0x0080
base_of SetEnable = 0x0100
base_of ClearEnable = 0x0180
base_of SetPending = 0x0200
base_of ClearPending = 0x0280
base_of SetActive = 0x0300
base_of ClearActive = 0x0380
base_of Priority = 0x0400
base_of Config = 0x0C00
base_of Routing = 0x6000

-- the offset from which the registers of extended SPIs are numbered, from INTID 4096 on
abbrev pub extended_base_of : Kind → ℕ
extended_base_of Group = 0x1000
extended_base_of SetEnable = 0x1200
extended_base_of ClearEnable = 0x1400
extended_base_of SetPending = 0x1600
extended_base_of ClearPending = 0x1800
extended_base_of SetActive = 0x1A00
extended_base_of ClearActive = 0x1C00
extended_base_of Priority = 0x2000
extended_base_of Config = 0x3000
extended_base_of Routing = 0x8000

-- an INTID below 1024 has a part in the registers of a kind: an IROUTER those from 32 to 1019
abbrev pub has_register : Kind → ℕ → Bool
has_register Routing id = nat_le 32 id && nat_lt id 1020
has_register kind id = nat_lt id 1024

-- an access is to parts, and the one from this bit of its value on is this interrupt's
abbrev pub IsToPart : RegRef → Kind → ℕ → ℕ → Type 0
IsToPart (Bits kind first count) wanted id bit = HasPart kind first count wanted id bit
IsToPart (Plain reg half) wanted id bit = ⊥
IsToPart Reserved wanted id bit = ⊥

-- interrupt number n of a kind's registers has its part at bit n * width of all that begin at the base, so in the register
-- of 32 or 64 bits at base + n * width / 8
abbrev pub PartIsAt : ℕ → Kind → ℕ → ℕ → Type 0
PartIsAt base kind n id =
    let bytes = width_of (access_of kind) in
    let bit = n * part_bits kind in
    IsToPart (decoded (base + bit / (8 * bytes) * bytes) bytes) kind id (bit % (8 * bytes))

-- each part is where the architecture has it, and is reached by a whole register, and in IPRIORITYR by its byte alone
pub record PartsAreInPlace : Type 0 where
  pub parts : (kind : Kind) (id : ℕ) → IsTrue (has_register kind id) → PartIsAt (base_of kind) kind id id
  pub extended : (kind : Kind) (n : ℕ) → n < 1024 → PartIsAt (extended_base_of kind) kind n (4096 + n)
  pub bytes : (id : ℕ) → id < 1024 → IsToPart (decoded (0x0400 + id) 1) Priority id 0
  pub extended_bytes : (n : ℕ) → n < 1024 → IsToPart (decoded (0x2000 + n) 1) Priority (4096 + n) 0
