-- The registers that have a part for each interrupt (IHI 0069, "The Distributor register map").
use Rattle.std.specs.Prelude.{◌≡◌, ℕ, ◌+◌, ◌-◌, ◌*◌, ◌/◌, ◌≤◌, ◌<◌}
use Rattle.floor_words.specs.Words.{Kind, SetEnable, ClearEnable, SetPending, ClearPending, SetActive, ClearActive, Priority, Config, Routing}
use Rattle.gic_frame.specs.declared.bank.Access.{Access}
use Rattle.gic_frame.specs.declared.bank.Access.TheVariants.{Word, WordOrByte, Doubleword}
use Rattle.gic_frame.specs.declared.bank.Bank.{Bank}
use Rattle.gic_frame.specs.Bank.{width_of}
use Rattle.floor_words.specs.GicBase.declared.operation.Kind.TheVariants.{Group}

-- the bits that each interrupt has: a byte of IPRIORITYR, two bits of ICFGR, an IROUTER, one bit of the others
abbrev pub part_bits : Kind → ℕ
part_bits Group = 1
part_bits SetEnable = 1
part_bits ClearEnable = 1
part_bits SetPending = 1
part_bits ClearPending = 1
part_bits SetActive = 1
part_bits ClearActive = 1
part_bits Priority = 8
part_bits Config = 2
part_bits Routing = 64

-- how many interrupts have their parts in so many bytes
abbrev pub parts_in : Kind → ℕ → ℕ
parts_in kind bytes = bytes * 8 / part_bits kind

-- which accesses the registers take: IPRIORITYR each byte too, an IROUTER as a register of 64 bits
abbrev pub access_of : Kind → Access
access_of Group = Word
access_of SetEnable = Word
access_of ClearEnable = Word
access_of SetPending = Word
access_of ClearPending = Word
access_of SetActive = Word
access_of ClearActive = Word
access_of Priority = WordOrByte
access_of Config = Word
access_of Routing = Doubleword

-- the registers with the parts of so many interrupts, from an offset on: as many as the parts fill
abbrev pub parts_bank : ℕ → Kind → ℕ → Bank
parts_bank start kind count =
    let access = access_of kind in
    record { start = start; count = count * part_bits kind / 8 / width_of access; access = access }

-- interrupts from a first one on, one to 32, all of them from a low INTID on and below an end
pub record AreWithin (low end first count : ℕ) : Type 0 where
  pub some : 1 ≤ count
  pub few : count ≤ 32
  pub from : low ≤ first
  pub below : first + count ≤ end

-- of the parts of some interrupts, from the lowest bit on, the one from this bit on is this interrupt's, in registers of this
-- kind
pub record HasPart (kind : Kind) (first count : ℕ) (wanted : Kind) (id bit : ℕ) : Type 0 where
  pub same_kind : kind ≡ wanted
  pub from : first ≤ id
  pub below : id < first + count
  pub place : (id - first) * part_bits kind ≡ bit
