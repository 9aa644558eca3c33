-- EnableLPIs rises: those LPIs become pending that are for the vCPU and have their bit in its pending table.
use Rattle.std.specs.Prelude.{◌≡◌, ◌≢◌, ◌⊎◌, ℕ, ◌+◌, Bool, true, false, IfSome, Option, Some, None}
use Rattle.its_exec.specs.Words.{Lpi, SetPending, GuestShape, has_bit, is_number}
use Rattle.its_exec.specs.Registers.{pending_address, Part, part_of, extracted}
use Rattle.its_exec.specs.Calls.{Ram, Touching, Register}
use Rattle.its_exec.specs.Core.{Seen}
use Rattle.its_exec.specs.PortCall.Plain.{ReadsPlain}
use Rattle.its_exec.specs.PortCall.Touch.{Touches}
use Rattle.its_exec.specs.Parts.{LooksAtTarget}
use Rattle.pe_mem.specs.declared.pending.Fetched.{Fetched}

-- where the bit of an LPI is, by its number from 0: the bits of memory, if they are there
abbrev pub part_of_number : GuestShape → ℕ → ℕ → Option Part
part_of_number shape pendbaser number = part_of (pending_address pendbaser (8192 + number)).0 1 shape.ram

-- the bit, of a byte of the table
abbrev pub is_pended_in : ℕ → ℕ → ℕ → Bool
is_pended_in pendbaser byte number = has_bit byte (pending_address pendbaser (8192 + number)).1

-- a write of 1 to the LPI's part of ISPENDR
abbrev pub pend : Touching
pend = Register SetPending 1

-- an actor looked at a word of memory, which is none that it looked at last
pub record FetchesWord (old new : Seen) (last : Option Fetched) (index : ℕ) (fetched : Fetched) : Type 0 where
  pub index_is : fetched.index ≡ index
  pub reads : ReadsPlain old new (Ram index) fetched.word
  pub other : IfSome last (λ one. one.index ≢ index)

-- it has a word of memory: the one that it looked at last, or by a look
pub record HasWord (old new : Seen) (last : Option Fetched) (index : ℕ) (fetched : Fetched) : Type 0 where
  pub same : new ≡ old
  pub last_is : last ≡ Some fetched
  pub index_is : fetched.index ≡ index

abbrev pub GetsWord : Seen → Seen → Option Fetched → ℕ → Fetched → Type 0
GetsWord old new last index fetched = HasWord old new last index fetched ⊎ FetchesWord old new last index fetched

-- an LPI became pending where a look found it to be for the vCPU
abbrev pub PendsIf : Bool → Seen → Seen → ℕ → Type 0
PendsIf true old new id = (found : ℕ) × Touches old new (Lpi id) pend found
PendsIf false old new id = new ≡ old

pub record PendsLpi (old new : Seen) (vcpu id : ℕ) : Type 0 where
  pub target : Option ℕ
  pub mid : Seen
  pub looks : LooksAtTarget old mid id target
  pub rest : PendsIf (is_number vcpu target) mid new id

abbrev pub PendsWhere : Bool → Seen → Seen → ℕ → ℕ → Type 0
PendsWhere true old new vcpu id = PendsLpi old new vcpu id
PendsWhere false old new vcpu id = new ≡ old

-- an actor went over the bit of an LPI that is in memory
pub record DoesBit (old new : Seen) (vcpu pendbaser number : ℕ) (last : Option Fetched) (part : Part) (next : Option Fetched) : Type 0 where
  pub fetched : Fetched
  pub mid : Seen
  pub gets : GetsWord old mid last part.index fetched
  pub next_is : next ≡ Some fetched
  pub rest : PendsWhere (is_pended_in pendbaser (extracted fetched.word part) number) mid new vcpu (8192 + number)

-- or of one that is not
abbrev pub DoesNumber : Seen → Seen → ℕ → ℕ → ℕ → Option Fetched → Option Fetched → Option Part → Type 0
DoesNumber old new vcpu pendbaser number last next None = (new ≡ old) × (next ≡ last)
DoesNumber old new vcpu pendbaser number last next (Some part) = DoesBit old new vcpu pendbaser number last part next
