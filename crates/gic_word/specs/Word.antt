-- The word of an interrupt (own choice of the places): soft, line, rise, edge, enabled, group, en0, en1 and want at the bits 0 to 8, the
-- priority divided by 8 at [13:9], active-by at [19:14] and holder at [25:20], each 0 for none or one more than the vCPU's number, and
-- the route at [58:27], an affinity where bit 26 is 1, or else the target's number likewise.
use Rattle.std.specs.Prelude.{ℕ, ◌≡◌, ◌≤◌, ◌<◌, ◌+◌, ◌-◌, ◌*◌, ◌/◌, ◌%◌, ◌^◌, ◌==◌, false, if◌then◌else◌, Option, Some, None, IfSome}
use Rattle.gic_base.specs.Shape.{max_vcpus}
use Rattle.gic_word.specs.declared.record.Group.TheVariants.{G0, G1}
use Rattle.gic_word.specs.declared.record.Route.{Route}
use Rattle.gic_word.specs.declared.record.Route.TheVariants.{Affinity, Target}
use Rattle.gic_word.specs.declared.record.Irq.{Irq}
use Rattle.gic_bits.specs.Bits.{bit_of, has_bit, field_at}
use Rattle.gic_word.specs.Record.{group_number}

-- the number of a vCPU is there or not, and is one that a guest can have
abbrev pub IsSeat : Option ℕ → Type 0
IsSeat seat = IfSome seat (λ vcpu. vcpu < max_vcpus)

-- an affinity or a target fits its field
abbrev pub IsRoute : Route → Type 0
IsRoute (Affinity affinity) = affinity < 2 ^ 32
IsRoute (Target target) = IsSeat target

-- the record can stand in a word: its priority is a multiple of 8 from 0 to 248, and its other numbers fit their fields
pub record IsIrq (irq : Irq) : Type 0 where
  pub prio : irq.prio % 8 ≡ 0
  pub prio_bits : irq.prio / 8 < 2 ^ 5
  pub active : IsSeat irq.act_by
  pub holder : IsSeat irq.holder
  pub route : IsRoute irq.route

-- the number of a vCPU in its field: 0 for none, or else one more than the number
abbrev pub seat_number : Option ℕ → ℕ
seat_number None = 0
seat_number (Some vcpu) = vcpu + 1

-- what such a field says
abbrev pub seat_at : ℕ → Option ℕ
seat_at field = if field == 0 then None else Some (field - 1)

-- the affinity with the bit that says so, or the target's number
abbrev pub route_number : Route → ℕ
route_number (Affinity affinity) = 2 ^ 26 + affinity * 2 ^ 27
route_number (Target target) = seat_number target * 2 ^ 27

-- the flags of a record
abbrev pub flags_number : Irq → ℕ
flags_number irq =
    bit_of irq.soft
    + bit_of irq.line * 2 ^ 1
    + bit_of irq.rise * 2 ^ 2
    + bit_of irq.edge * 2 ^ 3
    + bit_of irq.enabled * 2 ^ 4
    + group_number irq.group * 2 ^ 5
    + bit_of irq.en0 * 2 ^ 6
    + bit_of irq.en1 * 2 ^ 7
    + bit_of irq.want * 2 ^ 8

-- the word of a record
abbrev pub packed : Irq → ℕ
packed irq =
    flags_number irq
    + irq.prio / 8 * 2 ^ 9
    + seat_number irq.act_by * 2 ^ 14
    + seat_number irq.holder * 2 ^ 20
    + route_number irq.route

-- the fields of active-by, the holder and the route
abbrev pub active_field : ℕ → ℕ
active_field word = field_at word 14 6

abbrev pub holder_field : ℕ → ℕ
holder_field word = field_at word 20 6

abbrev pub route_field : ℕ → ℕ
route_field word = field_at word 27 32

-- the route of any number
abbrev pub route_of : ℕ → Route
route_of word = if has_bit word 26 then Affinity (route_field word) else Target (seat_at (route_field word))

-- the record of any number
abbrev pub irq_of : ℕ → Irq
irq_of word =
    record {
      prio = field_at word 9 5 * 8;
      enabled = has_bit word 4;
      group = if has_bit word 5 then G1 else G0;
      edge = has_bit word 3;
      line = has_bit word 1;
      rise = has_bit word 2;
      soft = has_bit word 0;
      act_by = seat_at (active_field word);
      holder = seat_at (holder_field word);
      want = has_bit word 8;
      en0 = has_bit word 6;
      en1 = has_bit word 7;
      route = route_of word;
    }

-- the number has the flags of a record, and nothing besides
pub record HasFlags (irq : Irq) (flags : ℕ) : Type 0 where
  pub end : flags < 2 ^ 9
  pub soft : has_bit flags 0 ≡ irq.soft
  pub line : has_bit flags 1 ≡ irq.line
  pub rise : has_bit flags 2 ≡ irq.rise
  pub edge : has_bit flags 3 ≡ irq.edge
  pub enabled : has_bit flags 4 ≡ irq.enabled
  pub group : (if has_bit flags 5 then G1 else G0) ≡ irq.group
  pub en0 : has_bit flags 6 ≡ irq.en0
  pub en1 : has_bit flags 7 ≡ irq.en1
  pub want : has_bit flags 8 ≡ irq.want

-- the number is the word of a record: each vCPU's number is none or in range, and no bit is 1 past the fields
pub record IsWord (word : ℕ) : Type 0 where
  pub active : active_field word ≤ max_vcpus
  pub holder : holder_field word ≤ max_vcpus
  pub target : has_bit word 26 ≡ false → route_field word ≤ max_vcpus
  pub end : word < 2 ^ 59
