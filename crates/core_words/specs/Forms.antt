-- The forms of the words of vCPUs, of GICD_CTLR and of translation lines (own choice of the bits).
use Rattle.std.specs.Prelude.{◌≡◌, ℕ, ◌+◌, ◌-◌, ◌*◌, ◌^◌, ◌<◌, ◌≤◌, ◌==◌, ◌&&◌, Bool, nat_lt, if◌then◌else◌, Option, Some, None, is_none}
use Rattle.std.specs.Option.{ForSome}
use Rattle.ideal_guest.specs.Words.{bit_of, has_bit, field_at}
use Rattle.core_words.specs.declared.line.Line.{Line}
use Rattle.core_words.specs.declared.words.VcpuWord.{VcpuWord}
use Rattle.core_words.specs.declared.words.CtlrWord.{CtlrWord}

-- a vCPU's: EnableLPIs at bit 0, and the kick at bit 1
abbrev pub packed_vcpu : VcpuWord → ℕ
packed_vcpu vcpu = bit_of vcpu.lpis + bit_of vcpu.kick * 2

-- what such a word says
abbrev pub vcpu_of : ℕ → VcpuWord
vcpu_of word = record { lpis = has_bit word 0; kick = has_bit word 1 }

-- the number is such a word
abbrev pub is_vcpu_word : ℕ → Bool
is_vcpu_word word = nat_lt word 4

-- the mark of GICD_CTLR: bit 2 where an actor has it, with the actor's number at [8:3]
abbrev pub mark_number : Option ℕ → ℕ
mark_number None = 0
mark_number (Some actor) = 2 ^ 2 + actor * 2 ^ 3

-- GICD_CTLR's: EnableGrp0 and EnableGrp1 at the bits 0 and 1, and the mark
abbrev pub packed_ctlr : CtlrWord → ℕ
packed_ctlr ctlr = bit_of ctlr.enables.group0 + bit_of ctlr.enables.group1 * 2 + mark_number ctlr.mark

-- what such a word says
abbrev pub ctlr_of : ℕ → CtlrWord
ctlr_of word =
    record {
      enables = record { group0 = has_bit word 0; group1 = has_bit word 1 };
      mark = if has_bit word 2 then Some (field_at word 3 6) else None;
    }

-- what GICD_CTLR's word can say: the actor's number fits its field
abbrev pub IsCtlr : CtlrWord → Type 0
IsCtlr ctlr = ForSome ctlr.mark (λ actor. actor < 64)

-- the number is such a word
abbrev pub is_ctlr_word : ℕ → Bool
is_ctlr_word word = if has_bit word 2 then nat_lt word (2 ^ 9) else nat_lt word (2 ^ 2)

-- A translation line of the ITS: a word that keeps which LPI one message of a device becomes, and which devices are about to raise it (own choice; the
-- architecture lets an ITS cache what its tables say).

-- no device is in it, and it translates nothing; 8192 stands for no LPI
abbrev pub empty_line : Line
empty_line = record { pair = None; lpi = 8192; inside = 0 }

abbrev pub is_empty_line : Line → Bool
is_empty_line line = is_none line.pair && line.inside == 0

-- the message: bit 4 where there is one, with its EventID at [33:18] and its DeviceID at [49:34]
abbrev pub pair_number : Option (ℕ × ℕ) → ℕ
pair_number None = 0
pair_number (Some pair) = 2 ^ 4 + pair.1 * 2 ^ 18 + pair.0 * 2 ^ 34

-- a line's word: the devices in it at [3:0], a bit each; its LPI less 8192 at [17:5]; and the message
abbrev pub packed_line : Line → ℕ
packed_line line = line.inside + (line.lpi - 8192) * 2 ^ 5 + pair_number line.pair

-- what such a word says
abbrev pub line_of : ℕ → Line
line_of word =
    record {
      pair = if has_bit word 4 then Some (field_at word 34 16, field_at word 18 16) else None;
      lpi = 8192 + field_at word 5 13;
      inside = field_at word 0 4;
    }

-- what a line's word can say: DeviceID and EventID below 65536, an LPI, 8192 where there is no message, and at most four devices
pub record IsLine (line : Line) : Type 0 where
  pub pair : ForSome line.pair (λ pair. (pair.0 < 65536) × (pair.1 < 65536))
  pub from : 8192 ≤ line.lpi
  pub lpi : line.lpi < 16384
  pub none : line.pair ≡ None → line.lpi ≡ 8192
  pub inside : line.inside < 16

-- the number is such a word
abbrev pub is_line_word : ℕ → Bool
is_line_word word = if has_bit word 4 then nat_lt word (2 ^ 50) else nat_lt word (2 ^ 4)
