-- A list register, as fields and as a word (IHI 0069, ICH_LR<n>_EL2).
use Rattle.std.specs.Prelude.{ℕ, ◌≡◌, ◌<◌, ◌+◌, ◌*◌, ◌/◌, ◌%◌, ◌^◌, ◌==◌, ◌&&◌, not, Bool, true, false, if◌then◌else◌, Option, Some, None, IfSome}
use Rattle.floor_words.specs.Words.{bit_of, has_bit, field_at, G0, G1, group_number}
use Rattle.gic_lr.specs.declared.entry.LrState.{LrState}
use Rattle.gic_lr.specs.declared.entry.LrState.TheVariants.{Invalid, Pending, Active, Both}
use Rattle.gic_lr.specs.declared.entry.LrEntry.{LrEntry}

-- what a list register can hold: a physical INTID has 13 bits, and an entry with one has no EOI
pub record IsEntry (entry : LrEntry) : Type 0 where
  pub number : IfSome entry.hw (λ number. number < 2 ^ 13)
  pub no_eoi : IfSome entry.hw (λ number. entry.eoi ≡ false)

-- State
abbrev pub state_number : LrState → ℕ
state_number Invalid = 0
state_number Pending = 1
state_number Active = 2
state_number Both = 3

-- pending, be it active too or not: State is 1 or 3
abbrev pub state_has_pending : LrState → Bool
state_has_pending Invalid = false
state_has_pending Pending = true
state_has_pending Active = false
state_has_pending Both = true

-- active, be it pending too or not: State is 2 or 3
abbrev pub state_has_active : LrState → Bool
state_has_active Invalid = false
state_has_active Pending = false
state_has_active Active = true
state_has_active Both = true

-- the state of this number
abbrev pub state_at : ℕ → LrState
state_at state = if state == 0 then Invalid else (if state == 1 then Pending else (if state == 2 then Active else Both))

-- HW at bit 61 with pINTID [44:32] where there is a physical interrupt, or else EOI at bit 41
abbrev pub source_number : Option ℕ → Bool → ℕ
source_number (Some number) eoi = number * 2 ^ 32 + 2 ^ 61
source_number None eoi = bit_of eoi * 2 ^ 41

-- the word: vINTID [31:0], Priority [55:48], Group at bit 60 and State [63:62] beside these
abbrev pub packed : LrEntry → ℕ
packed entry = entry.id + source_number entry.hw entry.eoi + entry.prio * 2 ^ 48 + group_number entry.group * 2 ^ 60 + state_number entry.state * 2 ^ 62

-- the fields of any word
abbrev pub unpacked : ℕ → LrEntry
unpacked word = let is_hw = has_bit word 61 in
    record {
      id = word % 2 ^ 32;
      prio = field_at word 48 8;
      group = if has_bit word 60 then G1 else G0;
      state = state_at (word / 2 ^ 62);
      eoi = not is_hw && has_bit word 41;
      hw = if is_hw then Some (field_at word 32 13) else None;
    }

-- the list register with another State, and all other bits as they are
abbrev pub with_state : ℕ → LrState → ℕ
with_state word state = word % 2 ^ 62 + state_number state * 2 ^ 62

-- each bit that belongs to no field is 0: [59:56], [47:45] where HW is 1, and [47:42] and [40:32] where it is 0
abbrev pub has_only_fields : ℕ → Bool
has_only_fields word =
    field_at word 56 4 == 0
    && (if has_bit word 61 then field_at word 45 3 == 0 else (field_at word 42 6 == 0 && field_at word 32 9 == 0))
