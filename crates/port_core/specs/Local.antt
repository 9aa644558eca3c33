-- What an actor has for itself (own choice): the kicks and marks that it owes, its candidates, and the interrupts at its interface.
use Rattle.std.specs.Prelude.{ℕ, ◌-◌, ◌/◌, ◌%◌, ◌^◌, ◌&&◌, ◌==◌, not, Bool, false, List, [], map, fold, filter, find, replicate, nat_lt, if◌then◌else◌, Option, Some, None, is_some, bit_and, bit_or, slice_index_or, slice_set}
use Rattle.std.specs.Int.{bit_not, w32, w64}
use Rattle.std.specs.List.{list_all}
use Rattle.std.specs.Option.{option_map_or}
use Rattle.core_words.specs.Words.{has_bit, Key, GuestShape, Back, Actor, is_of_vcpu, is_same_key, Irq}
use Rattle.core_words.specs.Registers.{Targets, CpuRec}
use Rattle.core_words.specs.Calls.{Entry}
use Rattle.port_core.specs.declared.local.Phase.TheVariants.{Off}
use Rattle.port_core.specs.declared.at_list.AtIrq.{AtIrq}
use Rattle.core_words.specs.declared.line.Line.{Line}
use Rattle.port_core.specs.declared.owed.MarkSet.{MarkSet}
use Rattle.port_core.specs.declared.owed.Cands.{Cands}
use Rattle.port_core.specs.declared.local.Local.{Local}
use Rattle.core_words.specs.Place.{index_bit}

-- Sets of vCPUs.

-- the set with no vCPU, one with a vCPU more, one with another if there is one, and one without a vCPU
abbrev pub no_vcpus : Targets
no_vcpus = record { 0 = 0 }

abbrev pub with_vcpu : Targets → ℕ → Targets
with_vcpu set vcpu = record { 0 = bit_or set.0 (2 ^ vcpu) }

abbrev pub with_some : Targets → Option ℕ → Targets
with_some set vcpu = option_map_or (with_vcpu set) vcpu set

abbrev pub with_all : Targets → List (Option ℕ) → Targets
with_all set vcpus = fold with_some set vcpus

abbrev pub without_vcpu : Targets → ℕ → Targets
without_vcpu set vcpu = record { 0 = bit_and set.0 (bit_not w32 (2 ^ vcpu)) }

-- the marks that are owed without one: of another interrupt they stay
abbrev pub without_mark : Key → ℕ → MarkSet → MarkSet
without_mark key vcpu marks = if option_map_or (λ owed. is_same_key owed key) marks.key false then record marks { vcpus = without_vcpu marks.vcpus vcpu } else marks

-- Candidates.

abbrev pub no_cands : Cands
no_cands = record { words = replicate 96 0 }

-- the candidates without one bit, and with the bits of a word
abbrev pub without_cand : Cands → ℕ → Cands
without_cand cands bit =
    record { words = slice_set cands.words (bit / 64) (bit_and (slice_index_or cands.words (bit / 64) 0) (bit_not w64 (2 ^ (bit % 64)))) }

abbrev pub with_cand_word : Cands → ℕ → ℕ → Cands
with_cand_word cands word bits = record { words = slice_set cands.words word (bit_or (slice_index_or cands.words word 0) bits) }

-- the bit is a candidate's
abbrev pub is_cand : Cands → ℕ → Bool
is_cand cands bit = has_bit (slice_index_or cands.words (bit / 64) 0) (bit % 64)

-- the actor is a vCPU of the guest
abbrev pub is_vcpu : GuestShape → ℕ → Bool
is_vcpu shape actor = nat_lt actor shape.vcpus

-- the candidates of an actor without an interrupt, which it has only where it is a vCPU that the interrupt can get to
abbrev pub settled : GuestShape → ℕ → Key → Cands → Cands
settled shape actor key cands = if is_vcpu shape actor && is_of_vcpu actor key then without_cand cands (index_bit shape key) else cands

-- The interrupts at an interface.

-- what is there of an interrupt, if it is there
abbrev pub entry_for : Key → List AtIrq → Option AtIrq
entry_for key at = find (λ entry. is_same_key entry.key key) at

abbrev pub is_at : Key → List AtIrq → Bool
is_at key at = is_some (entry_for key at)

-- the interrupts after a change of one, and without one
abbrev pub changed_at : (AtIrq → AtIrq) → Key → List AtIrq → List AtIrq
changed_at change key at = map (λ entry. if is_same_key entry.key key then change entry else entry) at

abbrev pub without_at : Key → List AtIrq → List AtIrq
without_at key at = filter (λ entry. not (is_same_key entry.key key)) at

-- what the interface has of an interrupt, as the moves between the distributor and an interface speak of it
abbrev pub entry_of : AtIrq → Entry
entry_of at = record { pending = at.pending; active = at.active; rise = at.rise; soft = at.soft }

-- the interrupt with what the interface has of it now
abbrev pub with_entry : AtIrq → Entry → AtIrq
with_entry at entry = record at { pending = entry.pending; active = entry.active; rise = entry.rise; soft = entry.soft }

-- an interrupt that gets to the interface, with copies of its priority and its group
abbrev pub arrived : Key → Irq → Entry → AtIrq
arrived key irq entry =
    record {
      key = key;
      entry_prio = irq.prio;
      group = irq.group;
      pending = entry.pending;
      active = entry.active;
      rise = entry.rise;
      soft = entry.soft;
      consumed = false;
      given = false;
    }

-- what comes back of an interrupt: its causes, of which an acknowledge leaves none, and whether it is active
abbrev pub back_of : AtIrq → Back
back_of at = record { rise = at.rise; soft = at.soft; active = at.active }

-- What the actor owes.

abbrev pub owes_no_kick : Local → Bool
owes_no_kick local = local.owes.0 == 0

abbrev pub owes_no_mark : Local → Bool
owes_no_mark local = local.marks.vcpus.0 == 0

abbrev pub has_no_cand : Local → Bool
has_no_cand local = list_all (λ word. word == 0) local.cands.words

-- the actor owes nothing: no kick, no mark, no candidate
abbrev pub owes_nothing : Local → Bool
owes_nothing local = owes_no_kick local && owes_no_mark local && has_no_cand local

-- it owes a kick to these vCPUs besides, and marks of an interrupt to these
abbrev pub owing : List (Option ℕ) → Key → List (Option ℕ) → Local → Local
owing kicks key marks local = record local { owes = with_all local.owes kicks; marks = record { key = Some key; vcpus = with_all no_vcpus marks } }

-- both to the same
abbrev pub owing_both : Key → List (Option ℕ) → Local → Local
owing_both key vcpus local = owing vcpus key vcpus local

-- Translation lines of the ITS.

-- the actor is in a line
abbrev pub is_in_line : ℕ → Local → Bool
is_in_line line local = option_map_or (λ entered. entered.line == line) local.line false

-- a line's word says that the actor is in the line, which is true of devices alone
abbrev pub is_inside : GuestShape → ℕ → Line → Bool
is_inside shape actor line = not (is_vcpu shape actor) && has_bit line.inside (actor - shape.vcpus)

-- the devices in a line with an actor, and without it
abbrev pub with_inside : GuestShape → ℕ → Line → Line
with_inside shape actor line = record line { inside = bit_or line.inside (2 ^ (actor - shape.vcpus)) }

abbrev pub without_inside : GuestShape → ℕ → Line → Line
without_inside shape actor line = record line { inside = bit_and line.inside (bit_not w64 (2 ^ (actor - shape.vcpus))) }

-- the lines that an actor knows to be shut, with a line, and without it: no line of them has a message or a device since the actor found it so
abbrev pub with_shut : ℕ → Local → Local
with_shut line local = record local { shut = bit_or local.shut (2 ^ line) }

abbrev pub without_shut : ℕ → Local → Local
without_shut line local = record local { shut = bit_and local.shut (bit_not w64 (2 ^ line)) }

-- it knows all lines to be shut
abbrev pub has_all_shut : Local → Bool
has_all_shut local = local.shut == 2 ^ 64 - 1

-- an actor as a guest opens
abbrev pub opening_local : Actor → CpuRec → Local
opening_local actor cpu =
    record {
      actor = actor;
      phase = Off;
      cpu = cpu;
      at = [];
      owes = no_vcpus;
      turn = false;
      ctlr = false;
      marks = record { key = None; vcpus = no_vcpus };
      cands = no_cands;
      line = None;
      shut = 0;
    }
