-- Where the guest has what an access may make the GIC read: told before the access, and so before the commands are there.
use Rattle.std.specs.Prelude.{ℕ, ◌+◌, ◌-◌, ◌*◌, ◌==◌, ◌&&◌, ◌||◌, nat_le, nat_lt, min, Bool, IsTrue, List, [], ◌∷◌, ◌++◌, map, if◌then◌else◌, Option}
use Rattle.std.specs.List.{range_with_len, list_any}
use Rattle.ideal_guest.specs.declared.guest.IdealGuest.{IdealGuest}
use Rattle.guest_memory.specs.declared.base.Base.TheVariants.{Queue, Pending}
use Rattle.guest_memory.specs.declared.base.Bases.{Bases}
use Rattle.guest_memory.specs.declared.access.Access.{Access}
use Rattle.guest_memory.specs.declared.reads.Commands.{Commands}
use Rattle.guest_memory.specs.declared.reads.PendingTable.{PendingTable}
use Rattle.guest_memory.specs.declared.wants.Span.{Span}
use Rattle.guest_memory.specs.declared.wants.Wants.{Wants}
use Rattle.guest_memory.specs.Bases.{address_of, base_in}
use Rattle.guest_memory.specs.Memory.{commands_of, all_doublewords, table_of, is_first, pending_of}

-- so many bytes from an address on
abbrev pub span : ℕ → ℕ → Span
span address bytes = record { address = address; bytes = bytes }

-- none
abbrev pub no_span : Span
no_span = span 0 0

-- the commands from the first one to the queue's end, and those from its start on
abbrev pub until_end : Commands → ℕ
until_end commands = min (32 * commands.count) (commands.bytes - commands.offset)

abbrev pub command_spans : Bases → Commands → List Span
command_spans bases commands =
    let queue = address_of Queue bases.queue in
    let first = until_end commands in
    span (queue + commands.offset) first ∷ span queue (32 * commands.count - first) ∷ []

-- the bytes of LPIs in the configuration table of a vCPU, if commands are taken, and no vCPU before it has the same table
abbrev pub table_span : IdealGuest → Bases → Commands → ℕ → Span
table_span guest bases commands vcpu =
    if nat_lt 0 commands.count && nat_lt vcpu guest.shape.vcpus && is_first bases vcpu
    then span (table_of bases vcpu) (8 * (all_doublewords guest.shape).count) else no_span

-- the bits of LPIs in a pending table, if one is read
abbrev pub pending_span : Bases → PendingTable → Span
pending_span bases pending =
    if pending.count == 0 then no_span else span (address_of (Pending pending.vcpu) (base_in bases (Pending pending.vcpu)) + 0x400) (8 * pending.count)

-- all these, of an access
abbrev pub wanted_by : IdealGuest → Bases → Access → Wants
wanted_by guest bases access =
    let commands = commands_of access access.frame guest in
    record {
      commands = command_spans bases commands;
      tables = map (table_span guest bases commands) (range_with_len 0 32);
      pending = pending_span bases (pending_of access access.frame guest);
    }

-- nothing
abbrev pub no_wants : Wants
no_wants = record { commands = no_span ∷ no_span ∷ []; tables = map (λ vcpu. no_span) (range_with_len 0 32); pending = no_span }

-- an address is in a span
abbrev pub is_in : ℕ → Span → Bool
is_in address span = nat_le span.address address && nat_lt address (span.address + span.bytes)

-- it is in one of those that are wanted
abbrev pub is_wanted : Wants → ℕ → Bool
is_wanted wants address = list_any (is_in address) wants.commands || list_any (is_in address) wants.tables || is_in address wants.pending

-- of what reads of memory may answer, that at the addresses that are wanted
abbrev pub Wanted : Wants → (ℕ → Option ℕ → Type 0) → ℕ → Option ℕ → Type 0
Wanted wants May address answer = IsTrue (is_wanted wants address) × May address answer

-- all spans, the commands first
abbrev pub spans_in : Wants → List Span
spans_in wants = wants.commands ++ wants.tables ++ wants.pending ∷ []

-- the bytes of spans, all together
abbrev pub bytes_in : List Span → ℕ
bytes_in [] = 0
bytes_in (span ∷ spans) = span.bytes + bytes_in spans

-- no access wants more: the largest queue, a configuration table of 4096 LPIs for each of 32 vCPUs, and the bits of as many LPIs in a pending table
abbrev pub most_wanted : ℕ
most_wanted = 0x100000 + 32 * 4096 + 512
