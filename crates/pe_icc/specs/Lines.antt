-- The interrupt lines of a vCPU on a PE (IHI 0069, "Interrupt signaling").
use Rattle.std.specs.Prelude.{◌≡◌, ℕ, ◌==◌, ◌&&◌, ◌++◌, not, Bool, true, false, IsTrue, List, [], map, filter, length, is_none, if◌then◌else◌, Option, Some, None}
use Rattle.std.specs.List.{filter_map, range_with_len, slice_index_or}
use Rattle.gic_line.specs.declared.lines.Lines.{Lines}
use Rattle.gic_line.specs.Lines.{lines_by}
use Rattle.pe_loop.specs.Words.{Key, GuestShape, intid_of, irq_of}
use Rattle.pe_loop.specs.Calls.{Residence}
use Rattle.pe_loop.specs.Registers.{Candidate, candidates_at, first_of, is_deliverable}
use Rattle.pe_loop.specs.VcpuState.declared.loaded.Loaded.{Loaded}
use Rattle.pe_loop.specs.Core.{Made, CoreStep, Look, Irq, Index, is_cand, index_bits, index_words, key_of_bit, interface_of, Seen, Adds, AddsStep, shape_of, part_events, MakesCall, part_of, Progress, paid, progress_of, IsProper}
use Rattle.pe_loop.specs.PortCall.Piece.{steps_of, takes_none}
use Rattle.pe_loop.specs.Stay.{IsUp}
use Rattle.pe_icc.specs.Amid.{IsRunning, IsAble, Leads}

-- What a vCPU in trap mode finds by looks alone.

-- the interrupts whose bits are set in the words of a vCPU's candidate index, by their bits
abbrev pub keys_marked : GuestShape → ℕ → List ℕ → List Key
keys_marked shape vcpu words = map (key_of_bit shape vcpu) (filter (is_cand (record { words = words })) (range_with_len 0 (index_bits shape)))

-- an interrupt that a look found at no interface, not wanted and deliverable to the vCPU
abbrev pub candidate_found : Seen → CoreStep → ℕ → Option Candidate
candidate_found seen (Look (Irq key)) found =
    let irq = irq_of found in
    if is_none irq.holder && not irq.want && is_deliverable key irq seen.actor seen.local.cpu (shape_of seen) then Some (record { id = intid_of key; prio = irq.prio; group = irq.group })
    else None
candidate_found seen step found = None

-- all that some looks found
abbrev pub candidates_found : Seen → List Made → List Candidate
candidates_found seen part = filter_map (λ made. candidate_found seen made.step made.found) part

-- it looked at each word of its index, in rising order, and then once at each interrupt whose bit it found there
pub record LooksByIndex (seen : Seen) (part : List Made) : Type 0 where
  pub words : List Made
  pub irqs : List Made
  pub part_is : part ≡ words ++ irqs
  pub words_are : steps_of words ≡ map (λ word. Look (Index seen.actor word)) (range_with_len 0 (index_words (shape_of seen)))
  pub irqs_are : steps_of irqs ≡ map (λ key. Look (Irq key)) (keys_marked (shape_of seen) seen.actor (map (λ made. made.found) words))

-- so it does in trap mode, and else it makes no step
abbrev pub LooksWhere : Bool → Seen → List Made → Type 0
LooksWhere true seen part = LooksByIndex seen part
LooksWhere false seen part = part ≡ []

-- The lines.

-- a vCPU on a PE told its lines, by what is at its interface and, in trap mode, by what it found there: IRQ is asserted exactly where a read of IAR1 that finds no kick
-- would acknowledge an interrupt of these, and FIQ where one of IAR0 would. The part that it added is a call, and proper wherever the vCPU's protocol is between two
-- accesses; nothing of the vCPU changed
pub record TellsLines (old new : Seen) (vcpu : Loaded) (lines : Lines) : Type 0 where
  pub part : List Made
  pub adds : Adds old new part
  pub none_taken : IsTrue (takes_none part)
  pub looks : LooksWhere vcpu.trapping old part
  pub value : lines ≡ lines_by old.local.cpu (candidates_at (interface_of old.local) ++ candidates_found old part)
  pub same : new.local ≡ old.local
  pub up : IsUp new vcpu
  pub call : MakesCall old part Residence None
  pub proper : (p : Progress) → IsRunning old vcpu p → IsProper (shape_of old) old.actor p (part_of Residence vcpu.regs.n part None)
  pub goes_on : (p : Progress) → IsRunning old vcpu p → IsRunning new vcpu (progress_of (shape_of old) old.actor p (part_of Residence vcpu.regs.n part None))

-- Looks, one after the other.

-- an actor made such looks alone: nothing of it changed, nor of its protocol in a stay on a PE
pub record LooksAlone (old new : Seen) (part : List Made) : Type 0 where
  pub adds : Adds old new part
  pub none_taken : IsTrue (takes_none part)
  pub silent : part_events old part ≡ []
  pub same : new.local ≡ old.local
  pub leads : (vcpu : Loaded) → Leads old part (IsAble old vcpu Residence paid) (IsAble new vcpu Residence paid)

-- so many words of its index, and what they said is in the first places
pub record LooksAtWords (old new : Seen) (count : ℕ) (words : List ℕ) : Type 0 where
  pub part : List Made
  pub looks : LooksAlone old new part
  pub steps_are : steps_of part ≡ map (λ word. Look (Index old.actor word)) (range_with_len 0 count)
  pub room : length words ≡ 96
  pub words_are : (place : ℕ) → slice_index_or words place 0 ≡ slice_index_or (map (λ made. made.found) part) place 0

-- one interrupt
pub record FindsOne (old new : Seen) (key : Key) (one : Option Candidate) : Type 0 where
  pub found : ℕ
  pub adds : AddsStep old new (Look (Irq key)) found
  pub one_is : one ≡ candidate_found old (Look (Irq key)) found

-- the interrupts of the bits from one on, so many, that are set in these words; the first of those found before is known, and of those found now with them
pub record LooksAtBits (old new : Seen) (words : List ℕ) (from count : ℕ) (before after : Option Candidate) : Type 0 where
  pub part : List Made
  pub looks : LooksAlone old new part
  pub steps_are : steps_of part ≡ map (λ key. Look (Irq key)) (map (key_of_bit (shape_of old) old.actor) (filter (is_cand (record { words = words })) (range_with_len from count)))
  pub first_is : (candidates : List Candidate) → before ≡ first_of candidates → after ≡ first_of (candidates ++ candidates_found old part)

-- all of it: the first interrupt that is deliverable to the vCPU
pub record LooksRound (old new : Seen) (first : Option Candidate) : Type 0 where
  pub part : List Made
  pub looks : LooksAlone old new part
  pub by_index : LooksByIndex old part
  pub first_is : first ≡ first_of (candidates_found old part)

-- an answer of IAR is the INTID of an interrupt, and no 1023
abbrev pub is_intid : Option ℕ → Bool
is_intid (Some id) = not (id == 1023)
is_intid None = false
