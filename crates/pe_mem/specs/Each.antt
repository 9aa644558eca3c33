-- An actor touches interrupts, one after the other.
use Rattle.std.specs.Prelude.{◌≡◌, ℕ, ◌+◌, IsTrue, List, Option, Some, None, option_map}
use Rattle.std.specs.List.{range_with_len, filter_map}
use Rattle.std.specs.Option.{option_map_or}
use Rattle.its_exec.specs.Words.{Key, Frame, Kind, GuestShape, Irq}
use Rattle.its_exec.specs.Registers.{joined, part_in, part_read}
use Rattle.its_exec.specs.Calls.{Event, Record, Operation, part_key, part_event, Happened}
use Rattle.its_exec.specs.Core.{Made, Seen, Adds, shape_of, part_events}
use Rattle.its_exec.specs.PortCall.Piece.{takes_none}
use Rattle.its_exec.specs.PortCall.Rest.{StaysAtEase}
use Rattle.pe_mem.specs.Call.{NamesAll, IsPieceOf}
use Rattle.pe_mem.specs.Part.{part_answer, Accesses}

-- the touch of a number, if there is one, with the record that it found
abbrev pub touched_at : (ℕ → Option Event) → (ℕ → Irq) → ℕ → Option Happened
touched_at at irqs number = option_map (λ event. record { event = event; found = Record (irqs number) }) (at number)

-- an actor made the touches of the numbers below a count, in rising order, and found these records: the piece is proper in each call that names all of
-- them
pub record TouchesEach (old new : Seen) (at : ℕ → Option Event) (count : ℕ) (irqs : ℕ → Irq) : Type 0 where
  pub part : List Made
  pub adds : Adds old new part
  pub events : part_events old part ≡ filter_map (touched_at at irqs) (range_with_len 0 count)
  pub stays : StaysAtEase old.local new.local
  pub none_taken : IsTrue (takes_none part)
  pub piece : (operation : Operation) → NamesAll (shape_of old) old.actor operation (filter_map at (range_with_len 0 count)) → IsPieceOf old operation part

-- Registers that have a part for each interrupt.

-- the value that an access writes to the part of a number, if it writes
abbrev pub part_written_of : Kind → Option ℕ → ℕ → Option ℕ
part_written_of kind write number = option_map (λ value. part_in kind value number) write

-- an actor made an access to the part of a number: to that of an interrupt, or to none
abbrev pub AccessesNumber : Seen → Seen → Option Key → Kind → Option ℕ → ℕ → Type 0
AccessesNumber old new None kind write answer = (new ≡ old) × (answer ≡ 0)
AccessesNumber old new (Some key) kind write answer = Accesses old new key kind write answer

-- what it answers, of the records that it found
abbrev pub number_answer : GuestShape → Frame → Kind → ℕ → Option ℕ → (ℕ → Irq) → ℕ → ℕ
number_answer shape frame kind first write irqs number =
    option_map_or (λ key. part_answer write (part_read kind (irqs number))) (part_key shape frame kind (first + number)) 0

-- an actor made an access to the parts of so many interrupts from a first INTID on
pub record AccessesParts (old new : Seen) (frame : Frame) (kind : Kind) (first count : ℕ) (write : Option ℕ) (answer : ℕ) : Type 0 where
  pub irqs : ℕ → Irq
  pub touches : TouchesEach old new (part_event (shape_of old) frame kind first write) count irqs
  pub answer_is : answer ≡ joined kind (number_answer (shape_of old) frame kind first write irqs) count
