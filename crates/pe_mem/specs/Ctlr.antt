-- A write of GICD_CTLR: its mark, a copy of the enables to each interrupt, and the mark freed.
use Rattle.std.specs.Prelude.{◌≡◌, ℕ, ◌++◌, Bool, true, false, IsTrue, List, [], ◌∷◌, Some}
use Rattle.std.specs.List.{list_all}
use Rattle.its_exec.specs.Words.{interrupt_count, Irq}
use Rattle.its_exec.specs.Registers.{Enables}
use Rattle.its_exec.specs.Calls.{Event, CtlrBegin, copy_at, Happened}
use Rattle.its_exec.specs.GicCall.declared.event.Event.TheVariants.{Read}
use Rattle.its_exec.specs.GicCall.declared.event.Found.TheVariants.{Nothing}
use Rattle.its_exec.specs.GicCall.declared.event.Place.TheVariants.{Ctlr as CtlrPlace}
use Rattle.its_exec.specs.Core.{Made, Seen, Adds, shape_of, part_events}
use Rattle.its_exec.specs.PortCall.Piece.{takes_none, IsPiece}
use Rattle.pe_mem.specs.Each.{TouchesEach}

-- a read of GICD_CTLR
abbrev pub is_ctlr_read_event : Event → Bool
is_ctlr_read_event (Read CtlrPlace) = true
is_ctlr_read_event event = false

abbrev pub is_ctlr_read : Happened → Bool
is_ctlr_read happened = is_ctlr_read_event happened.event

-- an actor did not take the mark: only reads of GICD_CTLR are to be seen of it
pub record MissesMark (old new : Seen) : Type 0 where
  pub part : List Made
  pub adds : Adds old new part
  pub local_is : new.local ≡ old.local
  pub none_taken : IsTrue (takes_none part)
  pub reads : IsTrue (list_all is_ctlr_read (part_events old part))
  pub piece : IsPiece old part

-- it took the mark, with these enables
pub record TakesMark (old new : Seen) (enables : Enables) : Type 0 where
  pub part : List Made
  pub adds : Adds old new part
  pub local_is : new.local ≡ record old.local { ctlr = true }
  pub none_taken : IsTrue (takes_none part)
  pub reads : List Happened
  pub are_reads : IsTrue (list_all is_ctlr_read reads)
  pub events : part_events old part ≡ reads ++ (record { event = CtlrBegin enables; found = Nothing }) ∷ []
  pub piece : IsPiece old part

-- one try
abbrev pub TriesMark : Seen → Seen → Enables → Bool → Type 0
TriesMark old new enables true = TakesMark old new enables
TriesMark old new enables false = MissesMark old new

-- it copied the enables to each interrupt, in key order, and found these records
pub record CopiesEnables (old new : Seen) (enables : Enables) : Type 0 where
  pub irqs : ℕ → Irq
  pub touches : TouchesEach old new (λ place. Some (copy_at (shape_of old) enables place)) (interrupt_count (shape_of old)) irqs
