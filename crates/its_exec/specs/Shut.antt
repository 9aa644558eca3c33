-- The actor that has the ITS shuts all translation lines before it changes what messages become, or where LPIs go (own choice).
use Rattle.std.specs.Prelude.{◌≡◌, ℕ, ◌-◌, ◌^◌, Bool, true, false, IsTrue, List, []}
use Rattle.std.specs.List.{list_all}
use Rattle.port_call.specs.Core.{Made, CoreStep, Look, LineClose, Line, with_shut, Seen, Adds, part_events}
use Rattle.port_call.specs.Piece.{takes_none, IsPiece}

-- a step that takes the message out of a line, or looks at one
abbrev pub is_shut_step : CoreStep → Bool
is_shut_step (LineClose line) = true
is_shut_step (Look (Line line)) = true
is_shut_step step = false

-- an actor made such steps: nothing is to be seen of them, and they are proper where no scan is in progress
pub record OnLines (old new : Seen) : Type 0 where
  pub part : List Made
  pub adds : Adds old new part
  pub steps : IsTrue (list_all (λ made. is_shut_step made.step) part)
  pub none_taken : IsTrue (takes_none part)
  pub silent : part_events old part ≡ []
  pub piece : IsPiece old part

-- it shut a line: it knows that besides, and else has for itself what it had
pub record ShutsLine (old new : Seen) (line : ℕ) : Type 0 where
  pub on : OnLines old new
  pub local_is : new.local ≡ with_shut line old.local

-- it found a line as it was to be, or has for itself what it had
pub record LeavesLine (old new : Seen) : Type 0 where
  pub on : OnLines old new
  pub local_is : new.local ≡ old.local

abbrev pub LooksAtLine : Seen → Seen → ℕ → Bool → Type 0
LooksAtLine old new line true = ShutsLine old new line
LooksAtLine old new line false = LeavesLine old new

-- it shut all lines
pub record ShutsAll (old new : Seen) : Type 0 where
  pub on : OnLines old new
  pub local_is : new.local ≡ record old.local { shut = 2 ^ 64 - 1 }
