-- Which moments the program follows.
use Rattle.legal_steps.specs.Words.{GuestShape}
use Rattle.legal_steps.specs.Calls.{Moment, Happens, CanHappen}

-- the guest can have it
abbrev pub CanPass : GuestShape → Moment → Type 0
CanPass shape (Happens actor event found) = CanHappen shape event
CanPass shape moment = Unit {0}
