-- How far an actor has gone since its guest opened (own choice).
use Rattle.std.specs.Prelude.{◌≡◌, ℕ, IsTrue, List, All}
use Rattle.pe_place.specs.Core.{has_registers, Progress, opening_progress, progress_of, IsProper, Seen, Adds, shape_of}
use Rattle.pe_place.specs.LawEagerIsHistory.Calls.{Made}
use Rattle.pe_place.specs.Calls.{calls_in}
use Rattle.pe_place.specs.Parts.{Part, AreCalls, IsSent, acts_in, steps_in}

-- since it opened so, an actor did some parts, one after the other, and nothing else: each is its call, of a vCPU on a PE with so many list registers (of a device 0), and a
-- message to the ITS goes one of its ways; they are proper, those of steps are these calls, and its protocol is so after them
pub record HasGone (lrs : ℕ) (from seen : Seen) (Followed : Progress → Type 0) (calls : List Made) : Type 0 where
  pub parts : List Part
  pub adds : Adds from seen (steps_in parts)
  pub registers : IsTrue (has_registers (shape_of from) from.actor lrs)
  pub on : All (λ part. part.lrs ≡ lrs) parts
  pub sent : All (λ part. IsSent (shape_of from) part.operation part.steps) parts
  pub are : AreCalls from parts
  pub proper : IsProper (shape_of from) from.actor (opening_progress from.guest from.number from.actor) (acts_in parts)
  pub calls_are : calls_in parts ≡ calls
  pub followed : Followed (progress_of (shape_of from) from.actor (opening_progress from.guest from.number from.actor) (acts_in parts))
