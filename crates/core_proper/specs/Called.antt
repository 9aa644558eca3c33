-- What a call over a port says of the part that it adds to its actor's list (own choice).
use Rattle.std.specs.Prelude.{◌≡◌, ℕ, IsTrue, List, [], ◌∷◌, ◌++◌, filter_map, Option, Some, None, if◌then◌else◌, slice_index_or, false}
use Rattle.floor_histories.specs.Words.{GuestShape, Lpi, Msi}
use Rattle.floor_histories.specs.Calls.{Operation, Device, Beside, IsCall}
use Rattle.floor_histories.specs.Registers.{Maps}
use Rattle.port_core.specs.CoreWords.declared.line.Entered.{Entered}
use Rattle.port_core.specs.declared.run.Made.{Made}
use Rattle.port_core.specs.declared.step.CoreStep.TheVariants.{Raise}
use Rattle.port_core.specs.Known.{no_maps}
use Rattle.port_core.specs.Local.{is_vcpu}
use Rattle.port_core.specs.Port.{Seen, shape_of, part_events, seen_after}
use Rattle.core_proper.specs.Parts.{part_of}
use Rattle.core_proper.specs.Progress.{Progress}
use Rattle.core_proper.specs.Proper.{IsProper}
use Rattle.core_proper.specs.Scan.{is_idle}

-- the vCPU that an actor is, if it is one
abbrev pub vcpu_of_actor : GuestShape → ℕ → Option ℕ
vcpu_of_actor shape actor = if is_vcpu shape actor then Some actor else None

-- the maps that the ITS has as the part takes it; none where it does not
abbrev pub maps_taken : List Made → Maps
maps_taken part = slice_index_or (filter_map (λ made. made.tables) part) 0 no_maps

-- the part makes the events of the call, with its answer; a message-signalled interrupt takes the ITS
pub record MakesCall (seen : Seen) (part : List Made) (operation : Operation) (answer : Option ℕ) : Type 0 where
  pub beside : Beside
  pub maps : beside.maps ≡ maps_taken part
  pub signals : beside.signals ≡ false
  pub call : IsCall (shape_of seen) beside (vcpu_of_actor (shape_of seen) seen.actor) operation (part_events seen part) answer

-- the part is that of a message-signalled interrupt whose device found in a translation line which LPI the message becomes: it raises that while it is in the
-- line, and its other steps stand for nothing
pub record MakesPost (seen : Seen) (part : List Made) (operation : Operation) (answer : Option ℕ) : Type 0 where
  pub entered : Entered
  pub early : List Made
  pub raise : Made
  pub late : List Made
  pub split : part ≡ early ++ raise ∷ late
  pub inside : (seen_after seen early).local.line ≡ Some entered
  pub raises : raise.step ≡ Raise (Lpi entered.lpi)
  pub message : operation ≡ Device (Msi entered.pair.0 entered.pair.1)
  pub before : part_events seen early ≡ []
  pub after : part_events (seen_after seen (early ++ raise ∷ [])) late ≡ []
  pub answers : answer ≡ None

-- the actor's protocol so far is that of what its port tells, and nothing of it is in progress
pub record IsAtRest (seen : Seen) (p : Progress) : Type 0 where
  pub local : p.local ≡ seen.local
  pub own : p.own ≡ seen.own
  pub scan : IsTrue (is_idle p.scan)
  pub wants : p.wants ≡ []

-- the part is proper, on a PE with so many list registers, or of a device with none
abbrev pub IsProperPart : Seen → List Made → Operation → ℕ → Option ℕ → Type 0
IsProperPart seen part operation lrs answer =
    (p : Progress) → IsAtRest seen p → IsProper (shape_of seen) seen.actor p (part_of operation lrs part answer)
