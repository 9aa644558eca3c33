-- Where an actor looks at an LPI by whose vCPU it goes: after it was done with those before it, and before it touches it and those after it (own choice).
use Rattle.std.specs.Prelude.{◌≡◌, ℕ, Bool, true, false, IsTrue, nat_le, nat_lt, List, [], ◌∷◌, ◌++◌, Option}
use Rattle.std.specs.List.{list_all}
use Rattle.its_exec.specs.Words.{Lpi, target_in, irq_of}
use Rattle.its_exec.specs.Calls.{Event, Enable, Touch, Happened}
use Rattle.its_exec.specs.Core.{Made, Look, Irq, Seen, part_events, seen_after, shape_of}

-- an event that may come before the look at an LPI: it touches none from that on
abbrev pub comes_before : ℕ → Event → Bool
comes_before id (Touch (Lpi other) touching) = nat_lt other id
comes_before id event = true

-- and one that may come after it: it touches none before that, and stores no EnableLPIs
abbrev pub comes_after : ℕ → Event → Bool
comes_after id (Touch (Lpi other) touching) = nat_le id other
comes_after id (Enable vcpu) = false
comes_after id event = true

abbrev pub all_events : (Event → Bool) → List Happened → Bool
all_events test events = list_all (λ (happened : Happened). test happened.event) events

-- among its steps an actor looked at an LPI in its place, and found it to be for this vCPU, or for none
pub record IsLookedAt (seen : Seen) (steps : List Made) (id : ℕ) (target : Option ℕ) : Type 0 where
  pub early : List Made
  pub look : Made
  pub late : List Made
  pub split : steps ≡ early ++ look ∷ late
  pub step_is : look.step ≡ Look (Irq (Lpi id))
  pub target_is : target ≡ target_in (irq_of look.found).route (shape_of seen)
  pub before : IsTrue (all_events (comes_before id) (part_events seen early))
  pub after : IsTrue (all_events (comes_after id) (part_events (seen_after seen (early ++ look ∷ [])) late))
