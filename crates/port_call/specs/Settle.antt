-- What an actor owes is sent: its marks, and then its kicks.
use Rattle.std.specs.Prelude.{◌≡◌, ℕ, ◌++◌, ◌<◌, IsTrue, List, [], ◌∷◌, map, filter, if◌then◌else◌, Some}
use Rattle.std.specs.List.{range_with_len}
use Rattle.std.specs.Option.{option_map_or}
use Rattle.floor_core.specs.Registers.{Targets}
use Rattle.floor_core.specs.Words.{Key, GuestShape, has_bit}
use Rattle.floor_core.specs.Core.{Local, Made, CoreStep, Kick, Mark, no_vcpus, without_vcpu, settled, Seen, Adds, shape_of, part_events}
use Rattle.port_call.specs.Piece.{steps_of, takes_none, IsPiece}

-- the vCPUs of a set, in rising order
abbrev pub vcpus_in : Targets → List ℕ
vcpus_in set = filter (has_bit set.0) (range_with_len 0 32)

-- the first of them
pub record IsFirst (set : Targets) (vcpu : ℕ) : Type 0 where
  pub below : vcpu < 32
  pub member : IsTrue (has_bit set.0 vcpu)
  pub rest : vcpus_in set ≡ vcpu ∷ vcpus_in (without_vcpu set vcpu)

-- the first mark that an actor owes
pub record IsNextMark (local : Local) (key : Key) (vcpu : ℕ) : Type 0 where
  pub key_is : local.marks.key ≡ Some key
  pub first : IsFirst local.marks.vcpus vcpu

-- the marks that are owed, and the kicks
abbrev pub marks_owed : Local → List CoreStep
marks_owed local = option_map_or (λ key. map (Mark key) (vcpus_in local.marks.vcpus)) local.marks.key []

abbrev pub kicks_owed : Local → List CoreStep
kicks_owed local = map Kick (vcpus_in local.owes)

-- an actor that sent all marks: where one was for itself, the interrupt is no candidate any more
abbrev pub marks_sent : GuestShape → ℕ → Local → Local
marks_sent shape actor local =
    record local {
      marks = record local.marks { vcpus = no_vcpus };
      cands = if has_bit local.marks.vcpus.0 actor then option_map_or (λ key. settled shape actor key local.cands) local.marks.key local.cands else local.cands;
    }

-- an actor that sent all kicks
abbrev pub kicks_sent : Local → Local
kicks_sent local = record local { owes = no_vcpus }

-- an actor made these steps, none of which took the ITS, and is then so
pub record Sends (old new : Seen) (steps : List CoreStep) (local : Local) : Type 0 where
  pub part : List Made
  pub adds : Adds old new part
  pub steps_are : steps_of part ≡ steps
  pub local_is : new.local ≡ local
  pub none_taken : IsTrue (takes_none part)

-- an actor sent the marks that it owed, each to its vCPU in rising order, and then so the kicks; no event is to be seen of it, and it is proper where no
-- scan is in progress
pub record Settles (old new : Seen) : Type 0 where
  pub marks : List Made
  pub kicks : List Made
  pub adds : Adds old new (marks ++ kicks)
  pub marks_are : steps_of marks ≡ marks_owed old.local
  pub kicks_are : steps_of kicks ≡ kicks_owed old.local
  pub local_is : new.local ≡ kicks_sent (marks_sent (shape_of old) old.actor old.local)
  pub none_taken : IsTrue (takes_none (marks ++ kicks))
  pub silent : part_events old (marks ++ kicks) ≡ []
  pub piece : IsPiece old (marks ++ kicks)
