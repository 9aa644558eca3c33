-- States that differ in the number of a fault by which nothing is stalled (own choice).
use Rattle.std.specs.Prelude.{◌≡◌, ℕ, List, [], ◌∷◌, slice_set, Bool, true, Option, ⊤}
use Rattle.gic_ideal.specs.ScnBase.declared.step.Step.{Step}
use Rattle.gic_ideal.specs.ScnBase.declared.pes.VcpuName.{VcpuName}
use Rattle.gic_ideal.specs.IdealGuests.Words.{GuestShape}
use Rattle.gic_ideal.specs.IdealGuests.declared.guest.IdealGuest.{IdealGuest}
use Rattle.gic_ideal.specs.IdealGuests.Calls.{Fault, place_of_plain}
use Rattle.gic_ideal.specs.Eager.{eager_from}

-- the plain words are the same but for the number of a fault, and that is the same too where the queue is stalled by it
pub record AreAlike (shape : GuestShape) (is_stalled : Bool) (one other : List ℕ) : Type 0 where
  pub rest : slice_set one (place_of_plain shape Fault) 0 ≡ slice_set other (place_of_plain shape Fault) 0
  pub fault : is_stalled ≡ true → one ≡ other

-- so are two states, which are the same else
pub record IsAlike (one other : IdealGuest) : Type 0 where
  pub words : AreAlike other.shape other.is_stalled one.words other.words
  pub same : one ≡ record other { words = one.words }

-- each state is as the other of its number
abbrev pub AreAllAlike : List IdealGuest → List IdealGuest → Type 0
AreAllAlike [] [] = ⊤
AreAllAlike [] (other ∷ others) = ⊥
AreAllAlike (one ∷ ones) [] = ⊥
AreAllAlike (one ∷ ones) (other ∷ others) = IsAlike one other × AreAllAlike ones others

-- law: runs from such states answer the same, and end in the same lines
abbrev pub PastFaultsDoNotMatter : Type 0
PastFaultsDoNotMatter =
    (lrs : ℕ) (pes : List (Option VcpuName)) (steps : List Step) (opened ones others : List IdealGuest) → AreAllAlike ones others → eager_from lrs pes steps opened ones ≡ eager_from lrs pes steps opened others
