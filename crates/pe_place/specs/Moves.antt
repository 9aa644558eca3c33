-- What a vCPU did over its port, in whole parts (own choice).
use Rattle.std.specs.Prelude.{◌≡◌, ℕ, Bool, false, List, [], ◌∷◌, ◌++◌, map, All}
use Rattle.gic_msi.specs.Core.{Made, Look, Vcpu, vcpu_of, Seen, Adds, shape_of, Progress, progress_of, IsProper}
use Rattle.pe_op.specs.PeLoop.Steps.{IsEntryPart}
use Rattle.pe_op.specs.PeIcc.Amid.{IsRunning}
use Rattle.pe_op.specs.VcpuState.declared.loaded.Loaded.{Loaded}
use Rattle.law_serial_is_eager.specs.Serial.{WholePart}
use Rattle.pe_place.specs.declared.place.Place.{Place}
use Rattle.pe_place.specs.declared.place.Place.TheVariants.{Shelf, Aside, Pe}
use Rattle.pe_place.specs.Parts.{Part, residence, steps_in, acts_in, AreCalls, by_actor, AreResidences}
use Rattle.pe_place.specs.Place.{IsAt, IsFollowed, HasRegisters}

-- a vCPU did some parts, one after the other, that are so: each is its call, they are proper wherever its protocol was as its place says, and it is where its place
-- says after them, with its protocol so far
pub record Moves (Are : List WholePart → Type 0) (old new : Seen) (before after : Place) : Type 0 where
  pub parts : List Part
  pub are : Are (map (by_actor old.actor) parts)
  pub registers : (lrs : ℕ) → HasRegisters lrs before → HasRegisters lrs after → All (λ part. part.lrs ≡ lrs) parts
  pub adds : Adds old new (steps_in parts)
  pub calls : AreCalls old parts
  pub proper : (p : Progress) → IsFollowed old before p → IsProper (shape_of old) old.actor p (acts_in parts)
  pub goes_on : (p : Progress) → IsFollowed old before p → IsFollowed new after (progress_of (shape_of old) old.actor p (acts_in parts))
  pub at : IsAt new after

-- a vCPU on a PE left it and entered it again, in one part; since the look for a kick in that entry it began no scan of trap mode
pub record Reenters (old new : Seen) (before after : Loaded) : Type 0 where
  pub moves : Moves AreResidences old new (Pe before) (Pe after)
  pub exit : List Made
  pub entry : List Made
  pub entry_is : IsEntryPart old.actor entry
  pub alone : moves.parts ≡ residence before.regs.n (exit ++ entry) ∷ []
  pub untrapped : (p : Progress) → IsRunning old before p → (progress_of (shape_of old) old.actor p (acts_in moves.parts)).scanned ≡ false

-- of one that is on none, this is not said
abbrev pub ReentersAt : Seen → Seen → Place → Place → Type 0
ReentersAt old new (Pe before) (Pe after) = Reenters old new before after
ReentersAt old new before after = ⊥

-- a vCPU looked whether it is kicked, by its own word
pub record LooksForKick (old new : Seen) (kicked : Bool) : Type 0 where
  pub look : Made
  pub step_is : look.step ≡ Look (Vcpu old.actor)
  pub adds : Adds old new (look ∷ [])
  pub kick : kicked ≡ (vcpu_of look.found).kick

-- it did, on a PE, and that is a part of its own
pub record LooksOnce (old new : Seen) (vcpu : Loaded) (kicked : Bool) : Type 0 where
  pub looks : LooksForKick old new kicked
  pub moves : Moves AreResidences old new (Pe vcpu) (Pe vcpu)
  pub alone : moves.parts ≡ residence vcpu.regs.n (looks.look ∷ []) ∷ []

-- where a vCPU was on a PE it was not kicked, and did no more than look for that; else it did nothing
abbrev pub WasNotKicked : Seen → Seen → Place → Place → Type 0
WasNotKicked old new (Shelf vcpu) after = (new ≡ old) × (after ≡ Shelf vcpu)
WasNotKicked old new (Aside vcpu) after = (new ≡ old) × (after ≡ Aside vcpu)
WasNotKicked old new (Pe vcpu) after = LooksOnce old new vcpu false × (after ≡ Pe vcpu)
