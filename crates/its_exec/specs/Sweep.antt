-- Commands that are about several LPIs: what each does to one of them.
use Rattle.std.specs.Prelude.{◌≡◌, ℕ, ◌&&◌, not, Bool, true, false, IsTrue, nat_lt, List, [], Option, Some, None, IfSome, if◌then◌else◌}
use Rattle.std.specs.List.{filter_map}
use Rattle.port_call.specs.Words.{Lpi, GuestShape, has_interrupt, is_number}
use Rattle.port_call.specs.Calls.{Part, parts, lpis_of}
use Rattle.port_call.specs.GicCall.declared.command.Part.TheVariants.{Retarget, Configure}
use Rattle.port_call.specs.Registers.{Command, Mapc, Invall, Movall, collection_of, has_target, Maps}
use Rattle.port_call.specs.Core.{Made, Seen, Adds, shape_of, part_events}
use Rattle.port_call.specs.Memory.{view_by}
use Rattle.its_exec.specs.Known.{IsUntouched, AgreeFound, are_within}
use Rattle.its_exec.specs.Parts.{lpi_of, is_part_of, GoesFirst, Prefix}
use Rattle.its_exec.specs.Command.{DoesParts}
use Rattle.its_exec.specs.Plan.{DoesSome, lpis_end}

-- the part of an LPI, if the command is about it
abbrev pub swept : Maps → (ℕ → Option ℕ) → Command → ℕ → Option Part
swept maps targets (Mapc icid rdbase valid) id = if is_number icid (collection_of maps id) then Some (Retarget id (if valid then Some rdbase else None)) else None
swept maps targets (Invall icid) id = if is_number icid (collection_of maps id) then Some (Configure id) else None
swept maps targets (Movall rdbase second) id = if is_number rdbase (targets id) then Some (Retarget id (Some second)) else None
swept maps targets command id = None

-- the vCPUs that it names are ones of the guest
abbrev pub names_vcpus : GuestShape → Command → Bool
names_vcpus shape (Mapc icid rdbase valid) = if valid then nat_lt rdbase shape.vcpus else true
names_vcpus shape (Movall rdbase second) = nat_lt rdbase shape.vcpus && nat_lt second shape.vcpus
names_vcpus shape command = true

-- a MOVALL goes by the vCPUs that LPIs are for: there is none of one whose collection is not mapped
abbrev pub AreUnmapped : Maps → Command → (ℕ → Option ℕ) → Type 0
AreUnmapped maps (Movall rdbase second) targets = (id : ℕ) → has_target maps id ≡ false → targets id ≡ None
AreUnmapped maps command targets = Unit {0}

-- and does nothing to such an LPI
abbrev pub is_skipped : Maps → Command → ℕ → Bool
is_skipped maps (Movall rdbase second) id = not (has_target maps id)
is_skipped maps command id = false

-- a command that is about the LPIs of a collection or of a vCPU
abbrev pub is_sweep : Command → Bool
is_sweep (Mapc icid rdbase valid) = true
is_sweep (Invall icid) = true
is_sweep (Movall rdbase second) = true
is_sweep command = false

-- the actor found whether the command is about an LPI, and what it does to it
pub record Picks (old new : Seen) (maps : Maps) (command : Command) (id : ℕ) (part : Option Part) : Type 0 where
  pub steps : List Made
  pub before : (address : ℕ) → Prefix old new address id steps
  pub silent : part_events old steps ≡ []
  pub skips : IsTrue (is_skipped maps command id) → (new ≡ old) × (part ≡ None)
  pub is : (targets : ℕ → Option ℕ) → AgreeFound new targets → AreUnmapped maps command targets → swept maps targets command id ≡ part
  pub goes : IfSome part (λ part. IsTrue (is_part_of (shape_of old) part) × (lpi_of part ≡ id) × GoesFirst new part)
  pub among :
      IfSome part (λ part. (later : Seen) (more : List Made) → Adds new later more → IsTrue (are_within more)
      → swept maps (view_by later).targets command id ≡ Some part)

-- and did it
pub record SweepsLpi (old new : Seen) (address : ℕ) (maps : Maps) (command : Command) (id : ℕ) : Type 0 where
  pub mid : Seen
  pub part : Option Part
  pub picks : Picks old mid maps command id part
  pub does : DoesSome mid new address part

-- the parts of all LPIs, in rising INTID
abbrev pub swept_parts : GuestShape → Maps → (ℕ → Option ℕ) → Command → List Part
swept_parts shape maps targets command = filter_map (swept maps targets command) (lpis_of shape)

-- the actor did the parts of all LPIs, where they are the parts of the command
pub record SweepsAll (old new : Seen) (address : ℕ) (tables : Maps) (command : Command) : Type 0 where
  pub done : List Part
  pub skips : (id : ℕ) → IsTrue (has_interrupt (shape_of old) (Lpi id)) → IsTrue (is_skipped tables command id) → IsUntouched new id
  pub all : (targets : ℕ → Option ℕ) → AgreeFound new targets → AreUnmapped tables command targets → swept_parts (shape_of old) tables targets command ≡ done
  pub does :
      (maps : Maps) → ((targets : ℕ → Option ℕ) → parts (shape_of old) maps targets command ≡ swept_parts (shape_of old) tables targets command)
      → DoesParts old new address maps command (lpis_end (shape_of old)) done
