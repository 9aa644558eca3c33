-- A call that is no access goes by no vCPU that an LPI is for.
use Rattle.std.proofs.Common.{◌≡◌, ℕ, List, Option, Some, None, refl, sym, ◌∙◌, ◌⊎◌, inl, inr, true, false}
use Rattle.gic_msi.specs.Words.{DeviceOp, GuestShape, Message, Wire, Msi}
use Rattle.gic_msi.specs.Calls.{Device, Residence, Beside, Happened, IsCall, MakesMsi, RaisesAlone}
use Rattle.gic_msi.specs.Core.{Made, Seen, shape_of, part_events, MakesCall, MakesPost, vcpu_of_actor}
use Rattle.pe_op.specs.PeMem.Found.{IsCallAsFound}
use Rattle.pe_place.specs.Parts.{IsPartFound}
use Rattle.pe_op.proofs.PeMem.FoundLemmas.{found_by_none}

any_residence :
    (shape : GuestShape) (one other : Beside) (actor : Option ℕ) (piece : List Happened) (answer : Option ℕ) → IsCall shape one actor Residence piece answer → IsCall shape other actor Residence piece answer
any_residence shape one other (Some vcpu) piece answer is = is
any_residence shape one other None piece answer is = absurd is

pub residence_call : (seen : Seen) (steps : List Made) (answer : Option ℕ) → MakesCall seen steps Residence answer → IsCallAsFound seen steps Residence answer
residence_call seen steps answer makes =
    found_by_none seen steps Residence answer refl (λ beside maps. any_residence (shape_of seen) makes.beside beside (vcpu_of_actor (shape_of seen) seen.actor) (part_events seen steps) answer makes.call)

same_device :
    (shape : GuestShape) (one other : Beside) (actor : Option ℕ) (op : DeviceOp) (piece : List Happened) (answer : Option ℕ) → one.maps ≡ other.maps → one.signals ≡ false → IsCall shape one actor (Device op) piece answer → IsCall shape other actor (Device op) piece answer
same_device shape one other (Some vcpu) op piece answer same none is = absurd is
same_device shape one other None (Message spi) piece answer same none is = record { view = is.view; maps = is.maps ∙ same; made = is.made; answers = is.answers }
same_device shape one other None (Wire key up) piece answer same none is = record { view = is.view; maps = is.maps ∙ same; made = is.made; answers = is.answers }
same_device shape one other None (Msi device event) piece answer same none is = of is.made
  where
    of : MakesMsi is.view device event piece ⊎ RaisesAlone one.signals is.view piece → IsCall shape other None (Device (Msi device event)) piece answer
    of (inl made) = record { view = is.view; maps = is.maps ∙ same; made = inl made; answers = is.answers }
    of (inr alone) = let no : true ≡ false = sym alone.right ∙ none in absurd (cc)

pub device_call : (seen : Seen) (op : DeviceOp) (steps : List Made) (answer : Option ℕ) → MakesCall seen steps (Device op) answer → IsCallAsFound seen steps (Device op) answer
device_call seen op steps answer makes =
    found_by_none seen steps (Device op) answer refl
    (λ beside maps. same_device (shape_of seen) makes.beside beside (vcpu_of_actor (shape_of seen) seen.actor) op (part_events seen steps) answer (makes.maps ∙ sym maps) makes.signals makes.call)

-- a part of a device, in either form
pub device_found : (seen : Seen) (op : DeviceOp) (steps : List Made) → MakesCall seen steps (Device op) None ⊎ MakesPost seen steps (Device op) None
    → IsPartFound seen (record { operation = Device op; lrs = 0; steps = steps; answer = None })
device_found seen op steps (inl made) = inl (record { made = made; found = device_call seen op steps None made })
device_found seen op steps (inr post) = inr post
