-- All of an image but its steps.
use Rattle.std.proofs.Common.{◌≡◌, ℕ, zero, suc, ◌<◌, ◌≤◌, true, IsTrue, Option, Some, None, List, [], ◌∷◌, All, length, get_or, nat_lt, refl, ap, arith}
use Rattle.std.specs.List.{slice_get}
use Rattle.std.specs.Option.{option_map_or}
use Rattle.std.proofs.lemmas.Grind.{common_steps}
use Rattle.std.proofs.lemmas.List.Elements.{All-head, All-tail, All-map, All-weaker}
use Rattle.serde_json.specs.Data.{Data}
use Rattle.serde_json.proofs.OnLiterals.{serde_json_on_literals}
use Rattle.gic_resume.specs.Reading.{IsHeadOf}
use Rattle.saved_check.specs.SavedGuest.IdealGuests.Words.{GuestShape, IsShape}
use Rattle.saved_check.specs.SavedGuest.IdealGuests.Calls.{GuestSpec, IsGoodGuest, shapes_of}
use Rattle.saved_check.specs.SavedGuest.IdealGuests.GicGuest.Good.{passes}
use Rattle.saved_check.specs.SavedGuest.ScnSaved.ScnBase.declared.pes.VcpuName.{VcpuName}
use Rattle.saved_check.specs.SavedGuest.ScnSaved.ScnBase.Standing.{has_vcpu}
use Rattle.saved_check.specs.SavedGuest.ScnSaved.declared.saved.Saved.{Saved}
use Rattle.saved_check.specs.SavedGuest.Whole.{IsValidRun}
use Rattle.image_read.specs.Fits.{IsShortResident}
use Rattle.image_read.specs.Tells.{AreShort, counts_of, TellsHead, without_steps}

at : {d : List (Option Data)} {m : List (Option Data)} (k : ℕ) → d ≡ m → get_or d k None ≡ get_or m k None
at k e = ap (λ l. get_or l k None) e

pub told_head_of : (d : Data) (saved : Saved) → IsHeadOf d saved → TellsHead d saved
unfolding serde_json_on_literals
told_head_of d saved head =
    record {
      form = record { version = at 0 head.members; listed = head.listed };
      counts = record { pes = at 1 head.members; lrs = at 2 head.members; done = at 3 head.members; reads = at 4 head.members };
      on_pe = at 5 head.members;
      guests = head.guests;
    }

pub head_told : (d : Data) (saved : Saved) → TellsHead d saved → IsHeadOf d saved
unfolding serde_json_on_literals
head_told d saved tells =
    record {
      members = λ i. tells.form.version i ∷ tells.counts.pes i ∷ tells.counts.lrs i ∷ tells.counts.done i ∷ tells.counts.reads i ∷ tells.on_pe i ∷ [];
      guests = tells.guests;
      listed = tells.form.listed;
    }

-- ---- numbers that fit

pub counts_short : (rest : ℕ) (saved : Saved) → IsValidRun rest saved → AreShort (counts_of saved)
counts_short rest saved valid =
    record {
      pes = omega (arith, valid.pes);
      lrs = omega (arith, valid.list_registers);
      done = omega (arith, valid.steps);
      reads = omega (arith, valid.reads, valid.steps);
    }

name_short : (shapes : List GuestShape) (guest vcpu : ℕ) → All IsShape shapes → passes (λ shape. nat_lt vcpu shape.vcpus) (slice_get shapes guest) ≡ true → (guest < length shapes) × (vcpu < 32)
name_short [] guest vcpu all h = absurd (cc)
name_short (shape ∷ shapes) zero vcpu all h =
    let is = All-head IsShape shape shapes all in
    let below : vcpu < shape.vcpus = grind (arith, common_steps) in
    (omega arith, omega (arith, below, is.vcpus))
name_short (shape ∷ shapes) (suc guest) vcpu all h = let further = name_short shapes guest vcpu (All-tail IsShape shape shapes all) h in (omega (arith, further.0), further.1)

resident_short : (any : GuestShape) (shapes : List GuestShape) (resident : Option VcpuName) → All IsShape shapes → length shapes ≤ 4 → IsTrue (option_map_or (λ name. has_vcpu shapes name.guest name.vcpu) resident true) → IsShortResident any resident
resident_short any shapes None all few h = tt
resident_short any shapes (Some name) all few h = let small = name_short shapes name.guest name.vcpu all h in (omega (arith, small.0, few), omega (arith, small.1))

pub shapes_good : (guests : List GuestSpec) → All IsGoodGuest guests → All IsShape (shapes_of guests)
shapes_good guests good = All-map IsShape (λ (guest : GuestSpec). guest.shape) guests (All-weaker IsGoodGuest (λ guest. IsShape guest.shape) (λ guest good. good.shape) guests good)

length-shapes : (guests : List GuestSpec) → length (shapes_of guests) ≡ length guests
length-shapes [] = refl
length-shapes (guest ∷ guests) = let more = length-shapes guests in omega (arith, more)

pub residents_short : (any : GuestShape) (rest : ℕ) (saved : Saved) → IsValidRun rest saved → All (IsShortResident any) saved.on_pe
residents_short any rest saved valid =
    let long = length-shapes saved.scenario.guests in
    All-weaker (λ resident. IsTrue (option_map_or (λ name. has_vcpu (shapes_of saved.scenario.guests) name.guest name.vcpu) resident true)) (IsShortResident any)
    (λ resident h. resident_short any (shapes_of saved.scenario.guests) resident (shapes_good saved.scenario.guests valid.each_guest) (omega (arith, long, valid.guests)) h) saved.on_pe valid.residents

pub record AnyShape : Type 0 where
  pub shape : GuestShape
  pub is : IsShape shape

pub any_shape : (guests : List GuestSpec) → 1 ≤ length guests → All IsGoodGuest guests → AnyShape
any_shape [] some good = absurd (omega arith)
any_shape (guest ∷ guests) some good = record { shape = guest.shape; is = (All-head IsGoodGuest guest guests good).shape }

-- a run is as valid without its steps
pub valid_without : (rest : ℕ) (saved : Saved) → IsValidRun rest saved → IsValidRun rest (without_steps saved)
valid_without rest saved valid =
    record {
      some_pe = valid.some_pe;
      pes = valid.pes;
      some_list_register = valid.some_list_register;
      list_registers = valid.list_registers;
      some_guest = valid.some_guest;
      guests = valid.guests;
      each_guest = valid.each_guest;
      each_pe = valid.each_pe;
      residents = valid.residents;
      once = valid.once;
      states = valid.states;
      reads = valid.reads;
      steps = valid.steps;
    }
