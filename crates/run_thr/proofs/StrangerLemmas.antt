-- The steps of a scenario are of actors that its guests have.
use Rattle.std.proofs.Common.{◌≡◌, ℕ, ◌+◌, ◌<◌, ◌≤◌, ◌==◌, ◌&&◌, Bool, true, false, IsTrue, All, if◌then◌else◌, List, [], ◌∷◌, Some, nat_lt, refl, ap, subst, ◌∙◌, arith}
use Rattle.std.specs.Prelude.{slice_get}
use Rattle.std.proofs.lemmas.Bool.{eqb-true, ne_eqb}
use Rattle.std.proofs.lemmas.List.Elements.{All-head, All-tail}
use Rattle.law_threads_are_history.specs.LawEagerIsHistory.Calls.{Made, own_steps}
use Rattle.law_threads_are_history.specs.Words.{DeviceOp, GuestOp, GuestShape}
use Rattle.law_threads_are_history.proofs.GicFrame.TestLemmas.{left, under}
use Rattle.law_threads_are_history.specs.Core.{actor_count}
use Rattle.law_threads_are_history.specs.GicGuest.declared.outcome.Answer.{Answer}
use Rattle.law_threads_are_history.specs.ScnBase.declared.step.Mode.{Mode}
use Rattle.law_threads_are_history.specs.ScnBase.declared.step.Step.{Step}
use Rattle.law_threads_are_history.specs.ScnBase.declared.step.Step.TheVariants.{Vcpu, Device, Pe}
use Rattle.law_threads_are_history.specs.ScnBase.Good.{is_formed}
use Rattle.law_threads_are_history.specs.Calls.{is_good_event, is_good_op, passes}

module _ (mode : Mode) (pes : ℕ) (shapes : List GuestShape) (number actor : ℕ) (shape : GuestShape) (here : slice_get shapes number ≡ Some shape) (past : actor_count shape ≤ actor) where
  abbrev Formed : Step → Type 0
  Formed step = IsTrue (is_formed mode pes shapes step)

  -- what a step's guest passes, this one passes where it is the step's
  passed : (test : GuestShape → Bool) (guest : ℕ) → guest ≡ number → IsTrue (passes test (slice_get shapes guest)) → IsTrue (test shape)
  passed test guest same pass = subst (λ found. IsTrue (passes test found)) here (subst (λ n. IsTrue (passes test (slice_get shapes n))) same pass)

  -- a step of another is not of this actor
  other : (guest doer : ℕ) (calls rest : List Made) → (guest ≡ number → doer < actor_count shape) → rest ≡ [] → (if guest == number && doer == actor then calls else rest) ≡ []
  other guest doer calls rest there none = of (guest == number) refl
    where
      of : (is : Bool) → (guest == number) ≡ is → (if is && doer == actor then calls else rest) ≡ []
      of false e = none
      of true e =
          let few = there (eqb-true guest number e) in
          let apart : (doer == actor) ≡ false = ne_eqb doer actor (λ same. absurd (omega (arith, few, past, same))) in
          ap (λ is. if is then calls else rest) apart ∙ none

  vcpu_there : (guest vcpu : ℕ) (op : GuestOp) → Formed (Vcpu guest vcpu op) → guest ≡ number → vcpu < actor_count shape
  vcpu_there guest vcpu op formed same =
      let few = under vcpu shape.vcpus (left (nat_lt vcpu shape.vcpus) (is_good_op shape op) (passed (λ shape. nat_lt vcpu shape.vcpus && is_good_op shape op) guest same formed)) in
      omega (arith, few)

  device_there : (guest device : ℕ) (op : DeviceOp) → Formed (Device guest device op) → guest ≡ number → shape.vcpus + device < actor_count shape
  device_there guest device op formed same =
      let few = under device shape.devices (left (nat_lt device shape.devices) (is_good_event shape op) (passed (λ shape. nat_lt device shape.devices && is_good_event shape op) guest same formed)) in
      omega (arith, few)

  -- so they give nothing to an actor that is not there
  pub no_steps : (steps : List Step) (answers : List Answer) → All Formed steps → own_steps shape number actor steps answers ≡ []
  no_steps [] answers formed = refl
  no_steps (Vcpu guest vcpu op ∷ steps) [] formed = refl
  no_steps (Device guest device op ∷ steps) [] formed = refl
  no_steps (Pe pe op ∷ steps) [] formed = refl
  no_steps (Vcpu guest vcpu op ∷ steps) (answer ∷ answers) formed =
      other guest vcpu _ (own_steps shape number actor steps answers) (vcpu_there guest vcpu op (All-head Formed (Vcpu guest vcpu op) steps formed)) (no_steps steps answers (All-tail Formed (Vcpu guest vcpu op) steps formed))
  no_steps (Device guest device op ∷ steps) (answer ∷ answers) formed =
      other guest (shape.vcpus + device) _ (own_steps shape number actor steps answers) (device_there guest device op (All-head Formed (Device guest device op) steps formed)) (no_steps steps answers (All-tail Formed (Device guest device op) steps formed))
  no_steps (Pe pe op ∷ steps) (answer ∷ answers) formed = no_steps steps answers (All-tail Formed (Pe pe op) steps formed)
