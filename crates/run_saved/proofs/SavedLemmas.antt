-- A saved run that is valid can go on.
use Rattle.std.proofs.Common.{◌≡◌, ℕ, zero, suc, ◌==◌, ◌&&◌, ◌||◌, not, Bool, true, false, IsTrue, All, List, [], ◌∷◌, Option, Some, None, refl, sym, ap, ◌∙◌, subst, arith}
use Rattle.std.specs.Prelude.{slice_get}
use Rattle.std.proofs.lemmas.Bool.{and_parts, eq-eqb}
use Rattle.run_seq.specs.Calls.{passes}
use Rattle.run_seq.specs.GicIdeal.Eager.{state_shapes}
use Rattle.run_seq.specs.GicIdeal.IdealGuests.Words.{GuestShape}
use Rattle.run_seq.specs.GicIdeal.IdealGuests.declared.guest.IdealGuest.{IdealGuest}
use Rattle.run_seq.specs.GicIdeal.ScnBase.declared.pes.VcpuName.{VcpuName}
use Rattle.run_seq.specs.GicIdeal.ScnBase.Standing.{ResidentsExist, is_resident}
use Rattle.run_seq.specs.GicIdeal.ScnBase.Good.{is_formed}
use Rattle.run_seq.specs.GicIdeal.ScnBase.declared.step.Mode.TheVariants.{Schedule}
use Rattle.run_seq.specs.Agenda.{Agenda, CanBeDone, agenda_on, states_in}
use Rattle.run_seq.specs.PortSeq.Told.{SeqTold}
use Rattle.run_seq.specs.GicIdeal.ScnBase.declared.step.Step.{Step}
use Rattle.eager_rest.specs.LawSavesGoOn.SavedTake.SavedGuest.ScnSaved.declared.saved.Saved.{Saved}
use Rattle.eager_rest.specs.LawSavesGoOn.SavedTake.SavedGuest.Standing.{standing_of}
use Rattle.eager_rest.specs.LawSavesGoOn.SavedTake.SavedGuest.Whole.{IsValidSaved, stand_once}
use Rattle.eager_rest.specs.LawSavesGoOn.Resume.{states_of}
use Rattle.eager_rest.proofs.ToldLemmas.{as_many, same_shapes}

-- The PEs.

on_one : (pes : List (Option VcpuName)) (number : ℕ) (name : VcpuName) → slice_get pes number ≡ Some (Some name) → is_resident pes name.guest name.vcpu ≡ true
on_one [] number name is = absurd (cc)
on_one (one ∷ pes) zero name is = ap (λ o. passes (λ (other : VcpuName). other.guest == name.guest && other.vcpu == name.vcpu) o || is_resident pes name.guest name.vcpu) (same one (Some name) is) ∙ ap (λ b. b || is_resident pes name.guest name.vcpu) both
  where
    same : (a b : Option VcpuName) → Some a ≡ Some b → a ≡ b
    same a b e = cc

    both : (name.guest == name.guest && name.vcpu == name.vcpu) ≡ true
    both = ap (λ b. b && name.vcpu == name.vcpu) (eq-eqb name.guest name.guest refl) ∙ eq-eqb name.vcpu name.vcpu refl
on_one (one ∷ pes) (suc number) name is = later (passes (λ (other : VcpuName). other.guest == name.guest && other.vcpu == name.vcpu) one) (is_resident pes name.guest name.vcpu) (on_one pes number name is)
  where
    later : (a b : Bool) → b ≡ true → (a || b) ≡ true
    later true b e = refl
    later false b e = e

not_again : (pes : List (Option VcpuName)) (name : VcpuName) (number : ℕ) → IsTrue (not (is_resident pes name.guest name.vcpu)) → slice_get pes number ≡ Some (Some name) → ⊥
not_again pes name number none is = never (is_resident pes name.guest name.vcpu) none (on_one pes number name is)
  where
    never : (b : Bool) → IsTrue (not b) → b ≡ true → ⊥
    never true none e = cc
    never false none e = cc

same_name : (a b : VcpuName) → Some (Some a) ≡ Some (Some b) → a ≡ b
same_name a b e = cc

once : (pes : List (Option VcpuName)) → IsTrue (stand_once pes) → (one other : ℕ) (name : VcpuName) → slice_get pes one ≡ Some (Some name) → slice_get pes other ≡ Some (Some name) → one ≡ other
once [] all one other name a b = absurd (cc)
once (None ∷ pes) all zero other name a b = absurd (cc)
once (None ∷ pes) all (suc one) zero name a b = absurd (cc)
once (None ∷ pes) all (suc one) (suc other) name a b = ap suc (once pes all one other name a b)
once (Some first ∷ pes) all zero zero name a b = refl
once (Some first ∷ pes) all zero (suc other) name a b =
    absurd (not_again pes first other (and_parts (not (is_resident pes first.guest first.vcpu)) (stand_once pes) all).0 (b ∙ ap (λ n. Some (Some n)) (sym (same_name first name a))))
once (Some first ∷ pes) all (suc one) zero name a b =
    absurd (not_again pes first one (and_parts (not (is_resident pes first.guest first.vcpu)) (stand_once pes) all).0 (a ∙ ap (λ n. Some (Some n)) (sym (same_name first name b))))
once (Some first ∷ pes) all (suc one) (suc other) name a b = ap suc (once pes (and_parts (not (is_resident pes first.guest first.vcpu)) (stand_once pes) all).1 one other name a b)

-- The rest of a run.

abbrev pub agenda_of : Saved → Agenda
agenda_of saved =
    record {
      lrs = saved.scenario.lrs;
      states = states_of saved.scenario.guests saved.state;
      pes = saved.on_pe;
      steps = saved.scenario.steps;
    }

pub saved_can : (saved : Saved) → IsValidSaved saved → CanBeDone (agenda_of saved)
saved_can saved valid =
    let run = valid.run in
    let shapes = same_shapes saved.scenario.guests saved.state run.states in
    let count = as_many saved.scenario.guests saved.state run.states in
    record {
      start =
          record {
            some_list_register = run.some_list_register;
            list_registers = run.list_registers;
            few = omega (arith, count, run.guests);
            few_pes = omega (arith, run.each_pe, run.pes);
            residents = subst (λ (shapes : List GuestShape). ResidentsExist shapes saved.on_pe) (sym shapes) run.residents;
            once = record { same = once saved.on_pe run.once };
          };
      each_step =
          subst (λ n. All (λ step. IsTrue (is_formed Schedule n (state_shapes (states_of saved.scenario.guests saved.state)) step)) saved.scenario.steps) (sym run.each_pe)
          (subst (λ (shapes : List GuestShape). All (λ step. IsTrue (is_formed Schedule saved.scenario.pes shapes step)) saved.scenario.steps) (sym shapes) valid.each_step);
      standing = standing_of saved;
      stands = refl;
      in_turn = valid.in_turn;
    }

-- what is to be done on the port that opened so
pub agenda_is : (saved : Saved) (told : SeqTold) (pes : List (Option VcpuName)) (steps : List Step) (count : ℕ) → states_in told ≡ states_of saved.scenario.guests saved.state → pes ≡ saved.on_pe → steps ≡ saved.scenario.steps
    → agenda_on told (record { guests = count; lrs = saved.scenario.lrs; pes = pes }) steps ≡ agenda_of saved
agenda_is saved told pes steps count states_are pes_are steps_are =
    let agenda : List IdealGuest → List (Option VcpuName) → List Step → Agenda = λ states pes steps. record { lrs = saved.scenario.lrs; states = states; pes = pes; steps = steps } in
    ap (λ states. agenda states pes steps) states_are
    ∙ ap (λ pes. agenda (states_of saved.scenario.guests saved.state) pes steps) pes_are
    ∙ ap (agenda (states_of saved.scenario.guests saved.state) saved.on_pe) steps_are
