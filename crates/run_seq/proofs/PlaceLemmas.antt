-- A step of a PE, by its operation and by who stands there; and a step once its PEs are noted.
use Rattle.std.proofs.Common.{◌≡◌, ℕ, List, Option, Some, None, refl, sym, ap, ◌∙◌, subst}
use Rattle.law_ends_agree.specs.Words.{PeOp, Enter, Exit, Lrs}
use Rattle.law_ends_agree.specs.GicGuest.declared.outcome.Answer.{Answer}
use Rattle.law_ends_agree.specs.GicGuest.declared.outcome.Answer.TheVariants.{Nothing}
use Rattle.law_ends_agree.specs.ScnBase.declared.pes.VcpuName.{VcpuName}
use Rattle.law_ends_agree.specs.ScnBase.declared.step.Step.{Step}
use Rattle.law_ends_agree.specs.ScnBase.declared.step.Step.TheVariants.{Vcpu, Device, Pe}
use Rattle.law_ends_agree.specs.ScnBase.Standing.{pes_after, resident_of, vcpu_name}
use Rattle.law_one_thread_is_eager.specs.PortSeq.declared.port.SeqPort.{SeqPort}
use Rattle.law_one_thread_is_eager.specs.PortSeq.Ports.{told_all}
use Rattle.law_one_thread_is_eager.specs.PortSeq.Told.{SeqTold}
use Rattle.law_one_thread_is_eager.specs.PePlace.Place.{entered, left}
use Rattle.run_seq.specs.declared.machine.Machine.{Machine}
use Rattle.run_seq.specs.Acts.{ActsAs, Exits, HasLoaded, HasVcpu, MovesVcpu, Places, ShowsPe}
use Rattle.run_seq.specs.Machine.{DoesStep, GuestActs, HasDoneStep, IsReady}
use Rattle.run_seq.proofs.ActLemmas.{acts_step}
use Rattle.run_seq.proofs.ReadyLemmas.{can_enter, stands_loaded}

module _ (machine : Machine) (told : SeqTold) (pe : ℕ) (op : PeOp) where
  pub who_enters : (guest vcpu : ℕ) → op ≡ Enter guest vcpu → IsReady machine told (Pe pe op) → HasVcpu machine told (vcpu_name guest vcpu)
  who_enters guest vcpu is ready = can_enter machine told pe guest vcpu (subst (λ op. IsReady machine told (Pe pe op)) is ready)

  pub who_stands : (name : VcpuName) → resident_of machine.pes pe ≡ Some name → IsReady machine told (Pe pe op) → HasLoaded machine told name
  who_stands name on ready = let of = ready.of in stands_loaded of.states of.lrs machine told of.parts of.ideals of.at pe name on

  module _ (next : Machine) (later : SeqTold) where
    abbrev Acts : Answer → PeOp → Type 0
    Acts answer op = ActsAs machine next told later (Pe pe op) answer

    pub has_entered : (guest vcpu : ℕ) → op ≡ Enter guest vcpu → GuestActs guest (MovesVcpu vcpu entered) machine next told later → ActsAs machine next told later (Pe pe op) Nothing
    has_entered guest vcpu is acts =
        let does : Places machine next told later (vcpu_name guest vcpu) entered Nothing = record { answer_is = refl; acts = acts } in
        subst (Acts Nothing) (sym is) does

    pub has_left : (name : VcpuName) → op ≡ Exit → resident_of machine.pes pe ≡ Some name → GuestActs name.guest (MovesVcpu name.vcpu left) machine next told later → ActsAs machine next told later (Pe pe op) Nothing
    has_left name is on acts =
        let does : Places machine next told later name left Nothing = record { answer_is = refl; acts = acts } in
        subst (Acts Nothing) (sym is) (subst (λ o. Exits machine next told later o Nothing) (sym on) does)

    pub none_left : op ≡ Exit → resident_of machine.pes pe ≡ None → next ≡ machine → later ≡ told → ActsAs machine next told later (Pe pe op) Nothing
    none_left is on same told_same =
        let does : Exits machine next told later None Nothing = (record { machine_is = same; told_is = told_same }, refl) in
        subst (Acts Nothing) (sym is) (subst (λ o. Exits machine next told later o Nothing) (sym on) does)

  -- what the machine and its port are then
  pub after_as : (next last : Machine) (port final : SeqPort) → last ≡ next → final ≡ port → ActsAs machine next told (told_all port) (Pe pe op) Nothing → ActsAs machine last told (told_all final) (Pe pe op) Nothing
  after_as next last port final last_is final_is acts =
      subst (λ (m : Machine). ActsAs machine m told (told_all final) (Pe pe op) Nothing) (sym last_is) (subst (λ (p : SeqPort). ActsAs machine next told (told_all p) (Pe pe op) Nothing) (sym final_is) acts)

-- The PEs stay until they are noted anew.

module _ (machine next : Machine) (told later : SeqTold) where
  exits_keep : (resident : Option VcpuName) (answer : Answer) → Exits machine next told later resident answer → next.pes ≡ machine.pes
  exits_keep None answer does = ap (λ (m : Machine). m.pes) does.0.machine_is
  exits_keep (Some name) answer does = does.acts.pes

  shows_keep : (resident : Option VcpuName) (answer : Answer) → ShowsPe machine next told later resident answer → next.pes ≡ machine.pes
  shows_keep None answer does = ap (λ (m : Machine). m.pes) does.0.machine_is
  shows_keep (Some name) answer does = does.acts.pes

  acts_keep : (step : Step) (answer : Answer) → ActsAs machine next told later step answer → next.pes ≡ machine.pes
  acts_keep (Vcpu guest vcpu op) answer does = does.acts.pes
  acts_keep (Device guest device op) answer does = does.acts.pes
  acts_keep (Pe pe (Enter guest vcpu)) answer does = does.acts.pes
  acts_keep (Pe pe Exit) answer does = exits_keep (resident_of machine.pes pe) answer does
  acts_keep (Pe pe Lrs) answer does = shows_keep (resident_of machine.pes pe) answer does

  pub does_step : (step : Step) (answer : Answer) (pes : List (Option VcpuName)) → ActsAs machine next told later step answer → pes ≡ pes_after step next.pes → DoesStep machine (record next { pes = pes }) told later step answer
  does_step step answer pes acts pes_are states lrs parts ideals at can =
      subst (λ pes. HasDoneStep states lrs machine (record next { pes = pes }) later parts ideals step answer) (sym (pes_are ∙ ap (pes_after step) (acts_keep step answer acts)))
      (acts_step states lrs machine next told later parts ideals at step answer can acts)
