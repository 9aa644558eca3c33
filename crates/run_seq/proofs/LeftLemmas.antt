-- A schedule whose steps are done, and whose vCPUs all left.
use Rattle.std.proofs.Common.{◌≡◌, ℕ, suc, ◌<◌, ◌==◌, ◌&&◌, ◌||◌, inl, inr, false, IsTrue, All, List, [], ◌∷◌, ◌++◌, length, get_or, Option, Some, None, refl, sym, ap, ◌∙◌, subst, arith}
use Rattle.std.specs.Prelude.{slice_get}
use Rattle.std.specs.Option.{option_map_or}
use Rattle.std.specs.List.{flat_map}
use Rattle.std.proofs.Math.Logic.{∥∥₁_elim, ∥∥₁_map}
use Rattle.std.proofs.Props.{props}
use Rattle.std.proofs.lemmas.Bool.{cases_lt}
use Rattle.std.proofs.lemmas.List.{append-nil}
use Rattle.std.proofs.lemmas.List.Elements.{All-head, All-tail}
use Rattle.std.proofs.lemmas.Option.{slice_get_within}
use Rattle.law_ends_agree.specs.Registers.{CpuRec}
use Rattle.law_ends_agree.specs.Histories.{IdealGuest}
use Rattle.law_ends_agree.specs.GicIdeal.Eager.{after_steps}
use Rattle.law_ends_agree.specs.Calls.{passes}
use Rattle.law_ends_agree.specs.GicGuest.declared.outcome.Answer.{Answer}
use Rattle.law_ends_agree.specs.ScnBase.declared.pes.VcpuName.{VcpuName}
use Rattle.law_ends_agree.specs.ScnBase.Standing.{is_resident}
use Rattle.law_ends_agree.specs.Core.{is_settled}
use Rattle.law_one_thread_is_eager.specs.PortSeq.Told.{GuestTold, SeqTold, guest_at, no_told}
use Rattle.law_one_thread_is_eager.specs.PePlace.declared.place.Place.{Place}
use Rattle.law_one_thread_is_eager.specs.PePlace.declared.place.Place.TheVariants.{Shelf, Aside, Pe}
use Rattle.law_one_thread_is_eager.specs.SeqGuest.declared.vcpus.Vcpus.{Vcpus}
use Rattle.law_one_thread_is_eager.specs.PePlace.Place.{IsAt, shelf, spot_of}
use Rattle.law_one_thread_is_eager.specs.SeqGuest.Guest.{AreAt, cpus_of, seen_by, spot_at}
use Rattle.law_one_thread_is_eager.specs.Done.{AreSerial, HasDone}
use Rattle.law_one_thread_is_eager.proofs.EaseLemmas.{placed}
use Rattle.run_seq.specs.declared.machine.Machine.{Machine}
use Rattle.run_seq.specs.Machine.{HasClosed, place_by}
use Rattle.run_seq.specs.Run.{GuestHasRun, IsDone, IsLeft, SamePorts}
use Rattle.run_seq.proofs.RunLemmas.{RunsSoFar}
use Rattle.run_seq.proofs.StepLemmas.{there_in}
use Rattle.run_seq.specs.Agenda.{Agenda}

-- Nobody stands on a PE.

none_resident : (pes : List (Option VcpuName)) (guest vcpu : ℕ) → All (λ resident. resident ≡ None) pes → is_resident pes guest vcpu ≡ false
none_resident [] guest vcpu all = refl
none_resident (x ∷ pes) guest vcpu all =
    ap (λ o. passes (λ (name : VcpuName). name.guest == guest && name.vcpu == vcpu) o || is_resident pes guest vcpu) (All-head (λ (resident : Option VcpuName). resident ≡ None) x pes all)
    ∙ none_resident pes guest vcpu (All-tail (λ (resident : Option VcpuName). resident ≡ None) x pes all)

-- so all vCPUs of a guest have left

off_at : (told : GuestTold) (vcpu : ℕ) (place : Place) → IsAt (seen_by told vcpu) place → spot_of place ≡ shelf → ((seen_by told vcpu).local.at ≡ []) × IsTrue (is_settled (seen_by told vcpu).local)
off_at told vcpu (Shelf shelved) at on = (at.empty, at.settled)
off_at told vcpu (Aside shelved) at on = absurd (cc)
off_at told vcpu (Pe loaded) at on = absurd (cc)

vcpu_off : (told : GuestTold) (vcpus : Vcpus) → AreAt told vcpus → ((vcpu : ℕ) → spot_at vcpus vcpu ≡ shelf) → (vcpu : ℕ) → vcpu < told.guest.shape.vcpus → ((seen_by told vcpu).local.at ≡ []) × IsTrue (is_settled (seen_by told vcpu).local)
vcpu_off told vcpus at spots vcpu there =
    let has = placed vcpus vcpu (subst (λ n. vcpu < n) (sym at.each) there) in
    off_at told vcpu has.place (at.places vcpu has.place has.is).0 (sym (ap (λ o. option_map_or spot_of o shelf) has.is) ∙ spots vcpu)

all_left : (told : GuestTold) (vcpus : Vcpus) → AreAt told vcpus → ((vcpu : ℕ) → spot_at vcpus vcpu ≡ shelf) → IsLeft told
all_left told vcpus at spots = record {
  empty = λ vcpu there. (vcpu_off told vcpus at spots vcpu there).0;
  settled = λ actor there. elim (cases_lt actor told.guest.shape.vcpus) [
    | inl low ↦ (vcpu_off told vcpus at spots actor low).1
    | inr high ↦ at.devices actor high there
  ];
}

-- whichever actor is told
left_still : (one other : GuestTold) → other ≡ record one { actor = other.actor } → IsLeft one → IsLeft other
left_still one other e left = subst IsLeft (sym e) (record { empty = left.empty; settled = left.settled })

-- A guest has run.

module _ (agenda : Agenda) (machine next : Machine) (told later last : SeqTold) (answers : List Answer) (so : RunsSoFar agenda machine told answers agenda.steps []) (closed : HasClosed agenda.states agenda.lrs next later so.parts so.ideals) (same : SamePorts later last) where
  guest_run : (number : ℕ) (guest ideal : IdealGuest) → slice_get agenda.states number ≡ Some guest → slice_get (after_steps agenda.steps agenda.states) number ≡ Some ideal
      → GuestHasRun guest number agenda.lrs agenda.pes agenda.steps answers ideal (guest_at last number)
  guest_run number guest ideal state ideal_is =
      let there : number < length agenda.states = slice_get_within agenda.states number guest state in
      let vcpus = there_in next.guests.items number (subst (λ n. number < n) (sym closed.at.guests) there) in
      let at = closed.at.each number guest vcpus.one ideal state vcpus.is (ap (λ ideals. slice_get ideals number) so.ends_are ∙ ideal_is) in
      let parts = so.parts number ++ closed.more number in
      let e : guest_at last number ≡ record (guest_at later number) { actor = (guest_at last number).actor } = same.same number in
      record {
        parts = parts;
        guest_is = ap (λ (t : GuestTold). t.guest) e ∙ at.guest_is;
        number_is = ap (λ (t : GuestTold). t.number) e ∙ ∥∥₁_elim at.done (Prim.hlevel props) (λ (done : HasDone guest number (guest_at later number) vcpus.one parts). done.number_is);
        world = ap (λ (t : GuestTold). t.world) e ∙ ∥∥₁_elim at.done (Prim.hlevel props) (λ (done : HasDone guest number (guest_at later number) vcpus.one parts). done.world);
        serial = ∥∥₁_map at.done (λ (done : HasDone guest number (guest_at later number) vcpus.one parts). subst (λ n. AreSerial guest number n parts) at.lrs_is done.serial);
        by_steps =
            record {
              first = so.first number;
              each = so.by_step number;
              last = closed.more number;
              split = ap (λ parts. parts ++ closed.more number) (so.split number);
              enters = (so.opened number guest state).calls;
              stand = (so.opened number guest state).stand;
              of_steps = so.of_steps number guest state;
              leaves = closed.calls number guest state;
            };
        left =
            left_still (guest_at later number) (guest_at last number) e
            (all_left (guest_at later number) vcpus.one at.at (λ vcpu. at.spots vcpu ∙ ap place_by (none_resident next.pes number vcpu closed.pes)));
        home_is = at.home_is;
      }

  pub has_run : (cpus : List CpuRec) → cpus ≡ flat_map cpus_of later.guests → IsDone agenda (record { answers = answers; cpus = cpus }) last
  has_run cpus cpus_are = record {
    ports = same.ports ∙ closed.at.ports;
    each = guest_run;
    answers = sym (append-nil answers) ∙ so.answers_are;
    cpus = cpus_are ∙ same_cpus later.guests last.guests (sym same.ports) (λ n. same.same n);
  }
    where
      same_cpus : (before after : List GuestTold) → length before ≡ length after → ((n : ℕ) → get_or after n no_told ≡ record (get_or before n no_told) { actor = (get_or after n no_told).actor }) → flat_map cpus_of before ≡ flat_map cpus_of after
      same_cpus [] [] each alike = refl
      same_cpus [] (t ∷ after) each alike = absurd (omega (arith, each))
      same_cpus (t ∷ before) [] each alike = absurd (omega (arith, each))
      same_cpus (t ∷ before) (u ∷ after) each alike =
          ap (λ cpus. cpus ++ flat_map cpus_of before) (sym (ap cpus_of (alike 0))) ∙ ap (λ cpus. cpus_of u ++ cpus) (same_cpus before after (omega (arith, each)) (λ n. alike (suc n)))
