-- The registers of a vCPU that left its PE and entered it again.
use Rattle.std.proofs.Common.{◌≡◌, ℕ, ◌<◌, List, [], ◌∷◌, ◌++◌, sym, ap, ◌∙◌, subst}
use Rattle.std.specs.Prelude.{take}
use Rattle.std.proofs.lemmas.List.{append_assoc}
use Rattle.law_found_parts_are_calls.specs.Lists.{IchRegs}
use Rattle.law_found_parts_are_calls.specs.GicIdeal.Shown.{registers_of}
use Rattle.law_found_parts_are_calls.specs.Histories.{IdealGuest}
use Rattle.law_found_parts_are_calls.specs.Core.{CoreState, IsRun, opening, end_of_moments, Progress, progress_in}
use Rattle.law_found_parts_are_calls.proofs.PortCore.RunLemmas.{run_splits}
use Rattle.seq_guest.specs.PortSeq.Told.{GuestTold, state_of}
use Rattle.seq_guest.specs.LawEntriesArePlans.Entry.{HasEntered, ShowsRegisters}
use Rattle.law_found_parts_are_calls.specs.LawSerialIsEager.Serial.{WholePart, moments_of}
use Rattle.seq_guest.specs.PePlace.declared.place.Place.TheVariants.{Pe}
use Rattle.seq_guest.specs.declared.vcpus.Vcpus.{Vcpus}
use Rattle.seq_guest.specs.PePlace.Parts.{AreResidences, entries_in, progress_after}
use Rattle.seq_guest.specs.Guest.{GoesOn, NoneKicked, Shows}
use Rattle.law_one_thread_is_eager.specs.Done.{AreSerial, HasDone, home_after}
use Rattle.law_one_thread_is_eager.specs.Laws.{KeepsHome, ResidencesKeepHome, ShowsHomeOf}
use Rattle.law_one_thread_is_eager.proofs.DoneLemmas.{entry_shows}
use Rattle.law_one_thread_is_eager.proofs.FollowLemmas.{state_is}
use Rattle.law_one_thread_is_eager.proofs.MomentLemmas.{entries_parts}
use Rattle.law_one_thread_is_eager.proofs.ProperLemmas.{progress_both}

-- what was done before was a run too
run_before : (mid new : GuestTold) (before after : Vcpus) → GoesOn AreResidences mid new before after → IsRun new.guest.shape (opening new.guest new.number) new.world → IsRun mid.guest.shape (opening mid.guest mid.number) mid.world
run_before mid new before after goes run =
    (run_splits mid.guest.shape (opening mid.guest mid.number) mid.world (entries_in goes.parts)
    (subst (λ (g : IdealGuest). IsRun g.shape (opening g mid.number) (mid.world ++ entries_in goes.parts)) goes.same.guest
    (subst (λ n. IsRun new.guest.shape (opening new.guest n) (mid.world ++ entries_in goes.parts)) goes.same.number (subst (IsRun new.guest.shape (opening new.guest new.number)) goes.world run)))).0

module _ (keep : ResidencesKeepHome) (old mid new : GuestTold) (before between after : Vcpus) (early : List WholePart) (vcpu : ℕ) (list : List ℕ) (done : HasDone old.guest old.number old before early) (run : IsRun new.guest.shape (opening new.guest new.number) new.world)
    (quiet : NoneKicked old before) (few : vcpu < old.guest.shape.vcpus) (shows : Shows old mid before between vcpu) (list_is : list ≡ shows.loaded.regs.hcr ∷ take shows.loaded.regs.n shows.loaded.regs.lr) (later : GoesOn AreResidences mid new between after) where
  abbrev guest : IdealGuest
  guest = old.guest

  abbrev number : ℕ
  number = old.number

  abbrev so_far : List WholePart
  so_far = early ++ shows.goes_on.parts

  first : KeepsHome guest number mid between early shows.goes_on.parts
  first = keep guest number old mid before between early done (run_before mid new between after later run) shows.goes_on

  last : KeepsHome guest number new after so_far later.parts
  last = keep guest number mid new between after so_far first.done run later

  -- its protocol, and the state
  abbrev progress : ℕ → Progress
  progress = progress_in guest number (moments_of so_far)

  entered : HasEntered guest.shape (end_of_moments guest.shape (opening guest number) (moments_of so_far)) vcpu (progress vcpu)
  entered =
      subst (λ (p : Progress). HasEntered guest.shape (end_of_moments guest.shape (opening guest number) (moments_of so_far)) vcpu p) (sym (progress_both guest number early shows.goes_on.parts vcpu))
      (subst (λ (s : CoreState). HasEntered guest.shape s vcpu (progress_after guest.shape shows.goes_on.parts (progress_in guest number (moments_of early)) vcpu)) (sym state) (shows.entered (progress_in guest number (moments_of early)) done.followed))
    where
      state : end_of_moments guest.shape (opening guest number) (moments_of so_far) ≡ state_of mid
      state =
          subst (λ (g : IdealGuest). end_of_moments g.shape (opening g number) (moments_of so_far) ≡ state_of mid) first.done.guest_is
          (subst (λ n. end_of_moments mid.guest.shape (opening mid.guest n) (moments_of so_far) ≡ state_of mid) first.done.number_is (state_is mid (moments_of so_far) (entries_parts so_far ∙ sym first.done.world)))

  part_is : so_far ≡ early ++ shows.part ∷ []
  part_is = ap (λ parts. early ++ parts) shows.alone

  registers : ShowsRegisters (home_after guest number so_far) vcpu before.lrs (progress vcpu).regs
  registers =
      subst (λ n. ShowsRegisters (home_after guest number so_far) vcpu n (progress vcpu).regs) shows.lrs
      (subst (λ v. ShowsRegisters (home_after guest number so_far) v shows.part.lrs (progress v).regs) shows.actor
      (subst (λ ps. ShowsRegisters (home_after guest number ps) shows.part.actor shows.part.lrs (progress_in guest number (moments_of ps) shows.part.actor).regs) (sym part_is)
      (entry_shows guest number between.lrs old before early shows.part done quiet (subst (AreSerial guest number between.lrs) part_is first.done.serial) (subst (λ v. v < guest.shape.vcpus) (sym shows.actor) few) shows.entry
      (subst (λ ps. HasEntered guest.shape (end_of_moments guest.shape (opening guest number) (moments_of ps)) shows.part.actor (progress_in guest number (moments_of ps) shows.part.actor)) part_is
      (subst (λ v. HasEntered guest.shape (end_of_moments guest.shape (opening guest number) (moments_of so_far)) v (progress v)) (sym shows.actor) entered)))))

  regs_are : (progress vcpu).regs ≡ shows.loaded.regs
  regs_are = (first.done.followed.places vcpu (Pe shows.loaded) shows.place).regs

  count : shows.loaded.regs.n ≡ before.lrs
  count = (first.done.at.places vcpu (Pe shows.loaded) shows.place).1 ∙ shows.goes_on.lrs

  pub shown_here : ShowsHomeOf guest number before.lrs new after early (shows.goes_on.parts ++ later.parts) vcpu list
  shown_here = record {
    done = subst (HasDone guest number new after) joined last.done;
    home_is = ap (home_after guest number) (sym joined) ∙ last.home_is ∙ first.home_is;
    shown =
        list_is
        ∙ ap (λ n. shows.loaded.regs.hcr ∷ take n shows.loaded.regs.lr) count
        ∙ ap (λ (regs : IchRegs). regs.hcr ∷ take before.lrs regs.lr) (sym regs_are)
        ∙ sym registers.shown
        ∙ ap (λ (home : IdealGuest). registers_of before.lrs home vcpu) first.home_is;
  }
    where
      joined : so_far ++ later.parts ≡ early ++ (shows.goes_on.parts ++ later.parts)
      joined = append_assoc early shows.goes_on.parts later.parts
