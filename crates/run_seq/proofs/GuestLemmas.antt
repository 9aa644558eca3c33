-- A guest of a machine after one of its actors acted.
use Rattle.std.proofs.Common.{◌≡◌, ℕ, ◌<◌, true, List, [], ◌∷◌, ◌++◌, take, Option, refl, sym, ap, ◌∙◌, subst}
use Rattle.std.proofs.Props.{props}
use Rattle.std.proofs.Math.Logic.{∥∥₁_elim, ∥∥₁_map, ∥∥₁_prop}
use Rattle.law_ends_agree.specs.Calls.{Operation, Regs}
use Rattle.law_ends_agree.specs.GicIdeal.Shown.{registers_of}
use Rattle.law_ends_agree.specs.Histories.{after_events, IdealGuest}
use Rattle.law_ends_agree.specs.ScnBase.declared.pes.VcpuName.{VcpuName}
use Rattle.law_ends_agree.specs.ScnBase.Standing.{is_resident}
use Rattle.law_ends_agree.specs.Core.{IsRun, opening, Progress, progress_in}
use Rattle.law_one_thread_is_eager.specs.PortSeq.Told.{GuestTold}
use Rattle.law_one_thread_is_eager.specs.LawLoneCallsAreEager.LoneCalls.{IsEagerCall, eager_events, eager_read}
use Rattle.law_one_thread_is_eager.specs.LawLoneCallsAreEager.Runs.{IsGoodCall}
use Rattle.law_one_thread_is_eager.specs.LawSerialIsEager.Lists.{IchRegs}
use Rattle.law_one_thread_is_eager.specs.LawSerialIsEager.Serial.{WholePart, is_icc, moments_of}
use Rattle.law_one_thread_is_eager.specs.SeqGuest.declared.vcpus.Vcpus.{Vcpus}
use Rattle.law_one_thread_is_eager.specs.PePlace.declared.place.Place.TheVariants.{Pe}
use Rattle.law_one_thread_is_eager.specs.PePlace.Parts.{AreResidences, HaveCall, progress_after}
use Rattle.law_one_thread_is_eager.specs.SeqGuest.Guest.{GoesOn, NoneKicked, ShowsList, spot_at}
use Rattle.law_one_thread_is_eager.specs.Done.{HasDone, home_after}
use Rattle.law_one_thread_is_eager.specs.Laws.{KeepsHome, PassesHome, ShowsHomeOf}
use Rattle.law_one_thread_is_eager.proofs.DoneLaws.{calls_pass_home, registers_show_home, residences_keep_home}
use Rattle.law_one_thread_is_eager.proofs.ProperLemmas.{progress_both}
use Rattle.run_seq.specs.Machine.{IsGuestAt, place_by}
use Rattle.run_seq.specs.Steps.{ShowsOwn}

module _ (pes : List (Option VcpuName)) (lrs : ℕ) (guest : IdealGuest) (number : ℕ) (old new : GuestTold) (before after : Vcpus) (early : List WholePart) (ideal : IdealGuest) (at : IsGuestAt pes lrs guest number old before early ideal)
    (run : ∥ IsRun new.guest.shape (opening new.guest new.number) new.world ∥₁) (later : List (Option VcpuName)) (spots : (vcpu : ℕ) → spot_at after vcpu ≡ place_by (is_resident later number vcpu)) (quiet : NoneKicked new after) where
  -- vCPUs entered and left
  module _ (goes : GoesOn AreResidences old new before after) where
    kept : ∥ KeepsHome guest number new after early goes.parts ∥₁
    kept = ∥∥₁_elim at.done ∥∥₁_prop (λ done. ∥∥₁_map run (λ ran. residences_keep_home guest number old new before after early done ran goes))

    pub resides_at : IsGuestAt later lrs guest number new after (early ++ goes.parts) ideal
    resides_at = record {
      done = ∥∥₁_map kept (λ (keeps : KeepsHome guest number new after early goes.parts). keeps.done);
      at = goes.at;
      guest_is = goes.same.guest ∙ at.guest_is;
      lrs_is = goes.lrs ∙ at.lrs_is;
      spots = spots;
      quiet = quiet;
      home_is = at.home_is ∙ ∥∥₁_elim kept (Prim.hlevel props) (λ keeps. sym keeps.home_is);
    }

  -- one of its actors called
  module _ (actor : ℕ) (operation : Operation) (answer : Option ℕ) (goes : GoesOn (HaveCall actor operation answer) old new before after) (first : is_icc operation ≡ true → goes.are.early ≡ []) (good : IsGoodCall guest.shape actor operation) where
    passed : ∥ PassesHome guest number new after early goes.parts actor operation answer ∥₁
    passed = ∥∥₁_elim at.done ∥∥₁_prop (λ done. ∥∥₁_map run (λ ran. calls_pass_home guest number old new before after early actor operation answer done ran goes first at.quiet good))

    pub eager_call : IsEagerCall actor operation answer ideal (home_after guest number (early ++ goes.parts))
    eager_call = record {
      goes = ∥∥₁_elim passed (Prim.hlevel props) (λ passes. subst (λ before. home_after guest number (early ++ goes.parts) ≡ eager_step before) (sym at.home_is) passes.call.goes);
      answers = ∥∥₁_elim passed (Prim.hlevel props) (λ passes. subst (λ before. answer ≡ eager_read operation actor before) (sym at.home_is) passes.call.answers);
    }
      where
        eager_step : IdealGuest → IdealGuest
        eager_step before = after_events (eager_events operation actor before) before

    pub calls_at : IsGuestAt later lrs guest number new after (early ++ goes.parts) (home_after guest number (early ++ goes.parts))
    calls_at = record {
      done = ∥∥₁_map passed (λ (passes : PassesHome guest number new after early goes.parts actor operation answer). passes.done);
      at = goes.at;
      guest_is = goes.same.guest ∙ at.guest_is;
      lrs_is = goes.lrs ∙ at.lrs_is;
      spots = spots;
      quiet = quiet;
      home_is = refl;
    }

  -- a vCPU showed its registers
  module _ (vcpu : ℕ) (list : List ℕ) (few : vcpu < guest.shape.vcpus) (shows : ShowsList old new before after vcpu list) where
    abbrev shown_parts : List WholePart
    shown_parts = shows.shows.goes_on.parts ++ shows.later.parts

    shown : ∥ ShowsHomeOf guest number before.lrs new after early shown_parts vcpu list ∥₁
    shown = ∥∥₁_elim at.done ∥∥₁_prop (λ done. ∥∥₁_map run (λ ran. registers_show_home guest number old new before after early vcpu list done ran at.quiet few shows))

    pub shows_at : IsGuestAt later lrs guest number new after (early ++ shown_parts) ideal
    shows_at = record {
      done = ∥∥₁_map shown (λ (shows : ShowsHomeOf guest number before.lrs new after early shown_parts vcpu list). shows.done);
      at = shows.later.at;
      guest_is = shows.later.same.guest ∙ shows.shows.goes_on.same.guest ∙ at.guest_is;
      lrs_is = shows.later.lrs ∙ shows.shows.goes_on.lrs ∙ at.lrs_is;
      spots = spots;
      quiet = quiet;
      home_is = at.home_is ∙ ∥∥₁_elim shown (Prim.hlevel props) (λ shows. sym shows.home_is);
    }

    pub list_is : list ≡ registers_of lrs ideal vcpu
    list_is =
        ∥∥₁_elim shown (Prim.hlevel props)
        (λ shows. shows.shown ∙ ap (λ n. registers_of n (home_after guest number early) vcpu) at.lrs_is ∙ ap (λ (home : IdealGuest). registers_of lrs home vcpu) (sym at.home_is))

    -- they are its own, as they are after the one part in which it left and entered again
    own_regs : HasDone guest number old before early → (progress_in guest number (moments_of (early ++ shows.shows.part ∷ [])) vcpu).regs ≡ shows.shows.loaded.regs
    own_regs done =
        let parts = shows.shows.goes_on.parts in
        let progress : ℕ → Progress = progress_in guest number (moments_of early) in
        let followed = shows.shows.goes_on.goes_on progress done.followed in
        ap (λ parts. (progress_in guest number (moments_of (early ++ parts)) vcpu).regs) (sym shows.shows.alone)
        ∙ ap (λ (p : Progress). p.regs) (progress_both guest number early parts vcpu)
        ∙ ap (λ (g : IdealGuest). (progress_after g.shape parts progress vcpu).regs) (sym at.guest_is)
        ∙ (followed.places vcpu (Pe shows.shows.loaded) shows.shows.place).regs

    own_list : list ≡ (progress_in guest number (moments_of (early ++ shows.shows.part ∷ [])) vcpu).regs.hcr ∷ take lrs (progress_in guest number (moments_of (early ++ shows.shows.part ∷ [])) vcpu).regs.lr
    own_list =
        let loaded = shows.shows.loaded in
        let count : loaded.regs.n ≡ lrs = (shows.shows.goes_on.at.places vcpu (Pe loaded) shows.shows.place).1 ∙ shows.shows.goes_on.lrs ∙ at.lrs_is in
        shows.list_is
        ∙ ap (λ n. loaded.regs.hcr ∷ take n loaded.regs.lr) count
        ∙ ∥∥₁_elim at.done (Prim.hlevel props) (λ (done : HasDone guest number old before early). ap (λ (regs : IchRegs). regs.hcr ∷ take lrs regs.lr) (sym (own_regs done)))

    pub shows_own : ShowsOwn guest number lrs vcpu (Regs list) early shown_parts
    shows_own = record {
      part = shows.shows.part;
      late = shows.later.parts;
      first = ap (λ parts. parts ++ shows.later.parts) shows.shows.alone;
      actor = shows.shows.actor;
      entry = shows.shows.entry;
      answer_is = ap Regs own_list;
    }
