-- Where a proper run has come.
use Rattle.std.proofs.Common.{◌≡◌, ℕ, ◌<◌, true≢false, not, true, false, IsTrue, List, [], ◌∷◌, ◌++◌, map, Option, Some, None, refl, sym, ap, ◌∙◌, subst, arith}
use Rattle.std.specs.List.{list_any}
use Rattle.std.proofs.lemmas.Bool.{eq-eqb, lt-ltb, ltb-true}
use Rattle.std.proofs.lemmas.List.Sums.{fold-append}
use Rattle.law_late_ones_leave.specs.Words.{Key, GuestShape, has_interrupt, is_number, is_vcpu_or_none}
use Rattle.law_late_ones_leave.specs.Histories.{interface_at, shown_at, is_home, is_of, standing_at, irq_at, cpu_at, IdealGuest, CanOpen}
use Rattle.law_late_ones_leave.specs.Registers.{InterfaceState}
use Rattle.law_late_ones_leave.proofs.LawHistories.StandLemmas.{any_somewhere}
use Rattle.law_late_ones_leave.specs.Core.{Local, Irq as IrqWord, Vcpu, actor_count, interface_of, shown, is_at, CoreState, opening, seat_at, after_moment, end_of_moments, Act, CoreMoment, Progress, opening_progress, progress_in, IsProperRun}
use Rattle.law_late_ones_leave.specs.LawCoreIsHistory.Related.{bare, but_lpis, is_folding}
use Rattle.law_late_ones_leave.proofs.LawCoreIsHistory.AccessLemmas.{shown_same}
use Rattle.law_late_ones_leave.proofs.LawCoreIsHistory.CpuLemmas.{with_lpis}
use Rattle.law_late_ones_leave.proofs.LawCoreIsHistory.StandingLemmas.{any_stands}
use Rattle.law_late_ones_leave.specs.LawRegistersStand.Asks.{IsUnkicked}
use Rattle.law_late_ones_leave.specs.LawScansMissNone.Excuse.{followed_in}
use Rattle.law_late_ones_leave.specs.LawRegistersStand.Followed.{Followed}
use Rattle.law_late_ones_leave.specs.LawScansMissNone.Waiting.{record_in}
use Rattle.law_late_ones_leave.proofs.LawScansMissNone.CopySteps.{copies_are_current}
use Rattle.law_late_ones_leave.proofs.LawScansMissNone.Frame.{IsAt, follow, at_next, at_opens, moved_on, progress_is, progress_on}
use Rattle.law_late_ones_leave.proofs.LawScansMissNone.RunFrame.{IsNextOf, end_more, followed_more, runs_on}

-- what is kept along a run holds at its end
pub end_is : (guest : IdealGuest) (number : ℕ) → CanOpen guest → (moments : List CoreMoment) → IsProperRun guest number moments
    → IsAt guest.shape (end_of_moments guest.shape (opening guest number) moments) (followed_in guest number moments) (progress_on guest.shape (opening_progress guest number) moments)
end_is guest number good moments proper = runs_on guest number good KeptAt one_more (at_opens guest number good) moments proper
  where
    KeptAt : List CoreMoment → Type 0
    KeptAt early = IsAt guest.shape (end_of_moments guest.shape (opening guest number) early) (followed_in guest number early) (progress_on guest.shape (opening_progress guest number) early)

    one_more : (early : List CoreMoment) (actor : ℕ) (act : Act) → IsNextOf guest number early actor act → KeptAt early → KeptAt (early ++ record { actor = actor; act = act } ∷ [])
    one_more early actor act next kept =
        let moment : CoreMoment = record { actor = actor; act = act } in
        let later = at_next guest.shape good.sound.shape (end_of_moments guest.shape (opening guest number) early) (followed_in guest number early) (progress_on guest.shape (opening_progress guest number) early) actor act next.at next.acts in
        subst (λ s. IsAt guest.shape s (followed_in guest number (early ++ moment ∷ [])) (progress_on guest.shape (opening_progress guest number) (early ++ moment ∷ []))) (sym (end_more guest.shape (opening guest number) early moment))
        (subst (λ f. IsAt guest.shape (after_moment guest.shape (end_of_moments guest.shape (opening guest number) early) moment) f (progress_on guest.shape (opening_progress guest number) (early ++ moment ∷ []))) (sym (followed_more guest number early moment))
        (subst (λ q. IsAt guest.shape (after_moment guest.shape (end_of_moments guest.shape (opening guest number) early) moment) (follow guest.shape (end_of_moments guest.shape (opening guest number) early) (followed_in guest number early) moment) q) (sym (fold-append (moved_on guest.shape) (opening_progress guest number) early (moment ∷ []))) later))

module _ (guest : IdealGuest) (number : ℕ) (moments : List CoreMoment) (good : CanOpen guest) (proper : IsProperRun guest number moments) where
  abbrev pub shape : GuestShape
  shape = guest.shape

  abbrev pub state : CoreState
  state = end_of_moments guest.shape (opening guest number) moments

  abbrev pub at : Followed
  at = followed_in guest number moments

  abbrev pub p : ℕ → Progress
  p = progress_in guest number moments

  pub here : IsAt shape state at (progress_on shape (opening_progress guest number) moments)
  here = end_is guest number good moments proper

  pub p_is : (actor : ℕ) → progress_on shape (opening_progress guest number) moments actor ≡ p actor
  p_is actor = progress_is shape moments (opening_progress guest number) actor

  pub local_is : (actor : ℕ) → actor < actor_count shape → (p actor).local ≡ (seat_at state actor).local
  local_is actor there = subst (λ (q : Progress). q.local ≡ (seat_at state actor).local) (p_is actor) (here.seats actor there).local

  pub an_actor : (v : ℕ) → v < shape.vcpus → v < actor_count shape
  an_actor v there = omega (arith, there)

  -- an interrupt that a vCPU holds is at that one's interface, and one that is home is held by nobody
  pub within_vcpus : (key : Key) → IsTrue (has_interrupt shape key) → (v : ℕ) → (record_in shape state key).holder ≡ Some v → v < shape.vcpus
  within_vcpus key there v e = ltb-true v shape.vcpus (subst (λ o. IsTrue (is_vcpu_or_none shape o)) e (here.sound.words (IrqWord key) there).irq.holder)

  pub held_at : (key : Key) → IsTrue (has_interrupt shape key) → (v : ℕ) → (record_in shape state key).holder ≡ Some v → is_at key (seat_at state v).local.at ≡ true
  held_at key there v e = sym (here.sound.ties v (IrqWord key) (an_actor v (within_vcpus key there v e)) there) ∙ ap (is_number v) e ∙ eq-eqb v v refl

  pub held_away : (key : Key) → IsTrue (has_interrupt shape key) → (v : ℕ) → (record_in shape state key).holder ≡ Some v → is_home at.ideal key ≡ false
  held_away key there v e =
      ap not (any_somewhere (is_of key) at.ideal.at v (ap (list_any (is_of key)) (here.related.seats v (within_vcpus key there v e)).at ∙ any_stands key (seat_at state v).local.at ∙ held_at key there v e))

  pub nobody_holds : (key : Key) → IsTrue (has_interrupt shape key) → IsTrue (is_home at.ideal key) → (record_in shape state key).holder ≡ None
  nobody_holds key there home = of (record_in shape state key).holder refl
    where
      of : (o : Option ℕ) → (record_in shape state key).holder ≡ o → o ≡ None
      of None e = refl
      of (Some v) e = absurd (true≢false (sym home ∙ held_away key there v e))

  -- a word says what the ideal controller's record does
  pub record_is : (key : Key) → IsTrue (has_interrupt shape key) → (record_in shape state key).holder ≡ None → bare (record_in shape state key) ≡ irq_at at.ideal.guest key
  record_is key there none = (here.related.words (IrqWord key) there).home none

  -- a vCPU that is not kicked and does not give back what it has has the CPU record of that
  pub cpu_is : (vcpu : ℕ) → vcpu < shape.vcpus → IsUnkicked shape state vcpu → is_folding (p vcpu).local.phase ≡ false → cpu_at at.ideal.guest vcpu ≡ (p vcpu).local.cpu
  cpu_is vcpu few unkicked stays =
      let ideal = cpu_at at.ideal.guest vcpu in
      let own = (p vcpu).local.cpu in
      let lpis : ideal.lpis ≡ own.lpis = here.related.words (Vcpu vcpu) (lt-ltb vcpu shape.vcpus few) ∙ sym (copies_are_current guest number moments vcpu good proper few unkicked stays) in
      let rest : but_lpis ideal ≡ but_lpis own = (here.related.seats vcpu few).cpu.same ∙ ap (λ (l : Local). but_lpis l.cpu) (sym (local_is vcpu (an_actor vcpu few))) in
      ap (with_lpis ideal.lpis) rest ∙ ap (λ b. with_lpis b own) lpis

  -- and its interface as an access sees it
  pub interface_is : (vcpu : ℕ) → vcpu < shape.vcpus → cpu_at at.ideal.guest vcpu ≡ (p vcpu).local.cpu → interface_at at.ideal vcpu ≡ interface_of (p vcpu).local
  interface_is vcpu few cpu =
      ap (λ c. let i : InterfaceState = record { cpu = c; at = map (shown_at at.ideal) (standing_at at.ideal vcpu) } in i) cpu
      ∙ ap (λ list. let i : InterfaceState = record { cpu = (p vcpu).local.cpu; at = list } in i) (shown_same here.sound here.related vcpu few ∙ ap (λ (l : Local). map shown l.at) (sym (local_is vcpu (an_actor vcpu few))))
