-- An access of a proper run that leaves a late interrupt behind owes a scan.
use Rattle.std.proofs.Common.{◌≡◌, ℕ, ◌<◌, ◌==◌, ◌||◌, inl, true≢false, not, Bool, true, false, IsTrue, List, [], ◌∷◌, ◌++◌, Contains, Option, Some, is_some, if◌then◌else◌, refl, sym, ap, ◌∙◌, subst}
use Rattle.std.proofs.lemmas.Bool.{eqb-true}
use Rattle.std.proofs.lemmas.List.Elements.{All-contains_itself}
use Rattle.law_scans_miss_none.specs.Words.{IccReg, Key, GuestShape, has_interrupt, intid_of, is_pending, irq_of}
use Rattle.law_scans_miss_none.specs.Histories.{changes_of, cpu_at, IdealGuest, CanOpen}
use Rattle.law_scans_miss_none.specs.Lists.{IchRegs, misr_of, cpu_in}
use Rattle.law_scans_miss_none.proofs.GicIcv.CpuLemmas.{holds}
use Rattle.law_scans_miss_none.proofs.GicIcv.DeafLemmas.{deactivated_deaf}
use Rattle.law_scans_miss_none.proofs.GicIcv.PlaceLemmas.{map_among}
use Rattle.law_scans_miss_none.specs.Registers.{deactivated_by, IsInterface}
use Rattle.law_scans_miss_none.proofs.IdealGuests.KeyLemmas.{key_intid, key_there}
use Rattle.law_scans_miss_none.specs.Core.{Local, Made, Poll, Irq, interface_of, local_after, shown, is_ready, succeeds, vcpu_of, is_at, CoreState, opening, seat_at, word_in, IsLocal, end_of_moments, IsSeatOf, CoreMoment, makes, Debt, paid, before_next, Progress, opening_progress, after_poll, is_paid, is_to_scan, progress_in, stepped, RegistersAgree, after_operation}
use Rattle.law_scans_miss_none.proofs.PortCore.AtLemmas.{entry_is}
use Rattle.law_scans_miss_none.proofs.PortCore.StepTies.{number_is}
use Rattle.law_scans_miss_none.specs.CoreProper.Progress.{changed_by}
use Rattle.law_scans_miss_none.proofs.CoreProper.InterfaceLemmas.{is_interface}
use Rattle.law_scans_miss_none.proofs.CoreProper.ScanLemmas.{debt_on}
use Rattle.law_scans_miss_none.specs.LawCoreIsHistory.Related.{IsCpuRelated}
use Rattle.law_scans_miss_none.proofs.LawCoreIsHistory.StepContext.{IsStep}
use Rattle.law_scans_miss_none.specs.LawRegistersStand.Asks.{HasAll}
use Rattle.law_scans_miss_none.specs.LawRegistersStand.Ends.{IsBehind, SeesEnd}
use Rattle.law_scans_miss_none.proofs.LawRegistersStand.HeldSteps.{held_record}
use Rattle.law_scans_miss_none.proofs.LawRegistersStand.SeeRuns.{ends_are_seen}
use Rattle.law_scans_miss_none.proofs.LawRegistersStand.StandRuns.{registers_stand}
use Rattle.law_scans_miss_none.specs.Excuse.{followed_in}
use Rattle.law_scans_miss_none.specs.LawRegistersStand.Followed.{Followed}
use Rattle.law_scans_miss_none.specs.Index.{owes_kick}
use Rattle.law_scans_miss_none.specs.Standing.{AreOwed}
use Rattle.law_late_ones_leave.proofs.PollLemmas.{IsPolled, polled, seat_so}
use Rattle.law_scans_miss_none.proofs.CalmSteps.{ready_stays}
use Rattle.law_scans_miss_none.proofs.Frame.{is_step, progress_on}
use Rattle.law_scans_miss_none.proofs.RunFrame.{IsNextOf}
use Rattle.law_scans_miss_none.proofs.SinceSteps.{changes_are_owed}
use Rattle.law_late_ones_leave.proofs.EndedLemmas.{asserts}
use Rattle.law_late_ones_leave.proofs.LateAccess.{IsLateAt, late_at, own_ends, unchanged}
use Rattle.law_late_ones_leave.proofs.LeavingLemmas.{IsLeft}

-- what is owed after a step
pub debt_now : (shape : GuestShape) (vcpu : ℕ) (made : Made) (p : Progress) → (stepped shape vcpu made p).debt ≡ (changed_by shape vcpu made.step made.found (succeeds shape vcpu p.local made.step made.found) p).debt
debt_now shape vcpu made p =
    let after = changed_by shape vcpu made.step made.found (succeeds shape vcpu p.local made.step made.found) p in
    debt_on shape vcpu (record after { local = local_after shape vcpu p.local made.step made.found; own = p.own ++ made ∷ [] })

-- no scan is owed after an access: no maintenance interrupt is asserted, the plan is not of trap mode, and none was owed before
record IsQuietAfter (regs : IchRegs) (trapping : Bool) (debt : Debt) : Type 0 where
  pub misr : misr_of regs ≡ 0
  pub untrapped : trapping ≡ false
  pub paid_before : IsTrue (is_paid debt)

quiet_after : (regs : IchRegs) (trapping : Bool) (debt : Debt) → is_to_scan regs trapping debt ≡ false → IsQuietAfter regs trapping debt
quiet_after regs trapping debt e = of (misr_of regs == 0) trapping (is_paid debt) refl refl refl e
  where
    of : (a b c : Bool) → (misr_of regs == 0) ≡ a → trapping ≡ b → is_paid debt ≡ c → (not a || b || not c) ≡ false → IsQuietAfter regs trapping debt
    of true false true f g h e = record { misr = eqb-true (misr_of regs) 0 f; untrapped = g; paid_before = h }
    of true false false f g h e = absurd (true≢false e)
    of true true c f g h e = absurd (true≢false e)
    of false b c f g h e = absurd (true≢false e)

module _ (guest : IdealGuest) (number vcpu : ℕ) (good : CanOpen guest) (within : vcpu < guest.shape.vcpus) (early : List CoreMoment) (made : Made) (next : IsNextOf guest number early vcpu (makes made)) where
  abbrev shape : GuestShape
  shape = guest.shape

  abbrev State : CoreState
  State = end_of_moments guest.shape (opening guest number) early

  abbrev At : Followed
  At = followed_in guest number early

  abbrev p : Progress
  p = progress_in guest number early vcpu

  abbrev is : IsStep guest.shape (end_of_moments guest.shape (opening guest number) early) (followed_in guest number early).ideal vcpu made.step made.found made.left made.tables
  is = is_step guest.shape good.sound.shape (end_of_moments guest.shape (opening guest number) early) (followed_in guest number early) (progress_on guest.shape (opening_progress guest number) early) vcpu made next.at next.acts

  abbrev pub seat_now : IsSeatOf (progress_in guest number early vcpu) (seat_at (end_of_moments guest.shape (opening guest number) early) vcpu)
  seat_now = seat_so guest number vcpu good early made next

  -- the access
  module _ (reg : IccReg) (write : Option ℕ) (step_is : made.step ≡ Poll (Some reg) write) (unkicked : (vcpu_of made.found).kick ≡ false) (key : Key) (left : IsLeft At.ideal At.track vcpu reg write key) (unowed : IsTrue (owes_kick vcpu p.local) → ⊥) where
    so : IsPolled shape State vcpu p reg write
    so = polled guest number vcpu good early made next reg write step_is unkicked

    all : HasAll shape State vcpu p
    all = record { none_failed = so.none_failed; unkicked = so.free }

    -- the interrupt
    there : IsTrue (has_interrupt shape key)
    there = subst (λ s. IsTrue (has_interrupt s key)) is.related.shape_is (key_there left.id vcpu At.ideal.guest.shape key left.named)

    late : IsLateAt At.ideal p.local key
    late = subst (λ l. IsLateAt At.ideal l key) (sym seat_now.local) (late_at At.ideal At.track vcpu (seat_at State vcpu).local key (is.related.seats vcpu within) left.late)

    pub late_stands : is_at key p.local.at ≡ true
    late_stands = ap is_some late.there

    stands : is_at key (seat_at State vcpu).local.at ≡ true
    stands = ap (λ (l : Local). is_at key l.at) (sym seat_now.local) ∙ late_stands

    owed : AreOwed shape State At.track vcpu key
    owed =
        changes_are_owed guest number early vcpu key good next.before within there so.free (ready_stays p.local.phase so.ready)
        (number_is vcpu (irq_of (word_in shape State (Irq key))).holder (is.sound.ties vcpu (Irq key) is.takes.actor there ∙ stands))

    unchanged_since : (changes_of shape At.track key).since ≡ []
    unchanged_since = unchanged shape State At.ideal At.track vcpu key is.related.shape_is owed (λ owes. unowed (subst (λ (l : Local). IsTrue (owes_kick vcpu l)) (sym seat_now.local) owes)) left.late

    behind : IsBehind shape State At p key
    behind = record {
      there = there;
      at = late_stands;
      pending = ap is_pending (held_record shape State At.ideal vcpu key is.sound is.related within there stands (subst (λ (l : Local). IsTrue (is_ready l.phase)) seat_now.local so.ready)) ∙ late.pending;
      unchanged = unchanged_since;
    }

    local : IsLocal shape vcpu p.local
    local = subst (IsLocal shape vcpu) (sym seat_now.local) (is.sound.locals vcpu is.takes.actor)

    interface : IsInterface (interface_of p.local)
    interface = is_interface shape vcpu p.local good.sound.shape local

    entry_there : Contains p.local.at late.entry × (late.entry.key ≡ key)
    entry_there = entry_is (Contains p.local.at) key p.local.at late.entry (All-contains_itself p.local.at) late.there

    -- a maintenance interrupt is asserted, where no scan was owed
    quiet : IsQuietAfter (after_operation p.trapping reg write p.regs) p.trapping p.debt → ⊥
    quiet after =
        let agrees : RegistersAgree p.regs p.local = registers_stand guest number early vcpu good next.before within so.loaded (inl after.paid_before) in
        let sees : SeesEnd p.regs key = ends_are_seen guest number early vcpu key good next.before within (record { loaded = so.loaded; untrapped = after.untrapped; paid = after.paid_before }) all behind in
        let cpu = holds p.regs p.local.cpu interface.points agrees.holds.vmcr agrees.holds.ap0 agrees.holds.ap1 in
        let own = own_ends p.local.cpu (cpu_at At.ideal.guest vcpu) (subst (λ (l : Local). IsCpuRelated l.cpu (cpu_at At.ideal.guest vcpu)) (sym seat_now.local) (is.related.seats vcpu within).cpu) reg write in
        let id_is : intid_of late.entry.key ≡ left.id = ap intid_of entry_there.1 ∙ key_intid left.id vcpu At.ideal.guest.shape key left.named in
        let ends : deactivated_by reg write (cpu_in p.regs) ≡ Some (intid_of late.entry.key) = ap (deactivated_by reg write) cpu ∙ deactivated_deaf reg write p.local.cpu ∙ own ∙ left.ends ∙ ap Some (sym id_is) in
        asserts reg write p.regs (interface_of p.local) interface agrees (shown late.entry) (map_among shown p.local.at late.entry (shown late.entry) entry_there.0 refl) late.active late.inactive ends
        (subst (SeesEnd p.regs) (sym entry_there.1) sees) (ap (λ b. misr_of (after_operation b reg write p.regs)) (sym after.untrapped) ∙ after.misr)

    pub owes_then : is_paid (stepped shape vcpu made p).debt ≡ false
    owes_then =
        ap is_paid (debt_now shape vcpu made p ∙ ap (λ s. (changed_by shape vcpu s made.found (succeeds shape vcpu p.local s made.found) p).debt) step_is ∙ ap (λ b. (after_poll (Some reg) write b p).debt) unkicked)
        ∙ of (is_to_scan (after_operation p.trapping reg write p.regs) p.trapping p.debt) refl
      where
        of : (b : Bool) → is_to_scan (after_operation p.trapping reg write p.regs) p.trapping p.debt ≡ b → is_paid (if b then before_next else paid) ≡ false
        of true e = refl
        of false e = absurd (quiet (quiet_after (after_operation p.trapping reg write p.regs) p.trapping p.debt e))
