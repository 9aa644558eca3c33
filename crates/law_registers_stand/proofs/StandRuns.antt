-- The registers of a vCPU stand for its interface at every moment of every proper run.
use Rattle.std.proofs.Common.{◌≡◌, ◌≢◌, ℕ, ◌<◌, ◌≤◌, ◌==◌, ◌&&◌, ◌||◌, ◌⊎◌, inl, inr, true≢false, not, Bool, true, false, IsTrue, List, [], ◌∷◌, map, filter, fold, if◌then◌else◌, Option, Some, None, unwrap_or, nat_le, refl, sym, ◌∙◌, subst, arith}
use Rattle.std.proofs.lemmas.Bool.{and_parts, eqb-true, eq-eqb, leb-true, lt-ltb}
use Rattle.std.proofs.lemmas.List.Sums.{fold-append}
use Rattle.law_core_is_history.specs.Words.{IccReg, Key, Icc, Mem, GuestShape, IsShape, Irq, irq_of}
use Rattle.law_core_is_history.specs.Calls.{Operation, Access}
use Rattle.law_core_is_history.specs.Histories.{IdealGuest, CanOpen}
use Rattle.law_core_is_history.specs.Core.{Made, CoreStep, Look, Claim, Poll, Irq as IrqWord, Vcpu, Queue, Ctlr, Plain, Index, Line, succeeds, vcpu_of, is_vcpu, CoreState, opening, seat_at, after, Takes, IsRun, IsLocal, after_moment, end_of_moments, ideal_moments, ideal_of, IsSeatOf, Act, begins, makes, ends, CoreMoment, own_acts, entries_of, entry_by, has_registers, are_parts, Progress, Debt, paid, after_end, before_next, after_claim, after_poll, begun, is_paid, opening_progress, owed_after_part, owed_by_call, progressed, progress_of, progress_in, stepped, IsProper, IsProperAct, IsProperEnd, IsProperRun, IsProperStep, RegistersAgree, Scan, idle, taking, looking, claiming, is_idle}
use Rattle.law_core_is_history.proofs.PortCore.OpeningLemmas.{seat_opens}
use Rattle.law_core_is_history.specs.CoreProper.Progress.{changed_by}
use Rattle.law_core_is_history.proofs.CoreProper.FollowLemmas.{steps_follow}
use Rattle.law_core_is_history.proofs.CoreProper.ScanLemmas.{local_on, lrs_on}
use Rattle.law_core_is_history.proofs.AfterLemmas.{seat_mine, seat_other}
use Rattle.law_core_is_history.proofs.ReachedRuns.{IsReached, reaches_next, reached_opens}
use Rattle.law_core_is_history.proofs.StepContext.{IsStep}
use Rattle.law_registers_stand.specs.Followed.{Followed, opening_followed, followed_by, follows}
use Rattle.law_registers_stand.specs.Stands.{EndsActive, finds_active, RegistersStand, takes_active}
use Rattle.law_registers_stand.proofs.StandLemmas.{Standing, stands_on}
use Rattle.law_registers_stand.proofs.ScanSteps.{own_step}
use Rattle.law_registers_stand.proofs.StandSteps.{after_made, or_paid}

-- a vCPU at a moment of a run, inside of a part or not: what it has for itself is what the core has, and its registers stand for what they are to
pub record IsGoing (finds : Bool) (shape : GuestShape) (state : CoreState) (vcpu : ℕ) (inside : Bool) (p : Progress) : Type 0 where
  pub reached : IsReached shape state
  pub seat : IsSeatOf p (seat_at state vcpu)
  pub few : p.lrs ≤ 16
  pub some : IsTrue inside → 1 ≤ p.lrs
  pub stands : Standing finds shape vcpu p p.scan

-- what is told after a moment
abbrev pub told : GuestShape → Followed → CoreState → ℕ → Act → Followed
told shape telling state actor act = fold follows telling (ideal_moments shape (seat_at state actor) actor act)

-- what else each moment of a proper run keeps of a vCPU
pub record IsKept (finds : Bool) (shape : GuestShape) (vcpu : ℕ) (P : Followed → CoreState → Progress → Type 0) : Type 0 where
  pub others :
      (telling : Followed) (state : CoreState) (inside : Bool) (p : Progress) (actor : ℕ) (made : Made) → actor ≢ vcpu → Takes shape state (entry_by actor made) → IsGoing finds shape state vcpu inside p → P telling state p
      → P (told shape telling state actor (makes made)) (after shape state (entry_by actor made)) p
  pub other_begun : (telling : Followed) (state : CoreState) (p : Progress) (actor : ℕ) (operation : Operation) (lrs : ℕ) → P telling state p → P (told shape telling state actor (begins operation lrs)) state p
  pub other_ended : (telling : Followed) (state : CoreState) (p : Progress) (actor : ℕ) (answer : Option ℕ) → P telling state p → P (told shape telling state actor (ends answer)) state p
  pub begun : (telling : Followed) (state : CoreState) (p : Progress) (operation : Operation) (lrs : ℕ) → P telling state p → P (told shape telling state vcpu (begins operation lrs)) state (progressed shape vcpu p (begins operation lrs))
  pub ended : (telling : Followed) (state : CoreState) (p : Progress) (answer : Option ℕ) → IsProperEnd p → P telling state p → P (told shape telling state vcpu (ends answer)) state (progressed shape vcpu p (ends answer))
  pub own :
      (telling : Followed) (state : CoreState) (p : Progress) (made : Made) → IsProperStep shape vcpu p made.step → (IsTrue finds → IsTrue (takes_active vcpu p.scan made.step made.found)) → Takes shape state (entry_by vcpu made) → IsGoing finds shape state vcpu true p
      → IsGoing finds shape (after shape state (entry_by vcpu made)) vcpu true (stepped shape vcpu made p) → P telling state p → P (told shape telling state vcpu (makes made)) (after shape state (entry_by vcpu made)) (stepped shape vcpu made p)

-- the scan is over
pub idle_is : (scan : Scan) → IsTrue (is_idle scan) → scan ≡ idle
idle_is idle h = refl
idle_is (taking purpose words) h = absurd (cc)
idle_is (looking purpose from offers) h = absurd (cc)
idle_is (claiming claims takes) h = absurd (cc)

-- a step changes nothing of how many list registers there are
lrs_claimed : (key : Key) (irq : Irq) (done : Bool) (scan : Scan) (p : Progress) → (after_claim key irq done scan p).lrs ≡ p.lrs
lrs_claimed key irq done idle p = refl
lrs_claimed key irq done (taking purpose words) p = refl
lrs_claimed key irq done (looking purpose from offers) p = refl
lrs_claimed key irq done (claiming claims takes) p = refl

lrs_polled : (reg : Option IccReg) (write : Option ℕ) (kicked : Bool) (p : Progress) → (after_poll reg write kicked p).lrs ≡ p.lrs
lrs_polled None write kicked p = of (unwrap_or p.far false)
  where
    of : (b : Bool) → (begun b p).lrs ≡ p.lrs
    of true = refl
    of false = refl
lrs_polled (Some reg) write true p = refl
lrs_polled (Some reg) write false p = refl

lrs_changed : (shape : GuestShape) (vcpu : ℕ) (step : CoreStep) (found : ℕ) (done : Bool) (p : Progress) → (changed_by shape vcpu step found done p).lrs ≡ p.lrs
lrs_changed shape vcpu (Claim key seen) found done p = lrs_claimed key (irq_of found) done p.scan p
lrs_changed shape vcpu (Poll reg write) found done p = lrs_polled reg write (vcpu_of found).kick p
lrs_changed shape vcpu (Look (IrqWord key)) found done p = refl
lrs_changed shape vcpu (Look (Vcpu v)) found done p = refl
lrs_changed shape vcpu (Look Queue) found done p = refl
lrs_changed shape vcpu (Look Ctlr) found done p = refl
lrs_changed shape vcpu (Look (Plain i)) found done p = refl
lrs_changed shape vcpu (Look (Index v n)) found done p = refl
lrs_changed shape vcpu (Look (Line n)) found done p = refl
lrs_changed shape vcpu step found done p = refl

pub lrs_made : (shape : GuestShape) (vcpu : ℕ) (made : Made) (p : Progress) → (after_made shape vcpu made p).lrs ≡ p.lrs
lrs_made shape vcpu made p = lrs_changed shape vcpu made.step made.found (succeeds shape vcpu p.local made.step made.found) p

-- the begin and the end of a part
pub paid_begun : (operation : Operation) (debt : Debt) → IsTrue (is_paid (owed_by_call operation debt)) → IsTrue (is_paid debt)
paid_begun (Access (Icc reg write)) debt h = h
paid_begun (Access (Mem frame offset size write)) debt h = absurd (cc)
paid_begun operation debt h = h

pub paid_ended : (debt : Debt) → IsTrue (is_paid (owed_after_part debt)) → IsTrue (is_paid debt)
paid_ended paid h = refl
paid_ended after_end h = absurd (cc)
paid_ended before_next h = absurd (cc)

stands_begun : (finds : Bool) (shape : GuestShape) (vcpu : ℕ) (p : Progress) (operation : Operation) (lrs : ℕ) (scan : Scan) → Standing finds shape vcpu p scan → Standing finds shape vcpu (progressed shape vcpu p (begins operation lrs)) scan
stands_begun finds shape vcpu p operation lrs idle is = λ ready owed. is ready (or_paid finds (owed_by_call operation p.debt) p.debt (paid_begun operation p.debt) owed)
stands_begun finds shape vcpu p operation lrs (taking purpose words) is = is
stands_begun finds shape vcpu p operation lrs (looking purpose from offers) is = is
stands_begun finds shape vcpu p operation lrs (claiming claims takes) is = is

stands_ended : (finds : Bool) (shape : GuestShape) (vcpu : ℕ) (p : Progress) (answer : Option ℕ) (scan : Scan) → Standing finds shape vcpu p scan → Standing finds shape vcpu (progressed shape vcpu p (ends answer)) scan
stands_ended finds shape vcpu p answer idle is = λ ready owed. is ready (or_paid finds (owed_after_part p.debt) p.debt (paid_ended p.debt) owed)
stands_ended finds shape vcpu p answer (taking purpose words) is = is
stands_ended finds shape vcpu p answer (looking purpose from offers) is = is
stands_ended finds shape vcpu p answer (claiming claims takes) is = is

-- whether a vCPU is inside of a part after what it does
abbrev inside_after : Bool → Act → Bool
inside_after inside (begins operation lrs) = true
inside_after inside (makes made) = inside
inside_after inside (ends answer) = false

module _ (finds : Bool) (shape : GuestShape) (good : IsShape shape) (vcpu : ℕ) (within : vcpu < shape.vcpus) (P : Followed → CoreState → Progress → Type 0) (kept : IsKept finds shape vcpu P) where
  -- what is so at a moment
  pub record Holds (telling : Followed) (state : CoreState) (inside : Bool) (p : Progress) : Type 0 where
    pub going : IsGoing finds shape state vcpu inside p
    pub more : P telling state p

  -- a step of another actor
  others : (telling : Followed) (state : CoreState) (inside : Bool) (p : Progress) (actor : ℕ) (made : Made) → actor ≢ vcpu → Takes shape state (entry_by actor made) → Holds telling state inside p → Holds (told shape telling state actor (makes made)) (after shape state (entry_by actor made)) inside p
  others telling state inside p actor made apart takes holds =
      let going = holds.going in
      let is : IsStep shape state going.reached.ideal actor made.step made.found made.left made.tables = record { good = good; sound = going.reached.sound; related = going.reached.related; takes = takes } in
      record {
        going =
            record {
              reached = reaches_next shape state (entry_by actor made) good going.reached takes;
              seat = subst (IsSeatOf p) (sym (seat_other is vcpu (λ e. apart (sym e)))) going.seat;
              few = going.few;
              some = going.some;
              stands = going.stands;
            };
        more = kept.others telling state inside p actor made apart takes going holds.more;
      }

  -- a step of its own
  own_going : (state : CoreState) (p : Progress) (made : Made) → IsProperStep shape vcpu p made.step → (IsTrue finds → IsTrue (takes_active vcpu p.scan made.step made.found)) → Takes shape state (entry_by vcpu made) → IsGoing finds shape state vcpu true p
      → IsGoing finds shape (after shape state (entry_by vcpu made)) vcpu true (stepped shape vcpu made p)
  own_going state p made proper active takes going =
      let is : IsStep shape state going.reached.ideal vcpu made.step made.found made.left made.tables = record { good = good; sound = going.reached.sound; related = going.reached.related; takes = takes } in
      let reached = reaches_next shape state (entry_by vcpu made) good going.reached takes in
      let q = after_made shape vcpu made p in
      let seat = subst (IsSeatOf (stepped shape vcpu made p)) (sym (seat_mine is)) (steps_follow shape vcpu (made ∷ []) p (seat_at state vcpu).local (seat_at state vcpu).own going.seat) in
      let local : IsLocal shape vcpu p.local = subst (IsLocal shape vcpu) (sym going.seat.local) (going.reached.sound.locals vcpu takes.actor) in
      let after_local : IsLocal shape vcpu q.local = subst (IsLocal shape vcpu) (sym (seat.local) ∙ local_on shape vcpu q) (reached.sound.locals vcpu takes.actor) in
      let some : 1 ≤ q.lrs = subst (λ n. 1 ≤ n) (sym (lrs_made shape vcpu made p)) (going.some refl) in
      let few : q.lrs ≤ 16 = subst (λ n. n ≤ 16) (sym (lrs_made shape vcpu made p)) going.few in
      record {
        reached = reached;
        seat = seat;
        few = subst (λ n. n ≤ 16) (sym (lrs_on shape vcpu q)) few;
        some = λ h. subst (λ n. 1 ≤ n) (sym (lrs_on shape vcpu q)) some;
        stands =
            stands_on finds shape vcpu q good some few after_local
            (own_step finds shape state going.reached.ideal vcpu made.found made.left made.tables within p going.seat (going.some refl) going.few made.step is proper active local after_local going.stands);
      }

  own :
      (telling : Followed) (state : CoreState) (inside : Bool) (p : Progress) (act : Act) (acts : List Act) → IsProperAct shape vcpu p act → (IsTrue finds → IsTrue (finds_active vcpu p act)) → IsTrue (are_parts shape vcpu inside (act ∷ acts)) → IsRun shape state (entries_of (record { actor = vcpu; act = act } ∷ [])) → Holds telling state inside p
      → Holds (told shape telling state vcpu act) (after_moment shape state (record { actor = vcpu; act = act })) (inside_after inside act) (progressed shape vcpu p act) × IsTrue (are_parts shape vcpu (inside_after inside act) acts)
  own telling state inside p (begins operation lrs) acts proper active parts run holds =
      let rest = and_parts (not inside && has_registers shape vcpu lrs) (are_parts shape vcpu true acts) parts in
      let few = registers (is_vcpu shape vcpu) (lt-ltb vcpu shape.vcpus within) lrs (and_parts (not inside) (has_registers shape vcpu lrs) rest.0).1 in
      let going = holds.going in (
        record {
          going = record { reached = going.reached; seat = record { local = going.seat.local; own = going.seat.own }; few = few.1; some = λ h. few.0; stands = stands_begun finds shape vcpu p operation lrs p.scan going.stands };
          more = kept.begun telling state p operation lrs holds.more;
        },
        rest.1,
      )
    where
      registers : (b : Bool) → b ≡ true → (lrs : ℕ) → IsTrue (if b then nat_le 1 lrs && nat_le lrs 16 else lrs == 0) → (1 ≤ lrs) × (lrs ≤ 16)
      registers true e lrs h = let parts = and_parts (nat_le 1 lrs) (nat_le lrs 16) h in (leb-true 1 lrs parts.0, leb-true lrs 16 parts.1)
      registers false e lrs h = absurd (cc)
  own telling state inside p (ends answer) acts proper active parts run holds =
      let rest = and_parts inside (are_parts shape vcpu false acts) parts in
      let going = holds.going in (
        record {
          going = record { reached = going.reached; seat = record { local = going.seat.local; own = going.seat.own }; few = going.few; some = λ h. absurd (true≢false (sym h)); stands = stands_ended finds shape vcpu p answer p.scan going.stands };
          more = kept.ended telling state p answer proper holds.more;
        },
        rest.1,
      )
  own telling state inside p (makes made) acts proper active parts run holds =
      let rest = and_parts inside (are_parts shape vcpu inside acts) parts in
      let going : IsGoing finds shape state vcpu true p = subst (λ b. IsGoing finds shape state vcpu b p) rest.0 holds.going in
      let next = own_going state p made proper active run.0 going in
      (record { going = subst (λ b. IsGoing finds shape (after shape state (entry_by vcpu made)) vcpu b (stepped shape vcpu made p)) (sym rest.0) next; more = kept.own telling state p made proper active run.0 going next holds.more }, rest.1)

  -- every moment
  split : (state : CoreState) (actor : ℕ) (act : Act) (moments : List CoreMoment) → IsRun shape state (entries_of (record { actor = actor; act = act } ∷ moments))
      → IsRun shape state (entries_of (record { actor = actor; act = act } ∷ [])) × IsRun shape (after_moment shape state (record { actor = actor; act = act })) (entries_of moments)
  split state actor (begins operation lrs) moments run = (tt, run)
  split state actor (makes made) moments run = ((run.0, tt), run.1)
  split state actor (ends answer) moments run = (tt, run)

  other :
      (telling : Followed) (state : CoreState) (inside : Bool) (p : Progress) (actor : ℕ) (act : Act) → actor ≢ vcpu → IsRun shape state (entries_of (record { actor = actor; act = act } ∷ [])) → Holds telling state inside p
      → Holds (told shape telling state actor act) (after_moment shape state (record { actor = actor; act = act })) inside p
  other telling state inside p actor (begins operation lrs) apart run holds = record { going = holds.going; more = kept.other_begun telling state p actor operation lrs holds.more }
  other telling state inside p actor (makes made) apart run holds = others telling state inside p actor made apart run.0 holds
  other telling state inside p actor (ends answer) apart run holds = record { going = holds.going; more = kept.other_ended telling state p actor answer holds.more }

  pub goes :
      (moments : List CoreMoment) (telling : Followed) (state : CoreState) (inside : Bool) (p : Progress) → Holds telling state inside p → IsRun shape state (entries_of moments) → IsTrue (are_parts shape vcpu inside (own_acts vcpu moments)) → IsProper shape vcpu p (own_acts vcpu moments)
      → (IsTrue finds → EndsActive shape vcpu p (own_acts vcpu moments)) → (now : Bool) × Holds (fold follows telling (ideal_of shape state moments)) (end_of_moments shape state moments) now (progress_of shape vcpu p (own_acts vcpu moments))
  goes [] telling state inside p holds run parts proper active = (inside, holds)
  goes (moment ∷ moments) telling state inside p holds run parts proper active =
      subst (λ t. (now : Bool) × Holds t (end_of_moments shape (after_moment shape state moment) moments) now (progress_of shape vcpu p (own_acts vcpu (moment ∷ moments))))
      (sym (fold-append follows telling (ideal_moments shape (seat_at state moment.actor) moment.actor moment.act) (ideal_of shape (after_moment shape state moment) moments)))
      (by_actor (moment.actor == vcpu) refl
      (λ now q so next is active. goes moments (told shape telling state moment.actor moment.act) (after_moment shape state moment) now q so (split state moment.actor moment.act moments run).1 next is active) parts proper active)
    where
      runs : IsRun shape state (entries_of (moment ∷ [])) × IsRun shape (after_moment shape state moment) (entries_of moments)
      runs = split state moment.actor moment.act moments run

      mine : moment.actor ≡ vcpu → (acts : List Act) → IsProperAct shape vcpu p moment.act → (IsTrue finds → IsTrue (finds_active vcpu p moment.act)) → IsTrue (are_parts shape vcpu inside (moment.act ∷ acts))
          → Holds (told shape telling state moment.actor moment.act) (after_moment shape state moment) (inside_after inside moment.act) (progressed shape vcpu p moment.act) × IsTrue (are_parts shape vcpu (inside_after inside moment.act) acts)
      mine same acts is_proper active parts =
          subst
          (λ n. Holds (told shape telling state n moment.act) (after_moment shape state (record { actor = n; act = moment.act })) (inside_after inside moment.act) (progressed shape vcpu p moment.act) × IsTrue (are_parts shape vcpu (inside_after inside moment.act) acts)) (sym same)
          (own telling state inside p moment.act acts is_proper active parts (subst (λ n. IsRun shape state (entries_of (record { actor = n; act = moment.act } ∷ []))) same runs.0) holds)

      by_actor : (b : Bool) → (moment.actor == vcpu) ≡ b
          → ((now : Bool) (q : Progress) → Holds (told shape telling state moment.actor moment.act) (after_moment shape state moment) now q → IsTrue (are_parts shape vcpu now (own_acts vcpu moments)) → IsProper shape vcpu q (own_acts vcpu moments) → (IsTrue finds → EndsActive shape vcpu q (own_acts vcpu moments)) → (now : Bool) × Holds (fold follows (told shape telling state moment.actor moment.act) (ideal_of shape (after_moment shape state moment) moments)) (end_of_moments shape (after_moment shape state moment) moments) now (progress_of shape vcpu q (own_acts vcpu moments)))
          → let acts = map (λ (m : CoreMoment). m.act) (if b then moment ∷ filter (λ (m : CoreMoment). m.actor == vcpu) moments else filter (λ (m : CoreMoment). m.actor == vcpu) moments) in
          IsTrue (are_parts shape vcpu inside acts) → IsProper shape vcpu p acts → (IsTrue finds → EndsActive shape vcpu p acts) → (now : Bool) × Holds (fold follows (told shape telling state moment.actor moment.act) (ideal_of shape (after_moment shape state moment) moments)) (end_of_moments shape (after_moment shape state moment) moments) now (progress_of shape vcpu p acts)
      by_actor true e rest parts proper active =
          let next = mine (eqb-true moment.actor vcpu e) (own_acts vcpu moments) proper.0 (λ f. (active f).0) parts in
          rest (inside_after inside moment.act) (progressed shape vcpu p moment.act) next.0 next.1 proper.1 (λ f. (active f).1)
      by_actor false e rest parts proper active = rest inside p (other telling state inside p moment.actor moment.act (λ same. true≢false (sym (eq-eqb moment.actor vcpu same) ∙ e)) runs.0 holds) parts proper active

pub opens : (finds : Bool) (guest : IdealGuest) (number vcpu : ℕ) → CanOpen guest → vcpu < guest.shape.vcpus → IsGoing finds guest.shape (opening guest number) vcpu false (opening_progress guest number vcpu)
opens finds guest number vcpu good within = record {
  reached = reached_opens guest number good;
  seat = subst (IsSeatOf (opening_progress guest number vcpu)) (sym (seat_opens guest number vcpu (omega (arith, within)))) (record { local = refl; own = refl });
  few = omega arith;
  some = λ h. absurd (true≢false (sym h));
  stands = λ ready owed. absurd (true≢false (sym ready));
}

-- at the end of a proper run
pub ends_so :
    (finds : Bool) (guest : IdealGuest) (number : ℕ) (moments : List CoreMoment) (vcpu : ℕ) (P : Followed → CoreState → Progress → Type 0) (good : CanOpen guest) (proper : IsProperRun guest number moments) (within : vcpu < guest.shape.vcpus) (kept : IsKept finds guest.shape vcpu P)
    → P (opening_followed guest) (opening guest number) (opening_progress guest number vcpu) → (IsTrue finds → EndsActive guest.shape vcpu (opening_progress guest number vcpu) (own_acts vcpu moments))
    → (inside : Bool) × Holds finds guest.shape good.sound.shape vcpu within P kept (followed_by guest (ideal_of guest.shape (opening guest number) moments)) (end_of_moments guest.shape (opening guest number) moments) inside (progress_in guest number moments vcpu)
ends_so finds guest number moments vcpu P good proper within kept first active =
    goes finds guest.shape good.sound.shape vcpu within P kept moments (opening_followed guest) (opening guest number) false (opening_progress guest number vcpu) (record { going = opens finds guest number vcpu good within; more = first }) proper.parted.run (proper.parted.parts vcpu (omega (arith, within)))
    (proper.proper vcpu (omega (arith, within))) active

-- nothing else
pub nothing_more : (finds : Bool) (shape : GuestShape) (vcpu : ℕ) → IsKept finds shape vcpu (λ telling state p. Unit {0})
nothing_more finds shape vcpu = record {
  others = λ telling state inside p actor made apart takes going h. tt;
  other_begun = λ telling state p actor operation lrs h. tt;
  other_ended = λ telling state p actor answer h. tt;
  begun = λ telling state p operation lrs h. tt;
  ended = λ telling state p answer proper h. tt;
  own = λ telling state p made proper active takes going next h. tt;
}

pub registers_stand : RegistersStand
registers_stand guest number moments vcpu good proper within loaded how = of how
  where
    stands : (finds : Bool) → IsTrue (finds || is_paid (progress_in guest number moments vcpu).debt) → (IsTrue finds → EndsActive guest.shape vcpu (opening_progress guest number vcpu) (own_acts vcpu moments)) → RegistersAgree (progress_in guest number moments vcpu).regs (progress_in guest number moments vcpu).local
    stands finds owed active =
        let going = (ends_so finds guest number moments vcpu (λ telling state p. Unit {0}) good proper within (nothing_more finds guest.shape vcpu) tt active).1.going in
        subst (Standing finds guest.shape vcpu (progress_in guest number moments vcpu)) (idle_is (progress_in guest number moments vcpu).scan loaded.scan) going.stands loaded.ready owed

    of : IsTrue (is_paid (progress_in guest number moments vcpu).debt) ⊎ EndsActive guest.shape vcpu (opening_progress guest number vcpu) (own_acts vcpu moments) → RegistersAgree (progress_in guest number moments vcpu).regs (progress_in guest number moments vcpu).local
    of (inl owed) = stands false owed (λ f. absurd (true≢false (sym f)))
    of (inr active) = stands true refl (λ f. active)
