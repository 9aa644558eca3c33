-- How the guests of a run end.
use Rattle.std.proofs.Common.{◌≡◌, ℕ, ◌<◌, ◌&&◌, not, Bool, true, false, IsTrue, All, List, [], ◌∷◌, length, map, Option, Some, None, is_none, refl, sym, ap, ◌∙◌, subst}
use Rattle.std.specs.Prelude.{slice_get, slice_set}
use Rattle.std.specs.Option.{option_map_or}
use Rattle.std.proofs.lemmas.List.Elements.{All-get_or}
use Rattle.std.specs.List.{range_with_len}
use Rattle.std.proofs.Math.Logic.{∥∥₁_elim, ∥∥₁_map}
use Rattle.std.proofs.Props.{props}
use Rattle.std.proofs.lemmas.List.{length-map, length-set}
use Rattle.std.proofs.lemmas.Option.{get_or_from_slice_get, slice_get_within}
use Rattle.std.proofs.lemmas.List.FromFn.{length-range_with_len}
use Rattle.law_ends_agree.specs.Registers.{CpuRec}
use Rattle.law_ends_agree.specs.Histories.{IdealGuest, after_device, after_op, CanOpen}
use Rattle.law_ends_agree.specs.IdealGuests.Opening.{opening}
use Rattle.law_ends_agree.specs.GicIdeal.Ends.{end_of, ends_of}
use Rattle.law_ends_agree.specs.GicIdeal.Eager.{after_step, after_steps, at_guest, state_shapes}
use Rattle.law_ends_agree.proofs.GicIdeal.StateLemmas.{same_shape}
use Rattle.law_ends_agree.specs.Words.{GuestShape}
use Rattle.law_ends_agree.specs.GuestEnd.Home.{IsAtEnd, guest_of}
use Rattle.law_ends_agree.specs.Calls.{GuestSpec, RunOut, IsGoodGuest, shapes_of}
use Rattle.law_ends_agree.specs.GicGuest.declared.outcome.End.{End}
use Rattle.law_ends_agree.specs.Core.{GuestWords, CoreState}
use Rattle.law_one_thread_is_eager.specs.PortSeq.Told.{GuestTold, SeqTold, guest_at, no_told, state_of, words_of_end}
use Rattle.law_one_thread_is_eager.specs.SeqGuest.Guest.{cpus_of, seen_by}
use Rattle.law_ends_agree.specs.GicGuest.declared.outcome.Answer.{Answer}
use Rattle.law_ends_agree.specs.ScnBase.declared.pes.VcpuName.{VcpuName}
use Rattle.law_ends_agree.specs.ScnBase.declared.step.Step.{Step}
use Rattle.law_ends_agree.specs.ScnBase.declared.step.Step.TheVariants.{Vcpu as StepVcpu, Device as StepDevice, Pe as StepPe}
use Rattle.law_one_thread_is_eager.specs.PortSeq.Kept.{IsFree}
use Rattle.law_one_thread_is_eager.specs.LawSerialIsEager.Serial.{moments_of}
use Rattle.law_one_thread_is_eager.specs.Done.{home_after}
use Rattle.law_one_thread_is_eager.proofs.DoneLemmas.{fitted}
use Rattle.law_one_thread_is_eager.proofs.FollowLemmas.{state_is}
use Rattle.law_one_thread_is_eager.proofs.MomentLemmas.{entries_parts}
use Rattle.law_ends_agree.specs.End.{AreEmpty, EndsAtHome, cpus_in, state_after, told_in, without_past_fault, words_in}
use Rattle.law_ends_agree.proofs.EndRuns.{runs_end}
use Rattle.law_ends_agree.specs.GuestEnd.declared.outcome.Done.{Done}
use Rattle.law_ends_agree.specs.GuestEnd.Ends.{AllEndAt, EndsAt, HaveEnded, guests_of}
use Rattle.law_ends_agree.proofs.GuestEnd.EndsLemmas.{all_end, all_states}
use Rattle.law_ends_agree.proofs.GuestEnd.PropLemmas.{end_prop}
use Rattle.run_seq.specs.Agenda.{Agenda, answers_by}
use Rattle.run_seq.specs.Run.{GuestHasRun, IsDone}
use Rattle.run_seq.proofs.StepLemmas.{there_in}

-- A guest that has run.

module _ (told : GuestTold) (lrs : ℕ) (pes : List (Option VcpuName)) (steps : List Step) (answers : List Answer) (ideal : IdealGuest) where
  -- an end can be told, with the lines of the ideal controller's guest, whatever state they are compared with
  pub record IsToldAs (guest : IdealGuest) : Type 0 where
    pub ended : IsAtEnd guest.shape (words_of_end told) (cpus_of told)
    pub vcpus : length (words_of_end told).vcpus ≡ guest.shape.vcpus
    pub guest_is : guest_of guest.shape (words_of_end told) (cpus_of told) ≡ without_past_fault ideal
    pub lines : (opened : IdealGuest) → end_of opened (guest_of guest.shape (words_of_end told) (cpus_of told)) ≡ end_of opened ideal

  abbrev Ends : IdealGuest → ℕ → Type 0
  Ends guest number = CanOpen guest → GuestHasRun guest number lrs pes steps answers ideal told → IsToldAs guest

  ends_here : Ends told.guest told.number
  ends_here good run =
      let guest = told.guest in
      let number = told.number in
      let moments = moments_of run.parts in
      let state : state_after guest number moments ≡ state_of told = state_is told moments (entries_parts run.parts ∙ sym run.world) in
      let empty : AreEmpty guest.shape (state_after guest number moments) = subst (AreEmpty guest.shape) (sym state) run.left.empty in
      let home : ∥ EndsAtHome guest number moments ∥₁ = ∥∥₁_map run.serial (λ serial. runs_end guest number moments good serial.proper.parted (fitted guest number lrs run.parts serial).calls empty) in
      record {
        ended = ∥∥₁_elim home (end_prop guest.shape (words_of_end told) (cpus_of told)) (λ home. subst (λ (s : CoreState). IsAtEnd guest.shape (words_in guest.shape s) (cpus_in guest.shape s)) state home.told);
        vcpus = length-map (range_with_len 0 guest.shape.vcpus) _ ∙ length-range_with_len 0 guest.shape.vcpus;
        guest_is =
            ∥∥₁_elim home (Prim.hlevel props) (λ home. subst (λ (s : CoreState). told_in guest s ≡ without_past_fault (home_after guest number run.parts)) state home.guest_is)
            ∙ ap without_past_fault (sym run.home_is);
        lines = λ opened.
            ∥∥₁_elim home (Prim.hlevel props)
            (λ home. subst (λ (s : CoreState). end_of opened (told_in guest s) ≡ end_of opened (home_after guest number run.parts)) state (home.lines opened))
            ∙ ap (end_of opened) (sym run.home_is);
      }

  told_ends : (guest : IdealGuest) (number : ℕ) → told.guest ≡ guest → told.number ≡ number → Ends guest number
  told_ends guest number guest_is number_is = subst (λ g. Ends g number) guest_is (subst (Ends told.guest) number_is ends_here)

  -- so it is of the guest: its lines are told beside those of any guest of its shape, and it is the ideal controller's, but for the number of a past fault
  pub record GuestEnds (guest : GuestSpec) : Type 0 where
    pub ends : EndsAt guest (words_of_end told) (cpus_of told) ideal
    pub is : guest_of guest.shape (words_of_end told) (cpus_of told) ≡ without_past_fault ideal

  pub guest_ends :
      (guest : GuestSpec) (state : IdealGuest) (number : ℕ) → told.guest ≡ state → told.number ≡ number → IsGoodGuest guest → state.shape ≡ guest.shape → CanOpen state → GuestHasRun state number lrs pes steps answers ideal told → GuestEnds guest
  guest_ends guest state number guest_is number_is good shape can run =
      let is = told_ends state number guest_is number_is can run in
      record {
        ends =
            record {
              good = good;
              ended = subst (λ s. IsAtEnd s (words_of_end told) (cpus_of told)) shape is.ended;
              vcpus = is.vcpus ∙ ap (λ (s : GuestShape). s.vcpus) shape;
              lines = subst (λ s. end_of (opening guest) (guest_of s (words_of_end told) (cpus_of told)) ≡ end_of (opening guest) ideal) shape (is.lines (opening guest));
            };
        is = subst (λ s. guest_of s (words_of_end told) (cpus_of told) ≡ without_past_fault ideal) shape is.guest_is;
      }

-- All guests of a run.

turn_off : (a t c d : Bool) → IsTrue (a && not t && not c && d) → t ≡ false
turn_off a false c d h = refl
turn_off true true c d h = absurd (cc)
turn_off false true c d h = absurd (cc)

guest_each : (number : ℕ) (change : IdealGuest → IdealGuest) (ideals : List IdealGuest) → length (at_guest number change ideals) ≡ length ideals
guest_each number change ideals = of (slice_get ideals number)
  where
    of : (o : Option IdealGuest) → length (option_map_or (λ guest. slice_set ideals number (change guest)) o ideals) ≡ length ideals
    of None = refl
    of (Some guest) = length-set ideals number (change guest)

step_each : (step : Step) (ideals : List IdealGuest) → length (after_step step ideals) ≡ length ideals
step_each (StepVcpu guest vcpu op) ideals = guest_each guest (λ state. after_op op state vcpu) ideals
step_each (StepDevice guest device op) ideals = guest_each guest (after_device op) ideals
step_each (StepPe pe op) ideals = refl

steps_each : (steps : List Step) (ideals : List IdealGuest) → length (after_steps steps ideals) ≡ length ideals
steps_each [] ideals = refl
steps_each (step ∷ steps) ideals = steps_each steps (after_step step ideals) ∙ step_each step ideals

module _ (agenda : Agenda) (done : Done) (told : SeqTold) (run : IsDone agenda done told) where
  abbrev last_ideals : List IdealGuest
  last_ideals = after_steps agenda.steps agenda.states

  ideals_each : length last_ideals ≡ length agenda.states
  ideals_each = steps_each agenda.steps agenda.states

  -- then none has an ITS
  pub all_free : (number : ℕ) → number < length told.guests → IsFree (guest_at told number)
  all_free number there actor few =
      let state = there_in agenda.states number (subst (λ n. number < n) run.ports there) in
      let ideal = there_in last_ideals number (subst (λ n. number < n) (run.ports ∙ sym ideals_each) there) in
      let has = run.each number state.one ideal.one state.is ideal.is in
      let local = (seen_by (guest_at told number) actor).local in
      turn_off _ local.turn local.ctlr (is_none local.line) (has.left.settled actor few)

  -- what comes out is what the ideal controller's steps give
  pub out_is : (guests : List GuestSpec) (ends : List End) → ends ≡ ends_of (map opening guests) last_ideals → (let out : RunOut = record { answers = done.answers; ends = ends } in out) ≡ record { answers = answers_by agenda; ends = ends_of (map opening guests) last_ideals }
  out_is guests ends ends_are =
      let out : List Answer → List End → RunOut = λ answers ends. record { answers = answers; ends = ends } in
      ap (λ answers. out answers ends) run.answers ∙ ap (out (answers_by agenda)) ends_are

  -- good guests that can open, with the shapes of these states
  module _ (guests : List GuestSpec) (good : All IsGoodGuest guests) (shapes : state_shapes agenda.states ≡ shapes_of guests) (can : (number : ℕ) → number < length told.guests → CanOpen (guest_at told number).guest) where
    guests_each : length agenda.states ≡ length guests
    guests_each = sym (length-map agenda.states (λ (g : IdealGuest). g.shape)) ∙ ap length shapes ∙ length-map guests (λ (g : GuestSpec). g.shape)

    good_at : (guest : GuestSpec) (number : ℕ) → slice_get guests number ≡ Some guest → IsGoodGuest guest
    good_at guest number is = subst IsGoodGuest (get_or_from_slice_get guests number guest guest is) (All-get_or IsGoodGuest guests number guest (slice_get_within guests number guest is) good)

    one_ends : (n : ℕ) (guest : GuestSpec) (one : GuestTold) (ideal : IdealGuest) → slice_get guests n ≡ Some guest → slice_get told.guests n ≡ Some one → slice_get last_ideals n ≡ Some ideal → GuestEnds one agenda.lrs agenda.pes agenda.steps done.answers ideal guest
    one_ends n guest one ideal a t b =
        let within = slice_get_within guests n guest a in
        let state = there_in agenda.states n (subst (λ m. n < m) (sym guests_each) within) in
        let has = run.each n state.one ideal state.is b in
        let shape : state.one.shape ≡ guest.shape
        = same_shape agenda.states guests n state.one guest shapes within (sym (get_or_from_slice_get agenda.states n state.one state.one state.is)) (sym (get_or_from_slice_get guests n guest guest a)) in
        subst (λ (g : GuestTold). GuestEnds g agenda.lrs agenda.pes agenda.steps done.answers ideal guest) (get_or_from_slice_get told.guests n one no_told t)
        (guest_ends (guest_at told n) agenda.lrs agenda.pes agenda.steps done.answers ideal guest state.one n has.guest_is has.number_is (good_at guest n a) shape
        (subst CanOpen has.guest_is (can n (slice_get_within told.guests n one t))) has)

    -- these words and records tell how each ended
    all_ended : (words : List GuestWords) → words ≡ map words_of_end told.guests → AllEndAt guests words done.cpus last_ideals
    all_ended words words_are =
        subst (λ (ws : List GuestWords). AllEndAt guests ws done.cpus last_ideals) (sym words_are)
        (subst (λ cpus. AllEndAt guests (map words_of_end told.guests) cpus last_ideals) (sym run.cpus)
        (all_end words_of_end cpus_of guests told.guests last_ideals (run.ports ∙ guests_each) (ideals_each ∙ guests_each) (λ n guest one ideal a t b. (one_ends n guest one ideal a t b).ends)))

    pub ended_by : (words : List GuestWords) (cpus : List CpuRec) → words ≡ map words_of_end told.guests → cpus ≡ done.cpus → AllEndAt guests words cpus last_ideals
    ended_by words cpus words_are same = subst (λ cpus. AllEndAt guests words cpus last_ideals) (sym same) (all_ended words words_are)

    pub have_ended : (words : List GuestWords) (cpus : List CpuRec) → words ≡ map words_of_end told.guests → cpus ≡ done.cpus → HaveEnded guests words cpus
    have_ended words cpus words_are same = record { ideals = last_ideals; all = ended_by words cpus words_are same }

    -- the guests that they say are the ideal controller's, but for the numbers of past faults
    pub states_are : (words : List GuestWords) (cpus : List CpuRec) → words ≡ map words_of_end told.guests → cpus ≡ done.cpus → guests_of guests words cpus ≡ map without_past_fault last_ideals
    states_are words cpus words_are same =
        ap (λ words. guests_of guests words cpus) words_are
        ∙ ap (guests_of guests (map words_of_end told.guests)) (same ∙ run.cpus)
        ∙ all_states words_of_end cpus_of without_past_fault guests told.guests last_ideals (run.ports ∙ guests_each) (ideals_each ∙ guests_each)
        (λ n guest one ideal a t b. let ends = one_ends n guest one ideal a t b in (ends.ends.ended.each ∙ ends.ends.vcpus, ends.is))
