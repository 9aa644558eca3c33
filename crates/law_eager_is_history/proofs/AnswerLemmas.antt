-- The calls of each actor in the history of the eager controller are its steps, with their answers.
use Rattle.std.proofs.Common.{◌≡◌, ℕ, ◌+◌, ◌==◌, zero, suc, Bool, true, false, cond, inl, inr, All, List, [], ◌∷◌, ◌++◌, map, length, Option, Some, None, refl, sym, ap, ◌∙◌, subst, arith}
use Rattle.std.specs.List.{slice_get}
use Rattle.std.specs.Option.{option_map_or, option_map}
use Rattle.std.proofs.lemmas.Bool.Decides.{eqb_tells}
use Rattle.std.proofs.lemmas.List.{append_assoc, length-map}
use Rattle.std.proofs.lemmas.List.Elements.{All-head, All-tail}
use Rattle.std.proofs.lemmas.Option.{slice_get-map, same_Some}
use Rattle.floor_histories.proofs.IdealGuests.CanOpenLemmas.{openings_can_open}
use Rattle.floor_histories.specs.Words.{GuestOp, Icc, Mem, GuestShape}
use Rattle.floor_histories.specs.Calls.{GuestSpec, IsGoodGuest, shapes_of, Event, Moment, Operation, Access, Device as DeviceCall, Residence, Happened}
use Rattle.floor_histories.specs.GicGuest.declared.outcome.Answer.TheVariants.{Nothing}
use Rattle.gic_ideal.specs.ScnBase.declared.pes.VcpuName.{VcpuName}
use Rattle.gic_ideal.specs.ScnBase.declared.step.Step.{Step}
use Rattle.gic_ideal.specs.ScnBase.declared.step.Step.TheVariants.{Vcpu, Device, Pe}
use Rattle.gic_ideal.specs.ScnBase.Standing.{opening_pes, pes_after}
use Rattle.floor_histories.specs.GicCall.declared.event.Moment.TheVariants.{End as EndMoment}
use Rattle.gic_ideal.specs.ScnBase.declared.step.Mode.TheVariants.{Schedule}
use Rattle.floor_histories.specs.Histories.{IdealGuest, op_answer, after_events, last_of, home}
use Rattle.floor_histories.specs.IdealGuests.Opening.{opening}
use Rattle.gic_ideal.specs.Deeds.{step_events}
use Rattle.gic_ideal.specs.Eager.{step_answer, answers_of, after_step, after_steps}
use Rattle.gic_ideal.specs.Ends.{end_of, ends_of}
use Rattle.gic_ideal.proofs.StepLemmas.{step_is_events, steps_are_events, shapes_step}
use Rattle.law_eager_is_history.specs.Calls.{Made, answer_of, made_of, calls_by, own_steps}
use Rattle.law_eager_is_history.specs.Laws.{EagerIsAHistory, EagerIsPossible}
use Rattle.law_eager_is_history.specs.Moments.{op_made, op_read, device_made, settled, happenings, moment_of, call_moments, step_moments, history_of}
use Rattle.law_eager_is_history.proofs.EventLemmas.{shape_events}
use Rattle.law_eager_is_history.proofs.StepLemmas.{whole_run}

-- A call among an actor's.

-- what happens within a call is no call
skipped : (actor : ℕ) (current : Operation) (by : ℕ) (made : List Happened) (moments : List Moment) → calls_by actor current (map (moment_of by) made ++ moments) ≡ calls_by actor current moments
skipped actor current by [] moments = refl
skipped actor current by (one ∷ made) moments = skipped actor current by made moments

call_by : (actor : ℕ) (current : Operation) (by : ℕ) (operation : Operation) (events : List Event) (answer : Option ℕ) (guest : IdealGuest) (rest : List Moment)
    → calls_by actor current (call_moments by operation events answer guest ++ rest) ≡ cond (by == actor) (made_of operation answer (calls_by actor operation rest)) (calls_by actor current rest)
call_by actor current by operation events answer guest rest = of (by == actor) refl
  where
    made : List Moment
    made = map (moment_of by) (happenings by events (settled guest))

    ends : (current : Operation) → calls_by actor current ((map (moment_of by) (happenings by events (settled guest)) ++ EndMoment by answer ∷ []) ++ rest) ≡ cond (by == actor) (made_of current answer (calls_by actor current rest)) (calls_by actor current rest)
    ends current =
        ap (calls_by actor current) (append_assoc (map (moment_of by) (happenings by events (settled guest))) (EndMoment by answer ∷ []) rest)
        ∙ skipped actor current by (happenings by events (settled guest)) (EndMoment by answer ∷ rest)

    of : (b : Bool) → (by == actor) ≡ b → calls_by actor current (call_moments by operation events answer guest ++ rest) ≡ cond b (made_of operation answer (calls_by actor operation rest)) (calls_by actor current rest)
    of true e =
        let after = (map (moment_of by) (happenings by events (settled guest)) ++ EndMoment by answer ∷ []) ++ rest in
        ap (λ b. cond b (calls_by actor operation after) (calls_by actor current after)) e ∙ ends operation ∙ ap (λ b. cond b (made_of operation answer (calls_by actor operation rest)) (calls_by actor operation rest)) e
    of false e =
        let after = (map (moment_of by) (happenings by events (settled guest)) ++ EndMoment by answer ∷ []) ++ rest in
        ap (λ b. cond b (calls_by actor operation after) (calls_by actor current after)) e ∙ ends current ∙ ap (λ b. cond b (made_of current answer (calls_by actor current rest)) (calls_by actor current rest)) e

-- what an operation answers
answers_same : (op : GuestOp) (guest : IdealGuest) (vcpu : ℕ) → answer_of (op_read op guest vcpu) ≡ op_answer op guest vcpu
answers_same (Icc reg write) guest vcpu = refl
answers_same (Mem frame offset size None) guest vcpu = refl
answers_same (Mem frame offset size (Some value)) guest vcpu = refl

module _ (lrs n : ℕ) (shape : GuestShape) (actor : ℕ) where
  -- the calls of the steps from there on
  abbrev IsSame : List Step → Type 0
  IsSame steps = (current : Operation) (pes : List (Option VcpuName)) (guests : List IdealGuest) (guest : IdealGuest) → slice_get guests n ≡ Some guest → guest.shape ≡ shape → calls_by actor current (history_of n steps guest) ≡ own_steps shape n actor steps (answers_of lrs pes steps guests)

  same_calls : (steps : List Step) → IsSame steps
  same_calls [] current pes guests guest at same = refl
  same_calls (Pe pe op ∷ steps) current pes guests guest at same = same_calls steps current (pes_after (Pe pe op) pes) guests guest at same
  same_calls (Vcpu g vcpu op ∷ steps) current pes guests guest at same =
      let step = Vcpu g vcpu op in
      let next = after_step step guests in
      let after = after_events (step_events n step guest) guest in
      let there : slice_get next n ≡ Some after = step_is_events step guests n guest at in
      let shapes : after.shape ≡ shape = shape_events (step_events n step guest) guest ∙ same in
      let rest : (now : Operation) → calls_by actor now (history_of n steps after) ≡ own_steps shape n actor steps (answers_of lrs (pes_after step pes) steps next) = λ now. same_calls steps now (pes_after step pes) next after there shapes in
      of step next after rest
    where
      of : (step : Step) (next : List IdealGuest) (after : IdealGuest) → ((now : Operation) → calls_by actor now (history_of n steps after) ≡ own_steps shape n actor steps (answers_of lrs (pes_after (Vcpu g vcpu op) pes) steps next))
          → calls_by actor current (step_moments n (Vcpu g vcpu op) guest ++ history_of n steps after)
          ≡ own_steps shape n actor (Vcpu g vcpu op ∷ steps) (step_answer lrs pes (Vcpu g vcpu op) guests ∷ answers_of lrs (pes_after (Vcpu g vcpu op) pes) steps next)
      of step next after rest =
          let later = answers_of lrs (pes_after (Vcpu g vcpu op) pes) steps next in
          let answer = step_answer lrs pes (Vcpu g vcpu op) guests in
          elim (eqb_tells g n) [
            | inl is ↦
                rw is.0
                (let said : answer_of (op_read op guest vcpu) ≡ answer = answers_same op guest vcpu ∙ sym (ap (λ o. option_map_or (λ (s : IdealGuest). op_answer op s vcpu) o Nothing) (ap (slice_get guests) is.1 ∙ at)) in
                call_by actor current vcpu (Access op) (op_made op guest vcpu) (op_read op guest vcpu) guest (history_of n steps after)
                ∙ ap (λ a. let m : Made = record { operation = Access op; answer = a } in cond (vcpu == actor) (m ∷ calls_by actor (Access op) (history_of n steps after)) (calls_by actor current (history_of n steps after))) said
                ∙ ap (λ xs. let m : Made = record { operation = Access op; answer = answer } in cond (vcpu == actor) (m ∷ xs) (calls_by actor current (history_of n steps after))) (rest (Access op))
                ∙ ap (λ xs. let m : Made = record { operation = Access op; answer = answer } in cond (vcpu == actor) (m ∷ own_steps shape n actor steps later) xs) (rest current))
            | inr differ ↦ rw differ.0 (rest current)
          ]
  same_calls (Device g device op ∷ steps) current pes guests guest at same =
      let step = Device g device op in
      let next = after_step step guests in
      let after = after_events (step_events n step guest) guest in
      let there : slice_get next n ≡ Some after = step_is_events step guests n guest at in
      let shapes : after.shape ≡ shape = shape_events (step_events n step guest) guest ∙ same in
      let rest : (now : Operation) → calls_by actor now (history_of n steps after) ≡ own_steps shape n actor steps (answers_of lrs (pes_after step pes) steps next) = λ now. same_calls steps now (pes_after step pes) next after there shapes in
      of next after rest
    where
      of : (next : List IdealGuest) (after : IdealGuest) → ((now : Operation) → calls_by actor now (history_of n steps after) ≡ own_steps shape n actor steps (answers_of lrs (pes_after (Device g device op) pes) steps next))
          → calls_by actor current (step_moments n (Device g device op) guest ++ history_of n steps after)
          ≡ own_steps shape n actor (Device g device op ∷ steps) (Nothing ∷ answers_of lrs (pes_after (Device g device op) pes) steps next)
      of next after rest =
          let later = answers_of lrs (pes_after (Device g device op) pes) steps next in
          let m : Made = record { operation = DeviceCall op; answer = Nothing } in
          elim (eqb_tells g n) [
            | inl is ↦
                rw is.0
                (call_by actor current (guest.shape.vcpus + device) (DeviceCall op) (device_made op guest) None guest (history_of n steps after)
                ∙ ap (λ (s : GuestShape). cond (s.vcpus + device == actor) (m ∷ calls_by actor (DeviceCall op) (history_of n steps after)) (calls_by actor current (history_of n steps after))) same
                ∙ ap (λ xs. cond (shape.vcpus + device == actor) (m ∷ xs) (calls_by actor current (history_of n steps after))) (rest (DeviceCall op))
                ∙ ap (λ xs. cond (shape.vcpus + device == actor) (m ∷ own_steps shape n actor steps later) xs) (rest current))
            | inr differ ↦ rw differ.0 (rest current)
          ]

-- The laws.

pub eager_history : EagerIsAHistory
eager_history scenario n guest good at =
    let steps = scenario.steps in
    let guests = map opening scenario.guests in
    let good_guest : IsGoodGuest guest = one_good scenario.guests n guest good.each_guest at in
    let shape_at : slice_get (shapes_of scenario.guests) n ≡ Some guest.shape = slice_get-map (λ (g : GuestSpec). g.shape) scenario.guests n ∙ ap (option_map (λ (g : GuestSpec). g.shape)) at in
    let opened : slice_get guests n ≡ Some (opening guest) = slice_get-map opening scenario.guests n ∙ ap (option_map opening) at in
    let run = whole_run Schedule scenario.pes (shapes_of scenario.guests) n (opening guest) steps (openings_can_open guest good_guest) shape_at good.each_step in
    record {
      is = run.is;
      calls = λ actor. same_calls scenario.lrs n guest.shape actor steps Residence (opening_pes scenario.pes (shapes_of scenario.guests)) guests (opening guest) opened refl;
      ends = steps_are_events guests steps n (opening guest) opened ∙ ap Some (sym run.ends);
    }
  where
    one_good : (guests : List GuestSpec) (n : ℕ) (guest : GuestSpec) → All IsGoodGuest guests → slice_get guests n ≡ Some guest → IsGoodGuest guest
    one_good [] n guest good e = absurd (cc)
    one_good (g ∷ guests) zero guest good e = subst IsGoodGuest (same_Some g guest e) (All-head IsGoodGuest g guests good)
    one_good (g ∷ guests) (suc n) guest good e = one_good guests n guest (All-tail IsGoodGuest g guests good) e

as_many : (lrs : ℕ) (pes : List (Option VcpuName)) (steps : List Step) (guests : List IdealGuest) → length (answers_of lrs pes steps guests) ≡ length steps
as_many lrs pes [] guests = refl
as_many lrs pes (step ∷ steps) guests = ap (λ k. suc k) (as_many lrs (pes_after step pes) steps (after_step step guests))

-- the ends, by number
end_at : (opened closed : List IdealGuest) (n : ℕ) (before after : IdealGuest) → slice_get opened n ≡ Some before → slice_get closed n ≡ Some after → slice_get (ends_of opened closed) n ≡ Some (end_of before after)
end_at [] closed n before after e f = absurd (cc)
end_at (one ∷ opened) [] n before after e f = absurd (cc)
end_at (one ∷ opened) (two ∷ closed) zero before after e f = ap (λ g. Some (end_of g two)) (same_Some one before e) ∙ ap (λ g. Some (end_of before g)) (same_Some two after f)
end_at (one ∷ opened) (two ∷ closed) (suc n) before after e f = end_at opened closed n before after e f

ends_many : (opened closed : List IdealGuest) → length closed ≡ length opened → length (ends_of opened closed) ≡ length opened
ends_many [] closed e = refl
ends_many (one ∷ opened) [] e = absurd (omega (arith, e))
ends_many (one ∷ opened) (two ∷ closed) e = ap (λ k. suc k) (ends_many opened closed (omega (arith, e)))

-- as many guests stay
guests_step : (step : Step) (guests : List IdealGuest) → length (after_step step guests) ≡ length guests
guests_step step guests =
    sym (length-map (after_step step guests) (λ (g : IdealGuest). g.shape)) ∙ ap length (shapes_step step guests) ∙ length-map guests (λ (g : IdealGuest). g.shape)

guests_steps : (steps : List Step) (guests : List IdealGuest) → length (after_steps steps guests) ≡ length guests
guests_steps [] guests = refl
guests_steps (step ∷ steps) guests = guests_steps steps (after_step step guests) ∙ guests_step step guests

pub eager_possible : EagerIsPossible
eager_possible scenario good =
    let guests = map opening scenario.guests in
    let closed = after_steps scenario.steps guests in
    record {
      answers = as_many scenario.lrs (opening_pes scenario.pes (shapes_of scenario.guests)) scenario.steps guests;
      ends = ends_many guests closed (guests_steps scenario.steps guests) ∙ length-map scenario.guests opening;
      each = λ n guest at.
          let moments = history_of n scenario.steps (opening guest) in
          let is = eager_history scenario n guest good at in
          let opened : slice_get guests n ≡ Some (opening guest) = slice_get-map opening scenario.guests n ∙ ap (option_map opening) at in
          ∣ record { moments = moments; is = is.is; calls = is.calls; ends = end_at guests closed n (opening guest) (home (last_of (opening guest) moments)) opened is.ends } ∣₁;
    }
