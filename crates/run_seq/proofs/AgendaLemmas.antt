-- What a scenario asks for can be done.
use Rattle.std.proofs.Common.{◌≡◌, ℕ, suc, ◌<◌, IsTrue, All, List, [], ◌∷◌, length, map, get_or, refl, sym, ap, ◌∙◌, subst, arith}
use Rattle.std.specs.List.{range_with_len}
use Rattle.std.proofs.lemmas.List.{length-map}
use Rattle.std.proofs.lemmas.List.FromFn.{length-range_with_len}
use Rattle.law_ends_agree.specs.Histories.{IdealGuest}
use Rattle.law_ends_agree.specs.IdealGuests.Opening.{opening as opening_guest}
use Rattle.law_ends_agree.specs.Words.{GuestShape}
use Rattle.law_ends_agree.specs.GicIdeal.Eager.{state_shapes}
use Rattle.law_ends_agree.proofs.GicIdeal.StateLemmas.{shapes_opening}
use Rattle.law_ends_agree.specs.Calls.{shapes_of}
use Rattle.law_ends_agree.specs.ScnBase.declared.scenario.Scenario.{Scenario}
use Rattle.law_ends_agree.specs.ScnBase.declared.step.Mode.TheVariants.{Schedule}
use Rattle.law_ends_agree.specs.ScnBase.declared.step.Step.{Step}
use Rattle.law_ends_agree.specs.ScnBase.Good.{IsGood, is_formed}
use Rattle.law_ends_agree.specs.ScnBase.Standing.{ResidentsExist, opening_pes, opening_standing}
use Rattle.law_one_thread_is_eager.specs.PortSeq.Told.{GuestTold, IsOpening, SeqTold, no_told}
use Rattle.run_seq.specs.declared.start.Start.{Start}
use Rattle.run_seq.specs.Agenda.{Agenda, CanBeDone, agenda_of, agenda_on, states_in}
use Rattle.run_seq.proofs.OnceLemmas.{opens_once}

-- The guests of a port that opened.

same_states : (guests : List GuestTold) (states : List IdealGuest) (default : IdealGuest) → length guests ≡ length states → ((n : ℕ) → n < length states → (get_or guests n no_told).guest ≡ get_or states n default) → map (λ (guest : GuestTold). guest.guest) guests ≡ states
same_states [] [] default each same = refl
same_states [] (state ∷ states) default each same = absurd (omega (arith, each))
same_states (guest ∷ guests) [] default each same = absurd (omega (arith, each))
same_states (guest ∷ guests) (state ∷ states) default each same =
    ap (λ (one : IdealGuest). one ∷ map (λ (guest : GuestTold). guest.guest) guests) (same 0 (omega arith))
    ∙ ap (λ rest. state ∷ rest) (same_states guests states default (omega (arith, each)) (λ n there. same (suc n) (omega (arith, there))))

pub states_are : (states : List IdealGuest) (told : SeqTold) → IsOpening states told → states_in told ≡ states
states_are states told opening = same_states told.guests states _ opening.each (λ n there. ap (λ (guest : GuestTold). guest.guest) (opening.opened n there))

pub opens_in : (states : List IdealGuest) (told : SeqTold) → IsOpening states told → IsOpening (states_in told) told
opens_in states told opening = subst (λ states. IsOpening states told) (sym (states_are states told opening)) opening

-- A scenario.

pub agenda_is : (scenario : Scenario) (told : SeqTold) (start : Start) (steps : List Step) → IsOpening (map opening_guest scenario.guests) told
    → start ≡ record { guests = length scenario.guests; lrs = scenario.lrs; pes = opening_pes scenario.pes (shapes_of scenario.guests) } → agenda_on told start steps ≡ record (agenda_of scenario) { steps = steps }
agenda_is scenario told start steps opening start_is =
    let agenda : Start → List IdealGuest → Agenda = λ start states. record { lrs = start.lrs; states = states; pes = start.pes; steps = steps } in
    ap (λ start. agenda start (states_in told)) start_is
    ∙ ap (agenda (record { guests = length scenario.guests; lrs = scenario.lrs; pes = opening_pes scenario.pes (shapes_of scenario.guests) })) (states_are (map opening_guest scenario.guests) told opening)

pub good_can : (scenario : Scenario) → IsGood Schedule scenario → ResidentsExist (shapes_of scenario.guests) (opening_pes scenario.pes (shapes_of scenario.guests)) → CanBeDone (agenda_of scenario)
good_can scenario good exist =
    let shapes = shapes_opening scenario.guests in
    let count : length (opening_pes scenario.pes (shapes_of scenario.guests)) ≡ scenario.pes = length-map (range_with_len 0 scenario.pes) _ ∙ length-range_with_len 0 scenario.pes in
    record {
      start =
          record {
            some_list_register = good.some_list_register;
            list_registers = good.list_registers;
            few = omega (arith, good.guests, length-map scenario.guests opening_guest);
            few_pes = omega (arith, good.pes, count);
            residents = subst (λ (shapes : List GuestShape). ResidentsExist shapes (opening_pes scenario.pes (shapes_of scenario.guests))) (sym shapes) exist;
            once = opens_once scenario.pes (shapes_of scenario.guests);
          };
      each_step =
          subst (λ n. All (λ step. IsTrue (is_formed Schedule n (state_shapes (map opening_guest scenario.guests)) step)) scenario.steps) (sym count)
          (subst (λ (shapes : List GuestShape). All (λ step. IsTrue (is_formed Schedule scenario.pes shapes step)) scenario.steps) (sym shapes) good.each_step);
      standing = opening_standing scenario.pes (shapes_of scenario.guests);
      stands = refl;
      in_turn = good.in_turn;
    }
