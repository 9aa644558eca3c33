-- The first steps of a scenario without a fault have none.
use Rattle.std.proofs.Common.{ℕ, zero, suc, ◌≤◌, IsTrue, List, [], ◌∷◌, length, take, refl, arith}
use Rattle.std.proofs.lemmas.Bool.{and_from, and_parts}
use Rattle.std.proofs.lemmas.List.Elements.{All-take}
use Rattle.run_seq.specs.Calls.{shapes_of}
use Rattle.run_seq.specs.GicIdeal.ScnBase.declared.scenario.Scenario.{Scenario}
use Rattle.run_seq.specs.GicIdeal.ScnBase.declared.standing.Standing.{Standing}
use Rattle.run_seq.specs.GicIdeal.ScnBase.declared.step.Mode.TheVariants.{Schedule}
use Rattle.run_seq.specs.GicIdeal.ScnBase.declared.step.Step.{Step}
use Rattle.run_seq.specs.GicIdeal.ScnBase.Good.{IsGood, is_formed, stand_in_turn, stands}
use Rattle.run_seq.specs.GicIdeal.ScnBase.Standing.{opening_standing, standing_after}

first_in_turn : (standing : Standing) (steps : List Step) (count : ℕ) → IsTrue (stand_in_turn Schedule standing steps) → IsTrue (stand_in_turn Schedule standing (take count steps))
first_in_turn standing steps zero turn = refl
first_in_turn standing [] (suc count) turn = refl
first_in_turn standing (step ∷ steps) (suc count) turn =
    let both = and_parts (stands Schedule standing step) (stand_in_turn Schedule (standing_after step standing) steps) turn in
    and_from (stands Schedule standing step) (stand_in_turn Schedule (standing_after step standing) (take count steps)) both.0 (first_in_turn (standing_after step standing) steps count both.1)

fewer : (steps : List Step) (count : ℕ) → length (take count steps) ≤ length steps
fewer steps zero = omega arith
fewer [] (suc count) = omega arith
fewer (step ∷ steps) (suc count) = let rest = fewer steps count in omega (arith, rest)

abbrev pub first_of : Scenario → ℕ → Scenario
first_of scenario count = record scenario { steps = take count scenario.steps }

pub first_good : (scenario : Scenario) (count : ℕ) → IsGood Schedule scenario → IsGood Schedule (first_of scenario count)
first_good scenario count good = record {
  some_pe = good.some_pe;
  pes = good.pes;
  some_list_register = good.some_list_register;
  list_registers = good.list_registers;
  some_guest = good.some_guest;
  guests = good.guests;
  each_guest = good.each_guest;
  steps = let few = fewer scenario.steps count in omega (arith, few, good.steps);
  each_step = All-take (λ step. IsTrue (is_formed Schedule scenario.pes (shapes_of scenario.guests) step)) count scenario.steps good.each_step;
  in_turn = first_in_turn (opening_standing scenario.pes (shapes_of scenario.guests)) scenario.steps count good.in_turn;
}
