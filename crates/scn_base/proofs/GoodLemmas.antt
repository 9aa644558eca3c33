-- When a scenario is good.
use Rattle.std.proofs.Common.{◌≡◌, ℕ, ◌≤◌, ◌↔◌, Bool, List, length, subst}
use Rattle.std.specs.Bool.{IsTrue}
use Rattle.std.specs.List.{All}
use Rattle.scn_base.specs.declared.scenario.Scenario.{Scenario}
use Rattle.scn_base.specs.declared.step.Step.{Step}
use Rattle.scn_base.specs.declared.step.Mode.{Mode}
use Rattle.scn_base.specs.declared.standing.Standing.{Standing}
use Rattle.scn_base.specs.Standing.{opening_standing}
use Rattle.scn_base.specs.Good.{IsGood, is_formed, stand_in_turn}
use Rattle.gic_guest.specs.Good.{IsGoodGuest, shapes_of}
use Rattle.scn_base.proofs.PesLemmas.{length-opening_pes}

-- all but the steps
pub record IsGoodHead (scenario : Scenario) : Type 0 where
  pub some_pe : 1 ≤ scenario.pes
  pub pes : scenario.pes ≤ 8
  pub some_list_register : 1 ≤ scenario.lrs
  pub list_registers : scenario.lrs ≤ 16
  pub some_guest : 1 ≤ length scenario.guests
  pub guests : length scenario.guests ≤ 4
  pub each_guest : All IsGoodGuest scenario.guests
  pub steps : length scenario.steps ≤ 100000

-- the steps by themselves and in turn, from a standing with so many PEs
abbrev pub AreGoodSteps : Mode → ℕ → Standing → List Step → Type 0
AreGoodSteps mode pes standing steps = All (λ step. IsTrue (is_formed mode pes standing.shapes step)) steps × IsTrue (stand_in_turn mode standing steps)

pub good_is : (mode : Mode) (scenario : Scenario) (standing : Standing) (good : Bool) → IsGoodHead scenario → standing ≡ opening_standing scenario.pes (shapes_of scenario.guests)
    → (IsTrue good ↔ AreGoodSteps mode (length standing.pes) standing scenario.steps) → IsTrue good ↔ IsGood mode scenario
good_is mode scenario standing good head opening tells =
    let told : IsTrue good ↔ AreGoodSteps mode scenario.pes (opening_standing scenario.pes (shapes_of scenario.guests)) scenario.steps =
    subst (λ (n : ℕ). IsTrue good ↔ AreGoodSteps mode n (opening_standing scenario.pes (shapes_of scenario.guests)) scenario.steps) (length-opening_pes scenario.pes (shapes_of scenario.guests))
    (subst (λ (s : Standing). IsTrue good ↔ AreGoodSteps mode (length s.pes) s scenario.steps) opening tells) in (
      λ e.
          record {
            some_pe = head.some_pe;
            pes = head.pes;
            some_list_register = head.some_list_register;
            list_registers = head.list_registers;
            some_guest = head.some_guest;
            guests = head.guests;
            each_guest = head.each_guest;
            steps = head.steps;
            each_step = (told.0 e).0;
            in_turn = (told.0 e).1;
          },
      λ is. told.1 (is.each_step, is.in_turn),
    )
