-- What is right of a saved run, in parts.
use Rattle.std.specs.Prelude.{◌≡◌, ℕ, ◌+◌, ◌≤◌, length, All, IsTrue}
use Rattle.saved_guest.specs.IdealGuests.Calls.{IsGoodGuest, shapes_of}
use Rattle.saved_guest.specs.ScnSaved.ScnBase.declared.scenario.Scenario.{Scenario}
use Rattle.saved_guest.specs.ScnSaved.ScnBase.Standing.{ResidentsExist}
use Rattle.saved_guest.specs.ScnSaved.declared.saved.Saved.{Saved}
use Rattle.saved_guest.specs.Whole.{stand_once}

-- the scenario is in range, and its guests are good
pub record IsValidScenario (scenario : Scenario) : Type 0 where
  pub some_pe : 1 ≤ scenario.pes
  pub pes : scenario.pes ≤ 8
  pub some_list_register : 1 ≤ scenario.lrs
  pub list_registers : scenario.lrs ≤ 16
  pub some_guest : 1 ≤ length scenario.guests
  pub guests : length scenario.guests ≤ 4
  pub each_guest : All IsGoodGuest scenario.guests

-- vCPUs stand on its PEs, each on one at most
pub record IsValidPlace (saved : Saved) : Type 0 where
  pub each_pe : length saved.on_pe ≡ saved.scenario.pes
  pub residents : ResidentsExist (shapes_of saved.scenario.guests) saved.on_pe
  pub once : IsTrue (stand_once saved.on_pe)

-- the steps that were done, and so many more
pub record AreValidCounts (rest : ℕ) (saved : Saved) : Type 0 where
  pub reads : saved.reads ≤ saved.done
  pub steps : saved.done + rest ≤ 100000
