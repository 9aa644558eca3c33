-- The text of a run that was saved in its middle and goes on (own choice).
use Rattle.std.specs.Prelude.{◌≡◌, ℕ, ◌≤◌, List, ◌++◌, length, map, take, drop, count_by}
use Rattle.law_runs_split.specs.GicIdeal.ScnBase.declared.scenario.Scenario.{Scenario}
use Rattle.law_runs_split.specs.GicIdeal.ScnBase.Standing.{opening_pes}
use Rattle.law_runs_split.specs.GicIdeal.IdealGuests.declared.guest.IdealGuest.{IdealGuest}
use Rattle.law_runs_split.specs.GicIdeal.IdealGuests.Calls.{shapes_of}
use Rattle.law_runs_split.specs.GicIdeal.IdealGuests.Opening.{opening}
use Rattle.law_runs_split.specs.GicIdeal.Eager.{answers_of, after_steps, eager, eager_from}
use Rattle.law_runs_split.specs.Split.{pes_after_steps}
use Rattle.law_runs_split.specs.Faults.{AreAllAlike}
use Rattle.gic_report.specs.Text.{is_read, answer_lines, text}
use Rattle.gic_report.specs.Rest.{text_after}

-- the lines of the first so many steps of a scenario
abbrev pub first_lines : Scenario → ℕ → List ℕ
first_lines scenario done =
    answer_lines 1 (answers_of scenario.lrs (opening_pes scenario.pes (shapes_of scenario.guests)) (take done scenario.steps) (map opening scenario.guests))

-- the text of the rest of a scenario, from these states on
abbrev pub last_lines : Scenario → ℕ → List IdealGuest → List ℕ
last_lines scenario done states =
    let first = take done scenario.steps in
    let rest = drop done scenario.steps in
    text_after done (count_by is_read first) rest
    (eager_from scenario.lrs (pes_after_steps first (opening_pes scenario.pes (shapes_of scenario.guests))) rest (map opening scenario.guests) states)

-- law: the lines of the first steps, and then the text of the rest from the states that were reached, but for the numbers of past faults, are the text of
-- the whole run
abbrev pub SaveThenResume : Type 0
SaveThenResume =
    (scenario : Scenario) (done : ℕ) (states : List IdealGuest) → done ≤ length scenario.steps → AreAllAlike states (after_steps (take done scenario.steps) (map opening scenario.guests))
    → text scenario (eager scenario) ≡ first_lines scenario done ++ last_lines scenario done states
