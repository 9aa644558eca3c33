-- What a picture of some steps shows: of which interrupts, and of these and all vCPUs what the ideal controller's state says after each step.
use Rattle.std.specs.Prelude.{◌≡◌, ℕ, ◌+◌, ◌-◌, List, length, take, map, filter, slice_get, Option, option_and_then}
use Rattle.std.specs.List.{range_with_len}
use Rattle.ideal_guest.specs.declared.guest.IdealGuest.{IdealGuest}
use Rattle.scn_base.specs.Standing.{vcpus_from}
use Rattle.scn_base.specs.declared.pes.VcpuName.{VcpuName}
use Rattle.scn_base.specs.declared.step.Step.{Step}
use Rattle.gic_ideal.specs.Eager.{after_steps, state_shapes}
use Rattle.gic_picture.specs.declared.names.IrqName.{IrqName}
use Rattle.gic_picture.specs.declared.rows.Tally.{Tally}
use Rattle.gic_picture.specs.declared.picture.Column.{Column}
use Rattle.gic_picture.specs.declared.picture.Picture.{Picture}
use Rattle.gic_picture.specs.Marks.{mark_in, cpu_mark_in}
use Rattle.gic_picture.specs.Steps.{step_value}
use Rattle.gic_picture.specs.Rows.{tallies_of, has_row, BusiestFirst}

-- what is shown of one state: of each row's interrupt, and of each vCPU
abbrev pub column_of : List IrqName → List VcpuName → List IdealGuest → Column
column_of rows vcpus guests = record { marks = map (mark_in guests) rows; cpus = map (cpu_mark_in guests) vcpus }

-- the value that the step at a place reads, in the state after those before it
abbrev pub value_at : List Step → List IdealGuest → ℕ → Option ℕ
value_at steps guests n = option_and_then (λ step. step_value step (after_steps (take n steps) guests)) (slice_get steps n)

-- the interrupts that have a row in a picture of these steps from a state of the guests on, at most 64, the busiest first; and how many more
-- would have one
pub record AreRows (steps : List Step) (guests : List IdealGuest) (rows : List IrqName) (left_out : ℕ) : Type 0 where
  pub busiest : List Tally
  pub order : BusiestFirst busiest (filter has_row (tallies_of steps guests))
  pub first : rows ≡ map (λ tally. tally.name) (take 64 busiest)
  pub others : left_out ≡ length busiest - 64

-- the picture of these steps: its rows, all vCPUs, a column for the state before the first step and for that after each of them, and what each reads
pub record IsPicture (steps : List Step) (guests : List IdealGuest) (picture : Picture) : Type 0 where
  pub rows : AreRows steps guests picture.rows picture.left_out
  pub vcpus : picture.vcpus ≡ vcpus_from 0 (state_shapes guests)
  pub columns : picture.columns ≡ map (λ n. column_of picture.rows picture.vcpus (after_steps (take n steps) guests)) (range_with_len 0 (length steps + 1))
  pub values : picture.values ≡ map (value_at steps guests) (range_with_len 0 (length steps))
