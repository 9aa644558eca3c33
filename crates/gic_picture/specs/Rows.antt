-- Which interrupts have a row in a picture of some steps (own choice).
use Rattle.std.specs.Prelude.{ℕ, ◌+◌, ◌-◌, ◌&&◌, ◌||◌, ◌==◌, Bool, false, not, nat_lt, nat_eq, List, length, take, map, count_by, if◌then◌else◌}
use Rattle.std.specs.Bool.{beq}
use Rattle.std.specs.Option.{option_eq}
use Rattle.std.specs.List.{range_with_len}
use Rattle.std.specs.List.Sorted.{IsPermutation, IsSortedByKey, IsStableByKey}
use Rattle.std.specs.Ordering.{nat_cmp}
use Rattle.ideal_guest.specs.Words.{Irq, Route, Affinity, Target}
use Rattle.ideal_guest.specs.Registers.{is_same_group}
use Rattle.ideal_guest.specs.declared.guest.IdealGuest.{IdealGuest}
use Rattle.scn_base.specs.declared.step.Step.{Step}
use Rattle.gic_ideal.specs.Eager.{after_steps, state_shapes}
use Rattle.gic_picture.specs.declared.names.IrqName.{IrqName}
use Rattle.gic_picture.specs.declared.rows.Tally.{Tally}
use Rattle.gic_picture.specs.Names.{names_from}
use Rattle.gic_picture.specs.Marks.{irq_in, mark_of, mark_in, is_marked}

-- the interrupt is for the same vCPU
abbrev pub is_same_route : Route → Route → Bool
is_same_route (Affinity a) (Affinity b) = a == b
is_same_route (Affinity a) (Target b) = false
is_same_route (Target a) (Affinity b) = false
is_same_route (Target a) (Target b) = option_eq nat_eq a b

-- two records of an interrupt are alike, but for its copies of the group enables, which a write of GICD_CTLR changes in all
abbrev pub is_same_irq : Irq → Irq → Bool
is_same_irq a b =
    beq a.enabled b.enabled && is_same_group a.group b.group && a.prio == b.prio && beq a.edge b.edge && beq a.line b.line && beq a.rise b.rise
    && beq a.soft b.soft && option_eq nat_eq a.act_by b.act_by && is_same_route a.route b.route

-- what is known of an interrupt before the first step
abbrev pub opening_tally : List IdealGuest → IrqName → Tally
opening_tally guests name = let irq = irq_in guests name in record { name = name; marked = is_marked (mark_of irq); last = irq; touches = 0 }

-- and after one more step, which left this record
abbrev pub next_tally : Irq → Tally → Tally
next_tally irq tally = record tally { last = irq; touches = if is_same_irq tally.last irq then tally.touches else tally.touches + 1 }

-- the step at a place changes the record of an interrupt
abbrev pub touches : List Step → List IdealGuest → IrqName → ℕ → Bool
touches steps guests name n =
    not (is_same_irq (irq_in (after_steps (take n steps) guests) name) (irq_in (after_steps (take (n + 1) steps) guests) name))

-- what is known of an interrupt after the first n of some steps
abbrev pub tally_after : List Step → List IdealGuest → ℕ → IrqName → Tally
tally_after steps guests n name =
    record {
      name = name;
      marked = is_marked (mark_in guests name);
      last = irq_in (after_steps (take n steps) guests) name;
      touches = count_by (touches steps guests name) (range_with_len 0 n);
    }

-- the same of all interrupts, after all steps
abbrev pub tallies_of : List Step → List IdealGuest → List Tally
tallies_of steps guests = map (tally_after steps guests (length steps)) (names_from 0 (state_shapes guests))

-- it has a row: a step touched it, or there was something to show of it before the first step
abbrev pub has_row : Tally → Bool
has_row tally = tally.marked || nat_lt 0 tally.touches

-- less where more steps touched it
abbrev pub calm_of : Tally → ℕ
calm_of tally = 100000 - tally.touches

-- the first list is the second one with the busiest first, in the order of the second where equally many steps touched two
pub record BusiestFirst (rows all : List Tally) : Type 0 where
  pub same : IsPermutation all rows
  pub busiest : IsSortedByKey calm_of nat_cmp rows
  pub stable : IsStableByKey calm_of nat_cmp all rows
