use Rattle.std.proofs.Common.{◌≡◌, fold, take, length}
use Rattle.gic_guest.specs.Words.{interrupt_count}
use Rattle.gic_open.specs.Opening.{after_preset, opening_irqs}
use Rattle.gic_open.proofs.records.irqs.Given as goal

-- the records after the presets so far
abbrev pub invariant-loop-preset : goal.invariant-loop-preset
invariant-loop-preset l =
    record {
      each : length l.irqs ≡ interrupt_count l.shape;
      so_far : l.irqs ≡ fold (after_preset l.shape) (opening_irqs l.guest.on l.shape) (take l.preset-index l.preset-items);
    }
