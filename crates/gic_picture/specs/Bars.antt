-- The bars of a row.
use Rattle.std.specs.Prelude.{ℕ, List, false, None, replicate, slice_get, unwrap_or}
use Rattle.std.specs.List.{flat_map}
use Rattle.gic_picture.specs.declared.marks.Mark.{Mark}
use Rattle.gic_picture.specs.declared.bars.Bar.{Bar}
use Rattle.gic_picture.specs.declared.picture.Column.{Column}

-- what is shown of an interrupt that has no row
abbrev pub no_mark : Mark
no_mark = record { pending = false; active_by = None; line = false }

-- what a column has in a row
abbrev pub mark_at : ℕ → Column → Mark
mark_at row column = unwrap_or (slice_get column.marks row) no_mark

-- what bars show, state by state
abbrev pub shown_by : List Bar → List Mark
shown_by bars = flat_map (λ bar. replicate bar.states bar.mark) bars
