use Rattle.std.proofs.Common.{◌≡◌, map, take}
use Rattle.saved_check.specs.Tables.{col_entry}
use Rattle.saved_check.proofs.tables.map_cols.Given as goal

-- those so far are mapped
abbrev pub invariant-loop-col : goal.invariant-loop-col
invariant-loop-col l = l.tables ≡ record l.initial.tables { collections = map col_entry (take l.col-index l.cols) }
