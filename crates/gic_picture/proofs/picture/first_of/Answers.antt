use Rattle.std.proofs.Common.{sym, arith}
use Rattle.std.proofs.lemmas.List.{take_all, length-take-le}
use Rattle.gic_picture.proofs.picture.first_of.Goals as goal

pub slice_bounds-result-end : goal.slice_bounds-result-end
slice_bounds-result-end c = sym (length-take-le 64 c.args.busiest.now (omega arith))

pub returns-then-busiest-le-MAX_ROWS : goal.returns-then-busiest-le-MAX_ROWS
returns-then-busiest-le-MAX_ROWS c = sym (take_all 64 c.args.busiest.now (omega arith))
