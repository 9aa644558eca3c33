use Rattle.std.proofs.Common.{rules}
use Rattle.gic_picture.proofs.PictureLemmas.{rows_there}
use Rattle.gic_picture.proofs.picture.choose.Goals as goal

pub returns-clause-there : goal.returns-clause-there
returns-clause-there c =
    rows_there c.args.steps.now c.args.states.now.items c.in_ok-tallies.tallies c.in_ok-busiest.busiest.items c.in_ok-rows.rows c.in_ok-tallies.ensures (search rules) (search rules)
