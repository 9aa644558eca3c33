use Rattle.std.proofs.Common.{[]}
use Rattle.gic_host.proofs.icc.chooser_alone.Goals as goal

pub returns-in-Some-clause-stands : goal.returns-in-Some-clause-stands
returns-in-Some-clause-stands c = rw c.in-Some.is (c.offer.ensures.stands [] (c.fresh-chooser.ensures.stands c.args.cpu.now))

pub returns-in-None-clause-stands : goal.returns-in-None-clause-stands
returns-in-None-clause-stands c = rw c.in-None.is (c.fresh-chooser.ensures.stands c.args.cpu.now)
