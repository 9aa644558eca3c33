use Rattle.std.proofs.Common.{arith}
use Rattle.gic_ram.proofs.PartLemmas.{put_fits, put_replaces}
use Rattle.gic_ram.proofs.access.insert.Goals as goal

pub overflow_add-result : goal.overflow_add-result
overflow_add-result c = omega (arith, put_fits c.args.word c.args.part.now.shift c.args.part.now.bits c.args.value c.extract.result (omega arith) (omega arith) c.requires.fits c.extract.ensures.small c.extract.ensures.value)

pub returns-clause-value : goal.returns-clause-value
returns-clause-value c = (put_replaces c.args.word c.args.part.now.shift c.args.part.now.bits c.args.value c.extract.result (omega arith) c.requires.fits c.extract.ensures.small c.extract.ensures.value).value

pub returns-clause-back : goal.returns-clause-back
returns-clause-back c = (put_replaces c.args.word c.args.part.now.shift c.args.part.now.bits c.args.value c.extract.result (omega arith) c.requires.fits c.extract.ensures.small c.extract.ensures.value).back

pub returns-clause-below : goal.returns-clause-below
returns-clause-below c = (put_replaces c.args.word c.args.part.now.shift c.args.part.now.bits c.args.value c.extract.result (omega arith) c.requires.fits c.extract.ensures.small c.extract.ensures.value).below

pub returns-clause-above : goal.returns-clause-above
returns-clause-above c = (put_replaces c.args.word c.args.part.now.shift c.args.part.now.bits c.args.value c.extract.result (omega arith) c.requires.fits c.extract.ensures.small c.extract.ensures.value).above
