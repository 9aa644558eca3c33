use Rattle.std.proofs.Common.{◌<◌, ◌*◌, ◌^◌, arith}
use Rattle.gic_bits.proofs.FieldLemmas.{put_fits}
use Rattle.gic_bits.proofs.field.Field.put.Goals as goal

pub returns : goal.returns
returns c =
    let fits : c.args.value * 2 ^ c.args.self.place < 2 ^ 64 = put_fits c.args.value c.args.self.place c.args.self.width c.requires.within c.requires.fits in
    omega arith
