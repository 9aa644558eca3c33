use Rattle.std.proofs.Common.{◌≡◌, ◌*◌, ◌%◌, ◌^◌, ◌<◌, ◌∙◌, ap, sym, bit_and, w32, arith}
use Rattle.std.specs.Int.{bit_not}
use Rattle.std.proofs.lemmas.Nat.{pow_below}
use Rattle.gic_prio.proofs.SetLemmas.{without_level_is}
use Rattle.gic_prio.proofs.levels.without_level.Goals as goal

pub returns : goal.returns
returns c =
    let fits : 2 ^ c.args.level < 2 ^ 32 = pow_below c.args.level 32 c.requires in
    let bit : 1 * 2 ^ c.args.level % 2 ^ 32 ≡ 2 ^ c.args.level = omega arith in
    ap (λ n. bit_and c.args.levels (bit_not w32 n)) bit ∙ sym (without_level_is c.args.level c.args.levels c.requires c.ranges.levels.fits)
