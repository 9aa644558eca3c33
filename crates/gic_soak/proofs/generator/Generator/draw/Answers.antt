use Rattle.std.proofs.Common.{◌*◌, ◌^◌}
use native.Mathlib.Nat.{mod-add-mod}
use Rattle.gic_soak.specs.Draw.{draw}
use Rattle.gic_soak.proofs.generator.Generator.draw.Goals as goal

pub returns-clause-value : goal.returns-clause-value
unfolding draw
returns-clause-value c = rw (c.from.ensures, mod-add-mod (c.args.self.now.state * 6364136223846793005) (2 ^ 64) 1442695040888963407)
