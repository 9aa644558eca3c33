use Rattle.std.proofs.Common.{◌≡◌, rules}
use Rattle.gic_base.specs.declared.icc.IccReg.{IccReg}
use Rattle.gic_base.specs.Icc.{name_of}
use Rattle.gic_base.proofs.NameLemmas.{register_named-none}
use Rattle.gic_base.proofs.icc.IccReg.named.Goals as goal

pub returns-in_default-clause-value : goal.returns-in_default-clause-value
returns-in_default-clause-value c =
    let others : (reg : IccReg) → name_of reg ≡ c.args.name.now → ⊥ = search rules in
    register_named-none c.args.name.now others
