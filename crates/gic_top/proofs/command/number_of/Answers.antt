use Rattle.std.proofs.Common.{refl, subst, ◌∙◌, arith}
use Rattle.gic_top.specs.Command.{IsPadded}
use Rattle.gic_top.proofs.NumberLemmas.{padded, plain, refused, read}
use Rattle.gic_top.proofs.command.number_of.Goals as goal

pub returns-then-is_padded-clause-value : goal.returns-then-is_padded-clause-value
returns-then-is_padded-clause-value c = padded c.args.most c.args.word.now (omega arith) (subst IsPadded c.as_bytes.ensures.value (c.if-is_padded.ensures.0 refl))

pub returns-in_default-clause-value : goal.returns-in_default-clause-value
returns-in_default-clause-value c = refused c.args.most c.args.word.now (omega arith) c.in_default.ensures.value.0

pub returns-clause-value : goal.returns-clause-value
returns-clause-value c =
    c.then_some.ensures
    ∙ read c.args.most c.in-Ok.number c.args.word.now (plain c.args.word.now c.as_bytes.result.now c.as_bytes.ensures.value c.if-is_padded.ensures.1) c.in-Ok.ensures.value.0
