use Rattle.std.proofs.Common.{ap, ◌∙◌}
use Rattle.gic_c.specs.declared.board.Board.{Board}
use Rattle.gic_c.proofs.SaveLemmas.{only_ok, only_err}
use Rattle.gic_c.proofs.board.Board.restore.Goals as goal

pub returns-in-Ok-clause-only : goal.returns-in-Ok-clause-only
returns-in-Ok-clause-only c =
    only_ok c.args.bytes.now c.args.self.now.machine c.forget.new.self.machine c.restore.new.machine (ap (λ (board : Board). board.machine) c.forget.ensures) c.in-Ok.ensures.only

pub returns-in-Err-clause-only : goal.returns-in-Err-clause-only
returns-in-Err-clause-only c =
    λ d guest bases spells tells.
    c.refused.ensures
    ∙ only_err c.args.bytes.now c.args.self.now.machine c.forget.new.self.machine c.in-Err.refusal (ap (λ (board : Board). board.machine) c.forget.ensures) c.in-Err.ensures.only d guest bases spells tells
