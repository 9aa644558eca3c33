-- The look.
use Rattle.std.proofs.Common.{ap, ◌∙◌}
use Rattle.port_call.specs.Core.{is_empty_line}
use Rattle.its_exec.proofs.ShutLemmas.{can_look, looked_at_line}
use Rattle.its_exec.proofs.lines.finds_empty.Goals as goal

pub step-word-requires : goal.step-word-requires
step-word-requires g c = can_look (g.P.Port.seen c.args.port.now) c.args.line c.requires.there

pub returns : goal.returns
returns g c =
    looked_at_line (g.P.Port.seen c.args.port.now) (g.P.Port.seen c.step-word.new.self) c.args.line c.step-word.result c.is_empty.result c.requires.turn (c.is_empty.ensures ∙ ap is_empty_line c.of.ensures.value) c.step-word.ensures.adds
