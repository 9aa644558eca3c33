-- A missed post, and the fill.
use Rattle.std.proofs.Common.{sym, ◌∙◌}
use Rattle.gic_msi.proofs.SendLemmas.{sent_by_fill}
use Rattle.gic_msi.proofs.send.send_msi.Goals as goal

pub returns-in-Err : goal.returns-in-Err
returns-in-Err g c =
    sent_by_fill (g.P.Port.seen c.args.port.now) (g.P.Port.seen c.post.new.port) (g.P.Port.seen c.msi_fill.new.port) c.args.device c.args.event c.in-Err.field-0 (sym c.is_short.ensures ∙ c.if-not-is_short.false)
    (g.P.Port.is_port c.args.port.now) (g.P.Port.is_port c.msi_fill.new.port) c.requires.ready c.in-Err.ensures c.msi_fill.ensures
