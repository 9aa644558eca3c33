-- The look.
use Rattle.std.proofs.Common.{ap, ◌∙◌}
use Rattle.pe_mem.specs.Registers.{enabled_in}
use Rattle.pe_mem.specs.GicImap.Contents.{ctlr_of}
use Rattle.pe_its.proofs.ReadLemmas.{reads_ctlr}
use Rattle.pe_its.proofs.RegisterLemmas.{low_enabled}
use Rattle.pe_its.proofs.read.read_ctlr.Goals as goal

pub returns : goal.returns
returns g c =
    reads_ctlr (g.P.Port.seen c.args.port.now) (g.P.Port.seen c.read_plain-stored.new.port) c.read_plain-stored.result c.from.result c.requires
    (c.from.ensures ∙ c.ctlr.ensures.value ∙ ap ctlr_of (c.enabled_in.ensures ∙ ap enabled_in c.low.ensures ∙ low_enabled c.read_plain-stored.result)) c.read_plain-stored.ensures
