-- The raise, if the SPI is there.
use Rattle.std.proofs.Common.{sym, ap, ◌∙◌}
use Rattle.its_exec.specs.Words.{Dist, SetPending}
use Rattle.its_exec.specs.Registers.{message_intid}
use Rattle.its_exec.specs.Calls.{part_key}
use Rattle.pe_mem.proofs.DistLemmas.{low_intid, sets_spi, sets_none}
use Rattle.pe_mem.proofs.dist.set_spi.Goals as goal

pub returns-in-Some : goal.returns-in-Some
returns-in-Some g c =
    sets_spi (g.P.Port.seen c.args.port.now) (g.P.Port.seen c.raise.new.port) c.args.value c.message_intid-id.result c.in-Some.key c.requires (c.message_intid-id.ensures.value ∙ ap message_intid c.low.ensures ∙ low_intid c.args.value)
    (ap (λ shape. part_key shape Dist SetPending c.message_intid-id.result) (sym c.shape.ensures) ∙ sym c.part_key.ensures.value ∙ c.in-Some.is) c.raise.ensures

pub returns-in_default : goal.returns-in_default
returns-in_default g c =
    sets_none (g.P.Port.seen c.args.port.now) c.args.value c.message_intid-id.result c.requires (c.message_intid-id.ensures.value ∙ ap message_intid c.low.ensures ∙ low_intid c.args.value)
    (ap (λ shape. part_key shape Dist SetPending c.message_intid-id.result) (sym c.shape.ensures) ∙ sym c.part_key.ensures.value ∙ c.in_default.is)
