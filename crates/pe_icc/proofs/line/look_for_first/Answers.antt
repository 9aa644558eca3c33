-- The index, and the interrupts.
use Rattle.pe_icc.proofs.LineLemmas.{round_so}
use Rattle.pe_icc.proofs.line.look_for_first.Goals as goal

pub returns : goal.returns
returns g c =
    round_so (g.P.Port.seen c.args.port.now) (g.P.Port.seen c.look_at_index-words.new.port) (g.P.Port.seen c.look_at_bits.new.port) c.look_at_index-words.result c.look_at_bits.result
    c.look_at_index-words.ensures c.look_at_bits.ensures
