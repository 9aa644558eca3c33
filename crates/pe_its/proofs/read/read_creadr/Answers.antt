-- The look.
use Rattle.pe_its.proofs.ReadLemmas.{reads_creadr}
use Rattle.pe_its.proofs.read.read_creadr.Goals as goal

pub returns : goal.returns
returns g c =
    reads_creadr (g.P.Port.seen c.args.port.now) (g.P.Port.seen c.step-word.new.self) c.step-word.result c.creadr.result c.unpack.result c.unwrap-queue.result c.requires c.unwrap-queue.ensures c.unpack.ensures.value c.creadr.ensures c.step-word.ensures.adds
