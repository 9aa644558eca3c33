-- The look, and what it found.
use Rattle.port_call.specs.Core.{Look, Irq, made_by}
use Rattle.port_call.specs.Words.{Lpi}
use Rattle.its_exec.proofs.PartLemmas.{looked_target, target_found}
use Rattle.its_exec.proofs.part.look_at_target.Goals as goal

pub returns : goal.returns
returns g c =
    let old = g.P.Port.seen c.args.port.now in
    let mid = g.P.Port.seen c.step-word.new.self in
    let add = c.step-word.ensures.adds in
    looked_target old mid c.args.lpi c.step-word.result c.target_in.result c.requires.ease.owes c.step-word.ensures.found.valid
    (target_found old mid c.step-word.result c.unpack.result c.unwrap.result c.target_in.result c.shape.result (made_by old (Look (Irq (Lpi c.args.lpi))) c.step-word.result add.tables) add.adds c.unwrap.ensures c.unpack.ensures.value c.shape.ensures
    c.target_in.ensures)
    add
