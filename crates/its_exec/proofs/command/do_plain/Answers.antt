-- The parts of one event, or those of several LPIs.
use Rattle.std.proofs.Common.{IsTrue, IfSome, Option, sym, subst, ◌∙◌}
use Rattle.port_call.specs.Calls.{Part}
use Rattle.port_call.specs.Core.{shape_of}
use Rattle.its_exec.specs.Parts.{is_part_of}
use Rattle.its_exec.proofs.PlainLemmas.{second_after, some_holds, does_single, does_several, as_some}
use Rattle.its_exec.proofs.command.do_plain.Goals as goal

pub do_some-requires-2-clause-part : goal.do_some-requires-2-clause-part
do_some-requires-2-clause-part g c =
    let old = g.P.Port.seen c.args.port.now in
    let mid = g.P.Port.seen c.do_some.new.port in
    let address = c.args.fetched.now.address in
    let There : Option Part → Type 0 = λ o. IfSome o (λ part. IsTrue (is_part_of (shape_of mid) part)) in
    subst There (sym c.second_part-second.ensures)
    (second_after old mid address c.args.shape.now c.args.tables.now c.args.command.now c.requires.shape c.requires.valid c.requires.good (as_some old mid address c.first_part-first.result _ c.first_part-first.ensures c.do_some.ensures))

pub do_some-requires-2-clause-holds : goal.do_some-requires-2-clause-holds
do_some-requires-2-clause-holds g c = some_holds (g.P.Port.seen c.args.port.now) (g.P.Port.seen c.do_some.new.port) c.args.fetched.now c.first_part-first.result c.do_some.ensures c.requires.holds

pub returns-then-several-clause-does : goal.returns-then-several-clause-does
returns-then-several-clause-does g c =
    let old = g.P.Port.seen c.args.port.now in
    let mid = g.P.Port.seen c.do_some.new.port in
    let before = g.P.Port.seen c.do_some-2.new.port in
    let address = c.args.fetched.now.address in
    does_several old mid before (g.P.Port.seen c.do_sweep.new.port) address c.args.tables.now c.carry_out.new.self c.args.command.now (sym c.is_about_several-several.ensures ∙ c.if-several.true) c.carry_out.ensures.value
    (as_some old mid address c.first_part-first.result _ c.first_part-first.ensures c.do_some.ensures) (as_some mid before address c.second_part-second.result _ c.second_part-second.ensures c.do_some-2.ensures) c.do_sweep.ensures

pub returns-else-several-clause-does : goal.returns-else-several-clause-does
returns-else-several-clause-does g c =
    let old = g.P.Port.seen c.args.port.now in
    let mid = g.P.Port.seen c.do_some.new.port in
    let new = g.P.Port.seen c.do_some-2.new.port in
    let address = c.args.fetched.now.address in
    does_single old mid new address c.args.shape.now c.args.tables.now c.args.command.now (g.P.Port.is_port c.args.port.now).good.sound.shape.ram_words c.requires.shape c.requires.valid c.requires.good c.requires.plain
    (sym c.is_about_several-several.ensures ∙ c.if-several.false) c.requires.ease c.requires.fresh (as_some old mid address c.first_part-first.result _ c.first_part-first.ensures c.do_some.ensures)
    (as_some mid new address c.second_part-second.result _ c.second_part-second.ensures c.do_some-2.ensures)
