-- Word by word.
use Rattle.std.proofs.Common.{◌<◌, ap, subst, ◌∙◌, arith}
use Rattle.port_call.specs.Core.{index_words}
use Rattle.pe_loop.proofs.IndexLemmas.{none_taken_yet, word_taken}
use Rattle.pe_loop.proofs.scan.take_index.Goals as goal

pub loop-word-init : goal.loop-word-init
loop-word-init g c = none_taken_yet (g.P.Port.seen c.args.port.now) (omega arith)

pub loop-word-preserved : goal.loop-word-preserved
loop-word-preserved g c =
    word_taken (g.P.Port.seen c.args.port.now) (g.P.Port.seen c.loop-word.port) (g.P.Port.seen c.step.new.self) c.loop-word.word c.step.result
    (subst (λ words. c.loop-word.word < words) (c.index_words-word-end.ensures.value ∙ ap index_words c.shape.ensures) c.loop-word-test.true) (let each = (g.P.Port.is_port c.loop-word.port).local.cands.each in omega (arith, each)) c.loop-word.invariant c.step.ensures.adds
