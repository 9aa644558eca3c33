-- Word by word.
use Rattle.std.proofs.Common.{replicate, refl, ap, subst, ◌∙◌, arith}
use Rattle.pe_loop.specs.Core.{Look, Index, AddsStep, index_words}
use Rattle.pe_icc.proofs.LineLemmas.{no_words, words_more, zeros}
use Rattle.pe_icc.proofs.line.look_at_index.Goals as goal

pub loop-word-init : goal.loop-word-init
loop-word-init g c =
    record {
      vcpu = c.actor-vcpu.ensures;
      end = c.index_words-word-end.ensures.value ∙ ap index_words c.shape.ensures;
      looks = no_words (g.P.Port.seen c.args.port.now) (replicate 96 0) refl (zeros 96);
    }

pub loop-word-preserved : goal.loop-word-preserved
loop-word-preserved g c =
    let now = g.P.Port.seen c.loop-word.port in
    let new = g.P.Port.seen c.step.new.self in
    let word = c.loop-word.word in
    record {
      vcpu = c.actor-vcpu.ensures;
      end = c.index_words-word-end.ensures.value ∙ ap index_words c.shape.ensures;
      looks =
          words_more (g.P.Port.seen c.args.port.now) now new word c.loop-word.words c.step.result (omega arith) c.loop-word.invariant.looks
          (subst (λ vcpu. AddsStep now new (Look (Index vcpu word)) c.step.result) c.actor-vcpu.ensures c.step.ensures.adds);
    }
