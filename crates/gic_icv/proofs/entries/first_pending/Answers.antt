use Rattle.std.proofs.Common.{take, sym, ap, ◌∙◌}
use Rattle.gic_ich.specs.GicPrio.Delivery.{first_of}
use Rattle.gic_icv.specs.Entries.{candidates_in}
use Rattle.gic_icv.proofs.EntryLemmas.{with_candidate, without_candidate}
use Rattle.gic_icv.proofs.entries.first_pending.Goals.{in-Some, in_default}
use Rattle.gic_icv.proofs.entries.first_pending.Goals as goal

pub loop-word-preserved : goal.loop-word-preserved
loop-word-preserved c =
    let cpu = c.args.cpu.now in
    let words = c.args.words.now in
    let i = c.loop-word.word-index in
    elim c.match-candidate_in.branch [
      | in-Some w ↦
          w.first-is
          ∙ sym (ap first_of (with_candidate cpu words i w.in-Some.next c.loop-word-test.true (sym c.candidate_in.ensures ∙ w.in-Some.is)) ∙ w.earlier.ensures.first (candidates_in cpu (take i words)) c.loop-word.invariant)
      | in_default w ↦
          w.first-is
          ∙ c.loop-word.invariant
          ∙ sym (ap first_of (without_candidate cpu words i c.loop-word-test.true (sym c.candidate_in.ensures ∙ w.in_default.is)))
    ]
