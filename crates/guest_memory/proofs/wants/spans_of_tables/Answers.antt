use Rattle.std.proofs.Common.{◌*◌, ◌≤◌, List, subst, sym, ◌∙◌, arith}
use Rattle.std.proofs.lemmas.List.{length-set}
use Rattle.guest_memory.specs.declared.wants.Span.{Span}
use Rattle.guest_memory.specs.Wants.{no_span, table_span, bytes_in}
use Rattle.guest_memory.proofs.FewLemmas.{few_in_tables}
use Rattle.guest_memory.proofs.ListLemmas.{put_next, all_of}
use Rattle.guest_memory.proofs.wants.spans_of_tables.Goals as goal

pub loop-vcpu-preserved : goal.loop-vcpu-preserved
loop-vcpu-preserved c =
    let is = c.loop-vcpu.invariant in
    let spans = c.loop-vcpu.spans in
    let n = c.loop-vcpu.vcpu in
    record {
      long = length-set spans n c.span_of_table.result ∙ is.long;
      each =
          put_next spans n c.span_of_table.result no_span (table_span c.args.guest.now c.args.bases.now c.args.commands.now) (omega (arith, c.loop-vcpu-test.true, is.long)) c.span_of_table.ensures is.each;
    }

pub returns-clause-value : goal.returns-clause-value
returns-clause-value c =
    let is = c.loop-vcpu.invariant in
    all_of c.loop-vcpu.spans 32 no_span (table_span c.args.guest.now c.args.bases.now c.args.commands.now) is.long (λ i h. is.each i (omega (arith, h, c.loop-vcpu-test.false)))

pub returns-clause-few : goal.returns-clause-few
returns-clause-few c =
    subst (λ (spans : List Span). bytes_in spans ≤ 32 * 4096) (sym (returns-clause-value c)) (few_in_tables c.args.guest.now c.args.bases.now c.args.commands.now c.requires)
