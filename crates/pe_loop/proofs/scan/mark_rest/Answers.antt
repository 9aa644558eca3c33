-- Mark by mark.
use Rattle.std.proofs.Common.{◌≡◌, ◌-◌, ◌<◌, Some, sym, ap, subst, ◌∙◌, arith}
use Rattle.std.specs.List.{find, range_with_len}
use Rattle.port_call.specs.Core.{is_cand, index_bit, index_bits}
use Rattle.pe_loop.proofs.LookLemmas.{search_in, fewer_left}
use Rattle.pe_loop.proofs.MarkLemmas.{no_marks, mark_more, marked_all}
use Rattle.pe_loop.proofs.scan.mark_rest.Goals as goal

pub loop-bit-init : goal.loop-bit-init
loop-bit-init g c =
    record {
      shape = c.shape-shape.ensures;
      vcpu = c.actor-vcpu.ensures;
      end = c.index_bits-end.ensures.value;
      from = omega arith;
      marking = no_marks (g.P.Port.seen c.args.port.now);
    }

pub key_of_bit-key-requires-clause-within : goal.key_of_bit-key-requires-clause-within
key_of_bit-key-requires-clause-within g c =
    let range = search_in c.local_ref.result.now.cands c.loop-bit.from c.index_bits-end.result c.in-Some.bit c.loop-bit.invariant.from (sym c.next_candidate.ensures ∙ c.in-Some.is) in
    subst (λ end. c.in-Some.bit < end) c.index_bits-end.ensures.value range.1

pub loop-bit-smaller : goal.loop-bit-smaller
loop-bit-smaller g c =
    fewer_left c.loop-bit.from c.index_bits-end.result c.in-Some.bit
    (search_in c.local_ref.result.now.cands c.loop-bit.from c.index_bits-end.result c.in-Some.bit c.loop-bit.invariant.from (sym c.next_candidate.ensures ∙ c.in-Some.is))

pub loop-bit-preserved : goal.loop-bit-preserved
loop-bit-preserved g c =
    let old = g.P.Port.seen c.args.port.now in
    let now = g.P.Port.seen c.loop-bit.port in
    let range = search_in c.local_ref.result.now.cands c.loop-bit.from c.index_bits-end.result c.in-Some.bit c.loop-bit.invariant.from (sym c.next_candidate.ensures ∙ c.in-Some.is) in
    let found : find (is_cand now.local.cands) (range_with_len c.loop-bit.from (c.index_bits-end.result - c.loop-bit.from)) ≡ Some c.in-Some.bit
    = ap (λ local. find (is_cand local.cands) (range_with_len c.loop-bit.from (c.index_bits-end.result - c.loop-bit.from))) (sym c.local_ref.ensures) ∙ sym c.next_candidate.ensures ∙ c.in-Some.is in
    record {
      shape = c.shape-shape.ensures;
      vcpu = c.actor-vcpu.ensures;
      end = c.index_bits-end.ensures.value;
      from = (let below = range.1 in omega (arith, below));
      marking =
          mark_more old now (g.P.Port.seen c.step.new.self) c.loop-bit.from c.index_bits-end.result c.in-Some.bit c.step.result c.actor-vcpu.result c.key_of_bit-key.result c.requires.vcpu c.requires.marks (g.P.Port.is_port c.loop-bit.port)
          c.actor-vcpu.ensures (c.index_bits-end.ensures.value ∙ ap index_bits c.shape-shape.ensures) c.index_bits-end.ensures.bound found range.1
          (ap (λ shape. index_bit shape c.key_of_bit-key.result) (sym c.shape-shape.ensures) ∙ c.key_of_bit-key.ensures.inverse) c.key_of_bit-key.ensures.own c.loop-bit.invariant.marking c.step.ensures.adds;
    }

pub returns : goal.returns
returns g c =
    let now = g.P.Port.seen c.loop-bit.port in
    marked_all (g.P.Port.seen c.args.port.now) now c.loop-bit.from c.index_bits-end.result (g.P.Port.is_port c.loop-bit.port) (c.index_bits-end.ensures.value ∙ ap index_bits c.shape-shape.ensures)
    (ap (λ local. find (is_cand local.cands) (range_with_len c.loop-bit.from (c.index_bits-end.result - c.loop-bit.from))) (sym c.local_ref.ensures) ∙ sym c.next_candidate.ensures ∙ c.in_default.is)
    c.loop-bit.invariant.marking
