-- Bit by bit.
use Rattle.std.proofs.Common.{◌≡◌, ◌-◌, ◌<◌, Some, sym, ap, subst, ◌∙◌, arith}
use Rattle.std.specs.List.{find, range_with_len}
use Rattle.port_call.specs.Words.{has_interrupt, is_of_vcpu}
use Rattle.port_call.specs.Core.{is_cand, index_bit, index_bits, key_of_bit, shape_of}
use Rattle.pe_loop.proofs.LookLemmas.{no_looks, one_look, search_in, fewer_left}
use Rattle.pe_loop.proofs.scan.look_over.Goals as goal

pub loop-bit-init : goal.loop-bit-init
loop-bit-init g c =
    record {
      shape = c.shape-shape.ensures;
      vcpu = c.actor-vcpu.ensures;
      end = c.index_bits-end.ensures.value;
      from = omega arith;
      looking = no_looks (g.P.Port.seen c.args.port.now) c.args.chooser.now c.args.cpu.now;
    }

pub key_of_bit-requires-clause-within : goal.key_of_bit-requires-clause-within
key_of_bit-requires-clause-within g c =
    let range = search_in c.local_ref.result.now.cands c.loop-bit.from c.index_bits-end.result c.in-Some.bit c.loop-bit.invariant.from (sym c.next_candidate.ensures ∙ c.in-Some.is) in
    subst (λ end. c.in-Some.bit < end) c.index_bits-end.ensures.value range.1

pub loop-bit-smaller : goal.loop-bit-smaller
loop-bit-smaller g c =
    fewer_left c.loop-bit.from c.index_bits-end.result c.in-Some.bit
    (search_in c.local_ref.result.now.cands c.loop-bit.from c.index_bits-end.result c.in-Some.bit c.loop-bit.invariant.from (sym c.next_candidate.ensures ∙ c.in-Some.is))

pub loop-bit-preserved : goal.loop-bit-preserved
loop-bit-preserved g c =
    let old = g.P.Port.seen c.args.port.now in
    let now = g.P.Port.seen c.loop-bit.port in
    let range = search_in c.local_ref.result.now.cands c.loop-bit.from c.index_bits-end.result c.in-Some.bit c.loop-bit.invariant.from (sym c.next_candidate.ensures ∙ c.in-Some.is) in
    let found : find (is_cand now.local.cands) (range_with_len c.loop-bit.from (index_bits (shape_of old) - c.loop-bit.from)) ≡ Some c.in-Some.bit
    = ap (λ local. find (is_cand local.cands) (range_with_len c.loop-bit.from (index_bits (shape_of old) - c.loop-bit.from))) (sym c.local_ref.ensures)
    ∙ ap (λ end. find (is_cand c.local_ref.result.now.cands) (range_with_len c.loop-bit.from (end - c.loop-bit.from))) (sym (c.index_bits-end.ensures.value ∙ ap index_bits c.shape-shape.ensures))
    ∙ sym c.next_candidate.ensures ∙ c.in-Some.is in
    record {
      shape = c.shape-shape.ensures;
      vcpu = c.actor-vcpu.ensures;
      end = c.index_bits-end.ensures.value;
      from = (let below = range.1 in omega (arith, below));
      looking =
          one_look old now (g.P.Port.seen c.look_at.new.port) c.args.chooser.now c.loop-bit.chooser c.look_at.new.chooser c.args.cpu.now c.loop-bit.from c.in-Some.bit c.key_of_bit.result (g.P.Port.is_port c.args.port.now).good.sound.shape found
          (c.key_of_bit.ensures.value ∙ ap (λ shape. key_of_bit shape c.actor-vcpu.result c.in-Some.bit) c.shape-shape.ensures ∙ ap (λ vcpu. key_of_bit (shape_of old) vcpu c.in-Some.bit) c.actor-vcpu.ensures)
          (ap (λ shape. index_bit shape c.key_of_bit.result) (sym c.shape-shape.ensures) ∙ c.key_of_bit.ensures.inverse)
          (let each = (g.P.Port.is_port c.loop-bit.port).local.cands.each in let less = range.1 in omega (arith, each, less))
          (ap (λ shape. has_interrupt shape c.key_of_bit.result) (sym c.shape-shape.ensures) ∙ c.key_of_bit.ensures.there)
          (ap (λ vcpu. is_of_vcpu vcpu c.key_of_bit.result) (sym c.actor-vcpu.ensures) ∙ c.key_of_bit.ensures.own)
          c.loop-bit.invariant.looking c.look_at.ensures;
    }
