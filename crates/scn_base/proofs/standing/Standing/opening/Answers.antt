use Rattle.std.proofs.Common.{◌≡◌, ◌∙◌, ap, sym, length, subst, replicate, None, arith, rules}
use Rattle.std.proofs.lemmas.List.{length-replicate}
use Rattle.std.specs.List.{All}
use Rattle.gic_guest.specs.Words.{IsShape}
use Rattle.scn_base.specs.Standing.{wire_count}
use Rattle.scn_base.proofs.StandingLemmas.{good_shapes, length-shapes_of}
use Rattle.scn_base.proofs.standing.Standing.opening.Goals as goal

pub wire_count-requires-clause-each : goal.wire_count-requires-clause-each
wire_count-requires-clause-each c =
    subst (All IsShape) (sym (c.as_slice.ensures ∙ c.in_ok-shapes.ensures)) (good_shapes c.args.guests.now c.requires.guests)

pub returns-clause-fine : goal.returns-clause-fine
returns-clause-fine c =
    let many : length c.in_ok-shapes.shapes ≡ length c.args.guests.now = ap length c.in_ok-shapes.ensures ∙ length-shapes_of c.args.guests.now in
    let empty : c.in_ok-wires.wires.items ≡ replicate c.wire_count.result None = search rules in
    record {
      shapes = subst (All IsShape) (sym c.in_ok-shapes.ensures) (good_shapes c.args.guests.now c.requires.guests);
      guests = omega arith;
      pes = omega (arith, c.in_ok-opening_pes.ensures.pes);
      wires = ap length (c.from.ensures ∙ empty) ∙ length-replicate c.wire_count.result None ∙ c.wire_count.ensures.value ∙ ap wire_count c.as_slice.ensures;
    }
