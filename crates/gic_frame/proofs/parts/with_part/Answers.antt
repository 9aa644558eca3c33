use Rattle.std.proofs.Common.{◌<◌, ◌≡◌, ◌+◌, ◌*◌, ◌^◌, ap, ◌∙◌, add-one, arith}
use Rattle.gic_frame.specs.Part.{part_bits}
use Rattle.gic_frame.proofs.JoinLemmas.{with_part_below, part_in_put, fits_word}
use Rattle.gic_frame.proofs.parts.with_part.Goals as goal

pub overflow_add-result : goal.overflow_add-result
overflow_add-result c =
    let put : c.put.result ≡ c.args.part * 2 ^ (c.args.number * part_bits c.args.kind) = c.put.ensures ∙ ap (λ n. c.args.part * 2 ^ n) c.field_of.ensures.place in
    let sum : c.args.value + c.args.part * 2 ^ (c.args.number * part_bits c.args.kind) < 2 ^ 64 =
    fits_word (c.args.value + c.args.part * 2 ^ (c.args.number * part_bits c.args.kind)) c.args.number (part_bits c.args.kind) (with_part_below (part_bits c.args.kind) c.args.value c.args.part c.args.number c.requires.before c.requires.fits) c.requires.within in
    omega arith

pub returns-clause-before : goal.returns-clause-before
returns-clause-before c =
    let put : c.put.result ≡ c.args.part * 2 ^ (c.args.number * part_bits c.args.kind) = c.put.ensures ∙ ap (λ n. c.args.part * 2 ^ n) c.field_of.ensures.place in
    rw (put, add-one) (with_part_below (part_bits c.args.kind) c.args.value c.args.part c.args.number c.requires.before c.requires.fits)

pub returns-clause-part : goal.returns-clause-part
returns-clause-part c =
    let put : c.put.result ≡ c.args.part * 2 ^ (c.args.number * part_bits c.args.kind) = c.put.ensures ∙ ap (λ n. c.args.part * 2 ^ n) c.field_of.ensures.place in
    rw put (part_in_put (part_bits c.args.kind) c.args.value c.args.part c.args.number c.requires.before c.requires.fits)
