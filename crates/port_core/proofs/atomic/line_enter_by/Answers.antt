use Rattle.std.proofs.Common.{ℕ, ◌-◌, ◌^◌, bit_or, sym, ap, subst, ◌∙◌}
use Rattle.core_words.specs.declared.line.Line.{Line}
use Rattle.core_words.specs.Forms.{IsLine, line_of}
use Rattle.port_core.proofs.LineLemmas.{entered_fits, line_fits}
use Rattle.port_core.proofs.atomic.line_enter_by.Goals as goal

pub pack_line-requires : goal.pack_line-requires
pack_line-requires c =
    let line = c.of-line.result in
    let with : Line → ℕ → Line = λ line bit. record line { inside = bit_or line.inside bit } in
    subst IsLine (ap (λ l. with l (2 ^ (c.args.actor - c.args.shape.now.vcpus))) (sym c.of-line.ensures.value) ∙ ap (with line) (sym c.device_bit.ensures.value))
    (entered_fits c.args.shape.now c.args.actor (line_of c.args.seen) c.requires.shape c.requires.actor c.requires.device (line_fits c.args.seen c.requires.valid.word_is))
