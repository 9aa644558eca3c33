use Rattle.std.proofs.Common.{◌≡◌, ℕ, Bool, ◌+◌, ◌*◌, sym, ◌∙◌, arith}
use Rattle.port_core.specs.Run.{is_asked}
use Rattle.port_ops.proofs.QuietLemmas.{quiet_index}
use Rattle.port_ops.proofs.WordLemmas.{put_one_more, put_asked, put_unasked, all_put}
use Rattle.port_ops.proofs.words.index_word.Goals as goal
use Rattle.port_ops.proofs.words.index_word.Goals.{then-asks, else-asks}

pub returns-then-are_quiet : goal.returns-then-are_quiet
returns-then-are_quiet c = quiet_index c.args.guest.now c.args.vcpu c.args.number (c.requires.quiet c.if-are_quiet.true)

pub loop-bit-preserved : goal.loop-bit-preserved
loop-bit-preserved c =
    let guest = c.args.guest.now in
    let from = 64 * c.args.number in
    let asked : ℕ → Bool = λ bit. is_asked guest c.args.vcpu (from + bit) in
    put_one_more asked c.loop-bit.bit c.loop-bit.word c.if-asks.word c.loop-bit.invariant
    (elim c.if-asks.branch [
      | then-asks w ↦ put_asked asked c.loop-bit.word c.loop-bit.bit c.if-asks.word c.loop-bit-test.true (sym c.asks.ensures ∙ w.if-asks.true) w.word-is
      | else-asks w ↦ put_unasked asked c.loop-bit.word c.loop-bit.bit c.if-asks.word (sym c.asks.ensures ∙ w.if-asks.false) w.word-is
    ])

pub returns : goal.returns
returns c =
    let guest = c.args.guest.now in
    let last : c.loop-bit.bit ≡ 64 = omega (arith, c.loop-bit.auto.bit-end, c.loop-bit-test.false) in
    all_put guest c.args.vcpu c.args.number c.loop-bit.bit c.loop-bit.word last c.loop-bit.invariant
