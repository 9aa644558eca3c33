-- A bit that is not set, and one that is.
use Rattle.std.proofs.Common.{◌≡◌, true, false, Some, None, append-nil, sym, ap, subst, ◌∙◌}
use Rattle.pe_loop.specs.Core.{is_cand, key_of_bit}
use Rattle.pe_loop.specs.Registers.{first_of}
use Rattle.pe_icc.specs.Lines.{FindsOne}
use Rattle.pe_icc.proofs.LineLemmas.{bit_clear, bit_set}
use Rattle.pe_icc.proofs.line.look_at_bit.Goals as goal

pub returns-then-not-is_marked : goal.returns-then-not-is_marked
returns-then-not-is_marked g c =
    let clear : is_cand (record { words = c.args.words.now }) c.args.bit ≡ false = sym c.is_marked.ensures ∙ c.if-not-is_marked.true in
    bit_clear (g.P.Port.seen c.args.port.now) c.args.words.now c.args.bit c.args.first clear

pub returns-in-Some : goal.returns-in-Some
returns-in-Some g c =
    let old = g.P.Port.seen c.args.port.now in
    let new = g.P.Port.seen c.find_at.new.port in
    let is_set : is_cand (record { words = c.args.words.now }) c.args.bit ≡ true = sym c.is_marked.ensures ∙ c.if-not-is_marked.false in
    bit_set old new c.args.words.now c.args.bit c.key_of_bit-key.result (Some c.in-Some.next) c.args.first (Some c.earlier.result) c.requires.none is_set
    (c.key_of_bit-key.ensures.value ∙ ap (λ shape. key_of_bit shape c.actor.result c.args.bit) c.shape.ensures ∙ ap (λ vcpu. key_of_bit old.guest.shape vcpu c.args.bit) c.actor.ensures)
    (subst (FindsOne old new c.key_of_bit-key.result) c.in-Some.is c.find_at.ensures) (λ candidates is. sym (c.earlier.ensures.first candidates is))

pub returns-in-None : goal.returns-in-None
returns-in-None g c =
    let old = g.P.Port.seen c.args.port.now in
    let new = g.P.Port.seen c.find_at.new.port in
    let is_set : is_cand (record { words = c.args.words.now }) c.args.bit ≡ true = sym c.is_marked.ensures ∙ c.if-not-is_marked.false in
    bit_set old new c.args.words.now c.args.bit c.key_of_bit-key.result None c.args.first c.args.first c.requires.none is_set
    (c.key_of_bit-key.ensures.value ∙ ap (λ shape. key_of_bit shape c.actor.result c.args.bit) c.shape.ensures ∙ ap (λ vcpu. key_of_bit old.guest.shape vcpu c.args.bit) c.actor.ensures)
    (subst (FindsOne old new c.key_of_bit-key.result) c.in-None.is c.find_at.ensures) (λ candidates is. is ∙ ap first_of (sym (append-nil candidates)))
