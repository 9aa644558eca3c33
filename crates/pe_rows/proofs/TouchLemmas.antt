-- A vCPU with nothing at its interface touches an interrupt that it looked at.
use Rattle.std.proofs.Common.{◌≡◌, ℕ, ◌&&◌, not, IsTrue, [], is_none, refl, sym, ap, subst, ◌∙◌}
use Rattle.std.proofs.lemmas.Bool.{and_parts}
use Rattle.port_seq.specs.Words.{Spi, SetActive, has_interrupt}
use Rattle.port_seq.specs.Calls.{Register}
use Rattle.pe_mem.specs.Core.{Look, Touch, Irq, has_no_cand, owes_no_kick, owes_no_mark, owes_nothing, Seen, AddsStep, CanMake, shape_of, IsIrqWord, is_settled}
use Rattle.pe_icc.proofs.PeLoop.LookLemmas.{look_same}

pub can_activate : (old mid : Seen) (id found : ℕ) → IsTrue (has_interrupt (shape_of old) (Spi id)) → old.local.at ≡ [] → IsTrue (is_settled old.local) → IsIrqWord (shape_of old) (Spi id) found → AddsStep old mid (Look (Irq (Spi id))) found
    → CanMake mid (Touch (Spi id) found (Register SetActive 1))
can_activate old mid id found there empty settled word add =
    let shape : shape_of mid ≡ shape_of old = ap shape_of add.adds.new_is in
    let same = look_same old mid (Spi id) found add old.local.cands in
    let line = and_parts (owes_nothing old.local && not old.local.turn && not old.local.ctlr) (is_none old.local.line) settled in
    let ctlr = and_parts (owes_nothing old.local && not old.local.turn) (not old.local.ctlr) line.0 in
    let owes = (and_parts (owes_nothing old.local) (not old.local.turn) ctlr.0).0 in
    let marks = (and_parts (owes_no_kick old.local) (owes_no_mark old.local) (and_parts (owes_no_kick old.local && owes_no_mark old.local) (has_no_cand old.local) owes).0).1 in
    record {
      can = record { there = ap (λ shape. has_interrupt shape (Spi id)) shape ∙ there; fits = refl };
      seen_is = subst (λ shape. IsIrqWord shape (Spi id) found) (sym shape) word;
      meets = record { empty = ap (λ local. local.at) same ∙ empty; marks = ap owes_no_mark same ∙ marks; lines = λ e. absurd (cc) };
      tables = refl;
    }
