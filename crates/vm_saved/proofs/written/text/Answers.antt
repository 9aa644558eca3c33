use Rattle.std.proofs.Common.{Some, IsUtf8, sym, ap, subst, ◌∙◌}
use Rattle.serde_json.specs.Read.{read}
use Rattle.serde_json.specs.Written.{compact_text}
use Rattle.vm_saved.proofs.TextLemmas.{no_float, not_deep}
use Rattle.vm_saved.proofs.written.text.Goals as goal

pub returns-clause-text : goal.returns-clause-text
returns-clause-text c = c.from.ensures ∙ c.in_ok-to_vec.ensures.text (no_float c.args.guest.now c.args.kept.now _ c.in_ok-value.ensures) ∙ ap compact_text c.in_ok-value.ensures

pub returns-clause-spells : goal.returns-clause-spells
returns-clause-spells c =
    record {
      utf8 = subst IsUtf8 (sym c.from.ensures) c.in_ok-to_vec.ensures.utf8;
      reads = ap read c.from.ensures ∙ c.in_ok-to_vec.ensures.reads_back (not_deep c.args.guest.now c.args.kept.now _ c.in_ok-value.ensures) ∙ ap Some c.in_ok-value.ensures;
    }
