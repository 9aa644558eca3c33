use Rattle.std.proofs.Common.{◌≡◌, Some, string_bytes, refl, ap, ◌∙◌}
use Rattle.serde_json.specs.Read.{read}
use Rattle.serde_json.specs.Written.{compact_text}
use Rattle.gic_save.proofs.PlainLemmas.{no_float, not_deep}
use Rattle.gic_save.proofs.whole.image.Goals as goal

pub returns-clause-text : goal.returns-clause-text
returns-clause-text c =
    let is = c.in_ok-image_value.ensures in
    let bytes : c.into_bytes.result.items ≡ string_bytes c.in_ok-text.text = rw c.into_bytes.ensures.value refl in
    c.from.ensures ∙ bytes ∙ c.in_ok-text.ensures.text (no_float c.args.saved.now _ is) ∙ ap compact_text is

pub returns-clause-reads_back : goal.returns-clause-reads_back
returns-clause-reads_back c =
    let is = c.in_ok-image_value.ensures in
    let bytes : c.into_bytes.result.items ≡ string_bytes c.in_ok-text.text = rw c.into_bytes.ensures.value refl in
    ap read (c.from.ensures ∙ bytes) ∙ c.in_ok-text.ensures.reads_back (not_deep c.args.saved.now _ is) ∙ ap Some is
