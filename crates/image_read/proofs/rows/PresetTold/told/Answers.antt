use Rattle.std.proofs.Common.{◌∙◌, Some, refl, sym, ap, arith}
use Rattle.serde_json.specs.View.{view}
use Rattle.json_field.specs.Field.{list_of}
use Rattle.gic_resume.specs.GicSave.Image.{preset_data}
use Rattle.image_read.proofs.RowLemmas.{row_is, read_as, preset_id, to_fits, vcpu_of_preset}
use Rattle.image_read.proofs.rows.PresetTold.told.Goals as goal

pub returns-clause-told : goal.returns-clause-told
returns-clause-told c = read_as preset_data (view c.args.value.now) c.end.result _ _ c.end.ensures.told (λ e. row_is (view c.args.value.now) _ (sym c.of-row.ensures ∙ c.word.ensures.told _ (c.byte.ensures.told _ (c.flag.ensures.told _ (c.byte-2.ensures.told _ (c.word_or_null.ensures.told _ (c.word_or_null-2.ensures.told _ e)))))))

pub returns-clause-only : goal.returns-clause-only
returns-clause-only c shape x is valid e =
    let start = c.of-row.ensures ∙ ap list_of (sym e) in
    let p0 = c.word.ensures.only x.id _ (preset_id shape x is valid) start in
    let p1 = c.byte.ensures.only x.prio _ (omega (arith, valid.prio)) p0.1 in
    let p2 = c.flag.ensures.only x.edge _ p1.1 in
    let p3 = c.byte-2.ensures.only x.group _ (omega (arith, valid.group)) p2.1 in
    let p4 = c.word_or_null.ensures.only x.to _ (to_fits shape x x.to x.vcpu refl is valid.addressed) p3.1 in
    let p5 = c.word_or_null-2.ensures.only x.vcpu _ (vcpu_of_preset shape x x.vcpu refl is valid.addressed valid.there) p4.1 in
    c.end.ensures.only p5.1 ∙ ap Some (λ i. record { id = p0.0 i; prio = p1.0 i; edge = p2.0 i; group = p3.0 i; to = p4.0 i; vcpu = p5.0 i })
