use Rattle.std.proofs.Common.{◌∙◌, Some, sym, ap, arith}
use Rattle.serde_json.specs.View.{view}
use Rattle.json_field.specs.Field.{list_of}
use Rattle.gic_resume.specs.GicSave.Image.{shape_data}
use Rattle.image_read.proofs.RowLemmas.{row_is, read_as}
use Rattle.image_read.proofs.rows.GuestShapeTold.told.Goals as goal

pub returns-clause-told : goal.returns-clause-told
returns-clause-told c = read_as shape_data (view c.args.value.now) c.end.result _ _ c.end.ensures.told (λ e. row_is (view c.args.value.now) _ (sym c.of-row.ensures ∙ c.word.ensures.told _ (c.word-2.ensures.told _ (c.word-3.ensures.told _ (c.word-4.ensures.told _ (c.word-5.ensures.told _ (c.word-6.ensures.told _ e)))))))

pub returns-clause-only : goal.returns-clause-only
returns-clause-only c shape x is valid e =
    let start = c.of-row.ensures ∙ ap list_of (sym e) in
    let p0 = c.word.ensures.only x.vcpus _ (omega (arith, valid.vcpus)) start in
    let p1 = c.word-2.ensures.only x.spis _ (omega (arith, valid.spis)) p0.1 in
    let p2 = c.word-3.ensures.only x.espis _ (omega (arith, valid.espis)) p1.1 in
    let p3 = c.word-4.ensures.only x.devices _ (omega (arith, valid.devices)) p2.1 in
    let p4 = c.word-5.ensures.only x.lpis _ (omega (arith, valid.lpis)) p3.1 in
    let p5 = c.word-6.ensures.only x.ram _ (omega (arith, valid.ram)) p4.1 in
    c.end.ensures.only p5.1 ∙ ap Some (λ i. record { vcpus = p0.0 i; spis = p1.0 i; espis = p2.0 i; devices = p3.0 i; lpis = p4.0 i; ram = p5.0 i })
