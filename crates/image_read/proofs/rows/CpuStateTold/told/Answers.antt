use Rattle.std.proofs.Common.{◌∙◌, Some, sym, ap, arith}
use Rattle.serde_json.specs.View.{view}
use Rattle.json_field.specs.Field.{list_of}
use Rattle.gic_resume.specs.GicSave.Image.{cpu_data}
use Rattle.image_read.proofs.RowLemmas.{row_is, read_as}
use Rattle.image_read.proofs.rows.CpuStateTold.told.Goals as goal

pub returns-clause-told : goal.returns-clause-told
returns-clause-told c = read_as cpu_data (view c.args.value.now) c.end.result _ _ c.end.ensures.told (λ e. row_is (view c.args.value.now) _ (sym c.of-row.ensures ∙ c.byte.ensures.told _ (c.byte-2.ensures.told _ (c.byte-3.ensures.told _ (c.flag.ensures.told _ (c.flag-2.ensures.told _ (c.flag-3.ensures.told _ (c.flag-4.ensures.told _ (c.flag-5.ensures.told _ (c.word.ensures.told _ (c.word-2.ensures.told _ e)))))))))))

pub returns-clause-only : goal.returns-clause-only
returns-clause-only c shape x is valid e =
    let start = c.of-row.ensures ∙ ap list_of (sym e) in
    let p0 = c.byte.ensures.only x.pmr _ (omega (arith, valid.pmr)) start in
    let p1 = c.byte-2.ensures.only x.bpr0 _ (omega (arith, valid.bpr0)) p0.1 in
    let p2 = c.byte-3.ensures.only x.bpr1 _ (omega (arith, valid.bpr1)) p1.1 in
    let p3 = c.flag.ensures.only x.cbpr _ p2.1 in
    let p4 = c.flag-2.ensures.only x.eoimode _ p3.1 in
    let p5 = c.flag-3.ensures.only x.en0 _ p4.1 in
    let p6 = c.flag-4.ensures.only x.en1 _ p5.1 in
    let p7 = c.flag-5.ensures.only x.lpis _ p6.1 in
    let p8 = c.word.ensures.only x.ap0 _ valid.ap0 p7.1 in
    let p9 = c.word-2.ensures.only x.ap1 _ valid.ap1 p8.1 in
    c.end.ensures.only p9.1 ∙ ap Some (λ i. record { pmr = p0.0 i; bpr0 = p1.0 i; bpr1 = p2.0 i; cbpr = p3.0 i; eoimode = p4.0 i; en0 = p5.0 i; en1 = p6.0 i; lpis = p7.0 i; ap0 = p8.0 i; ap1 = p9.0 i })
