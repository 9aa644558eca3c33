use Rattle.std.proofs.Common.{◌∙◌, Some, refl, sym, ap, map, arith}
use Rattle.serde_json.specs.View.{view}
use Rattle.image_read.proofs.RowLemmas.{vcpu_fits, device_fits, route_fits}
use Rattle.image_read.proofs.RecLemmas.{rec_read}
use Rattle.image_read.proofs.rec.record_told.Goals as goal

pub returns-clause-told : goal.returns-clause-told
returns-clause-told c = rec_read c.args.key (map view c.args.numbers.now) c.end.result _ _ c.end.ensures.told refl (λ e. sym c.after-row.ensures ∙ c.flag.ensures.told _ (c.byte.ensures.told _ (c.byte-2.ensures.told _ (c.flag-2.ensures.told _ (c.flag-3.ensures.told _ (c.flag-4.ensures.told _ (c.flag-5.ensures.told _ (c.word_or_null.ensures.told _ (c.word_or_null-2.ensures.told _ (c.flag-6.ensures.told _ (c.flag-7.ensures.told _ (c.word_or_null-3.ensures.told _ e))))))))))))

pub returns-clause-only : goal.returns-clause-only
returns-clause-only c shape rec is valid key e =
    let start = c.after-row.ensures ∙ ap Some (sym e) in
    let p0 = c.flag.ensures.only rec.enabled _ start in
    let p1 = c.byte.ensures.only rec.group _ (omega (arith, valid.group)) p0.1 in
    let p2 = c.byte-2.ensures.only rec.prio _ (omega (arith, valid.prio)) p1.1 in
    let p3 = c.flag-2.ensures.only rec.edge _ p2.1 in
    let p4 = c.flag-3.ensures.only rec.line _ p3.1 in
    let p5 = c.flag-4.ensures.only rec.rise _ p4.1 in
    let p6 = c.flag-5.ensures.only rec.soft _ p5.1 in
    let p7 = c.word_or_null.ensures.only rec.act _ (vcpu_fits shape rec.act is valid.active) p6.1 in
    let p8 = c.word_or_null-2.ensures.only rec.route _ (route_fits shape rec.key rec.route is valid.route) p7.1 in
    let p9 = c.flag-6.ensures.only rec.en0 _ p8.1 in
    let p10 = c.flag-7.ensures.only rec.en1 _ p9.1 in
    let p11 = c.word_or_null-3.ensures.only rec.mover _ (device_fits shape rec.mover is valid.mover) p10.1 in
    c.end.ensures.only p11.1 ∙ ap Some (λ i. record { key = sym key i; enabled = p0.0 i; group = p1.0 i; prio = p2.0 i; edge = p3.0 i; line = p4.0 i; rise = p5.0 i; soft = p6.0 i; act = p7.0 i; route = p8.0 i; en0 = p9.0 i; en1 = p10.0 i; mover = p11.0 i })
