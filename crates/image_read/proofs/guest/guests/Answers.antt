use Rattle.std.proofs.Common.{◌≡◌, ◌∙◌, Some, sym, ap, length, ◌+◌, arith}
use Rattle.std.proofs.lemmas.Option.{none-some, same_Some}
use Rattle.std.proofs.lemmas.List.{length_push, take_all}
use Rattle.serde_json.specs.View.{view}
use Rattle.gic_resume.specs.GicSave.Image.{guest_data}
use Rattle.gic_resume.specs.Reading.{guest_head}
use Rattle.image_read.proofs.GuestLemmas.{nth_guest_of, grown_parts, grown_heads, as_long}
use Rattle.image_read.proofs.guest.guests.Goals as goal

pub returns-in_default-clause-only : goal.returns-in_default-clause-only
returns-in_default-clause-only c guests states good valid e =
    let there = nth_guest_of view guests states c.args.values.now c.loop-value.value-index c.value-item.result c.value-item.is good valid e (omega arith) in
    absurd (none-some (there.guest, there.state) (sym c.in_default.is ∙ c.in_ok-guest.ensures.only there.guest there.state there.good there.valid there.same))

pub loop-value-preserved : goal.loop-value-preserved
loop-value-preserved c =
    let told : guest_head (guest_data c.in-Some.guest c.in-Some.state) ≡ guest_head (view c.value-item.result) = rw c.in-Some.is at c.in_ok-guest.ensures.told in
    record {
      told = grown_heads view c.loop-value.told.guests c.push.new.self c.loop-value.told.states c.push-in-loop-value.new.self c.args.values.now c.loop-value.value-index c.value-item.result c.in-Some.guest c.in-Some.state c.loop-value.invariant.told c.loop-value.invariant.each told c.value-item.is c.in_ok-push.ensures.ok c.in_ok-push-2.ensures.ok (omega arith);
      each = ap length c.in_ok-push-2.ensures.ok ∙ length_push c.loop-value.told.states c.in-Some.state ∙ ap (λ n. n + 1) c.loop-value.invariant.each ∙ sym (length_push c.loop-value.told.guests c.in-Some.guest) ∙ sym (ap length c.in_ok-push.ensures.ok);
      only = λ guests states good valid e.
          let there = nth_guest_of view guests states c.args.values.now c.loop-value.value-index c.value-item.result c.value-item.is good valid e (omega arith) in
          let same = same_Some (c.in-Some.guest, c.in-Some.state) (there.guest, there.state) (sym c.in-Some.is ∙ c.in_ok-guest.ensures.only there.guest there.state there.good there.valid there.same) in
          grown_parts view c.loop-value.told.guests c.push.new.self guests c.loop-value.told.states c.push-in-loop-value.new.self states c.loop-value.value-index c.value-item.result c.in-Some.guest c.in-Some.state there (c.loop-value.invariant.only guests states good valid e) (ap (λ p. p.0) same) (ap (λ p. p.1) same) c.in_ok-push.ensures.ok c.in_ok-push-2.ensures.ok;
    }

pub returns-clause-only : goal.returns-clause-only
returns-clause-only c guests states good valid e =
    let parts = c.loop-value.invariant.only guests states good valid e in
    let long = as_long view guests states c.args.values.now valid e in
    let gs = sym parts.0 ∙ take_all c.loop-value.value-index guests (omega (arith, long.0)) in
    let ss = sym parts.1 ∙ take_all c.loop-value.value-index states (omega (arith, long.1)) in
    λ i. Some (record { guests = gs i; states = ss i })
