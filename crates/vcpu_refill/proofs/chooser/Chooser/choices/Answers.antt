use Rattle.std.proofs.Common.{◌≡◌, ◌<◌, ◌∙◌, [], Option, None, subst, length, refl, sym, ap, arith}
use Rattle.std.specs.Prelude.{slice_get, replicate, IfSome, if◌then◌else◌}
use Rattle.std.specs.List.{AllWithin}
use Rattle.std.proofs.lemmas.List.Elements.{AllWithin-none, AllWithin-more_set, All-from_all_within}
use Rattle.std.proofs.Math.ListN.{length-set}
use Rattle.gic_ich.specs.GicLr.Entry.{IsEntry}
use Rattle.vcpu_refill.specs.declared.fill.Choice.{Choice}
use Rattle.vcpu_refill.specs.Ranking.{in_places}
use Rattle.vcpu_refill.specs.Plan.{choices_of}
use Rattle.vcpu_refill.proofs.PlaceLemmas.{in_places_all, nothing_placed}
use Rattle.vcpu_refill.proofs.FillLemmas.{filled_more, fits_untrapped}
use Rattle.vcpu_refill.proofs.chooser.Chooser.choices.Goals as goal

pub returns-then-trapping-clause-value : goal.returns-then-trapping-clause-value
returns-then-trapping-clause-value c shape there actives deliverables keeps is =
    nothing_placed
    ∙ ap (λ trapping. in_places (if trapping then [] else choices_of actives deliverables c.args.cut c.args.self.now.vcpu c.args.cpu.now shape c.args.self.now.lrs)) (sym c.if-trapping.true)

pub loop-place-init : goal.loop-place-init
loop-place-init c = record { long = refl; entries = AllWithin-none (λ place. IfSome place (λ choice. IsEntry choice.entry)) (replicate 16 None) 0; filled = λ shape there actives deliverables keeps long fits k less. absurd (omega (arith, less)) }

pub loop-place-preserved : goal.loop-place-preserved
loop-place-preserved c =
    let within : c.loop-place.place < length c.loop-place.slot-items = omega arith in
    record {
      long = length-set _ _ _ ∙ c.loop-place.invariant.long;
      entries =
          AllWithin-more_set c.loop-place.slot-items c.loop-place.place c.choice_at.result within (λ place. IfSome place (λ choice. IsEntry choice.entry)) c.loop-place.invariant.entries c.choice_at.ensures.entry;
      filled = λ shape there actives deliverables keeps long fits.
          filled_more None (slice_get (choices_of actives deliverables c.args.cut c.args.self.now.vcpu c.args.cpu.now shape c.args.self.now.lrs)) c.loop-place.slot-items c.loop-place.place c.choice_at.result within
          (c.choice_at.ensures.value shape there actives deliverables keeps long fits) (c.loop-place.invariant.filled shape there actives deliverables keeps long fits);
    }

pub returns-clause-value : goal.returns-clause-value
returns-clause-value c shape there actives deliverables keeps is =
    let lrs : c.self.inside.lrs ≡ c.args.self.now.lrs = ap (λ kept. kept.lrs) c.self.view_is in
    let room = fits_untrapped actives deliverables c.args.self.now.lrs c.count-active.result (sym is ∙ c.if-trapping.false) (omega (arith, lrs, c.self.invariant)) (c.count-active.ensures.value actives (ap (λ kept. kept.active) c.self.view_is ∙ keeps.kept_active)) in
    in_places_all (choices_of actives deliverables c.args.cut c.args.self.now.vcpu c.args.cpu.now shape c.args.self.now.lrs) c.loop-place.slot-items c.loop-place.invariant.long
    (λ k less. c.loop-place.invariant.filled shape there actives deliverables keeps room.0 room.1 k (omega (arith, less)))
    ∙ ap (λ trapping. in_places (if trapping then [] else choices_of actives deliverables c.args.cut c.args.self.now.vcpu c.args.cpu.now shape c.args.self.now.lrs)) (sym c.if-trapping.false)

pub returns-clause-entries : goal.returns-clause-entries
returns-clause-entries c =
    let held : Option Choice → Type 0 = λ place. IfSome place (λ choice. IsEntry choice.entry) in
    let at_end : c.loop-place.place ≡ length c.loop-place.slot-items = omega arith in
    All-from_all_within held c.loop-place.slot-items (subst (AllWithin held c.loop-place.slot-items 0) at_end c.loop-place.invariant.entries)
