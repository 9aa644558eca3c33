use Rattle.std.proofs.Common.{refl, ap, ◌∙◌}
use Rattle.std.specs.Prelude.{slice_index_or}
use Rattle.vm_saved.proofs.ReadLemmas.{alone_sound}
use Rattle.vm_saved.proofs.read.guest_in.Goals as goal

pub returns-clause-sound : goal.returns-clause-sound
returns-clause-sound c =
    alone_sound c.in-Ok.saved c.args.shape.now c.spec-spec.result c.index-as_slice-0.result c.in-Ok-guest_told.guest c.in-Ok.ensures.ok.valid (c.if-not-is_alone.ensures.0 refl) c.spec-spec.ensures
    (c.index-as_slice-0.is ∙ ap (λ states. slice_index_or states 0 c.index-as_slice-0.result) c.as_slice.ensures) c.in-Ok-guest_told.ensures
