use Rattle.std.proofs.Common.{refl}
use Rattle.vm_saved.proofs.RestoreLemmas.{saved_is}
use Rattle.vm_saved.proofs.saving.save.Goals as goal

pub returns-clause-saved : goal.returns-clause-saved
returns-clause-saved c =
    saved_is c.args.machine.now c.guest-guest.result.now c.bases-kept.result c.in-Ok.run' c.in-Ok-text.bytes c.guest-guest.ensures.value c.bases-kept.ensures.value c.bases-kept.ensures.whole c.in-Ok.ensures
    (c.in-Ok-is_valid_run.ensures.0 c.if-not-is_valid.false) (c.if-not-is_stored.ensures.0 refl) c.in-Ok-text.ensures.text c.in-Ok-text.ensures.spells
