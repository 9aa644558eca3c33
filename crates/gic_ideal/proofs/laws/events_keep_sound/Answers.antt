use Rattle.gic_ideal.proofs.SoundEvents.{sound_events}
use Rattle.gic_ideal.proofs.laws.events_keep_sound.Goals as goal

pub returns : goal.returns
returns c = sound_events
