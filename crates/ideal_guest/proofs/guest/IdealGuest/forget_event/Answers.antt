use Rattle.ideal_guest.proofs.SoundLemmas.{sound_unmapped}
use Rattle.ideal_guest.proofs.guest.IdealGuest.forget_event.Goals as goal

pub returns-clause-sound : goal.returns-clause-sound
returns-clause-sound c = sound_unmapped c.do_part.new.self c.unmap_event.new.self (c.args.device, c.args.event) c.do_part.ensures.sound c.unmap_event.ensures.value
