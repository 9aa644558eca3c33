-- No event of the device is left.
use Rattle.its_exec.proofs.ForgetLemmas.{no_event_left}
use Rattle.its_exec.proofs.command.forget_device.Goals as goal

pub unmap_device-requires : goal.unmap_device-requires
unmap_device-requires g c = no_event_left c.args.tables.now c.forget_events.new.tables c.args.device c.forget_events.ensures.tables
