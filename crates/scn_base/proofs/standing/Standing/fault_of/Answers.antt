use Rattle.scn_base.proofs.standing.Standing.fault_of.Goals as goal

pub returns-in-Device : goal.returns-in-Device
returns-in-Device c = rw c.in-Device.is (c.device_fault.ensures c.args.mode)
