use Rattle.law_serial_is_eager.proofs.SerialRuns.{serial_runs_are_eager}
use Rattle.law_serial_is_eager.proofs.laws.serial_runs_are_eager.Goals as goal

pub returns : goal.returns
returns c = serial_runs_are_eager
