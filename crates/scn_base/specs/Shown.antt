-- What a fault shows (own choice).
use Rattle.std.specs.Prelude.{ℕ, ◌++◌, List, codes, decimal}
use Rattle.scn_base.specs.declared.fault.Fault.{Fault}

-- a fault's code and its step
abbrev pub fault_text : Fault → List ℕ
fault_text fault = codes "code " ++ decimal fault.code ++ codes " step " ++ decimal fault.step
