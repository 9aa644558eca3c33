-- What a refusal shows (own choice).
use Rattle.std.specs.Prelude.{ℕ, List, codes}
use Rattle.scn_base.specs.Shown.{fault_text}
use Rattle.scn_read.specs.declared.refusal.ReadRefusal.{ReadRefusal}
use Rattle.scn_read.specs.declared.refusal.ReadRefusal.TheVariants.{Bad, NoMemory}

-- the fault, or that memory is out
abbrev pub refusal_text : ReadRefusal → List ℕ
refusal_text (Bad fault) = fault_text fault
refusal_text NoMemory = codes "out of memory"
