-- How a handle with a machine is told from one without (own choice).
use Rattle.std.specs.Prelude.{ℕ}

-- the mark of a handle with a machine: the letters "risvamey"
abbrev pub open_mark : ℕ
open_mark = 0x7269_7376_616D_6579
