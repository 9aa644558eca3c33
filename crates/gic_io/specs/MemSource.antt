use Rattle.std.specs.Prelude.{ℕ, List}
use Rattle.gic_io.specs.declared.memory.MemSource.{MemSource}
use Rattle.gic_io.specs.Memory.{Script}

-- what a source in memory does at its calls
abbrev pub source_script : MemSource → Script
source_script source = source.plan

-- the bytes that it has still to give
abbrev pub bytes_left : MemSource → List ℕ
bytes_left source = source.unread

-- how many of its calls have failed
abbrev pub source_faults : MemSource → ℕ
source_faults source = source.faults.count
