use Rattle.std.specs.Prelude.{ℕ, List}
use Rattle.gic_io.specs.declared.memory.MemSink.{MemSink}
use Rattle.gic_io.specs.Memory.{Script}

-- what a sink in memory does at its calls
abbrev pub sink_script : MemSink → Script
sink_script sink = sink.plan

-- the bytes that it has taken
abbrev pub bytes_taken : MemSink → List ℕ
bytes_taken sink = sink.bytes.items

-- how many of its calls have failed
abbrev pub sink_faults : MemSink → ℕ
sink_faults sink = sink.faults.count
