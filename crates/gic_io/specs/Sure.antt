use Rattle.std.specs.Prelude.{ℕ, List, Option}
use Rattle.std.specs.Option.{option_map}
use Rattle.gic_io.specs.declared.sure.SureSource.{SureSource}
use Rattle.gic_io.specs.declared.sure.SureSink.{SureSink}

-- the bytes that a sure source has still to give
abbrev pub sure_left : SureSource → List ℕ
sure_left source = source.unread

-- the bytes that a sure sink has taken, where it tells them
abbrev pub sure_taken : SureSink → Option (List ℕ)
sure_taken sink = option_map (λ bytes. bytes.items) sink.bytes
