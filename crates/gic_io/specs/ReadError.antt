use Rattle.std.specs.Prelude.{ℕ, List, codes}
use Rattle.gic_io.specs.declared.reading.ReadError.{ReadError}
use Rattle.gic_io.specs.declared.reading.ReadError.TheVariants.{ReadFault, TooLong, NoMemory}

-- what is printed of an error
abbrev pub error_text : ReadError → List ℕ
error_text ReadFault = codes "the input could not be read"
error_text TooLong = codes "the input is too long"
error_text NoMemory = codes "there is no memory for the input"
