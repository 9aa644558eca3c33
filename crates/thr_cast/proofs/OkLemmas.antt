-- What holds where a call was done.
use Rattle.std.specs.Prelude.{Result, Ok, Err, OnOk}

-- what holds anyway
pub on_ok : {A E : Type 0} {P : Type 0} (result : Result A E) → P → OnOk result P
on_ok (Ok value) so = so
on_ok (Err error) so = tt
