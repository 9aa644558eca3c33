-- An actor that owes nothing, while it makes a call.
use Rattle.std.specs.Prelude.{◌≡◌, IsTrue, []}
use Rattle.floor_core.specs.Core.{Local, owes_nothing, no_vcpus}

-- it owes no kick and no mark, has no candidate, and has nothing at its interface
pub record IsAtEase (local : Local) : Type 0 where
  pub owes : IsTrue (owes_nothing local)
  pub empty : local.at ≡ []

-- it has for itself what it had, but for the interrupt whose marks it sent last
pub record StaysAtEase (before after : Local) : Type 0 where
  pub same : record after { marks = before.marks } ≡ before
  pub marks : after.marks.vcpus ≡ no_vcpus
