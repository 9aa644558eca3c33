-- A guest by itself, and what calls of an actor leave.
use Rattle.std.specs.Prelude.{◌≡◌, false, List, length}
use Rattle.dev_port.specs.Core.{Seen, IsSameActor}
use Rattle.port_table.specs.Told.{WordsTold, words_at}

-- the words are of one guest, with two vCPUs and four devices
pub record IsAlone (words : List WordsTold) : Type 0 where
  pub one : length words ≡ 1
  pub vcpus : (words_at words 0).guest.shape.vcpus ≡ 2
  pub devices : (words_at words 0).guest.shape.devices ≡ 4
  pub number : (words_at words 0).number ≡ 0

-- calls after which the port is the same actor's, and the actor has not the ITS
pub record Goes (old new : Seen) : Type 0 where
  pub same : IsSameActor old new
  pub idle : new.local.turn ≡ false
