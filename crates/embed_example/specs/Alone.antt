-- A guest by itself.
use Rattle.std.specs.Prelude.{◌≡◌, List, length}
use Rattle.port_table.specs.Told.{WordsTold, words_at}

-- the words are of one guest, with two vCPUs and a device
pub record IsAlone (words : List WordsTold) : Type 0 where
  pub one : length words ≡ 1
  pub vcpus : (words_at words 0).guest.shape.vcpus ≡ 2
  pub devices : (words_at words 0).guest.shape.devices ≡ 1
  pub number : (words_at words 0).number ≡ 0
