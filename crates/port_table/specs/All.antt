-- What the shared words and the roots of all guests tell.
use Rattle.std.specs.Prelude.{List, map}
use Rattle.port_table.specs.declared.shared.SharedWords.{SharedWords}
use Rattle.port_table.specs.declared.shared.RootSeat.{RootSeat}
use Rattle.port_table.specs.Ports.{words_told, root_told}
use Rattle.port_table.specs.Told.{WordsTold, RootTold}

abbrev pub told_words : SharedWords → List WordsTold
told_words words = map words_told words.guests.items

abbrev pub told_root : RootSeat → List RootTold
told_root root = map root_told root.guests.items
