use Rattle.std.proofs.Common.{sym, ◌∙◌}
use Rattle.std.proofs.lemmas.Option.{same_Some}
use Rattle.port_seq.specs.Kept.{told_is_port}
use Rattle.port_seq.specs.Ports.{told}
use Rattle.port_seq.proofs.KeptLemmas.{known_here}
use Rattle.port_seq.proofs.guest.GuestPort.put.Goals as goal

pub invariant_of-self : goal.invariant_of-self
invariant_of-self c =
    let port = c.args.self.now in
    let turn = (told_is_port (told port) port.good port.there port.sound port.made port.turn).turn c.requires.taken in
    record {
      good = port.good;
      there = port.there;
      same = port.same;
      home = port.home;
      words = port.words;
      slots = port.slots;
      run = port.run;
      sound = port.sound;
      made = port.made;
      own = port.own;
      maps = λ maps e. sym (same_Some c.args.tables maps e) ∙ c.requires.value ∙ known_here (told port) port.good port.there port.run turn;
      turn = λ taker e. absurd (cc);
    }
