use Rattle.std.proofs.Common.{false, sym, ap, ◌∙◌}
use Rattle.port_seq.specs.Told.{seen_of}
use Rattle.port_seq.proofs.GuestsLemmas.{told_at, told_now}
use Rattle.port_seq.proofs.seq_port.SeqPortPort.put_tables.Goals as goal

pub returns : goal.returns
returns c =
    let port = c.args.self.now in
    ap seen_of (told_now port.guests.items port.guest c.put_tables.new.self port.there) ∙ c.put_tables.ensures
    ∙ ap (λ t. record (seen_of t) { taken = false }) (sym (told_at port.guests.items port.guest c.index_mut.result.now port.there c.index_mut.ensures.value))
