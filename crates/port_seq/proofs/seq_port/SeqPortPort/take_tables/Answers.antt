use Rattle.std.proofs.Common.{true, sym, ap, ◌∙◌}
use Rattle.port_seq.specs.Told.{seen_of}
use Rattle.port_seq.proofs.GuestsLemmas.{told_at, told_now}
use Rattle.port_seq.proofs.seq_port.SeqPortPort.take_tables.Goals as goal

pub returns-clause-seen : goal.returns-clause-seen
returns-clause-seen c =
    let port = c.args.self.now in
    ap seen_of (told_now port.guests.items port.guest c.take_tables.new.self port.there) ∙ c.take_tables.ensures.seen
    ∙ ap (λ t. record (seen_of t) { taken = true }) (sym (told_at port.guests.items port.guest c.index_mut.result.now port.there c.index_mut.ensures.value))
