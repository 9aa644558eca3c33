-- The run, with how its guests ended.
use Rattle.law_one_thread_is_eager.specs.PortSeq.Every.{all_untaken, each_is_told}
use Rattle.law_one_thread_is_eager.specs.PortSeq.Ports.{told_all}
use Rattle.law_ends_agree.proofs.GicIdeal.StateLemmas.{shapes_opening}
use Rattle.run_seq.specs.Agenda.{agenda_of}
use Rattle.run_seq.proofs.EndLemmas.{all_free, ended_by, have_ended, out_is}
use Rattle.run_seq.proofs.scheduled.run.Goals as goal

pub finish-requires : goal.finish-requires
finish-requires g c = all_untaken c.run_on.new.port (all_free (agenda_of c.args.scenario.now) c.in_ok-done.done (told_all c.run_on.new.port) c.in_ok-done.ensures)

pub ends_of-requires : goal.ends_of-requires
ends_of-requires g c =
    have_ended (agenda_of c.args.scenario.now) c.in_ok-done.done (told_all c.run_on.new.port) c.in_ok-done.ensures c.args.scenario.now.guests c.requires.good.each_guest (shapes_opening c.args.scenario.now.guests)
    (λ number there. (each_is_told c.run_on.new.port number there).good) c.in_ok-words.words c.as_slice.result.now c.in_ok-words.ensures c.as_slice.ensures

pub returns-clause-value : goal.returns-clause-value
returns-clause-value g c =
    out_is (agenda_of c.args.scenario.now) c.in_ok-done.done (told_all c.run_on.new.port) c.in_ok-done.ensures c.args.scenario.now.guests c.in_ok-ends.ends
    (c.in_ok-ends.ensures _
    (ended_by (agenda_of c.args.scenario.now) c.in_ok-done.done (told_all c.run_on.new.port) c.in_ok-done.ensures c.args.scenario.now.guests c.requires.good.each_guest (shapes_opening c.args.scenario.now.guests)
    (λ number there. (each_is_told c.run_on.new.port number there).good) c.in_ok-words.words c.as_slice.result.now c.in_ok-words.ensures c.as_slice.ensures))
