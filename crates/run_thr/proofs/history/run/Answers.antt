-- The run, with how its guests ended.
use Rattle.thr_cast.specs.PortTable.All.{told_root, told_words}
use Rattle.run_thr.proofs.HistoryLemmas.{all_done, ended_by, have_ended, one_history}
use Rattle.run_thr.proofs.history.run.Goals as goal

pub finish-requires-clause-done : goal.finish-requires-clause-done
finish-requires-clause-done g c = all_done c.args.scenario.now c.in_ok-done.done (told_words c.in_ok-words.words) (told_root c.run_on.new.root) c.in_ok-done.ensures.ran

pub ends_of-requires : goal.ends_of-requires
ends_of-requires g c = have_ended c.args.scenario.now c.in_ok-done.done (told_words c.in_ok-words.words) (told_root c.run_on.new.root) c.in_ok-done.ensures.ran c.requires.good c.in_ok-left.left c.in_ok-left.ensures c.as_slice.result.now c.as_slice.ensures

pub returns-clause-possible : goal.returns-clause-possible
returns-clause-possible g c =
    let words = told_words c.in_ok-words.words in
    let root = told_root c.run_on.new.root in
    let ran = c.in_ok-done.ensures.ran in
    one_history c.args.scenario.now c.in_ok-done.done words root ran c.requires.good c.in_ok-left.left c.in_ok-left.ensures c.in_ok-ends.ends
    (c.in_ok-ends.ensures _ (ended_by c.args.scenario.now c.in_ok-done.done words root ran c.requires.good c.in_ok-left.left c.in_ok-left.ensures c.as_slice.result.now c.as_slice.ensures))
