-- The text of the rest of a run that was saved in its middle (own choice).
use Rattle.std.specs.Prelude.{ℕ, ◌+◌, List, ◌++◌, length, count_by}
use Rattle.gic_soak.specs.ScnBase.declared.step.Step.{Step}
use Rattle.gic_soak.specs.GicGuest.declared.outcome.RunOut.{RunOut}
use Rattle.scn_saved.specs.Read.{is_read}
use Rattle.scn_saved.specs.declared.saved.Saved.{Saved}
use Rattle.gic_report.specs.Text.{answer_lines, end_lines, counts_of}

-- the text of the rest of a run after so many steps, so many of which read: the lines of its steps, with numbers after theirs, those of its ends, and
-- the last line of the whole run
abbrev pub text_after : ℕ → ℕ → List Step → RunOut → List ℕ
text_after done reads rest out = answer_lines (done + 1) out.answers ++ end_lines 0 out.ends ++ counts_of (done + length rest) (reads + count_by is_read rest)

-- the text of what is left of a saved run
abbrev pub text_saved : Saved → RunOut → List ℕ
text_saved saved out = text_after saved.done saved.reads saved.scenario.steps out
