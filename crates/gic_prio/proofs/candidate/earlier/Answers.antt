use Rattle.std.proofs.Common.{◌∙◌, sym}
use Rattle.gic_prio.proofs.FirstLemmas.{first_alone, first_next}
use Rattle.gic_prio.proofs.candidate.earlier.Goals as goal

pub returns-in-None-clause-first : goal.returns-in-None-clause-first
returns-in-None-clause-first c = λ seen e. first_alone seen c.args.next (sym c.in-None.is ∙ e)

pub returns-then-is_before-clause-first : goal.returns-then-is_before-clause-first
returns-then-is_before-clause-first c = λ seen e. rw (sym c.is_before.ensures ∙ c.if-is_before.true) at (first_next seen c.in-Some.first c.args.next (sym c.in-Some.is ∙ e))

pub returns-else-is_before-clause-first : goal.returns-else-is_before-clause-first
returns-else-is_before-clause-first c = λ seen e. rw (sym c.is_before.ensures ∙ c.if-is_before.false) at (first_next seen c.in-Some.first c.args.next (sym c.in-Some.is ∙ e))
