use Rattle.std.proofs.Common.{lit<, None, ◌∙◌}
use Rattle.std.proofs.lemmas.Str.Pattern.{strip_prefix_char}
use Rattle.trace_read.proofs.OwnerLemmas.{no_owner}
use Rattle.trace_read.proofs.name.owner_named.Goals as goal

pub returns-in_err-strip_prefix : goal.returns-in_err-strip_prefix
returns-in_err-strip_prefix c = c.from_residual.ensures ∙ no_owner c.args.text.now (strip_prefix_char 118 c.args.text.now None c.in_err-strip_prefix.ensures.cases (lit< tt))
