use Rattle.std.proofs.Common.{lit<, decimal, None}
use Rattle.std.proofs.lemmas.Str.Pattern.{strip_prefix_char}
use Rattle.image_read.proofs.rec.private.Goals as goal

pub returns-in_err-strip_prefix : goal.returns-in_err-strip_prefix
returns-in_err-strip_prefix c vcpu n low small owner id = absurd (strip_prefix_char 118 c.args.owner.now None c.in_err-strip_prefix.ensures.cases (lit< tt) (decimal vcpu) owner)
