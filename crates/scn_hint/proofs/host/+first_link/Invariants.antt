use Rattle.std.proofs.Common.{length}
use Rattle.scn_hint.proofs.host.+first_link.Given as goal

abbrev pub decreases-first_link : goal.decreases-first_link
decreases-first_link l = length l.links.now
