use Rattle.std.proofs.Common.{◌∙◌, sym}
use Rattle.gic_host.proofs.ReadLemmas.{phys_found}
use Rattle.gic_host.proofs.good.Standing.phys.Goals as goal

pub returns-in-Some : goal.returns-in-Some
returns-in-Some c = phys_found c.args.self.now.links.now c.args.self.now.vcpus c.args.self.now.loaded c.args.phys c.in-Some.link (sym c.find_phys.ensures ∙ c.in-Some.is)
