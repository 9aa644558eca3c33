use Rattle.port_seq.specs.Ports.{told}
use Rattle.port_seq.proofs.ToldLemmas.{told_found, told_left, told_adds}
use Rattle.port_seq.proofs.guest_port.GuestPortPort.step.Goals as goal

pub returns-clause-found : goal.returns-clause-found
returns-clause-found c =
    let port = c.args.self.now in
    told_found (told port) (told c.make.new.self) c.args.step c.make.result port.good c.make.ensures.run c.make.ensures.takes c.make.ensures.told

pub returns-clause-left : goal.returns-clause-left
returns-clause-left c =
    let port = c.args.self.now in
    told_left (told port) (told c.make.new.self) c.args.step c.make.result port.good c.make.ensures.run c.make.ensures.takes c.make.ensures.told

pub returns-clause-adds : goal.returns-clause-adds
returns-clause-adds c =
    let port = c.args.self.now in
    told_adds (told port) (told c.make.new.self) c.args.step c.make.result port.good c.make.ensures.run c.make.ensures.takes c.make.ensures.told
