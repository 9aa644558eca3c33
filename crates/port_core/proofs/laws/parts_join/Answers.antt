use Rattle.port_core.specs.Port.{shape_of}
use Rattle.port_core.proofs.PortLemmas.{adds_join, events_join}
use Rattle.port_core.proofs.laws.parts_join.Goals as goal

pub returns : goal.returns
returns c = record { adds = adds_join; events = λ seen early late. events_join (shape_of seen) seen.actor seen.local seen.own early late }
