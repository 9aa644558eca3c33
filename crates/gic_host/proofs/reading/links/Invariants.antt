use Rattle.std.proofs.Common.{◌≡◌, ◌++◌, map, drop, fold, None}
use Rattle.serde_json.specs.View.{view}
use Rattle.scn_read.specs.ScnBase.Codes.{first_code, first_of}
use Rattle.gic_host.specs.Reading.{link_fault, link_of}
use Rattle.gic_host.proofs.reading.links.Given as goal

-- the first fault so far and those of the links that are left give the first of all; without one, the links so far and those that are left are all
abbrev pub invariant-loop-value : goal.invariant-loop-value
invariant-loop-value l =
    record {
      faults : fold first_code l.fault (map (link_fault l.vcpus) (map view (drop l.value-index l.values))) ≡ first_of (map (link_fault l.vcpus) (map view l.values));
      read : l.fault ≡ None → l.links ++ map link_of (map view (drop l.value-index l.values)) ≡ map link_of (map view l.values);
    }
