-- The first PEs are there.
use Rattle.std.proofs.Common.{◌≡◌, [], nat_lt}
use Rattle.thr_trip.specs.VcpuShelf.Shelf.{shelf_told, seat_told}
use Rattle.std.specs.List.{range_with_len}
use Rattle.thr_cast.specs.Crew.{HaveWorkers, pe_numbers}
use Rattle.thr_cast.proofs.crew.add_pes.Given as goal

abbrev pub invariant-loop-pe : goal.invariant-loop-pe
invariant-loop-pe g l =
    record {
      seat : seat_told l.seat ≡ seat_told l.initial.seat;
      workers : HaveWorkers (shelf_told l.shelf) l.workers.items [] (nat_lt 0 l.pe);
      numbers : pe_numbers l.workers.items ≡ range_with_len 0 l.pe;
    }
