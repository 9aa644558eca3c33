-- One more PE is there.
use Rattle.std.proofs.Common.{◌≡◌, ◌+◌, [], ◌++◌, ◌∷◌, true, nat_lt, add-one, sym, ap, subst, ◌∙◌, arith}
use Rattle.std.proofs.lemmas.Bool.{lt-ltb}
use Rattle.thr_trip.specs.Seat.{IsFreeSeat}
use Rattle.thr_trip.specs.VcpuShelf.Shelf.{shelf_told, seat_told}
use Rattle.std.specs.List.{range_with_len}
use Rattle.guest_end.proofs.GicCall.RangeLemmas.{range_with_len_more}
use Rattle.thr_cast.specs.Crew.{HaveWorkers, pe_numbers}
use Rattle.thr_cast.proofs.WorkerLemmas.{pe_came, numbers_more}
use Rattle.thr_cast.proofs.crew.add_pes.Goals as goal

pub loop-pe-preserved : goal.loop-pe-preserved
loop-pe-preserved g c =
    let shelf = shelf_told c.args.shelf.now in
    let own = c.split-own.ensures.new in
    let told = c.new.ensures.seat in
    let free : IsFreeSeat shelf (seat_told c.new.result.seat) = record { of = ap (λ seat. seat.home) (told ∙ own); none = ap (λ seat. seat.out) (told ∙ own) } in
    let some : nat_lt 0 (c.loop-pe.pe + 1) ≡ true = lt-ltb 0 (c.loop-pe.pe + 1) (omega arith) in
    let more = pe_came shelf c.loop-pe.workers.items [] (nat_lt 0 c.loop-pe.pe) c.new.result c.loop-pe.invariant.workers free in
    record {
      seat = c.split-own.ensures.same ∙ c.loop-pe.invariant.seat;
      workers = subst (λ pes. HaveWorkers shelf c.push.new.self.items [] pes) (sym some) (subst (λ items. HaveWorkers shelf items [] true) (sym c.in_ok-push.ensures.items) more);
      numbers =
          ap (λ items. pe_numbers items) c.in_ok-push.ensures.items ∙ numbers_more c.loop-pe.workers.items c.new.result
          ∙ ap (λ numbers. numbers ++ c.new.result.pe ∷ []) c.loop-pe.invariant.numbers
          ∙ ap (λ pe. range_with_len 0 c.loop-pe.pe ++ pe ∷ []) c.new.ensures.pe
          ∙ sym (rw add-one (range_with_len_more 0 c.loop-pe.pe c.loop-pe.pe (omega arith)));
    }
