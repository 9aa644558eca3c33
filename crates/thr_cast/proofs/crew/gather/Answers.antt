-- One more worker was joined again.
use Rattle.std.proofs.Common.{◌≡◌, inr, All, List, [], ◌∷◌, ◌++◌, map, sym, ap, subst, ◌∙◌}
use Rattle.std.proofs.lemmas.List.{map-append}
use Rattle.thr_trip.specs.Core.{Seen}
use Rattle.thr_trip.specs.PortTable.All.{told_root}
use Rattle.thr_trip.specs.PortTable.Told.{AreRoots, WordsTold, joining_in}
use Rattle.thr_trip.specs.declared.device.DeviceRun.{DeviceRun}
use Rattle.thr_trip.specs.declared.trip.Trip.{Trip}
use Rattle.thr_trip.specs.declared.worker.Worker.{Worker}
use Rattle.thr_trip.specs.declared.worker.Worker.TheVariants.{Pe}
use Rattle.thr_trip.specs.Device.{DeviceTold, IsDevice}
use Rattle.thr_trip.specs.Told.{device_told}
use Rattle.thr_trip.specs.VcpuShelf.Shelf.{shelf_told}
use Rattle.thr_trip.specs.VcpuShelf.Told.{SawAllDone, SeatTold}
use Rattle.thr_cast.specs.Crew.{IsOver, devices_in, has_pe, joined_all}
use Rattle.thr_cast.proofs.WorkerLemmas.{all_more, devices_with, devices_with_pe, joined_more, one_of, pe_with_device, yielded_more}
use Rattle.thr_cast.proofs.crew.gather.Goals as goal

pub loop-worker-preserved-in-Pe : goal.loop-worker-preserved-in-Pe
loop-worker-preserved-in-Pe g c =
    let at = c.loop-worker in
    let all = c.args.workers.items in
    let worker = c.in-Some.worker in
    let shelf = shelf_told c.args.shelf.now in
    let Hand : Type 0 = Worker (Trip g.row.J.Denot g.J.Naming) (DeviceRun g.row.J.Denot g.J.Naming) in
    let Over : Hand → Type 0 = λ (worker : Hand). IsOver shelf worker in
    let over : Over (Pe c.in-Pe.pe) = subst Over c.in-Pe.is (one_of Over all at.yielded _ _ worker at.invariant.rest c.in-Some.ensures.steps.0 c.requires.over) in
    let same : devices_in (at.yielded ++ worker ∷ []) ≡ devices_in at.yielded = ap (λ (one : Hand). devices_in (at.yielded ++ one ∷ [])) c.in-Pe.is ∙ devices_with_pe at.yielded c.in-Pe.pe in
    let saw = subst (SawAllDone shelf) (sym c.into_seat.ensures) over.saw in
    record {
      next = tt;
      finite = tt;
      rest = yielded_more all at.yielded _ _ worker at.invariant.rest c.in-Some.ensures.steps.0;
      root = at.invariant.root ∙ ap (λ (devices : List DeviceTold). joined_all (map (λ (device : DeviceTold). device.seen) devices) (told_root c.args.root.now)) (sym same);
      roots = at.invariant.roots;
      devices = subst (All (IsDevice g.J.Naming.words g.J.Naming.steps)) (sym same) at.invariant.devices;
      free = record { of = ap (λ (seat : SeatTold). seat.home) c.join.ensures.joined ∙ at.invariant.free.of; none = ap (λ (seat : SeatTold). seat.out) c.join.ensures.joined ∙ at.invariant.free.none };
      saw = λ some. c.join.ensures.all_done (inr saw);
    }

pub loop-worker-preserved : goal.loop-worker-preserved
loop-worker-preserved g c =
    let at = c.loop-worker in
    let all = c.args.workers.items in
    let worker = c.in-Some.worker in
    let device = c.in-Device.device in
    let words = g.J.Naming.words in
    let old = told_root at.root in
    let new = told_root c.join-in-Device.new.root in
    let Hand : Type 0 = Worker (Trip g.row.J.Denot g.J.Naming) (DeviceRun g.row.J.Denot g.J.Naming) in
    let seens : List DeviceTold → List Seen = λ devices. map (λ (device : DeviceTold). device.seen) devices in
    let longer : devices_in (at.yielded ++ worker ∷ []) ≡ devices_in at.yielded ++ device_told device ∷ [] = ap (λ (one : Hand). devices_in (at.yielded ++ one ∷ [])) c.in-Device.is ∙ devices_with at.yielded device in
    let all_seen : seens (devices_in (at.yielded ++ worker ∷ [])) ≡ seens (devices_in at.yielded) ++ (device_told device).seen ∷ []
    = ap seens longer ∙ map-append (λ (device : DeviceTold). device.seen) (devices_in at.yielded) (device_told device ∷ []) in
    let joins : new ≡ joining_in (device_told device).seen old = c.join-in-Device.ensures.root ∙ ap (λ (seen : Seen). joining_in seen old) c.into_port.ensures.port in
    record {
      next = tt;
      finite = tt;
      rest = yielded_more all at.yielded _ _ worker at.invariant.rest c.in-Some.ensures.steps.0;
      root =
          joins ∙ ap (joining_in (device_told device).seen) at.invariant.root ∙ sym (joined_more (seens (devices_in at.yielded)) (device_told device).seen (told_root c.args.root.now))
          ∙ ap (λ (all : List Seen). joined_all all (told_root c.args.root.now)) (sym all_seen);
      roots = subst (λ (ws : List WordsTold). AreRoots ws new) c.requires.words c.join-in-Device.ensures.roots;
      devices = subst (All (IsDevice words g.J.Naming.steps)) (sym longer) (all_more (IsDevice words g.J.Naming.steps) (devices_in at.yielded) (device_told device) at.invariant.devices c.into_port.ensures.is);
      free = at.invariant.free;
      saw = λ some. at.invariant.saw (sym (pe_with_device at.yielded device) ∙ ap (λ (one : Hand). has_pe (at.yielded ++ one ∷ [])) (sym c.in-Device.is) ∙ some);
    }
