-- All come back, and the vector has what the slice was given.
use Rattle.std.proofs.Common.{◌≡◌, ◌<◌, ℕ, List, length, get_or, sym, ap, subst, ◌∙◌}
use Rattle.std.proofs.lemmas.List.{with_items_is}
use Rattle.thr_cast.specs.ThrTrip.declared.device.DeviceRun.{DeviceRun}
use Rattle.thr_cast.specs.ThrTrip.Finish.{HasFinished}
use Rattle.thr_cast.specs.ThrTrip.Told.{device_told}
use Rattle.thr_cast.specs.ThrTrip.Worker.{HasWorked}
use Rattle.thr_cast.specs.VcpuShelf.Shelf.{shelf_told}
use Rattle.run_thr.specs.Returned.{HaveReturned}
use Rattle.run_thr.proofs.CrewLemmas.{Hand, returned}
use Rattle.run_thr.proofs.crew.run_crew.Goals as goal

pub returns : goal.returns
returns g c =
    let shelf = shelf_told c.args.shelf.now in
    let old = c.args.workers.now.items in
    let new = c.run_all.new.workers in
    let lent = c.as_mut_slice.ensures.value in
    let long : length new ≡ length old = c.run_all.ensures.each ∙ ap length lent in
    let Each : List (Hand g.row.J.Denot g.J.Naming) → Type 0 = λ before.
    (n : ℕ) (none : Hand g.row.J.Denot g.J.Naming) → n < length before → HasWorked (λ (before after : DeviceRun g.row.J.Denot g.J.Naming). HasFinished (device_told before) (device_told after)) shelf (get_or before n none) (get_or new n none) in
    subst (HaveReturned shelf old) (sym (with_items_is c.args.workers.now new (long ∙ sym c.args.workers.now.ok.0)))
    (returned shelf old new long (subst Each lent c.run_all.ensures.worked))
