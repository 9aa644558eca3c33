-- One more vCPU came back.
use Rattle.std.proofs.Common.{◌≡◌, All, List, [], ◌∷◌, ◌++◌, length, map, Option, sym, ap, subst, ◌∙◌, arith}
use Rattle.std.specs.Vec.Iter.{into_iter_items}
use Rattle.thr_trip.specs.Core.{Seen}
use Rattle.thr_trip.specs.PortTable.All.{told_root}
use Rattle.thr_trip.specs.PortTable.Told.{AreRoots, WordsTold, joining_in}
use Rattle.thr_trip.specs.declared.trip.Trip.{Trip}
use Rattle.thr_trip.specs.Told.{trip_told}
use Rattle.thr_trip.specs.Trip.{IsTrip, TripTold}
use Rattle.thr_trip.specs.VcpuState.declared.shelved.Shelved.{Shelved}
use Rattle.thr_cast.specs.declared.answers.Heard.{Heard}
use Rattle.thr_cast.specs.Back.{heard_of, trips_in}
use Rattle.thr_cast.specs.Crew.{joined_all}
use Rattle.thr_cast.proofs.BackLemmas.{each_with, root_with, trips_with}
use Rattle.guest_end.proofs.EndsLemmas.{nothing_left}
use Rattle.thr_cast.proofs.WorkerLemmas.{all_more, yielded_all, yielded_more}
use Rattle.thr_cast.proofs.back.take_apart.Goals as goal

pub join-requires-clause-roots : goal.join-requires-clause-roots
join-requires-clause-roots g c = subst (λ (ws : List WordsTold). AreRoots ws (told_root c.loop-slot.root)) (sym c.requires.words) c.loop-slot.invariant.roots

pub loop-slot-preserved : goal.loop-slot-preserved
loop-slot-preserved g c =
    let at = c.loop-slot in
    let all = c.args.slots.items in
    let slot = c.in-Some.slot in
    let trip = c.in-Some-slot.trip in
    let told : TripTold = trip_told trip in
    let parts = c.into_parts-answers.ensures.parts in
    let was = at.invariant.left in
    let gone = c.in-Some.ensures.steps.1 in
    let short = ap length c.in-Some.ensures.steps.0 in
    let trips = trips_in at.yielded in
    let more = trips_in (at.yielded ++ slot ∷ []) in
    let longer : more ≡ trips ++ told ∷ [] = trips_with at.yielded slot trip c.in-Some-slot.is in
    let own : Heard = record { name = record { guest = c.into_parts-answers.result.0.guest; vcpu = c.into_parts-answers.result.0.vcpu }; answers = c.from-answers.result } in
    let heard_is : own ≡ heard_of told =
    ap (λ (answers : List (Option _)). (let one : Heard = record { name = record { guest = c.into_parts-answers.result.0.guest; vcpu = c.into_parts-answers.result.0.vcpu }; answers = answers } in one)) (c.from-answers.ensures ∙ parts.1)
    ∙ ap (λ (vcpu : Shelved). (let one : Heard = record { name = record { guest = vcpu.guest; vcpu = vcpu.vcpu }; answers = told.answers } in one)) parts.0 in
    record {
      next = tt;
      finite = tt;
      rest = yielded_more all at.yielded _ _ slot at.invariant.rest c.in-Some.ensures.steps.0;
      left = omega (arith, was, gone, short);
      root =
          root_with trips more told (told_root c.args.root.now) (told_root at.root) (told_root c.join.new.root) longer at.invariant.root
          (c.join.ensures.root ∙ ap (λ (seen : Seen). joining_in seen (told_root at.root)) parts.2);
      roots = subst (λ (ws : List WordsTold). AreRoots ws (told_root c.join.new.root)) c.requires.words c.join.ensures.roots;
      trips = subst (All (IsTrip g.J.Naming.words g.J.Naming.lrs g.J.Naming.steps)) (sym longer) (all_more (IsTrip g.J.Naming.words g.J.Naming.lrs g.J.Naming.steps) trips told at.invariant.trips c.into_parts-answers.ensures.is);
      heard = each_with heard_of trips more told at.heard c.push.new.self longer at.invariant.heard (c.in_ok-push.ensures.ok ∙ ap (λ (one : Heard). at.heard ++ one ∷ []) heard_is);
      cpus =
          each_with (λ (trip : TripTold). trip.vcpu.cpu) trips more told at.cpus c.push-in-loop-slot.new.self longer at.invariant.cpus
          (c.in_ok-push-2.ensures.ok ∙ ap (λ (vcpu : Shelved). at.cpus ++ vcpu.cpu ∷ []) parts.0);
    }

pub returns : goal.returns
returns g c =
    let at = c.loop-slot in
    let Slot : Type 0 = Option (Trip g.row.J.Denot g.J.Naming) in
    let empty : into_iter_items at.slot-iterator ≡ [] = nothing_left _ (sym at.invariant.left ∙ c.in-None.ensures.steps.0) in
    let all : at.yielded ≡ c.args.slots.items = yielded_all c.args.slots.items at.yielded _ at.invariant.rest empty in
    let trips : trips_in at.yielded ≡ trips_in c.args.slots.items = ap (λ (slots : List Slot). trips_in slots) all in
    record {
      root = at.invariant.root ∙ ap (λ (trips : List TripTold). joined_all (map (λ (trip : TripTold). trip.seen) trips) (told_root c.args.root.now)) trips;
      roots = at.invariant.roots;
      trips = subst (All (IsTrip g.J.Naming.words g.J.Naming.lrs g.J.Naming.steps)) trips at.invariant.trips;
      back =
          record {
            heard = at.invariant.heard ∙ ap (map heard_of) trips;
            cpus = at.invariant.cpus ∙ ap (map (λ (trip : TripTold). trip.vcpu.cpu)) trips;
          };
    }
