use Rattle.std.proofs.Common.{◌≡◌, ◌∙◌, ◌≤◌, ap, sym, subst, map, length, List, arith}
use Rattle.std.specs.List.{All}
use Rattle.std.proofs.lemmas.List.{length-map}
use Rattle.std.proofs.lemmas.Result.{err_from_is_err_and}
use Rattle.serde_json.specs.View.{view}
use Rattle.scn_base.specs.GicGuest.declared.guest.GuestSpec.{GuestSpec}
use Rattle.scn_base.specs.Standing.{opening_standing}
use Rattle.scn_base.specs.GicGuest.Good.{IsGoodGuest, shapes_of}
use Rattle.scn_read.proofs.ReadLemmas.{outside_of, scenario_is, scenario_good, refuses}
use Rattle.scn_read.proofs.reading.read.Goals as goal

pub opening-requires-2-clause-guests : goal.opening-requires-2-clause-guests
opening-requires-2-clause-guests c =
    let outside = outside_of (view c.args.value.now) (map view c.elements_at.result.now) c.opening.result c.in_ok-guests.guests c.in-Ok.parts c.opening.ensures c.elements_at.ensures c.in_ok-guests.ensures c.in-Ok.ensures in
    subst (All IsGoodGuest) (sym c.as_slice.ensures) outside.good

pub steps-requires-clause-few : goal.steps-requires-clause-few
steps-requires-clause-few c =
    let outside = outside_of (view c.args.value.now) (map view c.elements_at.result.now) c.opening.result c.in_ok-guests.guests c.in-Ok.parts c.opening.ensures c.elements_at.ensures c.in_ok-guests.ensures c.in-Ok.ensures in
    let few : length (map view c.in-Ok.parts.0.steps.now) ≤ 100000 = outside.opening.few in
    let short : length c.in-Ok.parts.0.steps.now ≤ 100000 = simp length-map at few in
    omega (arith, short)

pub returns-in_err-steps-clause-bad : goal.returns-in_err-steps-clause-bad
returns-in_err-steps-clause-bad c =
    let outside = outside_of (view c.args.value.now) (map view c.elements_at.result.now) c.opening.result c.in_ok-guests.guests c.in-Ok.parts c.opening.ensures c.elements_at.ensures c.in_ok-guests.ensures c.in-Ok.ensures in
    let opens : c.in_ok-standing.standing ≡ opening_standing c.in-Ok.parts.0.pes (shapes_of c.in-Ok.parts.1) = c.in_ok-standing.ensures.value ∙ ap (λ (guests : List GuestSpec). opening_standing c.in-Ok.parts.0.pes (shapes_of guests)) c.as_slice.ensures in
    let failed = err_from_is_err_and c.from_residual-in_err-steps.result c.from_residual-in_err-steps.ensures.1 in
    rw (failed.1, failed.2)
    (refuses c.args.mode (view c.args.value.now) c.in-Ok.parts.0.pes c.in-Ok.parts.0.lrs (map view c.in-Ok.parts.0.steps.now) c.in-Ok.parts.1 c.in_ok-standing.standing outside opens c.in_err-steps.field-0.0 c.in_err-steps.ensures.bad)

pub returns-clause-ok : goal.returns-clause-ok
returns-clause-ok c =
    let outside = outside_of (view c.args.value.now) (map view c.elements_at.result.now) c.opening.result c.in_ok-guests.guests c.in-Ok.parts c.opening.ensures c.elements_at.ensures c.in_ok-guests.ensures c.in-Ok.ensures in
    let opens : c.in_ok-standing.standing ≡ opening_standing c.in-Ok.parts.0.pes (shapes_of c.in-Ok.parts.1) = c.in_ok-standing.ensures.value ∙ ap (λ (guests : List GuestSpec). opening_standing c.in-Ok.parts.0.pes (shapes_of guests)) c.as_slice.ensures in
    scenario_is c.args.mode (view c.args.value.now) c.in-Ok.parts.0.pes c.in-Ok.parts.0.lrs (map view c.in-Ok.parts.0.steps.now) c.in-Ok.parts.1 c.in_ok-standing.standing outside opens c.in_ok-steps.steps c.in_ok-steps.ensures.ok

pub returns-clause-good : goal.returns-clause-good
returns-clause-good c =
    let outside = outside_of (view c.args.value.now) (map view c.elements_at.result.now) c.opening.result c.in_ok-guests.guests c.in-Ok.parts c.opening.ensures c.elements_at.ensures c.in_ok-guests.ensures c.in-Ok.ensures in
    let opens : c.in_ok-standing.standing ≡ opening_standing c.in-Ok.parts.0.pes (shapes_of c.in-Ok.parts.1) = c.in_ok-standing.ensures.value ∙ ap (λ (guests : List GuestSpec). opening_standing c.in-Ok.parts.0.pes (shapes_of guests)) c.as_slice.ensures in
    scenario_good c.args.mode (view c.args.value.now) c.in-Ok.parts.0.pes c.in-Ok.parts.0.lrs (map view c.in-Ok.parts.0.steps.now) c.in-Ok.parts.1 c.in_ok-standing.standing outside opens c.in_ok-steps.steps c.in_ok-steps.ensures.ok
