use Rattle.std.proofs.Common.{◌≡◌, ◌↔◌, ◌∙◌, List, length, ap, subst, rules}
use Rattle.std.specs.Bool.{IsTrue}
use Rattle.gic_guest.specs.declared.guest.GuestSpec.{GuestSpec}
use Rattle.scn_base.specs.declared.step.Step.{Step}
use Rattle.scn_base.specs.Standing.{opening_standing}
use Rattle.gic_guest.specs.Good.{shapes_of}
use Rattle.scn_base.proofs.GoodLemmas.{good_is, IsGoodHead, AreGoodSteps}
use Rattle.scn_base.proofs.scenario.Scenario.is_good.Goals as goal

pub returns : goal.returns
returns c =
    let many : length c.as_slice-guests.result.now ≡ length c.args.self.now.guests = ap length c.as_slice-guests.ensures in
    let head : IsGoodHead c.args.self.now =
    record {
      some_pe = search rules;
      pes = search rules;
      some_list_register = search rules;
      list_registers = search rules;
      some_guest = search rules;
      guests = search rules;
      each_guest = search rules;
      steps = search rules;
    }
    in
    let opening : c.in_ok-standing.standing ≡ opening_standing c.args.self.now.pes (shapes_of c.args.self.now.guests) =
    c.in_ok-standing.ensures.value ∙ ap (λ (guests : List GuestSpec). opening_standing c.args.self.now.pes (shapes_of guests)) c.as_slice-guests.ensures in
    good_is c.args.mode c.args.self.now c.in_ok-standing.standing c.are_good_steps.result head opening
    (subst (λ (steps : List Step). IsTrue c.are_good_steps.result ↔ AreGoodSteps c.args.mode (length c.in_ok-standing.standing.pes) c.in_ok-standing.standing steps) c.as_slice.ensures c.are_good_steps.ensures)
