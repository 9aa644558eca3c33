use Rattle.std.proofs.Common.{◌≡◌, true, false, None, subst}
use Rattle.its_cmd.specs.declared.command.Command.{Command}
use Rattle.its_cmd.specs.declared.command.Command.TheVariants.{Mapd, Movi}
use Rattle.its_tab.specs.Fault.{fault_of}
use Rattle.its_tab.proofs.CarryLemmas.{kept_now}
use Rattle.its_tab.proofs.tables.ItsTables.carry_out.Goals as goal

pub returns-in-Mapd-default-default-default-false-clause-valid : goal.returns-in-Mapd-default-default-default-false-clause-valid
returns-in-Mapd-default-default-default-false-clause-valid c =
    let arm = c.in-Mapd-default-default-default-false in
    let command : Command = Mapd arm.device arm.size arm.itt_addr false in
    let is : c.args.command.now ≡ command = cc in
    kept_now c.args.shape.now c.args.self.now c.forget_device.new.self command (subst (λ k. fault_of c.args.shape.now c.args.self.now k ≡ None) is c.requires.good) c.forget_device.ensures

pub returns-in-Mapd-default-default-default-true-clause-valid : goal.returns-in-Mapd-default-default-default-true-clause-valid
returns-in-Mapd-default-default-default-true-clause-valid c =
    let arm = c.in-Mapd-default-default-default-true in
    let command : Command = Mapd arm.device arm.size arm.itt_addr true in
    let is : c.args.command.now ≡ command = cc in
    kept_now c.args.shape.now c.args.self.now c.replace_device.new.self command (subst (λ k. fault_of c.args.shape.now c.args.self.now k ≡ None) is c.requires.good) c.replace_device.ensures

pub returns-in-Movi-clause-valid : goal.returns-in-Movi-clause-valid
returns-in-Movi-clause-valid c =
    let arm = c.in-Movi in
    let command : Command = Movi arm.device arm.event arm.icid in
    let is : c.args.command.now ≡ command = cc in
    kept_now c.args.shape.now c.args.self.now c.move_event.new.self command (subst (λ k. fault_of c.args.shape.now c.args.self.now k ≡ None) is c.requires.good) c.move_event.ensures
