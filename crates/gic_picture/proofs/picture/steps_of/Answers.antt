use Rattle.std.proofs.Common.{All, length, ◌-◌, subst, sym}
use Rattle.std.proofs.lemmas.List.Elements.{All-take, All-drop}
use Rattle.ideal_guest.specs.Calls.{shapes_of}
use Rattle.scn_base.specs.declared.step.Mode.TheVariants.{Schedule}
use Rattle.gic_picture.proofs.PictureLemmas.{Acts, steps_act}
use Rattle.gic_picture.proofs.picture.steps_of.Goals as goal

pub returns-clause-acts : goal.returns-clause-acts
returns-clause-acts c =
    let scenario = c.args.scenario.now in
    let shapes = shapes_of scenario.guests in
    let all : All (Acts shapes) c.as_slice.result.now = subst (All (Acts shapes)) (sym c.as_slice.ensures) (steps_act Schedule scenario.pes shapes scenario.steps c.requires.good.each_step) in
    let after = All-drop (Acts shapes) c.args.skipped c.as_slice.result.now all in
    All-take (Acts shapes) c.args.shown _ (All-take (Acts shapes) (length c.as_slice.result.now - c.args.skipped) _ after)
