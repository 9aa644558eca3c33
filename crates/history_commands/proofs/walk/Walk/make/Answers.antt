use Rattle.std.proofs.Common.{◌≡◌, ◌↔◌, IsTrue, ◌+◌, ◌≤◌, ◌∷◌, [], Bool, drop, get_or, ap, arith}
use Rattle.std.proofs.lemmas.List.{drop_all}
use Rattle.std.proofs.lemmas.Result.{IfOk-weaker}
use Rattle.history_commands.specs.Calls.{Part}
use Rattle.history_commands.specs.GicCall.declared.command.Part.TheVariants.{Forget}
use Rattle.history_commands.specs.declared.walk.Walk.{Walk}
use Rattle.history_commands.specs.Mapped.{targets_by}
use Rattle.history_commands.specs.Stage.{IsPartMade, FitsNamed, named_after}
use Rattle.history_commands.specs.Followed.{stage_of}
use Rattle.history_commands.proofs.WalkLemmas.{part_fits, end_fits, after_part, part_stage, next_left, one_more}
use Rattle.history_commands.proofs.walk.Walk.make.Goals as goal

pub returns-then-self-len-clause-fits : goal.returns-then-self-len-clause-fits
returns-then-self-len-clause-fits c =
    let walk : Walk = c.args.self.now in
    let targets = targets_by c.args.commands.now in
    let part : Part = get_or c.as_slice.result.now walk.made (Forget 0) in
    let left : drop walk.made walk.parts ≡ part ∷ drop (walk.made + 1) walk.parts = next_left walk c.as_slice.result.now c.len.result c.as_slice.ensures c.len.ensures c.if-self-len.true in
    IfOk-weaker c.make_part.result (λ (ok : Bool). IsTrue ok ↔ IsPartMade c.args.shape.now (targets walk.number) part walk.reads c.args.made.now)
    (λ (ok : Bool). IsTrue ok ↔ FitsNamed c.args.shape.now targets (stage_of walk) c.args.made.now)
    (λ ok so. part_fits c.args.shape.now targets walk c.requires.within c.args.made.now part (drop (walk.made + 1) walk.parts) ok left so) c.make_part.ensures.made

pub returns-then-self-len-clause-stage : goal.returns-then-self-len-clause-stage
returns-then-self-len-clause-stage c =
    let walk : Walk = c.args.self.now in
    let targets = targets_by c.args.commands.now in
    let part : Part = get_or c.as_slice.result.now walk.made (Forget 0) in
    let left : drop walk.made walk.parts ≡ part ∷ drop (walk.made + 1) walk.parts = next_left walk c.as_slice.result.now c.len.result c.as_slice.ensures c.len.ensures c.if-self-len.true in
    IfOk-weaker c.make_part.result (λ (ok : Bool). IsTrue ok → c.make_part.new.self ≡ after_part c.args.shape.now targets walk c.requires.within c.args.made.now)
    (λ (ok : Bool). IsTrue ok → stage_of c.make_part.new.self ≡ named_after c.args.shape.now targets (stage_of walk) c.args.made.now)
    (λ ok so h. part_stage c.args.shape.now targets walk c.requires.within c.args.made.now part c.make_part.new.self left (so h)) (c.make_part.ensures.after (targets walk.number))

pub returns-then-self-len-clause-number : goal.returns-then-self-len-clause-number
returns-then-self-len-clause-number c =
    let walk : Walk = c.args.self.now in
    let targets = targets_by c.args.commands.now in
    IfOk-weaker c.make_part.result (λ (ok : Bool). IsTrue ok → c.make_part.new.self ≡ after_part c.args.shape.now targets walk c.requires.within c.args.made.now)
    (λ (ok : Bool). IsTrue ok → c.make_part.new.self.number ≤ walk.number + 1) (λ ok so h. one_more walk.number c.make_part.new.self.number (ap (λ (w : Walk). w.number) (so h))) (c.make_part.ensures.after (targets walk.number))

pub returns-else-self-len-clause-fits : goal.returns-else-self-len-clause-fits
returns-else-self-len-clause-fits c =
    let walk : Walk = c.args.self.now in
    let none : drop walk.made walk.parts ≡ [] = drop_all walk.made walk.parts (omega (arith, c.if-self-len.false, c.len.ensures)) in
    end_fits c.args.shape.now (targets_by c.args.commands.now) walk c.requires.within c.args.made.now c.end_command.result none (c.end_command.ensures.made (targets_by c.args.commands.now walk.number))
