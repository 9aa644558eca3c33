use Rattle.std.proofs.Common.{◌≡◌, ◌↔◌, false, Some, [], drop, sym, ap, ◌∙◌, subst, arith}
use Rattle.std.proofs.lemmas.List.{drop_all}
use Rattle.history_commands.specs.Calls.{Happened, is_beside}
use Rattle.history_commands.specs.declared.walk.Walk.{Walk}
use Rattle.history_commands.specs.Mapped.{mapped_by, targets_by}
use Rattle.history_commands.specs.Stage.{Stage, Follow}
use Rattle.history_commands.specs.Followed.{stage_from, stage_of}
use Rattle.history_commands.proofs.WalkLemmas.{next_beside, next_named, next_unfit, none_left, open_stops, over_stops}
use Rattle.history_commands.proofs.follow.follows.Goals.{then-is_beside+in_ok-note, else-is_beside+in_ok-take+else-not-branch, then-is_open, else-is_open}
use Rattle.history_commands.proofs.follow.follows.Goals as goal

pub loop-made-init : goal.loop-made-init
loop-made-init c = record {
  left =
      subst (λ (stage : Stage). Follow c.args.shape.now (targets_by c.args.commands.now) c.args.actor c.args.is_open (stage_from (mapped_by c.args.shape.now c.args.done.now) c.args.start) c.args.piece.now
      ↔ Follow c.args.shape.now (targets_by c.args.commands.now) c.args.actor c.args.is_open stage c.args.piece.now) (sym c.in_ok-walk.ensures.stage) (λ f. f, λ f. f);
  few = omega (arith, c.in_ok-walk.ensures.first);
}

pub take-requires-clause-room : goal.take-requires-clause-room
take-requires-clause-room c = omega (arith, c.loop-made.invariant.few, c.loop-made-test.true)

pub returns-then-not-branch : goal.returns-then-not-branch
returns-then-not-branch c =
    let one : Happened = c.made-item.result in
    let named : is_beside (Some c.args.actor) one.event ≡ false = ap (λ (h : Happened). is_beside (Some c.args.actor) h.event) (sym c.made.view_is) ∙ sym c.is_beside.ensures ∙ c.if-is_beside.false in
    next_unfit c.args.shape.now (targets_by c.args.commands.now) c.args.actor c.args.is_open c.args.piece.now c.loop-made.made-index one c.loop-made-test.true (sym c.made-item.is) (stage_of c.loop-made.walk)
    (Follow c.args.shape.now (targets_by c.args.commands.now) c.args.actor c.args.is_open (stage_from (mapped_by c.args.shape.now c.args.done.now) c.args.start) c.args.piece.now) c.in_ok-take.field-0 named c.in_ok-take.ensures.fits
    c.if-not-branch.true c.loop-made.invariant.left

pub loop-made-preserved : goal.loop-made-preserved
loop-made-preserved c =
    let shape = c.args.shape.now in
    let targets = targets_by c.args.commands.now in
    let walk : Walk = c.loop-made.walk in
    let one : Happened = c.made-item.result in
    let told : is_beside (Some c.args.actor) one.event ≡ c.is_beside.result = ap (λ (h : Happened). is_beside (Some c.args.actor) h.event) (sym c.made.view_is) ∙ sym c.is_beside.ensures in
    let P : Type 0 = Follow shape targets c.args.actor c.args.is_open (stage_from (mapped_by shape c.args.done.now) c.args.start) c.args.piece.now in
    elim c.if-is_beside.branch [
      | then-is_beside+in_ok-note w ↦
          let few : c.if-is_beside.walk.number ≡ walk.number = ap (λ (w : Walk). w.number) w.walk-is ∙ w.in_ok-note.ensures.number in
          record {
            left =
                next_beside shape targets c.args.actor c.args.is_open c.args.piece.now c.loop-made.made-index one c.loop-made-test.true (sym c.made-item.is) (stage_of walk) (stage_of c.if-is_beside.walk) P (told ∙ w.if-is_beside.true)
                (ap stage_of w.walk-is ∙ w.in_ok-note.ensures.stage) c.loop-made.invariant.left;
            few = omega (arith, few, c.loop-made.invariant.few);
          }
      | else-is_beside+in_ok-take+else-not-branch w ↦
          let ok = w.if-not-branch.false in
          let same : c.if-is_beside.walk.number ≡ w.take.new.self.number = ap (λ (w : Walk). w.number) w.walk-is in
          record {
            left =
                next_named shape targets c.args.actor c.args.is_open c.args.piece.now c.loop-made.made-index one c.loop-made-test.true (sym c.made-item.is) (stage_of walk) (stage_of c.if-is_beside.walk) P (told ∙ w.if-is_beside.false)
                (w.in_ok-take.ensures.fits.0 ok) (ap stage_of w.walk-is ∙ w.in_ok-take.ensures.stage ok) c.loop-made.invariant.left;
            few = omega (arith, same, w.in_ok-take.ensures.number ok, c.loop-made.invariant.few);
          }
    ]

pub returns : goal.returns
returns c =
    let P : Type 0 = Follow c.args.shape.now (targets_by c.args.commands.now) c.args.actor c.args.is_open (stage_from (mapped_by c.args.shape.now c.args.done.now) c.args.start) c.args.piece.now in
    let none : drop c.loop-made.made-index c.args.piece.now ≡ [] = drop_all c.loop-made.made-index c.args.piece.now c.loop-made-test.false in
    none_left c.args.shape.now (targets_by c.args.commands.now) c.args.actor c.args.is_open (stage_of c.loop-made.walk) (drop c.loop-made.made-index c.args.piece.now) P c.if-is_open.result none
    (elim c.if-is_open.branch [
      | then-is_open w ↦ open_stops (stage_of c.loop-made.walk) c.args.is_open c.if-is_open.result w.if-is_open.true (w.result-is ∙ w.if-is_open.true)
      | else-is_open w ↦ over_stops c.loop-made.walk c.args.is_open w.is_over.result c.if-is_open.result w.if-is_open.false w.is_over.ensures w.result-is
    ])
    c.loop-made.invariant.left
