use Rattle.std.proofs.Common.{◌≡◌, ◌+◌, ◌<◌, ℕ, Bool, true, false, refl, sym, ap, subst, ◌∙◌, arith}
use Rattle.atomic_table.specs.Seated.{TableId}
use Rattle.vcpu_shelf.specs.declared.view.View.{View}
use Rattle.vcpu_shelf.specs.View.{slots_out}
use Rattle.vcpu_shelf.proofs.FindingLemmas.{IsSoFar, begins, next_finished, next_held, takes_had, takes_all, takes_busy, saw_all}
use Rattle.vcpu_shelf.proofs.ScanLemmas.{out_there}
use Rattle.vcpu_shelf.proofs.taking.take.Goals as goal
use Rattle.vcpu_shelf.proofs.taking.take.Goals.{in-Finished, in-Held}

pub loop-place-init : goal.loop-place-init
loop-place-init g c = record { home = refl; far = begins c.args.seat.now.seat.me.0 c.requires.none }

pub find_at-requires-clause-home : goal.find_at-requires-clause-home
find_at-requires-clause-home g c κs within = c.loop-place.invariant.home ∙ c.requires.of

pub find_at-requires-clause-out : goal.find_at-requires-clause-out
find_at-requires-clause-out g c κs within = ap (λ (v : View). v.out) c.loop-place.invariant.far.knows

pub find_at-requires-clause-none : goal.find_at-requires-clause-none
find_at-requires-clause-none g c κs within = c.loop-place.seat.held ∙ ap (λ (v : View). slots_out v.out) c.loop-place.invariant.far.knows

pub invariant_of-seat : goal.invariant_of-seat
invariant_of-seat g c =
    let t = g.T.Traveller in
    let finds = c.find_at.ensures.finds in
    let words : c.find_at.new.seat.table_id.words ≡ c.args.shelf.now.places = ap (λ (z : TableId). z.words) (c.find_at.ensures.home ∙ c.loop-place.invariant.home ∙ c.requires.of) ∙ c.args.shelf.now.words in
    record {
      held = finds.holds ∙ sym (ap (λ (v : View). slots_out v.out) finds.knows);
      there = out_there t.place t.next t.done c.loop-place.place c.find_at.new.seat.table_id.words c.loop-place.seat.seat.me c.find_at.result c.find_at.new.seat.me finds (subst (λ n. c.loop-place.place < n) (sym words) c.loop-place-test.true);
    }

pub returns-in-Had-clause-takes : goal.returns-in-Had-clause-takes
returns-in-Had-clause-takes g c =
    let t = g.T.Traveller in
    takes_had t.place t.next t.done c.args.shelf.now.places c.loop-place.place c.loop-place.all_done c.args.seat.now.seat.me.0 c.args.seat.now.seat.table_id c.find_at.new.seat.table_id c.loop-place.seat.seat.me c.find_at.new.seat.me c.in-Had.traveller
    c.loop-place-test.true (c.find_at.ensures.home ∙ c.loop-place.invariant.home) c.loop-place.invariant.far c.in-Had.ensures.finds

pub loop-place-preserved : goal.loop-place-preserved
loop-place-preserved g c =
    let t = g.T.Traveller in
    let at = c.loop-place in
    let last = c.find_at.new.seat.me in
    record {
      home = c.find_at.ensures.home ∙ at.invariant.home;
      far = elim c.match-find_at.branch [
        | in-Finished w ↦
            subst (λ (b : Bool). IsSoFar (at.place + 1) b c.args.seat.now.seat.me.0 last.0) (sym w.all_done-is)
            (next_finished t.place t.next t.done at.place at.all_done c.args.seat.now.seat.me.0 at.seat.seat.me last at.invariant.far w.in-Finished.ensures.finds)
        | in-Held w ↦
            subst (λ (b : Bool). IsSoFar (at.place + 1) b c.args.seat.now.seat.me.0 last.0) (sym w.all_done-is)
            (next_held t.place t.next t.done at.place at.all_done c.args.seat.now.seat.me.0 at.seat.seat.me last at.invariant.far w.in-Held.ensures.finds)
      ];
    }

pub returns-then-all_done-clause-takes : goal.returns-then-all_done-clause-takes
returns-then-all_done-clause-takes g c =
    let t = g.T.Traveller in
    let at = c.loop-place in
    let ends : at.place ≡ c.args.shelf.now.places = omega arith in
    takes_all t.place t.next t.done c.args.shelf.now.places c.args.seat.now.seat.me.0 at.seat.seat.me.0 c.args.seat.now.seat.table_id at.seat.seat.table_id
    (subst (λ (n : ℕ). IsSoFar n true c.args.seat.now.seat.me.0 at.seat.seat.me.0) ends (subst (λ (b : Bool). IsSoFar at.place b c.args.seat.now.seat.me.0 at.seat.seat.me.0) c.if-all_done.true at.invariant.far)) at.invariant.home

pub returns-then-all_done-clause-all_done : goal.returns-then-all_done-clause-all_done
returns-then-all_done-clause-all_done g c =
    let at = c.loop-place in
    let ends : at.place ≡ c.args.shelf.now.places = omega arith in
    record {
      each = saw_all c.args.shelf.now.places c.args.seat.now.seat.me.0 at.seat.seat.me.0
          (subst (λ (n : ℕ). IsSoFar n true c.args.seat.now.seat.me.0 at.seat.seat.me.0) ends (subst (λ (b : Bool). IsSoFar at.place b c.args.seat.now.seat.me.0 at.seat.seat.me.0) c.if-all_done.true at.invariant.far));
    }

pub returns-else-all_done-clause-takes : goal.returns-else-all_done-clause-takes
returns-else-all_done-clause-takes g c =
    let t = g.T.Traveller in
    let at = c.loop-place in
    let ends : at.place ≡ c.args.shelf.now.places = omega arith in
    takes_busy t.place t.next t.done c.args.shelf.now.places c.args.seat.now.seat.me.0 at.seat.seat.me.0 c.args.seat.now.seat.table_id at.seat.seat.table_id
    (subst (λ (n : ℕ). IsSoFar n false c.args.seat.now.seat.me.0 at.seat.seat.me.0) ends (subst (λ (b : Bool). IsSoFar at.place b c.args.seat.now.seat.me.0 at.seat.seat.me.0) c.if-all_done.false at.invariant.far)) at.invariant.home
