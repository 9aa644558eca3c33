use Rattle.std.proofs.Common.{◌≡◌, true, sym, ◌∙◌, arith, rules}
use Rattle.saved_check.proofs.GrowLemmas.{grown_evts, none_refused}
use Rattle.saved_check.proofs.tables.map_evts.Goals as goal

pub returns-then-not-can_map-clause-tells : goal.returns-then-not-can_map-clause-tells
returns-then-not-can_map-clause-tells c = (
  λ e. absurd (cc),
  λ valid.
      let can : c.can_map.result ≡ true =
      none_refused c.args.shape.now c.args.tables.now c.loop-evt.tables c.args.evts.now c.loop-evt.evt-index _ c.can_map.result c.can_map.ensures c.requires.order (omega arith) c.loop-evt.invariant.so_far c.loop-evt.invariant.valid valid in
      absurd (cc),
)

pub loop-evt-preserved : goal.loop-evt-preserved
loop-evt-preserved c =
    let can : c.can_map.result ≡ true = search rules in
    let grown = grown_evts c.args.shape.now c.args.tables.now c.loop-evt.tables _ c.args.evts.now c.loop-evt.evt-index _ c.requires.order (omega arith) c.loop-evt.invariant.so_far c.loop-evt.invariant.valid (sym c.can_map.ensures ∙ can) c.map_event.ensures in
    record { so_far = grown.so_far; valid = grown.valid }
