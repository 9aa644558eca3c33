use Rattle.std.proofs.Common.{◌≡◌, None, sym, arith}
use Rattle.serde_json.specs.View.{view}
use Rattle.scn_hint.specs.Hint.{preset_trouble}
use Rattle.scn_hint.proofs.FitLemmas.{so_far, all_done}
use Rattle.scn_hint.proofs.place.first_preset.Goals as goal

pub loop-preset-preserved : goal.loop-preset-preserved
loop-preset-preserved c = so_far (λ d. preset_trouble c.args.asks (view c.args.guest.now) d ≡ None) view c.args.values.now c.loop-preset.preset c.index-values-preset.result (omega arith) c.index-values-preset.is c.loop-preset.invariant (sym c.in_default.ensures)

pub returns-clause-none : goal.returns-clause-none
returns-clause-none c = all_done (λ d. preset_trouble c.args.asks (view c.args.guest.now) d ≡ None) view c.args.values.now c.loop-preset.preset (omega arith) c.loop-preset.invariant
