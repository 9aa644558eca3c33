use Rattle.std.proofs.Common.{◌∙◌, ap, length, arith}
use Rattle.std.specs.Prelude.{filter, is_some}
use Rattle.std.proofs.lemmas.List.Sums.{length-filter, count_by-le-length}
use Rattle.vcpu_refill.proofs.PlaceLemmas.{taken_places}
use Rattle.vcpu_refill.proofs.ranking.Ranking.count.Goals as goal

pub returns-clause-value : goal.returns-clause-value
returns-clause-value c offers is = c.taken.ensures ∙ ap (λ kept. length (filter is_some kept.places)) is ∙ taken_places offers

pub returns-clause-bound : goal.returns-clause-bound
returns-clause-bound c = omega (arith, c.taken.ensures, length-filter is_some c.args.self.now.places, count_by-le-length is_some c.args.self.now.places)
