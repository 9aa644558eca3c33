use Rattle.std.proofs.Common.{◌∙◌, sym, ap}
use Rattle.std.specs.Prelude.{◌||◌, is_some}
use Rattle.vcpu_refill.proofs.PlaceLemmas.{ranked_more, ranked_past}
use Rattle.vcpu_refill.proofs.ranking.Ranking.put.Goals as goal

pub returns-in-Some : goal.returns-in-Some
returns-in-Some c offers is = ranked_more c.args.offer offers c.args.self.now _ c.in-Some.place is (sym c.place_for.ensures ∙ c.in-Some.is) c.put_at-out.ensures.after
    (ap (λ out. c.args.self.now.more || out) (c.is_some.ensures ∙ ap is_some c.put_at-out.ensures.out))

pub returns-in-None : goal.returns-in-None
returns-in-None c offers is = ranked_past c.args.offer offers c.args.self.now is (sym c.place_for.ensures ∙ c.in-None.is)
