use Rattle.std.proofs.Common.{◌≡◌, ◌≤◌, ◌∙◌, ℕ, sym, subst, IfNone, None, Some}
use Rattle.its_tab.specs.Maps.{owner_of}
use Rattle.its_tab.proofs.KeptLemmas.{next_facts}
use Rattle.its_tab.proofs.tables.ItsTables.next_lpi.Goals as goal

pub returns-in_err-id-clause-none : goal.returns-in_err-id-clause-none
returns-in_err-id-clause-none c = subst (λ o. IfNone o ((other : ℕ) → c.args.from ≤ other → owner_of c.args.self.now other ≡ None)) (sym c.from_residual.ensures) (next_facts c.args.from None c.self.view_is c.self.invariant.indexed (sym c.in_err-id.was ∙ c.first_from.ensures)).none

pub returns-clause-found : goal.returns-clause-found
returns-clause-found c = (next_facts c.args.from (Some (c.in_ok-id.id, c.in_ok-id.field-0-1)) c.self.view_is c.self.invariant.indexed (sym c.in_ok-id.was ∙ c.first_from.ensures)).found

pub returns-clause-least : goal.returns-clause-least
returns-clause-least c = (next_facts c.args.from (Some (c.in_ok-id.id, c.in_ok-id.field-0-1)) c.self.view_is c.self.invariant.indexed (sym c.in_ok-id.was ∙ c.first_from.ensures)).least
