use Rattle.std.proofs.Common.{◌≡◌, ◌∙◌, sym, ap, subst}
use Rattle.its_tab.specs.Maps.{Maps, first_event}
use Rattle.its_tab.proofs.SearchLemmas.{FirstFacts, first_event_none, first_event_some, first_facts_of}
use Rattle.its_tab.proofs.tables.ItsTables.first_event.Goals as goal

pub returns-in_err-event : goal.returns-in_err-event
returns-in_err-event c =
    let device = c.args.device in
    let first = c.from_residual.result in
    let maps : Maps = record { devices = c.self.inside.devices.items; events = c.self.inside.events.items; collections = c.self.inside.collections.items } in
    let value : first ≡ first_event maps device = c.from_residual.ensures ∙ sym (first_event_none maps device (sym c.first_from.ensures ∙ c.in_err-event.was)) in
    let facts : FirstFacts c.args.self.now device first = subst (λ m. FirstFacts m device first) c.self.view_is (first_facts_of maps device first c.self.invariant.indexed.sound value) in
    record { value = value ∙ ap (λ m. first_event m device) c.self.view_is; found = facts.found; least = facts.least; none = facts.none }

pub returns : goal.returns
returns c =
    let device = c.args.device in
    let first = c.then_some.result in
    let maps : Maps = record { devices = c.self.inside.devices.items; events = c.self.inside.events.items; collections = c.self.inside.collections.items } in
    let value : first ≡ first_event maps device = c.then_some.ensures ∙ sym (first_event_some maps device (c.in_ok-event.event, c.in_ok-event.field-0-1) c.self.invariant.indexed.sound (sym c.first_from.ensures ∙ c.in_ok-event.was)) in
    let facts : FirstFacts c.args.self.now device first = subst (λ m. FirstFacts m device first) c.self.view_is (first_facts_of maps device first c.self.invariant.indexed.sound value) in
    record { value = value ∙ ap (λ m. first_event m device) c.self.view_is; found = facts.found; least = facts.least; none = facts.none }
