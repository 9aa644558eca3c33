use Rattle.std.proofs.Common.{◌≡◌, ◌↔◌, IsTrue, [], Some, ap, ◌∙◌, subst}
use Rattle.history_commands.specs.Registers.{half_written, cbaser_bits}
use Rattle.history_commands.specs.Calls.{Cbaser, named_of}
use Rattle.history_commands.specs.Beginning.{IsStored, MayStore}
use Rattle.history_commands.proofs.BegunNamed.{none_may, some_may}
use Rattle.history_commands.proofs.begun.may_store.Goals as goal

pub returns-in-None : goal.returns-in-None
returns-in-None c = none_may (Some c.args.actor) c.args.piece.now c.from_named.result.now (MayStore c.args.half c.args.value) c.from_named.ensures c.in-None.ensures.cases tt

pub returns-in-Some : goal.returns-in-Some
returns-in-Some c =
    let new = c.cbaser_after-written.ensures ∙ ap cbaser_bits (c.written.ensures.value ∙ ap (λ held. half_written c.args.half held c.args.value) c.held_in.ensures) in
    some_may (Some c.args.actor) c.args.piece.now c.from_named.result.now c.in-Some.one.now c.in-Some.rest.now (MayStore c.args.half c.args.value) c.is_only.result c.from_named.ensures c.in-Some.ensures.cases.0
    (subst (λ value. IsTrue c.is_only.result ↔ (IsStored Cbaser value c.in-Some.one.now × (named_of (Some c.args.actor) c.in-Some.rest.now ≡ []))) new c.is_only.ensures)
