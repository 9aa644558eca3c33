use Rattle.std.proofs.Common.{ℕ, ◌↔◌, IsTrue, [], ◌∷◌, refl, ap, ◌∙◌, subst}
use Rattle.history_commands.specs.Calls.{View, Place, IsLastRead, held_at, memory_places, Propbaser}
use Rattle.history_commands.specs.GicCall.declared.event.Place.TheVariants.{Word}
use Rattle.history_commands.specs.HistoryCalls.Found.{found_by}
use Rattle.history_commands.specs.Registers.{config_address}
use Rattle.history_commands.specs.Stage.{AreReadBy}
use Rattle.history_calls.proofs.CallLemmas.{read_decided}
use Rattle.history_commands.proofs.FetchLemmas.{both_hold, first_fails}
use Rattle.history_commands.proofs.touch.is_config_read.Goals as goal

pub returns-then-was_read : goal.returns-then-was_read
returns-then-was_read c = λ targets.
    let view : View = found_by c.args.reads.now in
    let place : Place = Word (Propbaser c.args.vcpu) in
    both_hold (λ (place : Place). IsLastRead place (held_at view place) c.args.reads.now) (place ∷ []) (memory_places c.args.shape.now (config_address (view.words (Propbaser c.args.vcpu)) c.args.id) 1) c.was_read.result c.is_memory_read.result
    (read_decided view c.args.reads.now (place ∷ []) place c.was_read.result refl c.was_read.ensures)
    (subst (λ (a : ℕ). IsTrue c.is_memory_read.result ↔ AreReadBy view c.args.reads.now (memory_places c.args.shape.now a 1)) (c.config_address.ensures ∙ ap (λ p. config_address p c.args.id) c.word_at.ensures) c.is_memory_read.ensures.found)
    c.if-was_read.true

pub returns-else-was_read : goal.returns-else-was_read
returns-else-was_read c = λ targets.
    let view : View = found_by c.args.reads.now in
    let place : Place = Word (Propbaser c.args.vcpu) in
    first_fails (λ (place : Place). IsLastRead place (held_at view place) c.args.reads.now) (place ∷ []) (memory_places c.args.shape.now (config_address (view.words (Propbaser c.args.vcpu)) c.args.id) 1) c.was_read.result c.was_read.result
    (read_decided view c.args.reads.now (place ∷ []) place c.was_read.result refl c.was_read.ensures) c.if-was_read.false c.if-was_read.false
