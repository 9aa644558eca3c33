use Rattle.std.proofs.Common.{◌↔◌, IsTrue, subst, List, ◌++◌, ℕ}
use Rattle.history_commands.specs.Calls.{View, Place, IsLastRead, held_at, memory_places, word_address}
use Rattle.history_commands.specs.Known.{view_by}
use Rattle.history_commands.specs.Stage.{AreReadBy}
use Rattle.history_commands.proofs.FetchLemmas.{both_hold, first_fails, four}
use Rattle.history_commands.proofs.fetch.is_fetched.Goals as goal

pub returns-then-are_two_read : goal.returns-then-are_two_read
returns-then-are_two_read c = λ maps targets.
    let view : View = view_by c.args.its maps targets c.args.reads.now in
    let at : ℕ → List Place = λ number. memory_places c.args.shape.now (word_address view number) 8 in
    subst (λ (places : List Place). IsTrue c.are_two_read-then-are_two_read.result ↔ AreReadBy view c.args.reads.now places) (four (at 0) (at 1) (at 2) (at 3))
    (both_hold (λ (place : Place). IsLastRead place (held_at view place) c.args.reads.now) (at 0 ++ at 1) (at 2 ++ at 3) c.are_two_read.result c.are_two_read-then-are_two_read.result (c.are_two_read.ensures maps targets)
    (c.are_two_read-then-are_two_read.ensures maps targets) c.if-are_two_read.true)

pub returns-else-are_two_read : goal.returns-else-are_two_read
returns-else-are_two_read c = λ maps targets.
    let view : View = view_by c.args.its maps targets c.args.reads.now in
    let at : ℕ → List Place = λ number. memory_places c.args.shape.now (word_address view number) 8 in
    subst (λ (places : List Place). IsTrue c.are_two_read.result ↔ AreReadBy view c.args.reads.now places) (four (at 0) (at 1) (at 2) (at 3))
    (first_fails (λ (place : Place). IsLastRead place (held_at view place) c.args.reads.now) (at 0 ++ at 1) (at 2 ++ at 3) c.are_two_read.result c.are_two_read.result (c.are_two_read.ensures maps targets) c.if-are_two_read.false c.if-are_two_read.false)
