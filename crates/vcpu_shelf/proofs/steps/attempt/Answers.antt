use Rattle.std.proofs.Common.{◌≡◌, ◌==◌, ◌<◌, ℕ, subst, sym, ap, ◌∙◌}
use prog.Atomic.{either}
use Rattle.atomic_table.specs.Table.{Allows}
use Rattle.vcpu_shelf.specs.declared.word.TheConstants.{TAKEN}
use Rattle.vcpu_shelf.specs.Rule.{IsShelf, IsTried}
use Rattle.vcpu_shelf.specs.Word.{owner_word, taken_word}
use Rattle.vcpu_shelf.proofs.RuleLemmas.{may_try}
use Rattle.vcpu_shelf.proofs.steps.attempt.Goals as goal

pub compare_exchange-requires : goal.compare_exchange-requires
compare_exchange-requires g c =
    let owners = c.args.owners.now in
    let seat = c.args.seat.now in
    let t = g.T.Traveller in
    let word : c.owner_word.result ≡ taken_word c.args.seen = c.owner_word.ensures ∙ ap (owner_word TAKEN) c.next_in.ensures in (
      c.requires.home,
      subst (λ n. c.args.place < n) (sym c.requires.words) c.requires.there,
      subst (λ (w : ℕ). Allows (IsShelf t.place t.next t.done owners.key) owners.table_id.slots seat.id seat.me c.args.place (λ n. either (n == c.args.seen) w n) (IsTried t.place t.next t.done c.args.place c.args.seen seat.me)) (sym word)
          (may_try t.place t.next t.done owners.key owners.table_id.slots seat.id c.args.place c.args.seen seat.me c.requires.there c.requires.free),
    )
