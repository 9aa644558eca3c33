use Rattle.std.proofs.Common.{◌≡◌, ◌<◌, ℕ, Bool, Option, Some, subst, sym, ap, ◌∙◌}
use Rattle.atomic_table.specs.Table.{Me, rest}
use Rattle.vcpu_shelf.specs.declared.view.View.{View}
use Rattle.vcpu_shelf.specs.Word.{stored_word}
use Rattle.vcpu_shelf.proofs.RuleLemmas.{may_store}
use Rattle.vcpu_shelf.proofs.steps.give_back.Goals as goal

pub store-requires : goal.store-requires
store-requires g c =
    let owners = c.args.owners.now in
    let seat = c.exchange.new.seat in
    let t = g.T.Traveller in
    let place = c.place-place.ensures in
    let there : c.place-place.result < owners.key = subst (λ n. n < owners.key) (sym place) c.requires.there in
    let out = ap (λ (m : Me (Option g.row.T.Denot) View). m.0.out) c.exchange.ensures.3 ∙ c.requires.out ∙ ap (λ (n : ℕ). Some n) (sym place) in
    let word : c.stored_word-word.result ≡ stored_word (t.done c.args.traveller) (t.next c.args.traveller) =
    c.stored_word-word.ensures ∙ ap (λ (b : Bool). stored_word b c.next.result) c.done.ensures ∙ ap (stored_word (t.done c.args.traveller)) c.next.ensures in (
      c.exchange.ensures.0 ∙ c.requires.home,
      subst (λ n. c.place-place.result < n) (sym c.requires.words) there,
      may_store t.place t.next t.done owners.key owners.table_id.slots seat.id c.place-place.result c.stored_word-word.result seat.me c.args.traveller (rest c.args.seat.now.me.1) there
          (ap (λ (m : Me (Option g.row.T.Denot) View). m.1) c.exchange.ensures.3) out (sym place) word,
    )
