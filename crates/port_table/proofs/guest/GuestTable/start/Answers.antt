use Rattle.std.proofs.Common.{◌≡◌, List, [], ◌∷◌, ◌++◌, length, Option, Some, sym, ap, subst, ◌∙◌}
use Rattle.std.proofs.lemmas.List.FromFn.{length-map-range_with_len}
use Rattle.port_ops.specs.Registers.{Maps}
use Rattle.port_ops.specs.PortCore.IdealGuests.CanOpen.{CanOpen}
use Rattle.port_ops.specs.PortCore.Place.{word_count}
use Rattle.port_ops.specs.PortCore.Run.{opening_word}
use Rattle.port_ops.specs.declared.opened.Opened.{Opened}
use Rattle.port_table.proofs.OpenLemmas.{opens_shared}
use Rattle.port_table.proofs.guest.GuestTable.start.Goals as goal

pub new-requires : goal.new-requires
new-requires c =
    let opened = c.args.opened in
    let slots : c.push.new.self.items ≡ Some opened.guest.tables ∷ [] =
    c.in_ok-push.ensures.items ∙ ap (λ (xs : List (Option Maps)). xs ++ Some c.args.tables ∷ []) c.new-slots.ensures.items ∙ ap (λ (m : Maps). Some m ∷ []) c.requires.tables in
    opens_shared opened c.as_slice.result.now c.push.new.self.items (c.as_slice.ensures ∙ c.in_ok-words.ensures opened.number) slots

pub invariant_of-words : goal.invariant_of-words
invariant_of-words c =
    let opened = c.args.opened in
    let table = c.in-Ok.ensures.ok in
    let is = table.5 in
    let slots : c.push.new.self.items ≡ Some c.args.tables ∷ [] = c.in_ok-push.ensures.items ∙ ap (λ (xs : List (Option Maps)). xs ++ Some c.args.tables ∷ []) c.new-slots.ensures.items in
    record {
      good = subst (λ (o : Opened). CanOpen o.guest) (sym is) c.requires.good;
      same = ap (λ (o : Opened). o.guest.shape) (sym is);
      numbered = ap (λ (o : Opened). o.number) (sym is);
      interfaces = ap (λ (o : Opened). o.guest.cpus) (sym is);
      words =
          table.0 ∙ ap length (c.as_slice.ensures ∙ c.in_ok-words.ensures opened.number) ∙ length-map-range_with_len (opening_word opened.guest) 0 (word_count opened.guest.shape)
          ∙ ap (λ (o : Opened). word_count o.guest.shape) (sym is);
      slots = table.1 ∙ ap (λ (xs : List (Option Maps)). length xs) slots;
    }
