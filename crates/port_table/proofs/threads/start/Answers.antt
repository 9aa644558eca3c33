use Rattle.std.proofs.Common.{◌≡◌, ℕ, ◌+◌, ◌<◌, List, [], ◌∷◌, ◌++◌, length, map, get_or, sym, ap, subst, ◌∙◌}
use Rattle.std.proofs.lemmas.List.{length_push, get_or_default, map-append}
use Rattle.port_ops.specs.Opened.{no_guest}
use Rattle.port_ops.specs.PortCore.IdealGuests.Opening.{opening as opening_guest}
use Rattle.port_ops.specs.declared.opened.Opened.{Opened}
use Rattle.port_ops.proofs.MapLemmas.{mapped_push}
use Rattle.port_table.specs.declared.guest.GuestTable.{GuestTable}
use Rattle.port_table.specs.Ports.{words_told, root_told}
use Rattle.port_table.specs.Told.{no_words, opening_root, words_at}
use Rattle.port_table.proofs.threads.start.Goals as goal

pub start-requires-clause-tables : goal.start-requires-clause-tables
start-requires-clause-tables c = c.in-Ok.ensures.value ∙ sym (ap (λ (o : Opened). o.guest.tables) c.in_ok-opened.ensures.value)

pub loop-number-preserved : goal.loop-number-preserved
loop-number-preserved c =
    let at = c.loop-number in
    let specs = c.args.scenario.now.guests in
    let table = c.in_ok-table.table in
    let root = c.in_ok-table.root in
    let pushed : c.push.new.self.items ≡ at.guests.items ++ table ∷ [] = c.in_ok-push.ensures.items in
    let rooted : c.push-in-loop-number.new.self.items ≡ at.roots.items ++ root ∷ [] = c.in_ok-push-2.ensures.items in
    let spec : c.index-specs-number.result ≡ get_or specs at.number no_guest =
    c.index-specs-number.is ∙ get_or_default c.as_slice-specs.result.now at.number c.index-specs-number.result no_guest c.loop-number-test.true ∙ ap (λ l. get_or l at.number no_guest) at.invariant.specs in
    let here : words_told table ≡ record { home = (words_told table).home; guest = opening_guest (get_or specs at.number no_guest); number = at.number } =
    c.in_ok-table.ensures.words ∙ ap (λ (o : Opened). record { home = (words_told table).home; guest = o.guest; number = o.number }) c.in_ok-opened.ensures.value
    ∙ ap (λ g. record { home = (words_told table).home; guest = opening_guest g; number = at.number }) spec in
    record {
      specs = at.invariant.specs;
      end = at.invariant.end;
      each = ap length pushed ∙ length_push at.guests.items table ∙ ap (λ n. n + 1) at.invariant.each;
      opened =
          subst (λ tables. (n : ℕ) → n < at.number + 1 → words_at (map words_told tables) n ≡ record { home = (words_at (map words_told tables) n).home; guest = opening_guest (get_or specs n no_guest); number = n }) (sym {A = List GuestTable} pushed)
          (mapped_push words_told no_words (λ t n. t ≡ record { home = t.home; guest = opening_guest (get_or specs n no_guest); number = n }) at.guests.items table at.number at.invariant.each at.invariant.opened here);
      roots =
          ap (map root_told) rooted ∙ map-append root_told at.roots.items (root ∷ [])
          ∙ ap (λ rs. rs ++ root_told root ∷ []) at.invariant.roots ∙ ap (λ r. map opening_root (map words_told at.guests.items) ++ r ∷ []) c.in_ok-table.ensures.root
          ∙ sym (map-append opening_root (map words_told at.guests.items) (words_told table ∷ [])) ∙ sym (ap (map opening_root) (map-append words_told at.guests.items (table ∷ []))) ∙ sym (ap (λ ts. map opening_root (map words_told ts)) pushed);
    }
