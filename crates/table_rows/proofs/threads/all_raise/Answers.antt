use Rattle.std.proofs.Common.{List, [], refl, ap, ◌∙◌}
use Rattle.dev_port.specs.Words.{Device}
use Rattle.port_table.specs.All.{told_words, told_root}
use Rattle.port_table.specs.Ports.{seen_of}
use Rattle.port_table.specs.Kept.{table_is_port}
use Rattle.port_table.specs.Told.{RootTold, splitting}
use Rattle.port_table.proofs.PortCore.SameLemmas.{same_twice}
use Rattle.table_rows.proofs.RowLemmas.{row_opens, row_split, row_join, row_done, row_port, device_number, device_port}
use Rattle.table_rows.proofs.threads.all_raise.Goals as goal

pub returns-clause-done : goal.returns-clause-done
returns-clause-done g c =
    let words = told_words c.args.words.now in
    let alone = c.requires.alone in
    let root_0 : List RootTold = told_root c.args.root in
    let root_1 : List RootTold = told_root c.split-one.new.root in
    let root_2 : List RootTold = told_root c.split-two.new.root in
    let root_3 : List RootTold = told_root c.split-three.new.root in
    let root_4 : List RootTold = told_root c.split-four.new.root in
    let row_0 = row_opens words alone root_0 c.requires.roots c.requires.fresh in
    let row_1 = row_split words alone root_0 root_1 [] [] (Device 0 0) 2 refl (device_number words 0 alone) row_0 c.split-one.ensures.roots (c.split-one.ensures.root ∙ ap (λ a. splitting words a root_0) c.device.ensures) in
    let row_2 = row_split words alone root_1 root_2 _ _ (Device 0 1) 3 refl (device_number words 1 alone) row_1 c.split-two.ensures.roots (c.split-two.ensures.root ∙ ap (λ a. splitting words a root_1) c.device-2.ensures) in
    let row_3 = row_split words alone root_2 root_3 _ _ (Device 0 2) 4 refl (device_number words 2 alone) row_2 c.split-three.ensures.roots (c.split-three.ensures.root ∙ ap (λ a. splitting words a root_2) c.device-3.ensures) in
    let row_4 = row_split words alone root_3 root_4 _ _ (Device 0 3) 5 refl (device_number words 3 alone) row_3 c.split-four.ensures.roots (c.split-four.ensures.root ∙ ap (λ a. splitting words a root_3) c.device-4.ensures) in
    let raised = c.in_ok-raise_four.ensures in
    let looked_1 = c.in_ok-first.ensures in
    let looked_2 = c.in_ok-second.ensures in
    let port_1 = row_port words 2 (seen_of c.split-one.result) (seen_of c.index.new.port) alone (device_port words c.device.result 0 (seen_of c.split-one.result) alone c.device.ensures c.split-one.ensures.port) (same_twice _ _ _ raised.one.same looked_1.same) in
    let port_2 = row_port words 3 (seen_of c.split-two.result) (seen_of c.index-2.new.port) alone (device_port words c.device-2.result 1 (seen_of c.split-two.result) alone c.device-2.ensures c.split-two.ensures.port) (same_twice _ _ _ raised.two.same looked_2.same) in
    let port_3 = row_port words 4 (seen_of c.split-three.result) (seen_of c.raise_four.new.three) alone (device_port words c.device-3.result 2 (seen_of c.split-three.result) alone c.device-3.ensures c.split-three.ensures.port) raised.three.same in
    let port_4 = row_port words 5 (seen_of c.split-four.result) (seen_of c.raise_four.new.four) alone (device_port words c.device-4.result 3 (seen_of c.split-four.result) alone c.device-4.ensures c.split-four.ensures.port) raised.four.same in
    let row_5 = row_join words alone root_4 (told_root c.join.new.root) _ _ 5 (seen_of c.raise_four.new.four) (table_is_port c.raise_four.new.four) port_4.0 port_4.1 port_4.2 raised.four.idle row_4 c.join.ensures.roots c.join.ensures.root in
    let row_6 = row_join words alone (told_root c.join.new.root) (told_root c.join-2.new.root) _ _ 4 (seen_of c.raise_four.new.three) (table_is_port c.raise_four.new.three) port_3.0 port_3.1 port_3.2 raised.three.idle row_5 c.join-2.ensures.roots c.join-2.ensures.root in
    let row_7 = row_join words alone (told_root c.join-2.new.root) (told_root c.join-3.new.root) _ _ 3 (seen_of c.index-2.new.port) (table_is_port c.index-2.new.port) port_2.0 port_2.1 port_2.2 looked_2.idle row_6 c.join-3.ensures.roots c.join-3.ensures.root in
    let row_8 = row_join words alone (told_root c.join-3.new.root) (told_root c.join-4.new.root) _ _ 2 (seen_of c.index.new.port) (table_is_port c.index.new.port) port_1.0 port_1.1 port_1.2 looked_1.idle row_7 c.join-4.ensures.roots c.join-4.ensures.root in
    row_done words alone (told_root c.join-4.new.root) _ row_8
