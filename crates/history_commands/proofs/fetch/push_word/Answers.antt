use Rattle.std.proofs.Common.{ℕ, [], ◌∷◌, ◌++◌, map, sym, ap, ◌∙◌, append-nil, None, Some, ◌≡◌}
use Rattle.history_commands.specs.Registers.{part_of}
use Rattle.history_commands.specs.Calls.{View, word_address}
use Rattle.history_commands.specs.Known.{view_by, read_at}
use Rattle.history_commands.specs.Calls.{Happened, Ram}
use Rattle.history_commands.specs.GicCall.declared.event.Event.TheVariants.{Read}
use Rattle.history_commands.specs.GicCall.declared.event.Place.TheVariants.{Word}
use Rattle.history_commands.specs.GicCall.declared.event.Found.TheVariants.{Word as FoundWord}
use Rattle.history_commands.proofs.FetchLemmas.{place_is, no_place}
use Rattle.history_commands.proofs.fetch.push_word.Goals as goal

pub returns-in_ok-push : goal.returns-in_ok-push
returns-in_ok-push c = λ maps targets.
    let view : View = view_by c.args.its maps targets c.args.reads.now in
    let is : part_of (word_address view c.args.number) 8 c.args.shape.now.ram ≡ Some c.in-Some.part = ap (λ a. part_of a 8 c.args.shape.now.ram) (sym (c.word_address.ensures maps targets c.args.reads.now)) ∙ sym c.split.ensures.value ∙ c.in-Some.is in
    let read : ℕ → Happened = λ value. record { event = Read (Word (Ram c.in-Some.part.index)); found = FoundWord value } in
    c.in_ok-push.ensures.ok ∙ ap (λ value. c.args.all.now ++ read value ∷ []) c.word_at.ensures
    ∙ ap (λ ps. c.args.all.now ++ map (read_at view) ps) (place_is c.args.shape.now (word_address view c.args.number) 8 c.in-Some.part is)

pub returns-in_default : goal.returns-in_default
returns-in_default c = λ maps targets.
    let view : View = view_by c.args.its maps targets c.args.reads.now in
    let is : part_of (word_address view c.args.number) 8 c.args.shape.now.ram ≡ None = ap (λ a. part_of a 8 c.args.shape.now.ram) (sym (c.word_address.ensures maps targets c.args.reads.now)) ∙ sym c.split.ensures.value ∙ c.in_default.is in
    sym (ap (λ ps. c.args.all.now ++ map (read_at view) ps) (no_place c.args.shape.now (word_address view c.args.number) 8 is) ∙ append-nil c.args.all.now)
