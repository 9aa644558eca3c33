-- An actor that took the ITS has valid maps, and is where a command begins.
use Rattle.std.proofs.Common.{◌≡◌, IsTrue, List, [], ◌∷◌, ◌++◌, find, is_some, ◌||◌, Option, None, Some, if◌then◌else◌, refl, sym, ap, subst, ◌∙◌}
use Rattle.std.proofs.lemmas.List.{append_assoc}
use Rattle.std.proofs.lemmas.List.Sums.{fold-append}
use Rattle.gic_msi.specs.Words.{Lpi, GuestShape}
use Rattle.port_seq.specs.Registers.{IsValid, Maps}
use Rattle.gic_msi.specs.Core.{Made, Irq, known_maps, is_on, read_after, reading_after, reading_of, since_command, ends_command, Seen, shape_of}
use Rattle.gic_msi.specs.PortCall.Turn.{TakesTurn}
use Rattle.gic_msi.proofs.PortCall.KnownLemmas.{maps_handed}
use Rattle.pe_op.specs.ItsExec.Plan.{IsFresh}
use Rattle.pe_op.specs.ItsExec.Shut.{ShutsAll}
use Rattle.pe_op.proofs.ItsExec.FrameLemmas.{maps_on}
use Rattle.pe_op.proofs.ItsExec.ShutLemmas.{shut_fresh, shut_within}

pub turn_valid : (old new : Seen) (shape : GuestShape) (tables : Maps) → shape ≡ shape_of old → TakesTurn old new → tables ≡ known_maps new.own → IsValid shape tables
turn_valid old new shape tables is takes e =
    let known : known_maps new.own ≡ takes.maps = ap (λ seen. known_maps seen.own) takes.adds.new_is ∙ maps_handed old.own takes.misses takes.last takes.maps takes.handed in
    subst (λ shape. IsValid shape tables) (sym is) (subst (IsValid (shape_of old)) (sym (e ∙ known)) takes.valid)

-- so it is once all lines are shut
pub shut_valid : (old mid new : Seen) (shape : GuestShape) (tables : Maps) → shape ≡ shape_of old → TakesTurn old mid → ShutsAll mid new → tables ≡ known_maps new.own → IsValid shape tables
shut_valid old mid new shape tables is takes shuts e = turn_valid old mid shape tables is takes (e ∙ maps_on mid new shuts.on.part shuts.on.adds (shut_within mid new shuts.on))

command_by : List Made → Made → List Made
command_by kept made = if is_some made.tables || ends_command made.step then [] else kept ++ made ∷ []

since_turn : (own misses : List Made) (last : Made) (maps : Maps) → last.tables ≡ Some maps → since_command (own ++ (misses ++ last ∷ [])) ≡ []
unfolding command_by
since_turn own misses last maps handed =
    let before = since_command (own ++ misses) in
    ap since_command (sym (append_assoc own misses (last ∷ [])))
    ∙ fold-append command_by [] (own ++ misses) (last ∷ [])
    ∙ ap (λ tables. if is_some tables || ends_command last.step then [] else before ++ last ∷ []) handed

abbrev nothing_read : Option (List Made)
nothing_read = Some []

-- it has the ITS, and has read nothing yet
turn_reading : (own misses : List Made) (last : Made) (maps : Maps) (seen : Seen) → seen.own ≡ own ++ (misses ++ last ∷ []) → last.tables ≡ Some maps → IsTrue (is_some (reading_of seen.own))
turn_reading own misses last maps seen is handed =
    ap (λ own. is_some (reading_of own)) (is ∙ sym (append_assoc own misses (last ∷ []))) ∙ ap is_some (fold-append reading_after None (own ++ misses) (last ∷ [])) ∙ of (reading_of (own ++ misses)) last.tables refl handed
  where
    of : (before : Option (List Made)) (o : Option Maps) → last.tables ≡ o → o ≡ Some maps → IsTrue (is_some (reading_after before last))
    of before None e h = absurd (cc)
    of None (Some maps) e h = ap (λ o. is_some (if is_some o then nothing_read else None)) e
    of (Some read) (Some maps) e h = ap (λ o. is_some (if is_some o then nothing_read else read_after last.step last read)) e

pub turn_fresh : (old new : Seen) → TakesTurn old new → IsFresh new
turn_fresh old new takes =
    let since : since_command new.own ≡ [] = ap (λ seen. since_command seen.own) takes.adds.new_is ∙ since_turn old.own takes.misses takes.last takes.maps takes.handed in
    record { reading = turn_reading old.own takes.misses takes.last takes.maps new (ap (λ seen. seen.own) takes.adds.new_is) takes.handed; each = λ id there. record { none = ap (find (is_on (shape_of new) new.actor (Irq (Lpi id)))) since } }

-- which tables it took is no matter
pub fresh_same : (one other : Seen) → other ≡ record one { taken = other.taken } → IsFresh one → IsFresh other
fresh_same one other e fresh = subst IsFresh (sym e) (record { reading = fresh.reading; each = λ id there. record { none = (fresh.each id there).none } })

pub shut_fresh_so : (old mid new other : Seen) → TakesTurn old mid → ShutsAll mid new → other ≡ record new { taken = other.taken } → IsFresh other
shut_fresh_so old mid new other takes shuts e = fresh_same new other e (shut_fresh mid new shuts.on (turn_fresh old mid takes))
