-- The end of a guest's run.
use Rattle.std.proofs.Common.{subst, ◌≡◌, ℕ, List, Option, Some, None, sym, ap, ◌∙◌, suc, ◌==◌, Bool, true, false, cond, All, [], ◌∷◌, refl, arith}
use mathlib.Core.Option.{some, some-injective}
use lib.ListN.{get_elem?}
use Rattle.port_ops.specs.Registers.{Maps}
use Rattle.port_ops.specs.PortCore.declared.end.GuestWords.{GuestWords}
use Rattle.std.proofs.lemmas.Option.{same_Some}
use Rattle.port_ops.specs.GuestWords.{words_at_end}
use Rattle.port_ops.specs.World.{state_after}
use Rattle.port_table.specs.Rule.{local_of}
use Rattle.port_table.specs.Told.{WordsTold, RootTold, HasNoTurn, EndsRun}
use Rattle.port_table.specs.View.{steps_of}
use Rattle.port_table.specs.declared.view.Account.{Account}
use Rattle.port_ops.specs.declared.opened.Opened.{Opened}
use Rattle.std.proofs.lemmas.Bool.{eqb-true}
use Rattle.port_table.proofs.RuleLemmas.{Closes}

-- the slot has the tables
pub not_taken : (slots : List (Option Maps)) (maps : Maps) (tables : Option Maps) → get_elem? slots 0 ≡ some (Some maps) → get_elem? slots 0 ≡ some tables → tables ≡ None → ⊥
not_taken slots maps tables home took none =
    let same : Some maps ≡ tables = some-injective (Some maps) tables (sym home ∙ took) in
    let both : Some maps ≡ None = same ∙ none in
    absurd (cc)

-- the words and the tables that are handed out are those in which the run ends
pub ends_run :
    (words : WordsTold) (root : RootTold) (among : List ℕ) (slots : List (Option Maps)) (tables : Maps) → Closes (record { number = words.number; guest = words.guest }) root.joined among slots → get_elem? slots 0 ≡ some (Some tables)
    → (left : GuestWords) → left ≡ words_at_end words.guest.shape among tables → EndsRun words root left
ends_run words root among slots tables end took left is =
    let shape = words.guest.shape in
    let state = state_after words.guest words.number end.world in
    let same : tables ≡ state.maps = same_Some tables state.maps (some-injective (Some tables) (Some state.maps) (sym took ∙ end.maps)) in
    record {
      world = end.world;
      run = end.run;
      lists = end.lists;
      left_is = is ∙ ap (λ ws. words_at_end shape ws tables) end.words_are ∙ ap (words_at_end shape state.words) same;
    }

-- an actor that was not joined has made no step, and as its guest opens nobody has the ITS
pub none_has :
    (words : WordsTold) (actor : ℕ) (joined : List Account) → All (HasNoTurn words) joined → (local_of (record { number = words.number; guest = words.guest }) actor (steps_of actor joined)).turn ≡ false
none_has words actor [] all = refl
none_has words actor (account ∷ joined) all = of (none_has words actor joined (λ k d h. all (suc k) d (omega (arith, h)))) (account.actor == actor) refl
  where
    opened : Opened
    opened = record { number = words.number; guest = words.guest }

    of : (local_of opened actor (steps_of actor joined)).turn ≡ false → (b : Bool) → (account.actor == actor) ≡ b → (local_of opened actor (cond b account.own (steps_of actor joined))).turn ≡ false
    of later true e = subst (λ n. (local_of opened n account.own).turn ≡ false) (eqb-true account.actor actor e) (all 0 account (omega arith))
    of later false e = later
