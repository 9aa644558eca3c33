-- A table as its guest opens.
use Rattle.std.proofs.Common.{◌≡◌, ℕ, ◌<◌, List, [], ◌∷◌, map, Option, Some, refl, ap, subst}
use mathlib.Core.Option.{some}
use lib.ListN.{get_elem?}
use Rattle.atomic_table.specs.Table.{opening as opening_table}
use Rattle.port_ops.specs.Registers.{Maps}
use Rattle.port_ops.specs.PortCore.IdealGuests.CanOpen.{CanOpen}
use Rattle.port_ops.specs.PortCore.Actor.{actor_count}
use Rattle.port_ops.specs.PortCore.Run.{opening, opening_local_of}
use Rattle.port_ops.specs.PortCore.Valid.{IsLocal}
use Rattle.port_ops.proofs.PortCore.OpeningLemmas.{opens_sound, seat_opens}
use Rattle.port_ops.specs.declared.opened.Opened.{Opened}
use Rattle.port_ops.proofs.WorldLemmas.{only_view}
use Rattle.port_table.specs.declared.view.View.TheVariants.{Root, Out}
use Rattle.port_table.specs.Rule.{IsRoot, AreViews, IsShared}

-- the root is alone, and no actor has made a step
opening_root : IsRoot [] (Root [] [] ∷ []) [] []
opening_root =
    record {
      out = λ id actor own e. let only = only_view (Root [] []) (Out actor own) id e in let no : Root [] [] ≡ Out actor own = only.1 in absurd (cc);
      back = λ actor h. absurd (cc);
      kept = λ actor h. refl;
    }

opening_views : AreViews [] (Root [] [] ∷ [])
opening_views =
    record {
      first = λ id split joined e. (only_view (Root [] []) (Root split joined) id e).0;
      own = λ id actor own e. let only = only_view (Root [] []) (Out actor own) id e in let no : Root [] [] ≡ Out actor own = only.1 in absurd (cc);
      apart = λ one other actor own more e f. let only = only_view (Root [] []) (Out actor own) one e in let no : Root [] [] ≡ Out actor own = only.1 in absurd (cc);
      root = λ id split joined e. let only = only_view (Root [] []) (Root split joined) id e in
          subst (λ v. IsRoot [] (Root [] [] ∷ []) (Rattle.port_table.specs.View.split_of v) (Rattle.port_table.specs.View.joined_of v)) only.1 opening_root;
    }

-- the rule holds of the words as they open, with the maps in the slot
pub opens_shared : (opened : Opened) (words : List ℕ) (slots : List (Option Maps)) → words ≡ (opening opened.guest opened.number).words → slots ≡ Some opened.guest.tables ∷ [] → IsShared opened (opening_table words slots (Root [] []))
opens_shared opened words slots are empty =
    record {
      world = [];
      run = tt;
      words = are;
      home = λ free. ap (λ (xs : List (Option Maps)). get_elem? (map (λ (x : Option Maps). some x) xs) 0) empty;
      views = opening_views;
    }

-- what an actor has for itself is valid as its guest opens
pub opening_valid : (opened : Opened) (actor : ℕ) → CanOpen opened.guest → actor < actor_count opened.guest.shape → IsLocal opened.guest.shape actor (opening_local_of opened.guest opened.number actor)
opening_valid opened actor good there = subst (λ s. IsLocal opened.guest.shape actor s.local) (seat_opens opened.guest opened.number actor there) ((opens_sound opened.guest opened.number good).locals actor there)
