-- Marks and kicks, one after the other.
use Rattle.std.proofs.Common.{◌≡◌, ◌≢◌, ℕ, suc, ◌^◌, ◌<◌, ◌≤◌, ◌⊎◌, inl, inr, ◌==◌, ◌&&◌, Bool, true, false, cond, nat_lt, IsTrue, List, [], ◌∷◌, ◌++◌, map, length, Option, Some, None, is_none, is_some, if◌then◌else◌, append-nil, refl, sym, ap, subst, ◌∙◌, arith}
use Rattle.std.specs.List.{list_all}
use Rattle.std.specs.Option.{option_map_or, option_to_list}
use Rattle.std.proofs.lemmas.Bool.{cases_lt, eqb-true, eq-eqb, lt-ltb, and_parts}
use Rattle.std.proofs.lemmas.List.{map-append, append_assoc}
use Rattle.std.proofs.lemmas.List.Folds.{list_all-append}
use Rattle.std.proofs.lemmas.Nat.{and_le_l}
use Rattle.std.proofs.lemmas.Nat.Bits.{bit_at-zero, bit_at_above}
use Rattle.std.specs.Int.{bit_at, bit_not, w32}
use Rattle.floor_core.specs.Words.{has_bit, Key, GuestShape, IsShape, is_same_key, has_interrupt, is_of_vcpu}
use Rattle.floor_core.specs.Registers.{Targets, Maps}
use Rattle.std.proofs.Math.Pow.{pow_mono}
use Rattle.floor_core.specs.Core.{Local, Cands, Made, CoreStep, Kick, Mark, marked, local_after, succeeds, stands_for, no_vcpus, without_vcpu, settled, owes_no_mark, Seen, IsPort, Adds, AddsStep, AreHanded, CanMake, made_by, shape_of, seen_after, events_of, is_taking, AreVcpus, AreMarks, AreMarksOf}
use Rattle.floor_core.proofs.GicBase.KeyLemmas.{same_itself}
use Rattle.floor_core.proofs.PortCore.PortLemmas.{adds_join}
use Rattle.port_call.specs.Piece.{steps_of, takes_none, IsPiece, is_plain, goes_by_known}
use Rattle.port_call.specs.Settle.{vcpus_in, IsFirst, marks_owed, kicks_owed, marks_sent, kicks_sent, Sends, Settles, IsNextMark}
use Rattle.port_call.proofs.PieceLemmas.{piece_nil, piece_cons}
use Rattle.port_call.proofs.SetLemmas.{without_same, without_other, none_in}

-- Steps that only send.

abbrev pub is_sending : CoreStep → Bool
is_sending (Mark key vcpu) = true
is_sending (Kick vcpu) = true
is_sending step = false

sending_plain : (step : CoreStep) → IsTrue (is_sending step) → IsTrue (is_plain step)
sending_plain (Mark key vcpu) h = refl
sending_plain (Kick vcpu) h = refl
sending_plain _ h = absurd (cc)

sending_known : (seen : Seen) (step : CoreStep) → IsTrue (is_sending step) → IsTrue (goes_by_known seen step)
sending_known seen (Mark key vcpu) h = refl
sending_known seen (Kick vcpu) h = refl
sending_known seen _ h = absurd (cc)

-- What is sent in a loop.

-- an actor made some of the steps that it is to make, and is to be the same once it has made the others
pub record Sending (owed : Local → List CoreStep) (sent : Local → Local) (old now : Seen) : Type 0 where
  pub part : List Made
  pub adds : Adds old now part
  pub steps : steps_of part ++ owed now.local ≡ owed old.local
  pub local : sent now.local ≡ sent old.local
  pub none_taken : IsTrue (takes_none part)

-- a step that hands out no maps takes no ITS
pub handed_none : (step : CoreStep) (found : ℕ) (seen : Seen) (tables : Option Maps) → is_taking step ≡ false → AreHanded seen step found tables → IsTrue (is_none tables)
handed_none step found seen tables untaking handed =
    of tables (handed.where_taken ∙ ap (λ b. b && succeeds (shape_of seen) seen.actor seen.local step found) untaking)
  where
    of : (o : Option Maps) → is_some o ≡ false → IsTrue (is_none o)
    of None e = refl
    of (Some maps) e = absurd (cc)

pub sending_more :
    (owed : Local → List CoreStep) (sent : Local → Local) (old now next : Seen) (step : CoreStep) (found : ℕ) → is_taking step ≡ false → owed now.local ≡ step ∷ owed next.local → sent next.local ≡ sent now.local → AddsStep now next step found
    → Sending owed sent old now → Sending owed sent old next
sending_more owed sent old now next step found untaking first same add so =
    let made = made_by now step found add.tables in
    record {
      part = so.part ++ made ∷ [];
      adds = adds_join old now next so.part (made ∷ []) so.adds add.adds;
      steps = ap (λ steps. steps ++ owed next.local) (map-append (λ made. made.step) so.part (made ∷ [])) ∙ append_assoc (steps_of so.part) (step ∷ []) (owed next.local) ∙ ap (λ steps. steps_of so.part ++ steps) (sym first) ∙ so.steps;
      local = same ∙ so.local;
      none_taken = list_all-append (λ made. is_none made.tables) so.part (made ∷ []) ∙ both (takes_none so.part) (is_none add.tables) so.none_taken (handed_none step found now add.tables untaking add.handed);
    }
  where
    both : (a b : Bool) → IsTrue a → IsTrue b → (a && (b && true)) ≡ true
    both true true h k = refl
    both true false h k = absurd (cc)
    both false b h k = absurd (cc)

pub sending_all : (owed : Local → List CoreStep) (sent : Local → Local) (old now : Seen) → owed now.local ≡ [] → sent now.local ≡ now.local → Sending owed sent old now → Sends old now (owed old.local) (sent old.local)
sending_all owed sent old now none same so =
    record {
      part = so.part;
      adds = so.adds;
      steps_are = sym (append-nil (steps_of so.part)) ∙ ap (λ steps. steps_of so.part ++ steps) (sym none) ∙ so.steps;
      local_is = sym same ∙ so.local;
      none_taken = so.none_taken;
    }

-- Marks.

-- no vCPU above the width of a set is in one that is smaller
without_any : (set : Targets) (v i : ℕ) → v < 32 → set.0 < 2 ^ 32 → i ≢ v → has_bit (without_vcpu set v).0 i ≡ has_bit set.0 i
without_any set v i h fits differ = elim (cases_lt i 32) [ inl below ↦ without_other set v i h below differ | inr above ↦ high above ]
  where
    high : 32 ≤ i → has_bit (without_vcpu set v).0 i ≡ has_bit set.0 i
    high above =
        let less = and_le_l set.0 (bit_not w32 (2 ^ v)) in
        ap (λ b. b == 1) (bit_at_above (without_vcpu set v).0 32 i (omega (arith, less, fits)) above ∙ sym (bit_at_above set.0 32 i fits above))

-- an actor after a mark that it owes
mark_left : GuestShape → ℕ → Key → ℕ → Local → Local
mark_left shape actor key v local =
    record local { marks = record local.marks { vcpus = without_vcpu local.marks.vcpus v }; cands = if v == actor then settled shape actor key local.cands else local.cands }

marked_is : (shape : GuestShape) (actor : ℕ) (key : Key) (v : ℕ) (local : Local) → local.marks.key ≡ Some key → marked shape actor key v local ≡ mark_left shape actor key v local
unfolding mark_left
marked_is shape actor key v local e =
    let yes : option_map_or (λ owed. is_same_key owed key) local.marks.key false ≡ true = ap (λ k. option_map_or (λ owed. is_same_key owed key) k false) e ∙ same_itself key in
    let of : Bool → Local = λ b. record local { marks = cond b (record local.marks { vcpus = without_vcpu local.marks.vcpus v }) local.marks; cands = if v == actor then settled shape actor key local.cands else local.cands } in
    ap of yes

marks_by_key : (local : Local) (key : Key) → local.marks.key ≡ Some key → marks_owed local ≡ map (Mark key) (vcpus_in local.marks.vcpus)
marks_by_key local key e = ap (λ k. option_map_or (λ key. map (Mark key) (vcpus_in local.marks.vcpus)) k []) e

pub mark_owed : (shape : GuestShape) (actor : ℕ) (key : Key) (v : ℕ) (local : Local) → IsNextMark local key v → marks_owed local ≡ Mark key v ∷ marks_owed (marked shape actor key v local)
unfolding mark_left
mark_owed shape actor key v local is =
    marks_by_key local key is.key_is ∙ ap (map (Mark key)) is.first.rest
    ∙ ap (λ steps. Mark key v ∷ steps) (sym (marks_by_key (mark_left shape actor key v local) key is.key_is))
    ∙ ap (λ after. Mark key v ∷ marks_owed after) (sym (marked_is shape actor key v local is.key_is))

pub mark_sent : (shape : GuestShape) (actor : ℕ) (key : Key) (v : ℕ) (local : Local) → local.marks.vcpus.0 < 2 ^ 32 → IsNextMark local key v → marks_sent shape actor (marked shape actor key v local) ≡ marks_sent shape actor local
unfolding mark_left
mark_sent shape actor key v local fits is = ap (marks_sent shape actor) (marked_is shape actor key v local is.key_is) ∙ ap with_cands (of (v == actor) refl)
  where
    with_cands : Cands → Local
    with_cands cands = record local { marks = record local.marks { vcpus = no_vcpus }; cands = cands }

    once : Option Key → Bool → Cands → Cands
    once owed b cands = cond b (option_map_or (λ key. settled shape actor key cands) owed cands) cands

    of : (b : Bool) → (v == actor) ≡ b
        → once local.marks.key (has_bit (without_vcpu local.marks.vcpus v).0 actor) (cond b (settled shape actor key local.cands) local.cands) ≡ once local.marks.key (has_bit local.marks.vcpus.0 actor) local.cands
    of true e =
        let same : v ≡ actor = eqb-true v actor e in
        let gone : has_bit (without_vcpu local.marks.vcpus v).0 actor ≡ false = ap (has_bit (without_vcpu local.marks.vcpus v).0) (sym same) ∙ without_same local.marks.vcpus v is.first.below in
        let there : has_bit local.marks.vcpus.0 actor ≡ true = ap (has_bit local.marks.vcpus.0) (sym same) ∙ is.first.member in
        ap (λ b. once local.marks.key b (settled shape actor key local.cands)) gone ∙ ap (λ k. once k true local.cands) (sym is.key_is) ∙ ap (λ b. once local.marks.key b local.cands) (sym there)
    of false e = ap (λ b. once local.marks.key b local.cands) (without_any local.marks.vcpus v actor is.first.below fits (λ same. let yes : (v == actor) ≡ true = eq-eqb v actor (sym same) in absurd (cc)))

-- once no mark is owed
pub marks_none : (local : Local) → local.marks.vcpus.0 ≡ 0 → marks_owed local ≡ []
marks_none local e = ap (λ n. option_map_or (λ key. map (Mark key) (vcpus_in (record { 0 = n }))) local.marks.key []) e ∙ ap (λ vcpus. option_map_or (λ key. map (Mark key) vcpus) local.marks.key []) none_in ∙ of local.marks.key
  where
    none : List CoreStep
    none = []

    of : (k : Option Key) → option_map_or (λ key. map (Mark key) []) k none ≡ []
    of None = refl
    of (Some key) = refl

pub marks_done : (shape : GuestShape) (actor : ℕ) (local : Local) → local.marks.vcpus.0 ≡ 0 → marks_sent shape actor local ≡ local
marks_done shape actor local e =
    let none : has_bit local.marks.vcpus.0 actor ≡ false = ap (λ n. has_bit n actor) e ∙ ap (λ b. b == 1) (bit_at-zero actor) in
    let by_bit : Bool → Local = λ b. record local { marks = record local.marks { vcpus = no_vcpus }; cands = cond b (option_map_or (λ key. settled shape actor key local.cands) local.marks.key local.cands) local.cands } in
    let by_set : ℕ → Local = λ n. record local { marks = record local.marks { vcpus = record { 0 = n } } } in
    ap by_bit none ∙ ap by_set (sym e)

-- Kicks.

pub kick_owed : (v : ℕ) (local : Local) → IsFirst local.owes v → kicks_owed local ≡ Kick v ∷ kicks_owed (record local { owes = without_vcpu local.owes v })
kick_owed v local is = ap (map Kick) is.rest

pub kicks_none : (local : Local) → local.owes.0 ≡ 0 → kicks_owed local ≡ []
kicks_none local e = ap (λ n. map Kick (vcpus_in (record { 0 = n }))) e ∙ ap (map Kick) none_in

pub kicks_done : (local : Local) → local.owes.0 ≡ 0 → kicks_sent local ≡ local
kicks_done local e = let by_set : ℕ → Local = λ n. record local { owes = record { 0 = n } } in ap by_set (sym e)

-- Ports.

-- a part leaves the guest and the actor
pub adds_shape : (old new : Seen) (part : List Made) → Adds old new part → shape_of new ≡ shape_of old
adds_shape old new part add = ap shape_of add.new_is

pub adds_actor : (old new : Seen) (part : List Made) → Adds old new part → new.actor ≡ old.actor
adds_actor old new part add = ap (λ seen. seen.actor) add.new_is

-- a step leaves what it makes of the actor's own state
pub local_made : (old new : Seen) (step : CoreStep) (found : ℕ) → AddsStep old new step found → new.local ≡ local_after (shape_of old) old.actor old.local step found
local_made old new step found add = ap (λ seen. seen.local) add.adds.new_is

-- sets of the guest's vCPUs fit 32 bits, and have vCPUs of the guest alone
set_fits : (shape : GuestShape) (set : ℕ) → IsShape shape → AreVcpus shape set → set < 2 ^ 32
set_fits shape set good within = let most : 2 ^ shape.vcpus ≤ 2 ^ 32 = pow_mono good.vcpus in omega (arith, most, within)

member_there : (shape : GuestShape) (set v : ℕ) → AreVcpus shape set → IsTrue (has_bit set v) → v < shape.vcpus
member_there shape set v within is =
    elim (cases_lt v shape.vcpus) [
      | inl there ↦ there
      | inr above ↦ (let none : bit_at set v ≡ 0 = bit_at_above set shape.vcpus v within above in let one : bit_at set v ≡ 1 = eqb-true (bit_at set v) 1 is in absurd (omega (arith, none, one)))
    ]

three : (a b c : Bool) → IsTrue a → IsTrue b → IsTrue c → IsTrue (a && b && c)
three true true true h k l = refl
three true true false h k l = absurd (cc)
three true false c h k l = absurd (cc)
three false b c h k l = absurd (cc)

-- the marks of an interrupt that is owed
marks_of_key : (shape : GuestShape) (key : Key) (owed : Option Key) (set : ℕ) → owed ≡ Some key → AreMarks shape owed set → AreMarksOf shape key set
marks_of_key shape key owed set e are = let P : Option Key → Type 0 = λ k. AreMarks shape k set in subst P e are

-- a mark that is owed can be sent, and a kick once no mark is owed
pub can_mark : (seen : Seen) (local : Local) (key : Key) (v : ℕ) → IsPort seen → local ≡ seen.local → IsNextMark local key v → CanMake seen (Mark key v)
can_mark seen local key v is same next =
    let mine : IsNextMark seen.local key v = subst (λ l. IsNextMark l key v) same next in
    let there = member_there (shape_of seen) seen.local.marks.vcpus.0 v is.local.marks_are mine.first.member in
    let of_key = marks_of_key (shape_of seen) key seen.local.marks.key seen.local.marks.vcpus.0 mine.key_is is.local.marks in
    record {
      can = three (nat_lt v seen.guest.shape.vcpus) (is_of_vcpu v key) (has_interrupt (shape_of seen) key) (lt-ltb v seen.guest.shape.vcpus there) (of_key.1 v there mine.first.member) of_key.0;
      seen_is = tt;
      meets = tt;
      tables = refl;
    }

pub can_kick : (seen : Seen) (set : Targets) (v : ℕ) → IsPort seen → set ≡ seen.local.owes → IsFirst set v → IsTrue (owes_no_mark seen.local) → CanMake seen (Kick v)
can_kick seen set v is same first none =
    let mine : IsFirst seen.local.owes v = subst (λ s. IsFirst s v) same first in
    record { can = member_there (shape_of seen) seen.local.owes.0 v is.local.owes mine.member; seen_is = tt; meets = none; tables = refl }

-- one more is sent
mark_made : (now next : Seen) (key : Key) (v found : ℕ) → AddsStep now next (Mark key v) found → next.local ≡ marked (shape_of now) now.actor key v now.local
mark_made now next key v found add = local_made now next (Mark key v) found add

pub mark_more : (old now next : Seen) (local : Local) (key : Key) (v found : ℕ) → IsPort now → local ≡ now.local → IsNextMark local key v → AddsStep now next (Mark key v) found
    → Sending marks_owed (marks_sent (shape_of old) old.actor) old now → Sending marks_owed (marks_sent (shape_of old) old.actor) old next
mark_more old now next local key v found is same next_is add so =
    let mine : IsNextMark now.local key v = subst (λ l. IsNextMark l key v) same next_is in
    let made = mark_made now next key v found add in
    let fits = set_fits (shape_of now) now.local.marks.vcpus.0 is.good.sound.shape is.local.marks_are in
    let SentBy : GuestShape → ℕ → Type 0 = λ shape actor. marks_sent shape actor next.local ≡ marks_sent shape actor now.local in
    let sent : SentBy (shape_of now) now.actor = ap (marks_sent (shape_of now) now.actor) made ∙ mark_sent (shape_of now) now.actor key v now.local fits mine in
    sending_more marks_owed (marks_sent (shape_of old) old.actor) old now next (Mark key v) found refl
    (mark_owed (shape_of now) now.actor key v now.local mine ∙ ap (λ l. Mark key v ∷ marks_owed l) (sym made))
    (subst (λ shape. SentBy shape old.actor) (adds_shape old now so.part so.adds) (subst (SentBy (shape_of now)) (adds_actor old now so.part so.adds) sent))
    add so

pub mark_fewer : (now next : Seen) (local : Local) (key : Key) (v found : ℕ) → local ≡ now.local → IsNextMark local key v → AddsStep now next (Mark key v) found → length (marks_owed next.local) < length (marks_owed now.local)
mark_fewer now next local key v found same next_is add =
    let mine : IsNextMark now.local key v = subst (λ l. IsNextMark l key v) same next_is in
    let made = mark_made now next key v found add in
    let first : length (marks_owed now.local) ≡ suc (length (marks_owed next.local)) = ap length (mark_owed (shape_of now) now.actor key v now.local mine ∙ ap (λ l. Mark key v ∷ marks_owed l) (sym made)) in
    omega (arith, first)

pub marks_over : (old now : Seen) (local : Local) → IsPort now → local ≡ now.local → (local.marks.key ≡ None) ⊎ (local.marks.vcpus.0 ≡ 0) → Sending marks_owed (marks_sent (shape_of old) old.actor) old now
    → Sends old now (marks_owed old.local) (marks_sent (shape_of old) old.actor old.local)
marks_over old now local is same over so =
    let none : now.local.marks.vcpus.0 ≡ 0 = empty over in
    sending_all marks_owed (marks_sent (shape_of old) old.actor) old now (marks_none now.local none) (marks_done (shape_of old) old.actor now.local none) so
  where
    of_none : (key : Option Key) → key ≡ None → AreMarks (shape_of now) key now.local.marks.vcpus.0 → now.local.marks.vcpus.0 ≡ 0
    of_none key e are = let P : Option Key → Type 0 = λ k. AreMarks (shape_of now) k now.local.marks.vcpus.0 in subst P e are

    empty : (local.marks.key ≡ None) ⊎ (local.marks.vcpus.0 ≡ 0) → now.local.marks.vcpus.0 ≡ 0
    empty (inl key) = of_none now.local.marks.key (ap (λ l. l.marks.key) (sym same) ∙ key) is.local.marks
    empty (inr set) = ap (λ l. l.marks.vcpus.0) (sym same) ∙ set

kick_made : (now next : Seen) (v found : ℕ) → AddsStep now next (Kick v) found → next.local ≡ record now.local { owes = without_vcpu now.local.owes v }
kick_made now next v found add = local_made now next (Kick v) found add

pub kick_more : (old now next : Seen) (set : Targets) (v found : ℕ) → set ≡ now.local.owes → IsFirst set v → AddsStep now next (Kick v) found → Sending kicks_owed kicks_sent old now → Sending kicks_owed kicks_sent old next
kick_more old now next set v found same first add so =
    let mine : IsFirst now.local.owes v = subst (λ s. IsFirst s v) same first in
    let made = kick_made now next v found add in
    sending_more kicks_owed kicks_sent old now next (Kick v) found refl (kick_owed v now.local mine ∙ ap (λ l. Kick v ∷ kicks_owed l) (sym made)) (ap kicks_sent made) add so

pub kick_fewer : (now next : Seen) (set : Targets) (v found : ℕ) → set ≡ now.local.owes → IsFirst set v → AddsStep now next (Kick v) found → length (kicks_owed next.local) < length (kicks_owed now.local)
kick_fewer now next set v found same is add =
    let mine : IsFirst now.local.owes v = subst (λ s. IsFirst s v) same is in
    let made = kick_made now next v found add in
    let first : length (kicks_owed now.local) ≡ suc (length (kicks_owed next.local)) = ap length (kick_owed v now.local mine ∙ ap (λ l. Kick v ∷ kicks_owed l) (sym made)) in
    omega (arith, first)

pub kicks_over : (old now : Seen) (set : Targets) → set ≡ now.local.owes → set.0 ≡ 0 → Sending kicks_owed kicks_sent old now → Sends old now (kicks_owed old.local) (kicks_sent old.local)
kicks_over old now set same over so = let none : now.local.owes.0 ≡ 0 = ap (λ s. s.0) (sym same) ∙ over in sending_all kicks_owed kicks_sent old now (kicks_none now.local none) (kicks_done now.local none) so

-- sending kicks owes no mark
pub kicks_keep_marks : (old now : Seen) → Sending kicks_owed kicks_sent old now → IsTrue (owes_no_mark old.local) → IsTrue (owes_no_mark now.local)
kicks_keep_marks old now so none = ap owes_no_mark so.local ∙ none

-- Both.

silent_sending : (shape : GuestShape) (actor : ℕ) (local : Local) (own part : List Made) → IsTrue (list_all is_sending (steps_of part)) → events_of shape actor local own part ≡ []
silent_sending shape actor local own [] h = refl
silent_sending shape actor local own (made ∷ part) h =
    let parts = and_parts (is_sending made.step) (list_all is_sending (steps_of part)) h in
    ap (λ event. option_to_list event ++ events_of shape actor (local_after shape actor local made.step made.found) (own ++ made ∷ []) part) (of made.step parts.0) ∙ silent_sending shape actor (local_after shape actor local made.step made.found) (own ++ made ∷ []) part parts.1
  where
    of : (step : CoreStep) → IsTrue (is_sending step) → stands_for shape actor local own step made.found ≡ None
    of (Mark key vcpu) h = refl
    of (Kick vcpu) h = refl
    of _ h = absurd (cc)

piece_sending : (seen : Seen) (part : List Made) → IsTrue (list_all is_sending (steps_of part)) → IsPiece seen part
piece_sending seen [] h = piece_nil seen
piece_sending seen (made ∷ part) h =
    let parts = and_parts (is_sending made.step) (list_all is_sending (steps_of part)) h in
    piece_cons seen made part (sending_plain made.step parts.0) (sending_known seen made.step parts.0) (piece_sending (seen_after seen (made ∷ [])) part parts.1)

all_marks : (key : Key) (vcpus : List ℕ) → IsTrue (list_all is_sending (map (Mark key) vcpus))
all_marks key [] = refl
all_marks key (v ∷ vcpus) = all_marks key vcpus

all_kicks : (vcpus : List ℕ) → IsTrue (list_all is_sending (map Kick vcpus))
all_kicks [] = refl
all_kicks (v ∷ vcpus) = all_kicks vcpus

owed_sending : (local : Local) → IsTrue (list_all is_sending (marks_owed local))
owed_sending local = of local.marks.key
  where
    of : (k : Option Key) → IsTrue (list_all is_sending (option_map_or (λ key. map (Mark key) (vcpus_in local.marks.vcpus)) k []))
    of None = refl
    of (Some key) = all_marks key (vcpus_in local.marks.vcpus)

pub settles : (old mid new : Seen) → Sends old mid (marks_owed old.local) (marks_sent (shape_of old) old.actor old.local) → Sends mid new (kicks_owed mid.local) (kicks_sent mid.local) → Settles old new
settles old mid new marks kicks =
    let part = marks.part ++ kicks.part in
    let kicks_are : steps_of kicks.part ≡ kicks_owed old.local = kicks.steps_are ∙ ap kicks_owed marks.local_is in
    let sending : IsTrue (list_all is_sending (steps_of part))
    = ap (list_all is_sending) (map-append (λ made. made.step) marks.part kicks.part)
    ∙ list_all-append is_sending (steps_of marks.part) (steps_of kicks.part)
    ∙ both (list_all is_sending (steps_of marks.part)) (list_all is_sending (steps_of kicks.part)) (ap (list_all is_sending) marks.steps_are ∙ owed_sending old.local) (ap (list_all is_sending) kicks_are ∙ all_kicks (vcpus_in old.local.owes)) in
    record {
      marks = marks.part;
      kicks = kicks.part;
      adds = adds_join old mid new marks.part kicks.part marks.adds kicks.adds;
      marks_are = marks.steps_are;
      kicks_are = kicks_are;
      local_is = kicks.local_is ∙ ap kicks_sent marks.local_is;
      none_taken = list_all-append (λ made. is_none made.tables) marks.part kicks.part ∙ both (takes_none marks.part) (takes_none kicks.part) marks.none_taken kicks.none_taken;
      silent = silent_sending (shape_of old) old.actor old.local old.own part sending;
      piece = piece_sending old part sending;
    }
  where
    both : (a b : Bool) → IsTrue a → IsTrue b → (a && b) ≡ true
    both true true h k = refl
    both true false h k = absurd (cc)
    both false b h k = absurd (cc)
