-- How far a call has come with its commands.
use Rattle.std.proofs.Common.{◌≡◌, ◌↔◌, ℕ, IsTrue, ◌+◌, ◌<◌, ◌≤◌, Bool, true, false, cond, List, [], ◌∷◌, drop, length, get_or, Option, Some, None, Result, Ok, is_none, refl, sym, ap, ◌∙◌, subst, arith}
use Rattle.std.specs.Option.{option_map, option_map_or}
use Rattle.std.proofs.lemmas.List.{drop_more}
use Rattle.history_commands.specs.Words.{GuestShape}
use Rattle.history_commands.specs.Registers.{Maps, Command, BadCommand, fault_of, fault_number, number_of}
use Rattle.history_commands.specs.LegalLists.ItsCmd.Command.{decoded}
use Rattle.history_commands.specs.Calls.{Event, Done, Stalls, Happened, Part, View, command_parts, command_places, command_words, decoded_parts, is_beside, next_offset, parts, queue_event, takes_command, words_read}
use Rattle.history_commands.specs.GicCall.declared.command.Part.TheVariants.{Forget}
use Rattle.history_commands.specs.GicCall.declared.event.Event.TheVariants.{Queue}
use Rattle.history_commands.specs.GicCall.declared.event.Found.TheVariants.{Nothing}
use Rattle.history_commands.specs.declared.its.Its.{Its}
use Rattle.history_commands.specs.declared.walk.Step.{Step}
use Rattle.history_commands.specs.declared.walk.Step.TheVariants.{BetweenCommands, InCommand, AtEnd, AfterEnd}
use Rattle.history_commands.specs.declared.walk.Walk.{Walk}
use Rattle.history_commands.specs.Known.{view_by}
use Rattle.history_commands.specs.Stage.{Stage, Between, Within, Ending, Over, AreReadBy, IsPartMade, IsQueueMade, FitsParts, FitsTaken, FitsNamed, Follow, MayStop, noting, named_after}
use Rattle.history_commands.specs.Followed.{stage_at, stage_of, begun, IsFetched, CanBegin}
use Rattle.history_commands.proofs.StepLemmas.{goes_beside, goes_named, went_beside, went_named}

-- The next command, by its doublewords.

module _ (shape : GuestShape) (view : View) (words : List ℕ) (same : words ≡ command_words shape view) where
  pub parts_good : (command : Command) → decoded words ≡ Ok command → fault_of shape view.maps command ≡ None → parts shape view.maps view.targets command ≡ command_parts shape view
  parts_good command is good =
      sym
      (ap (λ (ws : List ℕ). cond (is_none (fault_number shape view.maps (decoded ws))) (decoded_parts shape view (decoded ws)) []) (sym same)
      ∙ ap (λ (r : Result Command BadCommand). cond (is_none (fault_number shape view.maps r)) (decoded_parts shape view r) []) is
      ∙ ap (λ o. cond (is_none (option_map number_of o)) (parts shape view.maps view.targets command) []) good)

  pub parts_bad : (fault : ℕ) → fault_number shape view.maps (decoded words) ≡ Some fault → [] ≡ command_parts shape view
  parts_bad fault bad =
      sym
      (ap (λ (ws : List ℕ). cond (is_none (fault_number shape view.maps (decoded ws))) (decoded_parts shape view (decoded ws)) []) (sym same) ∙ ap (λ (o : Option ℕ). cond (is_none o) (decoded_parts shape view (decoded words)) []) bad)

  pub queue_good : (offset : ℕ) (command : Command) → decoded words ≡ Ok command → fault_of shape view.maps command ≡ None → offset ≡ next_offset view → queue_event shape view ≡ Queue offset (Done words)
  queue_good offset command is good next =
      ap (λ (ws : List ℕ). option_map_or (λ (fault : ℕ). Queue view.offset (Stalls fault)) (fault_number shape view.maps (decoded ws)) (Queue (next_offset view) (Done ws))) (sym same)
      ∙ ap (λ (o : Option ℕ). option_map_or (λ (fault : ℕ). Queue view.offset (Stalls fault)) o (Queue (next_offset view) (Done words))) (ap (fault_number shape view.maps) is ∙ ap (option_map number_of) good) ∙ ap (λ (n : ℕ). Queue n (Done words)) (sym next)

  pub queue_bad : (fault : ℕ) → fault_number shape view.maps (decoded words) ≡ Some fault → queue_event shape view ≡ Queue view.offset (Stalls fault)
  queue_bad fault bad =
      ap (λ (ws : List ℕ). option_map_or (λ (fault : ℕ). Queue view.offset (Stalls fault)) (fault_number shape view.maps (decoded ws)) (Queue (next_offset view) (Done ws))) (sym same)
      ∙ ap (λ (o : Option ℕ). option_map_or (λ (fault : ℕ). Queue view.offset (Stalls fault)) o (Queue (next_offset view) (Done words))) bad

pub queue_decided : (shape : GuestShape) (view : View) (happened : Happened) (event : Event) (r x : Bool) → queue_event shape view ≡ event → IsTrue r ↔ ((happened.event ≡ event) × (happened.found ≡ Nothing)) → x ≡ r → IsTrue x ↔ IsQueueMade shape view happened
queue_decided shape view happened event r x is so e = (
  λ h. let made = so.0 (sym e ∙ h) in record { event_is = made.0 ∙ sym is; found_is = made.1 },
  λ made. e ∙ so.1 (made.event_is ∙ is, made.found_is),
)

module _ (shape : GuestShape) (targets : ℕ → ℕ → Option ℕ) where
  -- The next command begins.

  module _ (walk : Walk) (between : walk.step ≡ BetweenCommands) where
    abbrev pub seen : View
    seen = view_by walk.its walk.tables (targets walk.number) walk.reads

    stage_is : stage_of walk ≡ Between walk.number walk.its walk.tables walk.reads
    stage_is = ap (λ s. stage_at s walk) between

    pub can_decided : (takes x : Bool) → takes ≡ takes_command seen → IsTrue x ↔ IsFetched shape seen walk.reads takes → IsTrue x ↔ CanBegin shape targets (stage_of walk)
    can_decided takes x is so = subst (λ (s : Stage). IsTrue x ↔ CanBegin shape targets s) (sym stage_is) (subst (λ (t : Bool). IsTrue x ↔ IsFetched shape seen walk.reads t) is so)

    pub begun_none : false ≡ takes_command seen → Ending ≡ begun shape targets (stage_of walk)
    begun_none is = sym (ap (begun shape targets) stage_is ∙ ap (λ b. cond b (Within walk.number walk.its walk.tables walk.reads (command_parts shape seen) walk.reads) Ending) (sym is))

    pub begun_next : (fetch : List Happened) (made : List Part) → true ≡ takes_command seen → fetch ≡ walk.reads → made ≡ command_parts shape seen → Within walk.number walk.its walk.tables fetch made walk.reads ≡ begun shape targets (stage_of walk)
    begun_next fetch made is copied parts_are =
        ap (λ f. Within walk.number walk.its walk.tables f made walk.reads) copied ∙ ap (λ ps. Within walk.number walk.its walk.tables walk.reads ps walk.reads) parts_are
        ∙ sym (ap (begun shape targets) stage_is ∙ ap (λ b. cond b (Within walk.number walk.its walk.tables walk.reads (command_parts shape seen) walk.reads) Ending) (sym is))

  pub fetched_decided : (its : Its) (maps : Maps) (number : ℕ) (slice reads : List Happened) (r x : Bool) → slice ≡ reads
      → (IsTrue r ↔ AreReadBy (view_by its maps (targets number) slice) slice (command_places shape (view_by its maps (targets number) slice))) → x ≡ r → IsTrue x ↔ IsFetched shape (view_by its maps (targets number) reads) reads true
  fetched_decided its maps number slice reads r x same so e =
      subst (λ (rs : List Happened). IsTrue x ↔ AreReadBy (view_by its maps (targets number) rs) rs (command_places shape (view_by its maps (targets number) rs))) same (λ h. so.0 (sym e ∙ h), λ all. e ∙ so.1 all)

  -- an event that is named may come next as the command begins exactly where it may before
  pub begun_fits : (stage : Stage) (happened : Happened) → CanBegin shape targets stage → FitsNamed shape targets (begun shape targets stage) happened ↔ FitsNamed shape targets stage happened
  begun_fits (Between number its maps reads) happened can = of (takes_command (view_by its maps (targets number) reads)) can
    where
      of : (b : Bool) → IsFetched shape (view_by its maps (targets number) reads) reads b
          → FitsNamed shape targets (cond b (Within number its maps reads (command_parts shape (view_by its maps (targets number) reads)) reads) Ending) happened ↔ FitsTaken shape (view_by its maps (targets number) reads) reads b happened
      of true read = (λ f. (read, f), λ f. f.1)
      of false read = (λ f. f, λ f. f)
  begun_fits (Within number its maps fetch made reads) happened can = (λ f. f, λ f. f)
  begun_fits Ending happened can = (λ f. f, λ f. f)
  begun_fits Over happened can = (λ f. f, λ f. f)

  pub begin_decided : (before after : Stage) (happened : Happened) (ok : Bool) → CanBegin shape targets before → after ≡ begun shape targets before → IsTrue ok ↔ FitsNamed shape targets after happened → IsTrue ok ↔ FitsNamed shape targets before happened
  begin_decided before after happened ok can is so =
      let both = begun_fits before happened can in
      let fits = subst (λ (s : Stage). IsTrue ok ↔ FitsNamed shape targets s happened) is so in (
        λ h. both.0 (fits.0 h),
        λ f. fits.1 (both.1 f),
      )

  -- Within a command.

  module _ (walk : Walk) (inside : walk.step ≡ InCommand) (happened : Happened) where
    abbrev pub known : View
    known = view_by walk.its walk.tables (targets walk.number) walk.fetch

    pub part_fits : (part : Part) (rest : List Part) (ok : Bool) → drop walk.made walk.parts ≡ part ∷ rest → IsTrue ok ↔ IsPartMade shape (targets walk.number) part walk.reads happened → IsTrue ok ↔ FitsNamed shape targets (stage_of walk) happened
    part_fits part rest ok left so =
        subst (λ (s : Step). IsTrue ok ↔ FitsNamed shape targets (stage_at s walk) happened) (sym inside) (subst (λ (ps : List Part). IsTrue ok ↔ FitsParts shape known ps walk.reads happened) (sym left) so)

    pub end_fits : (ok : Bool) → drop walk.made walk.parts ≡ [] → IsTrue ok ↔ IsQueueMade shape known happened → IsTrue ok ↔ FitsNamed shape targets (stage_of walk) happened
    end_fits ok left so = subst (λ (s : Step). IsTrue ok ↔ FitsNamed shape targets (stage_at s walk) happened) (sym inside) (subst (λ (ps : List Part). IsTrue ok ↔ FitsParts shape known ps walk.reads happened) (sym left) so)

    abbrev pub after_part : Walk
    after_part = record walk { reads = words_read shape known; made = walk.made + 1 }

    pub part_stage : (part : Part) (after : Walk) → drop walk.made walk.parts ≡ part ∷ drop (walk.made + 1) walk.parts → after ≡ after_part → stage_of after ≡ named_after shape targets (stage_of walk) happened
    part_stage part after left is =
        ap stage_of is ∙ ap (λ s. stage_at s after_part) inside
        ∙ sym (ap (λ s. named_after shape targets (stage_at s walk) happened) inside ∙ ap (λ ps. named_after shape targets (Within walk.number walk.its walk.tables walk.fetch ps walk.reads) happened) left)

-- the part that is next
pub next_left : (walk : Walk) (slice : List Part) (n : ℕ) → slice ≡ walk.parts → n ≡ length walk.parts → walk.made < n → drop walk.made walk.parts ≡ get_or slice walk.made (Forget 0) ∷ drop (walk.made + 1) walk.parts
next_left walk slice n same len lt = drop_more walk.parts walk.made (Forget 0) (omega (arith, len, lt)) ∙ ap (λ (ps : List Part). get_or ps walk.made (Forget 0) ∷ drop (walk.made + 1) walk.parts) (sym same)

pub one_more : (n m : ℕ) → m ≡ n → m ≤ n + 1
one_more n m e = omega (arith, e)

-- One event after the other.

module _ (shape : GuestShape) (targets : ℕ → ℕ → Option ℕ) (actor : ℕ) (is_open : Bool) where
  abbrev Goes : Stage → List Happened → Type 0
  Goes stage piece = Follow shape targets actor is_open stage piece

  module _ (piece : List Happened) (i : ℕ) (one : Happened) (there : i < length piece) (at : get_or piece i one ≡ one) where
    here : drop i piece ≡ one ∷ drop (i + 1) piece
    here = drop_more piece i one there ∙ ap (λ x. x ∷ drop (i + 1) piece) at

    pub next_beside : (stage after : Stage) (P : Type 0) → is_beside (Some actor) one.event ≡ true → after ≡ noting stage one → P ↔ Goes stage (drop i piece) → P ↔ Goes after (drop (i + 1) piece)
    next_beside stage after P e is so =
        subst (λ (s : Stage). P ↔ Goes s (drop (i + 1) piece)) (sym is) (
          λ p. went_beside shape targets actor is_open stage one (drop (i + 1) piece) e (subst (Goes stage) here (so.0 p)),
          λ g. so.1 (subst (Goes stage) (sym here) (goes_beside shape targets actor is_open stage one (drop (i + 1) piece) e g)),
        )

    pub next_named : (stage after : Stage) (P : Type 0) → is_beside (Some actor) one.event ≡ false → FitsNamed shape targets stage one → after ≡ named_after shape targets stage one → P ↔ Goes stage (drop i piece) → P ↔ Goes after (drop (i + 1) piece)
    next_named stage after P e fits is so =
        subst (λ (s : Stage). P ↔ Goes s (drop (i + 1) piece)) (sym is) (
          λ p. (went_named shape targets actor is_open stage one (drop (i + 1) piece) e (subst (Goes stage) here (so.0 p))).1,
          λ g. so.1 (subst (Goes stage) (sym here) (goes_named shape targets actor is_open stage one (drop (i + 1) piece) e fits g)),
        )

    pub next_unfit : (stage : Stage) (P : Type 0) (ok : Bool) → is_beside (Some actor) one.event ≡ false → IsTrue ok ↔ FitsNamed shape targets stage one → ok ≡ false → P ↔ Goes stage (drop i piece) → IsTrue false ↔ P
    next_unfit stage P ok e fits none so = (
      λ h. absurd (cc),
      λ p. let h : IsTrue ok = fits.1 (went_named shape targets actor is_open stage one (drop (i + 1) piece) e (subst (Goes stage) here (so.0 p))).0 in absurd (cc),
    )

  pub none_left : (stage : Stage) (rest : List Happened) (P : Type 0) (r : Bool) → rest ≡ [] → IsTrue r ↔ MayStop is_open stage → P ↔ Goes stage rest → IsTrue r ↔ P
  none_left stage rest P r none stops so =
      let left = subst (λ (xs : List Happened). P ↔ Goes stage xs) none so in (
        λ h. left.1 (stops.0 h),
        λ p. stops.1 (left.0 p),
      )

pub open_stops : (stage : Stage) (is_open r : Bool) → is_open ≡ true → r ≡ true → IsTrue r ↔ MayStop is_open stage
open_stops (Between number its maps reads) is_open r o e = (λ h. o, λ s. e)
open_stops (Within number its maps fetch made reads) is_open r o e = (λ h. o, λ s. e)
open_stops Ending is_open r o e = (λ h. o, λ s. e)
open_stops Over is_open r o e = (λ h. tt, λ s. e)

pub over_stops : (walk : Walk) (is_open over r : Bool) → is_open ≡ false → IsTrue over ↔ (walk.step ≡ AfterEnd) → r ≡ over → IsTrue r ↔ MayStop is_open (stage_of walk)
over_stops walk is_open over r o so e = of walk.step (λ h. so.0 (sym e ∙ h), λ s. e ∙ so.1 s)
  where
    of : (s : Step) → IsTrue r ↔ (s ≡ AfterEnd) → IsTrue r ↔ MayStop is_open (stage_at s walk)
    of BetweenCommands k = (λ h. let n = k.0 h in absurd (cc), λ m. absurd (cc))
    of InCommand k = (λ h. let n = k.0 h in absurd (cc), λ m. absurd (cc))
    of AtEnd k = (λ h. let n = k.0 h in absurd (cc), λ m. absurd (cc))
    of AfterEnd k = (λ h. tt, λ m. k.1 refl)
