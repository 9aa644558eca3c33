-- The parts of a command.
use Rattle.std.proofs.Common.{◌≡◌, ◌≢◌, ℕ, ◌<◌, ◌==◌, ◌&&◌, not, Bool, true, false, if◌then◌else◌, IsTrue, IfSome, List, [], ◌∷◌, ◌++◌, map, All, Option, Some, None, is_none, refl, sym, ap, subst, ◌∙◌, arith}
use Rattle.std.specs.List.{list_all}
use Rattle.std.specs.Option.{option_map_or}
use Rattle.std.proofs.lemmas.Grind.{common_steps}
use Rattle.std.proofs.lemmas.Bool.{and_parts, eq-eqb}
use Rattle.std.proofs.lemmas.List.{append_assoc}
use Rattle.std.proofs.lemmas.List.Folds.{list_all-append}
use Rattle.std.proofs.lemmas.List.Elements.{All-nil, All-cons, filter-append, All-weaker}
use Rattle.port_call.specs.Words.{Key, Lpi, ClearPending, GuestShape, has_interrupt, Irq as IrqRecord, Route, Affinity, Target, target_in, is_number, is_routed_as, irq_of}
use Rattle.port_call.proofs.GicBase.KeyLemmas.{same_itself}
use Rattle.port_call.specs.Registers.{is_enabled, priority_of, config_address}
use Rattle.port_call.specs.Calls.{Part, Map, Clear, Event, Touch as TouchEvent, Found, Place, Propbaser, Touching, Register, MapLpi, Operation, lpi_event, config_byte, Happened, HandsOut, IsLastRead, is_beside, named_of, held_at, byte_places, memory_places, View}
use Rattle.port_call.specs.GicCall.declared.command.Part.TheVariants.{Forget, Retarget, Raise as RaisePart, Configure}
use Rattle.port_call.specs.GicCall.declared.event.Event.TheVariants.{Read, Raise as RaiseEvent}
use Rattle.port_call.specs.GicCall.declared.event.Found.TheVariants.{Nothing}
use Rattle.port_call.specs.GicCall.declared.event.Place.TheVariants.{Word, Queue as QueuePlace, Ctlr as CtlrPlace, Lpis}
use Rattle.port_call.specs.GicCall.declared.touch.Touching.TheVariants.{Retarget as RetargetLpi, Configure as ConfigureLpi, Forget as ForgetLpi}
use Rattle.port_call.specs.Core.{Local, Made, Look, Raise, Irq, concerned, local_after, succeeds, is_on, owes_nothing, place_of_word, Seen, Adds, AddsStep, made_by, shape_of, seen_after, part_events, found_record, word_of, IsIrqWord, makes, Progress, is_end_of, progress_of, stepped, scan_on, IsProperStep, Scan, idle, is_idle, scan_looked, may_name}
use Rattle.port_call.proofs.PortCore.PortLemmas.{adds_join}
use Rattle.port_call.specs.CoreProper.Progress.{changed_by}
use Rattle.port_call.specs.About.{is_about, are_about, IsNaming}
use Rattle.port_call.specs.Memory.{view_by}
use Rattle.port_call.specs.Piece.{IsIdle, StaysSo, IsGoodPiece}
use Rattle.port_call.specs.Rest.{IsAtEase, StaysAtEase}
use Rattle.port_call.specs.Tell.{Tells}
use Rattle.port_call.specs.Touch.{Touches}
use Rattle.port_call.proofs.PieceLemmas.{good_joins, idle_is, idle_on, scan_free, piece_nil, seen_nil}
use Rattle.port_call.proofs.RestLemmas.{look_kept, owes_none, told_at_ease}
use Rattle.port_call.proofs.SettleLemmas.{handed_none}
use Rattle.port_call.proofs.TouchLemmas.{named_good}
use Rattle.port_call.proofs.TurnLemmas.{events_then}
use Rattle.its_exec.specs.declared.fetch.Fetched.{Fetched}
use Rattle.its_exec.specs.Known.{HasRead, HasFetched, Reading, IsUntouched, AgreeFound, first_step, is_read, is_read_event, are_within, are_going}
use Rattle.its_exec.specs.Config.{is_kept, IsUnread, Keeps, HoldsCommand, config_places, ReadsConfig}
use Rattle.its_exec.specs.Parts.{lpi_of, has_vcpu_of, is_part_of, LooksAtTarget, Prefix, GoesFirst, IsDue, MakesPart, DoesPart}
use Rattle.its_exec.proofs.FrameLemmas.{both, within_joins, going_joins, first_is, first_stays}
use Rattle.its_exec.proofs.FetchLemmas.{last_before}
use Rattle.its_exec.proofs.ConfigLemmas.{holds_on, has_on, keeps_on, keeps_none, same_on}
use Rattle.its_exec.proofs.AboutLemmas.{about_within, about_going, about_same, about_untouched, tells_about}

-- Events.

-- reads are beside what a call names
pub reads_beside : (actor : Option ℕ) (reads : List Happened) → IsTrue (list_all is_read reads) → named_of actor reads ≡ []
reads_beside actor [] h = refl
reads_beside actor (one ∷ reads) h =
    let parts = and_parts (is_read one) (list_all is_read reads) h in
    ap (λ b. if b then one ∷ named_of actor reads else named_of actor reads) (of one.event parts.0) ∙ reads_beside actor reads parts.1
  where
    of : (event : Event) → IsTrue (is_read_event event) → not (is_beside actor event) ≡ false
    of (Read place) k = refl
    of _ k = absurd (cc)

-- reads, and one event
pub makes_part :
    (actor : Option ℕ) (shape : GuestShape) (targets : ℕ → Option ℕ) (part : Part) (view : View) (before reads : List Happened) (event : Event) (found : Found) → IsTrue (list_all is_read reads) → is_beside actor event ≡ false
    → lpi_event shape view targets part ≡ event → HandsOut view event found → All (λ place. IsLastRead place (held_at view place) (before ++ (reads ++ (record { event = event; found = found }) ∷ []))) (byte_places shape view targets part)
    → MakesPart actor shape targets part before (reads ++ (record { event = event; found = found }) ∷ [])
makes_part actor shape targets part view before reads event found are_reads named is hands read =
    let happened : Happened = record { event = event; found = found } in
    let only : named_of actor (reads ++ happened ∷ []) ≡ happened ∷ []
    = filter-append (λ h. not (is_beside actor h.event)) reads (happened ∷ [])
    ∙ ap (λ events. events ++ named_of actor (happened ∷ [])) (reads_beside actor reads are_reads)
    ∙ ap (λ b. if not b then happened ∷ [] else []) named in
    let Hands : Happened → Type 0 = λ h. HandsOut view h.event h.found in
    record {
      view = view;
      made =
          record {
            events_are = ap (map (λ h. h.event)) only ∙ ap (λ e. e ∷ []) (sym is);
            found = subst (All Hands) (sym only) (All-cons Hands happened [] hands (All-nil Hands));
            reads = read;
          };
      ends = record { before = reads; found = found; split = ap (λ e. reads ++ (record { event = e; found = found }) ∷ []) (sym is) };
    }

-- The look at an LPI's target.

routed_there : (shape : GuestShape) (id : ℕ) (route : Route) → IsTrue (is_routed_as shape (Lpi id) route) → IfSome (target_in route shape) (λ vcpu. vcpu < shape.vcpus)
routed_there shape id (Affinity a) h = absurd (cc)
routed_there shape id (Target None) h = tt
routed_there shape id (Target (Some vcpu)) h = grind (arith, common_steps, h)

-- an actor after a look at it, with no scan in progress, in a call that does not end it
looked_stays : (shape : GuestShape) (actor : ℕ) (key : Key) (made : Made) (p : Progress) → made.step ≡ Look (Irq key) → p.scan ≡ idle → is_end_of shape actor p.operation key ≡ false
    → stepped shape actor made p ≡ record p { local = local_after shape actor p.local made.step made.found; own = p.own ++ made ∷ [] }
looked_stays shape actor key made p step none other =
    let local = local_after shape actor p.local made.step made.found in
    let own = p.own ++ made ∷ [] in
    let irq = irq_of made.found in
    let by : Scan → Bool → Progress = λ scan ends. record p { scan = scan_looked shape key irq scan; far = if ends then Some (is_number actor irq.act_by) else p.far; local = local; own = own } in
    let with_scan : Scan → Progress = λ scan. record p { scan = scan; local = local; own = own } in
    ap (λ s. scan_on shape actor (record (changed_by shape actor s made.found (succeeds shape actor p.local made.step made.found) p) { local = local; own = own })) step
    ∙ ap (λ scan. scan_on shape actor (by scan (is_end_of shape actor p.operation key))) none
    ∙ ap (λ ends. scan_on shape actor (by idle ends)) other
    ∙ ap (λ scan. scan_on shape actor (with_scan scan)) (sym none)
    ∙ idle_on shape actor (with_scan p.scan) none

look_good : (seen : Seen) (key : Key) (made : Made) (p : Progress) → made.step ≡ Look (Irq key) → IsIdle seen p → is_end_of (shape_of seen) seen.actor p.operation key ≡ false → IsGoodPiece seen p (made ∷ [])
look_good seen key made p step is other =
    let shape = shape_of seen in
    let none = idle_is p.scan is.scan in
    let after = looked_stays shape seen.actor key made p step none other in
    let back : Progress → Progress = λ q. record q { local = p.local; own = p.own; failed = p.failed } in
    record {
      proper = (proper_look, tt);
      stays = record { same = ap back after; failed = λ h. ap (λ q. q.failed) (sym after) ∙ h };
      ends =
          record {
            local = ap (λ q. q.local) after ∙ ap (λ local. local_after shape seen.actor local made.step made.found) is.local;
            own = ap (λ q. q.own) after ∙ ap (λ own. own ++ made ∷ []) is.own;
            scan = ap (λ q. is_idle q.scan) after ∙ is.scan;
          };
    }
  where
    proper_look : IsProperStep (shape_of seen) seen.actor p made.step
    proper_look =
        subst (IsProperStep (shape_of seen) seen.actor p) (sym step)
        (record { scan = scan_free (shape_of seen) seen.actor p (Look (Irq key)) (idle_is p.scan is.scan); trap = refl; failed = refl; far = refl; refill = refl; want = refl; seen = refl })

pub looked_target : (old new : Seen) (id found : ℕ) (target : Option ℕ) → IsTrue (owes_nothing old.local) → IsIrqWord (shape_of old) (Lpi id) found → target ≡ target_in (irq_of found).route (shape_of old) → AddsStep old new (Look (Irq (Lpi id))) found → LooksAtTarget old new id target
looked_target old new id found target owes valid is add =
    let made = made_by old (Look (Irq (Lpi id))) found add.tables in
    let There : Option ℕ → Type 0 = λ o. IfSome o (λ vcpu. vcpu < (shape_of old).vcpus) in
    record {
      look = made;
      adds = add.adds;
      step_is = refl;
      target_is = is;
      there = subst There (sym is) (routed_there (shape_of old) id (irq_of found).route valid.irq.route);
      local_is = ap (λ seen. seen.local) add.adds.new_is ∙ look_kept (shape_of old) old.actor (Lpi id) (irq_of found) old.local (owes_none old.local owes).cands;
      none_taken = both (is_none add.tables) true (handed_none (Look (Irq (Lpi id))) found old add.tables refl add.handed) refl;
      silent = refl;
      piece = λ p idle other. look_good old (Lpi id) made p refl idle other;
    }

-- What comes before the touch of a part.

pub prefix_none : (seen : Seen) (address id : ℕ) → Prefix seen seen address id []
prefix_none seen address id =
    record {
      adds = record { new_is = sym (seen_nil seen) };
      within = refl;
      going = refl;
      local = refl;
      keeps = keeps_none seen address;
      reads = refl;
      untouched = λ other there differ is. is;
      piece = λ p idle other. piece_nil seen p idle;
    }

pub prefix_reading : (old mid : Seen) (address id : ℕ) (steps : List Made) → Reading old mid steps → Keeps old mid address steps → Prefix old mid address id steps
prefix_reading old mid address id steps reading keeps =
    record {
      adds = reading.adds;
      within = reading.within;
      going = reading.going;
      local = reading.local;
      keeps = keeps;
      reads = reading.reads;
      untouched = λ other there differ is. reading.untouched other there is;
      piece = λ p idle other. reading.piece p idle;
    }

look_about : (id : ℕ) (look : Made) → look.step ≡ Look (Irq (Lpi id)) → IsTrue (are_about (Lpi id) (look ∷ []))
look_about id look step = ap (λ s. is_about (Lpi id) s && true) step ∙ both (is_about (Lpi id) (Look (Irq (Lpi id)))) true (same_itself (Lpi id)) refl

unread_none : (place : Place) (events : List Happened) → events ≡ [] → IsUnread place events
unread_none place events e = subst (IsUnread place) (sym e) (All-nil (λ happened. happened.event ≡ Read place → ⊥))

pub prefix_look : (old mid : Seen) (address id : ℕ) (target : Option ℕ) → IsTrue (has_interrupt (shape_of old) (Lpi id)) → (looks : LooksAtTarget old mid id target) → Prefix old mid address id (looks.look ∷ [])
prefix_look old mid address id target there looks =
    let about = look_about id looks.look looks.step_is in
    record {
      adds = looks.adds;
      within = about_within id (looks.look ∷ []) about looks.none_taken;
      going = about_going id (looks.look ∷ []) about looks.none_taken;
      local = looks.local_is;
      keeps =
          record { each = λ place kept. record { same = about_same old mid address id (looks.look ∷ []) place there about looks.adds looks.none_taken kept; unread = unread_none place (part_events old (looks.look ∷ [])) looks.silent } };
      reads = ap (list_all is_read) looks.silent;
      untouched = λ other its differ is. about_untouched old mid id other (looks.look ∷ []) there its differ about looks.adds looks.none_taken is;
      piece = looks.piece;
    }

-- the operation stays
stays_ending : (shape : GuestShape) (actor : ℕ) (p q : Progress) (key : Key) → StaysSo p q → is_end_of shape actor p.operation key ≡ false → is_end_of shape actor q.operation key ≡ false
stays_ending shape actor p q key stays other = ap (λ r. is_end_of shape actor r.operation key) stays.same ∙ other

pub good_then : (old mid : Seen) (p : Progress) (early late : List Made) → Adds old mid early → IsGoodPiece old p early → ((q : Progress) → StaysSo p q → IsIdle mid q → IsGoodPiece mid q late) → IsGoodPiece old p (early ++ late)
good_then old mid p early late add one two =
    let q = progress_of (shape_of old) old.actor p (map makes early) in
    let Late : Seen → Type 0 = λ seen. IsGoodPiece seen q late in
    let Idle : Seen → Type 0 = λ seen. IsIdle seen q in
    good_joins old p early late one (subst Late add.new_is (two q one.stays (subst Idle (sym add.new_is) one.ends)))

pub prefix_joins : (old mid new : Seen) (address id : ℕ) (early late : List Made) → Prefix old mid address id early → Prefix mid new address id late → Prefix old new address id (early ++ late)
prefix_joins old mid new address id early late one two =
    let shape : shape_of mid ≡ shape_of old = ap shape_of one.adds.new_is in
    let There : ℕ → GuestShape → Type 0 = λ other shape. IsTrue (has_interrupt shape (Lpi other)) in
    let Ends : Progress → Seen → Type 0 = λ q seen. is_end_of (shape_of seen) seen.actor q.operation (Lpi id) ≡ false in
    record {
      adds = adds_join old mid new early late one.adds two.adds;
      within = within_joins early late one.within two.within;
      going = going_joins early late one.going two.going;
      local = two.local ∙ one.local;
      keeps = keeps_on old mid new address early late one.adds one.keeps two.keeps;
      reads =
          ap (list_all is_read) (events_then old mid early late one.adds) ∙ list_all-append is_read (part_events old early) (part_events mid late)
          ∙ both (list_all is_read (part_events old early)) (list_all is_read (part_events mid late)) one.reads two.reads;
      untouched = λ other there differ is. two.untouched other (subst (There other) (sym shape) there) differ (one.untouched other there differ is);
      piece = λ p idle other.
          good_then old mid p early late one.adds (one.piece p idle other)
          (λ q stays idle_mid. two.piece q idle_mid (subst (Ends q) (sym one.adds.new_is) (stays_ending (shape_of old) old.actor p q (Lpi id) stays other)));
    }

-- The touch.

due_naming : (old mid : Seen) (address id : ℕ) (p q : Progress) (steps : List Made) → IsTrue (has_interrupt (shape_of old) (Lpi id)) → Adds old mid steps → IsTrue (are_within steps) → IsTrue (are_going steps) → Keeps old mid address steps → StaysSo p q → IsDue old address p id
    → IsNaming mid q (Lpi id)
due_naming old mid address id p q steps there add within going keeps stays due =
    let operation : q.operation ≡ p.operation = ap (λ r. r.operation) stays.same in
    let There : GuestShape → Type 0 = λ shape. IsTrue (has_interrupt shape (Lpi id)) in
    let shape : shape_of mid ≡ shape_of old = ap shape_of add.new_is in
    let Kept : Place → GuestShape → Type 0 = λ place shape. IsTrue (is_kept shape address place) in
    let Ends : Seen → Type 0 = λ seen. is_end_of (shape_of seen) seen.actor q.operation (Lpi id) ≡ false in
    record {
      names_it = λ part about none.
          (let later = seen_after mid part in
          let more : Adds mid later part = record { new_is = refl } in
          let Named : Option Operation → Type 0 = λ operation. IsTrue (option_map_or (λ operation. may_name (shape_of later) later.actor later.own operation (Lpi id)) operation false) in
          subst Named (sym operation)
          (due.names_it later (steps ++ part) (adds_join old mid later steps part add more) (within_joins steps part within (about_within id part about none)) (going_joins steps part going (about_going id part about none))
          (λ place kept.
          same_on old mid later place (keeps.each place kept).same
          (about_same mid later address id part place (subst There (sym shape) there) about more none (subst (Kept place) (sym shape) kept)))));
      ends_other = subst Ends (sym add.new_is) (stays_ending (shape_of old) old.actor p q (Lpi id) stays due.ends_other);
    }

-- an event that is no read
pub touch_unread : (place : Place) (key : Key) (kind : Touching) (found : Found) → IsUnread place ((record { event = TouchEvent key kind; found = found }) ∷ [])
touch_unread place key kind found =
    All-cons (λ happened. happened.event ≡ Read place → ⊥) (record { event = TouchEvent key kind; found = found }) [] (λ e. absurd (cc)) (All-nil (λ happened. happened.event ≡ Read place → ⊥))

abbrev pub touch_happened : ℕ → Touching → ℕ → Happened
touch_happened id kind found = record { event = TouchEvent (Lpi id) kind; found = found_record found }

pub prefix_touches :
    (old mid new : Seen) (address id : ℕ) (kind : Touching) (found : ℕ) (part : Part) (steps : List Made) → IsTrue (has_interrupt (shape_of old) (Lpi id)) → lpi_of part ≡ id → Prefix old mid address id steps → Touches mid new (Lpi id) kind found
    → ((actor : Option ℕ) (targets : ℕ → Option ℕ) → AgreeFound new targets → GoesFirst old part
    → (before : List Happened) → HasFetched old address before → MakesPart actor (shape_of old) targets part before (part_events old steps ++ touch_happened id kind found ∷ []))
    → DoesPart old new address part
prefix_touches old mid new address id kind found part steps there of_part before touches made =
    let late = touches.misses ++ touches.touch ∷ touches.sent in
    let shape : shape_of mid ≡ shape_of old = ap shape_of before.adds.new_is in
    let There : ℕ → GuestShape → Type 0 = λ other shape. IsTrue (has_interrupt shape (Lpi other)) in
    let here : IsTrue (has_interrupt (shape_of mid) (Lpi id)) = subst (There id) (sym shape) there in
    let events : part_events old (steps ++ late) ≡ part_events old steps ++ touch_happened id kind found ∷ []
    = events_then old mid steps late before.adds ∙ ap (λ events. part_events old steps ++ events) touches.events in
    let Made_by : Option ℕ → (ℕ → Option ℕ) → List Happened → List Happened → Type 0 = λ actor targets early own. MakesPart actor (shape_of old) targets part early own in
    let After : Local → Type 0 = λ local. StaysAtEase local new.local in
    let keeps : Keeps mid new address late
    = record { each = λ place kept. record { same = about_same mid new address id late place here touches.about touches.adds touches.none_taken kept; unread = subst (IsUnread place) (sym touches.events) (touch_unread place (Lpi id) kind (found_record found)) } } in
    record {
      steps = steps ++ late;
      adds = adds_join old mid new steps late before.adds touches.adds;
      within = within_joins steps late before.within (about_within id late touches.about touches.none_taken);
      going = going_joins steps late before.going (about_going id late touches.about touches.none_taken);
      local_is = subst After before.local touches.local_is;
      keeps = keeps_on old mid new address steps late before.adds before.keeps keeps;
      untouched = λ other its differ is.
          (let apart : other ≢ id = λ e. differ (e ∙ sym of_part) in
          about_untouched mid new id other late here (subst (There other) (sym shape) its) apart touches.about touches.adds touches.none_taken (before.untouched other its apart is));
      makes = λ actor targets agree first early has. subst (Made_by actor targets early) (sym events) (made actor targets agree first early has);
      piece = λ p idle due none.
          (let Due : ℕ → Type 0 = λ n. IsDue old address p n in
          let mine : IsDue old address p id = subst Due of_part due in
          good_then old mid p steps late before.adds (before.piece p idle mine.ends_other)
          (λ q stays idle_mid.
          named_good mid (Lpi id) late q touches.piece idle_mid (due_naming old mid address id p q steps there before.adds before.within before.going before.keeps stays mine) (ap (λ r. r.wants) stays.same ∙ none)));
    }

-- a touch that reads no configuration
abbrev pub touch_view : View → ℕ → View
touch_view view found = record view { irqs = λ key. record (irq_of found) { want = false } }

pub plain_touch :
    (old new : Seen) (address id : ℕ) (kind : Touching) (found : ℕ) (part : Part) → IsTrue (has_interrupt (shape_of old) (Lpi id)) → lpi_of part ≡ id
    → ((view : View) (targets : ℕ → Option ℕ) → lpi_event (shape_of old) view targets part ≡ TouchEvent (Lpi id) kind) → ((view : View) (targets : ℕ → Option ℕ) → byte_places (shape_of old) view targets part ≡ [])
    → Touches old new (Lpi id) kind found → DoesPart old new address part
plain_touch old new address id kind found part there of_part event places touches =
    prefix_touches old old new address id kind found part [] there of_part (prefix_none old address id) touches
    (λ actor targets agree first before has.
    (let view = touch_view (view_by new) found in
    let Read_by : List Place → Type 0 = λ places. All (λ place. IsLastRead place (held_at view place) (before ++ touch_happened id kind found ∷ [])) places in
    makes_part actor (shape_of old) targets part view before [] (TouchEvent (Lpi id) kind) (found_record found) refl refl (event view targets) refl
    (subst Read_by (sym (places view targets)) (All-nil (λ place. IsLastRead place (held_at view place) (before ++ touch_happened id kind found ∷ []))))))

-- a touch with a configuration that was read before it
held_irqs : (view : View) (found : ℕ) (place : Place) → held_at (touch_view view found) place ≡ held_at view place
held_irqs view found (Word word) = refl
held_irqs view found QueuePlace = refl
held_irqs view found CtlrPlace = refl
held_irqs view found (Lpis vcpu) = refl

abbrev pub places_of : GuestShape → View → Option ℕ → ℕ → List Place
places_of shape view target id = option_map_or (λ vcpu. Word (Propbaser vcpu) ∷ memory_places shape (config_address (view.words (Propbaser vcpu)) id) 1) target []

-- the event of the part, and where it reads, by the configuration byte of a vCPU
pub record IsByByte (shape : GuestShape) (targets : ℕ → Option ℕ) (part : Part) (target : Option ℕ) (id : ℕ) (kind_of : ℕ → Touching) : Type 0 where
  pub event : (view : View) → lpi_event shape view targets part ≡ TouchEvent (Lpi id) (kind_of (config_byte shape view target id))
  pub places : (view : View) → byte_places shape view targets part ≡ places_of shape view target id

pub config_touch :
    (old mid0 mid new : Seen) (fetched : Fetched) (id byte : ℕ) (target : Option ℕ) (kind_of : ℕ → Touching) (found : ℕ) (part : Part) (steps : List Made) → IsTrue (has_interrupt (shape_of old) (Lpi id)) → lpi_of part ≡ id
    → Prefix old mid0 fetched.address id steps → (reads : ReadsConfig mid0 mid fetched target id byte) → Touches mid new (Lpi id) (kind_of byte) found
    → ((targets : ℕ → Option ℕ) → AgreeFound new targets → GoesFirst old part → IsByByte (shape_of old) targets part target id kind_of) → DoesPart old new fetched.address part
config_touch old mid0 mid new fetched id byte target kind_of found part steps there of_part before reads touches by =
    let whole = prefix_joins old mid0 mid fetched.address id steps reads.part before (prefix_reading mid0 mid fetched.address id reads.part reads.reading reads.keeps) in
    prefix_touches old mid new fetched.address id (kind_of byte) found part (steps ++ reads.part) there of_part whole touches (λ actor targets agree first early has. made actor targets (by targets agree first) early has whole.reads whole.adds)
  where
    made : (actor : Option ℕ) (targets : ℕ → Option ℕ) → IsByByte (shape_of old) targets part target id kind_of → (early : List Happened) → HasFetched old fetched.address early → IsTrue (list_all is_read (part_events old (steps ++ reads.part)))
        → Adds old mid (steps ++ reads.part) → MakesPart actor (shape_of old) targets part early (part_events old (steps ++ reads.part) ++ touch_happened id (kind_of byte) found ∷ [])
    made actor targets by early has are_reads add =
        let shape : shape_of mid ≡ shape_of old = ap shape_of add.new_is in
        let view = touch_view (view_by mid) found in
        let happened = touch_happened id (kind_of byte) found in
        let first = part_events old steps in
        let own = part_events old (steps ++ reads.part) in
        let is : byte ≡ config_byte (shape_of old) view target id = reads.byte_is ∙ ap (λ shape. config_byte shape (view_by mid) target id) shape in
        let events : (early ++ first) ++ part_events mid0 reads.part ≡ early ++ own
        = append_assoc early first (part_events mid0 reads.part) ∙ ap (λ events. early ++ events) (sym (events_then old mid0 steps reads.part before.adds)) in
        let Read_in : List Happened → Type 0 = λ events. All (λ place. HasRead mid place events) (config_places mid target id) in
        let read : All (λ place. HasRead mid place (early ++ own)) (config_places mid target id)
        = subst Read_in events (reads.has (early ++ first) (has_on old mid0 fetched.address steps early before.adds before.keeps has)) in
        let Last : Place → Type 0 = λ place. IsLastRead place (held_at view place) (early ++ (own ++ happened ∷ [])) in
        let later : (place : Place) → HasRead mid place (early ++ own) → Last place
        = λ place was.
        (let By : Found → Type 0 = λ f. IsLastRead place f (early ++ (own ++ happened ∷ [])) in
        let At : List Happened → Type 0 = λ events. IsLastRead place (held_at (view_by mid) place) events in
        subst By (sym (held_irqs (view_by mid) found place))
        (subst At (append_assoc early own (happened ∷ [])) (last_before place (held_at (view_by mid) place) (early ++ own) (happened ∷ []) was.last (touch_unread place (Lpi id) (kind_of byte) (found_record found))))) in
        let places : config_places mid target id ≡ byte_places (shape_of old) view targets part
        = ap (λ shape. places_of shape (view_by mid) target id) shape ∙ sym (by.places view) in
        makes_part actor (shape_of old) targets part view early own (TouchEvent (Lpi id) (kind_of byte)) (found_record found) are_reads refl
        (by.event view ∙ ap (λ b. TouchEvent (Lpi id) (kind_of b)) (sym is)) refl
        (subst (All Last) places (All-weaker (λ place. HasRead mid place (early ++ own)) Last later (config_places mid target id) read))

-- MAPTI and MAPI
pub mapped : (old mid new : Seen) (fetched : Fetched) (id target byte : ℕ) (kind : Touching) (found : ℕ) → IsTrue (has_interrupt (shape_of old) (Lpi id)) → ReadsConfig old mid fetched (Some target) id byte → kind ≡ MapLpi target (is_enabled byte) (priority_of byte)
    → Touches mid new (Lpi id) kind found → DoesPart old new fetched.address (Map id target)
mapped old mid new fetched id target byte kind found there reads is touches =
    let kind_of : ℕ → Touching = λ byte. MapLpi target (is_enabled byte) (priority_of byte) in
    let By : Touching → Type 0 = λ kind. Touches mid new (Lpi id) kind found in
    config_touch old old mid new fetched id byte (Some target) kind_of found (Map id target) [] there refl (prefix_none old fetched.address id) reads (subst By is touches)
    (λ targets agree first. record { event = λ view. refl; places = λ view. refl })

-- INV and INVALL
pub configured : (old mid0 mid new : Seen) (fetched : Fetched) (id byte : ℕ) (target : Option ℕ) (kind : Touching) (found : ℕ) → IsTrue (has_interrupt (shape_of old) (Lpi id)) → LooksAtTarget old mid0 id target → ReadsConfig mid0 mid fetched target id byte
    → kind ≡ ConfigureLpi (is_enabled byte) (priority_of byte) → Touches mid new (Lpi id) kind found → DoesPart old new fetched.address (Configure id)
configured old mid0 mid new fetched id byte target kind found there looks reads is touches =
    let kind_of : ℕ → Touching = λ byte. ConfigureLpi (is_enabled byte) (priority_of byte) in
    let By : Touching → Type 0 = λ kind. Touches mid new (Lpi id) kind found in
    let late = touches.misses ++ touches.touch ∷ touches.sent in
    let made = subst By is touches in
    let before = prefix_look old mid0 fetched.address id target there looks in
    let whole : Prefix old mid fetched.address id (looks.look ∷ reads.part) = prefix_joins old mid0 mid fetched.address id (looks.look ∷ []) reads.part before (prefix_reading mid0 mid fetched.address id reads.part reads.reading reads.keeps) in
    config_touch old mid0 mid new fetched id byte target kind_of found (Configure id) (looks.look ∷ []) there refl before reads made
    (λ targets agree first. by targets (agreed targets agree first whole late touches.adds (about_within id late touches.about touches.none_taken)))
  where
    by : (targets : ℕ → Option ℕ) → targets id ≡ target → IsByByte (shape_of old) targets (Configure id) target id (λ byte. ConfigureLpi (is_enabled byte) (priority_of byte))
    by targets same =
        record {
          event = λ view. ap (λ o. TouchEvent (Lpi id) (ConfigureLpi (is_enabled (config_byte (shape_of old) view o id)) (priority_of (config_byte (shape_of old) view o id)))) same;
          places = λ view. ap (λ o. places_of (shape_of old) view o id) same;
        }

    agreed : (targets : ℕ → Option ℕ) → AgreeFound new targets → IsUntouched old id → Prefix old mid fetched.address id (looks.look ∷ reads.part) → (late : List Made) → Adds mid new late → IsTrue (are_within late) → targets id ≡ target
    agreed targets agree first whole late add within =
        let on : is_on (shape_of old) old.actor (Irq (Lpi id)) looks.look ≡ true
        = ap (λ step. place_of_word (shape_of old) (word_of (shape_of old) old.actor step) == place_of_word (shape_of old) (Irq (Lpi id))) looks.step_is
        ∙ eq-eqb (place_of_word (shape_of old) (Irq (Lpi id))) (place_of_word (shape_of old) (Irq (Lpi id))) refl in
        let at_mid : first_step mid id ≡ Some looks.look = first_is old mid looks.look reads.part id whole.adds whole.within on first in
        let at_new : first_step new id ≡ Some looks.look = first_stays mid new late id looks.look add within at_mid in
        let shape : shape_of new ≡ shape_of old = ap shape_of add.new_is ∙ ap shape_of whole.adds.new_is in
        let There : GuestShape → Type 0 = λ shape. IsTrue (has_interrupt shape (Lpi id)) in
        let If : Option Made → Type 0 = λ o. IfSome o (λ made. targets id ≡ target_in (irq_of made.found).route (shape_of new)) in
        in_some (subst If at_new (agree.each id (subst There (sym shape) there))) ∙ ap (target_in (irq_of looks.look.found).route) shape ∙ sym looks.target_is
      where
        in_some : IfSome (Some looks.look) (λ made. targets id ≡ target_in (irq_of made.found).route (shape_of new)) → targets id ≡ target_in (irq_of looks.look.found).route (shape_of new)
        in_some h = h

-- INT
pub raised_part : (old new : Seen) (address id : ℕ) → IsTrue (has_interrupt (shape_of old) (Lpi id)) → IsAtEase old.local → Tells old new (Raise (Lpi id)) (Lpi id) (RaiseEvent (Lpi id)) → DoesPart old new address (RaisePart id)
raised_part old new address id there ease tells =
    let key : Key = Lpi id in
    let about = tells_about (shape_of old) old.local.owes key tells.part tells.form in
    let After : Local → Type 0 = λ local. StaysAtEase old.local local in
    let happened : Happened = record { event = RaiseEvent key; found = Nothing } in
    let Made_by : Option ℕ → (ℕ → Option ℕ) → List Happened → List Happened → Type 0 = λ actor targets early own. MakesPart actor (shape_of old) targets (RaisePart id) early own in
    record {
      steps = tells.part;
      adds = tells.adds;
      within = about_within id tells.part about tells.none_taken;
      going = about_going id tells.part about tells.none_taken;
      local_is = subst After (sym tells.local_is) (told_at_ease (shape_of old) old.actor key (concerned (shape_of old) (irq_of tells.form.change.found)) old.local ease.owes);
      keeps =
          record {
            each = λ place kept.
                record {
                  same = about_same old new address id tells.part place there about tells.adds tells.none_taken kept;
                  unread =
                      subst (IsUnread place) (sym tells.events)
                      (All-cons (λ h. h.event ≡ Read place → ⊥) happened [] (λ e. absurd (cc)) (All-nil (λ h. h.event ≡ Read place → ⊥)));
                };
          };
      untouched = λ other its differ is. about_untouched old new id other tells.part there its differ about tells.adds tells.none_taken is;
      makes = λ actor targets agree first early has.
          subst (Made_by actor targets early) (sym tells.events)
          (makes_part actor (shape_of old) targets (RaisePart id) (view_by new) early [] (RaiseEvent key) Nothing refl refl refl refl (All-nil (λ place. IsLastRead place (held_at (view_by new) place) (early ++ happened ∷ []))));
      piece = λ p idle due none. tells.piece p idle;
    }

-- As calls tell it.

pub part_there : (shape : GuestShape) (part : Part) (id : ℕ) → lpi_of part ≡ id → IsTrue (is_part_of shape part) → IsTrue (has_interrupt shape (Lpi id))
part_there shape part id e h = subst (λ n. IsTrue (has_interrupt shape (Lpi n))) e (and_parts (has_interrupt shape (Lpi (lpi_of part))) (has_vcpu_of shape part) h).0

pub as_part : (old new : Seen) (address : ℕ) (part other : Part) → part ≡ other → DoesPart old new address other → DoesPart old new address part
as_part old new address part other e does = let For : Part → Type 0 = λ part. DoesPart old new address part in subst For (sym e) does

-- a target as it was looked at
pub target_found : (old mid : Seen) (found : ℕ) (o : Option IrqRecord) (irq : IrqRecord) (target : Option ℕ) (shape : GuestShape) (look : Made) → Adds old mid (look ∷ []) → o ≡ Some irq → IfSome o (λ irq. irq ≡ irq_of found) → shape ≡ shape_of mid
    → target ≡ target_in irq.route shape → target ≡ target_in (irq_of found).route (shape_of old)
target_found old mid found o irq target shape look add e value same is =
    let If : Option IrqRecord → Type 0 = λ o. IfSome o (λ irq. irq ≡ irq_of found) in
    is ∙ ap (λ irq. target_in irq.route shape) (in_some (subst If e value)) ∙ ap (target_in (irq_of found).route) (same ∙ ap shape_of add.new_is)
  where
    in_some : IfSome (Some irq) (λ irq. irq ≡ irq_of found) → irq ≡ irq_of found
    in_some h = h

-- a configuration, as a byte says it
pub mapping_by : (target byte : ℕ) (enabled : Bool) (prio : ℕ) → enabled ≡ is_enabled byte → prio ≡ priority_of byte → MapLpi target enabled prio ≡ MapLpi target (is_enabled byte) (priority_of byte)
mapping_by target byte enabled prio e p = ap (λ b. MapLpi target b prio) e ∙ ap (λ n. MapLpi target (is_enabled byte) n) p

pub configuring_by : (byte : ℕ) (enabled : Bool) (prio : ℕ) → enabled ≡ is_enabled byte → prio ≡ priority_of byte → ConfigureLpi enabled prio ≡ ConfigureLpi (is_enabled byte) (priority_of byte)
configuring_by byte enabled prio e p = ap (λ b. ConfigureLpi b prio) e ∙ ap (λ n. ConfigureLpi (is_enabled byte) n) p

-- the command is held over the look
pub look_holds : (old mid : Seen) (fetched : Fetched) (id : ℕ) (target : Option ℕ) → IsTrue (has_interrupt (shape_of old) (Lpi id)) → LooksAtTarget old mid id target → HoldsCommand old fetched → HoldsCommand mid fetched
look_holds old mid fetched id target there looks holds = holds_on old mid fetched (looks.look ∷ []) looks.adds (ap (λ l. l.shut) looks.local_is) (prefix_look old mid fetched.address id target there looks).keeps holds

-- MAPD, DISCARD, and an event that is mapped again
pub forgotten : (old new : Seen) (address id found : ℕ) → IsTrue (has_interrupt (shape_of old) (Lpi id)) → Touches old new (Lpi id) ForgetLpi found → DoesPart old new address (Forget id)
forgotten old new address id found there touches = plain_touch old new address id ForgetLpi found (Forget id) there refl (λ view targets. refl) (λ view targets. refl) touches

-- MAPC, MOVI and MOVALL
pub retargeted : (old new : Seen) (address id found : ℕ) (target : Option ℕ) → IsTrue (has_interrupt (shape_of old) (Lpi id)) → Touches old new (Lpi id) (RetargetLpi target) found → DoesPart old new address (Retarget id target)
retargeted old new address id found target there touches = plain_touch old new address id (RetargetLpi target) found (Retarget id target) there refl (λ view targets. refl) (λ view targets. refl) touches

-- CLEAR
pub cleared : (old new : Seen) (address id found : ℕ) → IsTrue (has_interrupt (shape_of old) (Lpi id)) → Touches old new (Lpi id) (Register ClearPending 1) found → DoesPart old new address (Clear id)
cleared old new address id found there touches = plain_touch old new address id (Register ClearPending 1) found (Clear id) there refl (λ view targets. refl) (λ view targets. refl) touches
