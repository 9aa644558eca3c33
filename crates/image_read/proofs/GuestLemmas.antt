-- Guests that are read one after the other.
use Rattle.std.proofs.Common.{◌≡◌, ℕ, zero, suc, ◌+◌, ◌<◌, ◌≤◌, ◌^◌, ◌++◌, Option, Some, None, IfSome, List, [], ◌∷◌, All, length, get_or, map, take, refl, sym, ap, subst, ◌∙◌, arith}
use Rattle.std.proofs.Common.{IsSome, IsTrue}
use Rattle.std.proofs.Math.Pow.{pow_mono}
use Rattle.std.proofs.lemmas.Grind.{common_steps}
use Rattle.std.proofs.lemmas.List.Elements.{All-head, All-tail}
use Rattle.serde_json.specs.Data.{Data}
use Rattle.serde_json.proofs.OnLiterals.{serde_json_on_literals}
use Rattle.gic_resume.specs.GicSave.Image.{guest_data, guests_data}
use Rattle.gic_resume.specs.Reading.{guest_head, guest_heads}
use Rattle.saved_check.specs.SavedGuest.IdealGuests.Words.{GuestShape, IsShape, Lpi, has_interrupt}
use Rattle.saved_check.specs.SavedGuest.IdealGuests.Registers.{pair_of, at_number}
use Rattle.saved_check.specs.SavedGuest.IdealGuests.Calls.{GuestSpec, IsGoodGuest}
use Rattle.saved_check.specs.SavedGuest.ScnSaved.declared.state.GuestState.{GuestState}
use Rattle.saved_check.specs.SavedGuest.State.{maps_of}
use Rattle.saved_check.specs.SavedGuest.Valid.{IsValidState}
use Rattle.saved_check.specs.SavedGuest.Whole.{AreValidStates}
use Rattle.saved_check.specs.Tables.{evt_entry}
use Rattle.saved_check.proofs.OrderLemmas.{found_at}
use Rattle.saved_check.proofs.TableLemmas.{devs_valid, cols_valid}
use Rattle.saved_check.proofs.SavedGuest.IdealGuests.ItsTab.TableLemmas.{event_order}
use Rattle.image_read.specs.declared.guest.Registers.{Registers}
use Rattle.image_read.specs.declared.guest.Tables.{Tables}
use Rattle.image_read.specs.Fits.{IsShortEvt}
use Rattle.image_read.specs.Tells.{TellsSpec, TellsRegisters, TellsTables, CanStand, CanBeMapped}

-- ---- one guest

abbrev pub registers_of : GuestState → Registers
registers_of state = record { gicd = state.gicd; cpu = state.cpu; rec = state.rec; redist = state.redist }

abbrev pub tables_of : GuestState → Tables
tables_of state = record { its = state.its; dev = state.dev; evt = state.evt; col = state.col; ram = state.ram }

pub record TellsGuest (d : Data) (guest : GuestSpec) (state : GuestState) : Type 0 where
  pub spec : TellsSpec d guest
  pub registers : TellsRegisters d (registers_of state)
  pub tables : TellsTables d (tables_of state)

-- the member with this number
at : {d : List (Option Data)} {m : List (Option Data)} (k : ℕ) → m ≡ d → get_or d k None ≡ get_or m k None
at k e = ap (λ l. get_or l k None) (sym e)

pub tells : (d : Data) (guest : GuestSpec) (state : GuestState) → guest_head (guest_data guest state) ≡ guest_head d → TellsGuest d guest state
unfolding serde_json_on_literals
tells d guest state e =
    record {
      spec = record { shape = at 0 e; on = at 1 e; irqs = at 2 e };
      registers = record { gicd = at 3 e; cpu = at 4 e; rec = at 5 e; redist = at 6 e };
      tables = record { its = at 7 e; dev = at 8 e; evt = at 9 e; col = at 10 e; ram = at 11 e };
    }

pub can_stand : (guest : GuestSpec) (state : GuestState) → IsValidState guest state → CanStand guest.shape (registers_of state)
can_stand guest state valid = record { gicd = omega (arith, valid.gicd); cpu = valid.each_cpu; rec = valid.each_rec }

event_small : (bits : Option ℕ) (device event : ℕ) → IsSome bits → IfSome bits (λ n. event < 2 ^ n) → ((n : ℕ) → bits ≡ Some n → n ≤ 16) → event < 65536
event_small None device event some within few = absurd (cc)
event_small (Some n) device event some within few = let power : 2 ^ n ≤ 2 ^ 16 = pow_mono (few n refl) in omega (arith, within, power)

device_small : (bits : Option ℕ) (device : ℕ) → IsSome bits → ((n : ℕ) → bits ≡ Some n → device < 65536) → device < 65536
device_small None device some small = absurd (cc)
device_small (Some n) device some small = small n refl

lpi_small : (shape : GuestShape) (id : ℕ) → IsShape shape → IsTrue (has_interrupt shape (Lpi id)) → id < 2 ^ 32
lpi_small shape id is there = grind (arith, common_steps, is.lpis)

evts_short : (guest : GuestSpec) (state : GuestState) → IsGoodGuest guest → IsValidState guest state → All (IsShortEvt guest.shape) state.evt
evts_short guest state good valid i d below =
    let evt = get_or state.evt i d in
    let maps = maps_of state in
    let found : pair_of maps (evt.device, evt.event) ≡ Some (evt.id, evt.icid) = found_at event_order evt_entry state.evt i d valid.maps.sound.events below in
    let some = valid.maps.sound.of_mapped (evt.device, evt.event) (evt.id, evt.icid) found in
    let device = device_small (at_number maps.devices evt.device) evt.device some (λ n e. valid.maps.device evt.device n e) in
    let event = event_small (at_number maps.devices evt.device) evt.device evt.event some (valid.maps.event (evt.device, evt.event) (evt.id, evt.icid) found) (λ n e. (valid.maps.bits evt.device n e).1) in
    (omega (arith, device), omega (arith, event), lpi_small guest.shape evt.id good.shape (valid.maps.interrupt (evt.device, evt.event) (evt.id, evt.icid) found), omega (arith, valid.event_collections i d below))

pub can_be_mapped : (guest : GuestSpec) (state : GuestState) → IsGoodGuest guest → IsValidState guest state → CanBeMapped guest.shape (tables_of state)
can_be_mapped guest state good valid =
    record {
      its = valid.its_valid;
      dev = λ i d below. let dev = devs_valid guest.shape (maps_of state) state.dev refl valid.maps i d below in (omega (arith, dev.0), omega (arith, dev.2));
      evt = evts_short guest state good valid;
      col = λ i d below. let col = cols_valid guest.shape (maps_of state) state.col refl valid.maps i d below in (omega (arith, valid.collections i d below), omega (arith, col, good.shape.vcpus));
      ram = valid.each_word;
    }

-- ---- one after the other

module _ {V : Type 0} (seen : V → Data) where
  -- the guest of a number, which a value tells
  pub record NthGuest (guests : List GuestSpec) (states : List GuestState) (i : ℕ) (v : V) : Type 0 where
    pub guest : GuestSpec
    pub state : GuestState
    pub good : IsGoodGuest guest
    pub valid : IsValidState guest state
    pub same : guest_head (guest_data guest state) ≡ guest_head (seen v)
    pub more_guests : take (suc i) guests ≡ take i guests ++ guest ∷ []
    pub more_states : take (suc i) states ≡ take i states ++ state ∷ []

  abbrev rest : {X : Type 0} → List X → List X
  rest [] = []
  rest (x ∷ xs) = xs

  empty_same : (v : V) (vs : List V) → guest_heads [] ≡ guest_heads (map seen (v ∷ vs)) → ⊥
  empty_same v vs e = let long = ap length e in absurd (omega (arith, long))

  pub nth_guest : (guests : List GuestSpec) (states : List GuestState) (vs : List V) (i : ℕ) (d : V) → All IsGoodGuest guests → AreValidStates guests states → guest_heads (guests_data guests states) ≡ guest_heads (map seen vs) → i < length vs → NthGuest guests states i (get_or vs i d)
  nth_guest guests states [] i d good valid e below = absurd (omega arith)
  nth_guest [] [] (v ∷ vs) i d good valid e below = absurd (empty_same v vs e)
  nth_guest [] (state ∷ states) (v ∷ vs) i d good valid e below = absurd valid
  nth_guest (guest ∷ guests) [] (v ∷ vs) i d good valid e below = absurd valid
  nth_guest (guest ∷ guests) (state ∷ states) (v ∷ vs) zero d good valid e below =
      record { guest = guest; state = state; good = All-head IsGoodGuest guest guests good; valid = valid.0; same = ap (λ hs. get_or hs 0 []) e; more_guests = refl; more_states = refl }
  nth_guest (guest ∷ guests) (state ∷ states) (v ∷ vs) (suc i) d good valid e below =
      let further = nth_guest guests states vs i d (All-tail IsGoodGuest guest guests good) valid.1 (ap rest e) (omega arith) in
      record {
        guest = further.guest;
        state = further.state;
        good = further.good;
        valid = further.valid;
        same = further.same;
        more_guests = ap (λ gs. guest ∷ gs) further.more_guests;
        more_states = ap (λ ss. state ∷ ss) further.more_states;
      }

  pub nth_guest_of : (guests : List GuestSpec) (states : List GuestState) (vs : List V) (i : ℕ) (v : V) → v ≡ get_or vs i v → All IsGoodGuest guests → AreValidStates guests states → guest_heads (guests_data guests states) ≡ guest_heads (map seen vs) → i < length vs → NthGuest guests states i v
  nth_guest_of guests states vs i v is good valid e below = subst (NthGuest guests states i) (sym is) (nth_guest guests states vs i v good valid e below)

  next : (i : ℕ) → suc i ≡ i + 1
  next i = omega arith

  grown : {X : Type 0} (xs new whole : List X) (i : ℕ) (x : X) → take (suc i) whole ≡ take i whole ++ x ∷ [] → take i whole ≡ xs → new ≡ xs ++ x ∷ [] → take (i + 1) whole ≡ new
  grown xs new whole i x more so_far now = ap (λ n. take n whole) (sym (next i)) ∙ more ∙ ap (λ ys. ys ++ x ∷ []) so_far ∙ sym now

  pub grown_parts : (gs newgs guests : List GuestSpec) (ss newss states : List GuestState) (i : ℕ) (v : V) (guest : GuestSpec) (state : GuestState) (there : NthGuest guests states i v) → (take i guests ≡ gs) × (take i states ≡ ss) → guest ≡ there.guest → state ≡ there.state → newgs ≡ gs ++ guest ∷ []
      → newss ≡ ss ++ state ∷ [] → (take (i + 1) guests ≡ newgs) × (take (i + 1) states ≡ newss)
  grown_parts gs newgs guests ss newss states i v guest state there so_far g s nowg nows = (
    grown gs newgs guests i there.guest there.more_guests so_far.0 (nowg ∙ ap (λ x. gs ++ x ∷ []) g),
    grown ss newss states i there.state there.more_states so_far.1 (nows ∙ ap (λ x. ss ++ x ∷ []) s),
  )

  data_push : (gs : List GuestSpec) (ss : List GuestState) (g : GuestSpec) (s : GuestState) → length ss ≡ length gs → guests_data (gs ++ g ∷ []) (ss ++ s ∷ []) ≡ guests_data gs ss ++ guest_data g s ∷ []
  data_push [] [] g s e = refl
  data_push [] (x ∷ ss) g s e = absurd (omega (arith, e))
  data_push (x ∷ gs) [] g s e = absurd (omega (arith, e))
  data_push (x ∷ gs) (y ∷ ss) g s e = ap (λ ds. guest_data x y ∷ ds) (data_push gs ss g s (omega (arith, e)))

  heads_push : (ds : List Data) (d : Data) → guest_heads (ds ++ d ∷ []) ≡ guest_heads ds ++ guest_head d ∷ []
  heads_push [] d = refl
  heads_push (x ∷ ds) d = ap (λ hs. guest_head x ∷ hs) (heads_push ds d)

  seen_more : (vs : List V) (i : ℕ) (d : V) → i < length vs → guest_heads (map seen (take (suc i) vs)) ≡ guest_heads (map seen (take i vs)) ++ guest_head (seen (get_or vs i d)) ∷ []
  seen_more [] i d below = absurd (omega arith)
  seen_more (v ∷ vs) zero d below = refl
  seen_more (v ∷ vs) (suc i) d below = ap (λ hs. guest_head (seen v) ∷ hs) (seen_more vs i d (omega arith))

  pub grown_heads : (gs newgs : List GuestSpec) (ss newss : List GuestState) (vs : List V) (i : ℕ) (v : V) (guest : GuestSpec) (state : GuestState) → guest_heads (guests_data gs ss) ≡ guest_heads (map seen (take i vs)) → length ss ≡ length gs → guest_head (guest_data guest state) ≡ guest_head (seen v)
      → v ≡ get_or vs i v → newgs ≡ gs ++ guest ∷ [] → newss ≡ ss ++ state ∷ [] → i < length vs → guest_heads (guests_data newgs newss) ≡ guest_heads (map seen (take (i + 1) vs))
  grown_heads gs newgs ss newss vs i v guest state so_far long same is nowg nows below =
      ap (λ xs. guest_heads (guests_data xs newss)) nowg ∙ ap (λ ys. guest_heads (guests_data (gs ++ guest ∷ []) ys)) nows ∙ ap guest_heads (data_push gs ss guest state long) ∙ heads_push (guests_data gs ss) (guest_data guest state)
      ∙ ap (λ hs. hs ++ guest_head (guest_data guest state) ∷ []) so_far ∙ ap (λ h. guest_heads (map seen (take i vs)) ++ h ∷ []) (same ∙ ap (λ x. guest_head (seen x)) is) ∙ sym (seen_more vs i v below) ∙ ap (λ n. guest_heads (map seen (take n vs))) (next i)

  pub as_long : (guests : List GuestSpec) (states : List GuestState) (vs : List V) → AreValidStates guests states → guest_heads (guests_data guests states) ≡ guest_heads (map seen vs) → (length guests ≡ length vs) × (length states ≡ length vs)
  as_long [] [] [] valid e = (refl, refl)
  as_long [] [] (v ∷ vs) valid e = absurd (empty_same v vs e)
  as_long [] (state ∷ states) vs valid e = absurd valid
  as_long (guest ∷ guests) [] vs valid e = absurd valid
  as_long (guest ∷ guests) (state ∷ states) [] valid e = let long = ap length e in absurd (omega (arith, long))
  as_long (guest ∷ guests) (state ∷ states) (v ∷ vs) valid e = let more = as_long guests states vs valid.1 (ap rest e) in (omega (arith, more.0), omega (arith, more.1))
