-- The reads of a message-signalled interrupt.
use Rattle.std.proofs.Common.{◌≡◌, ◌⊎◌, ℕ, ◌||◌, not, Bool, true, false, cond, List, [], ◌∷◌, ◌++◌, fold, Option, Some, None, is_none, refl, sym, ap, ◌∙◌, rules, inl, inr}
use Rattle.std.specs.List.{list_any}
use Rattle.std.specs.Option.{option_map_or}
use Rattle.std.proofs.lemmas.Bool.{or_left, or_right, and_parts, and_from}
use Rattle.std.proofs.lemmas.Option.{none-some}
use Rattle.history_turns.specs.Words.{Lpi, is_number}
use Rattle.history_turns.specs.Registers.{Maps, translated, enabled_in}
use Rattle.history_turns.specs.Calls.{Event, ItsBegin, Found, Happened, Place, ItsCtlr}
use Rattle.history_turns.specs.GicCall.declared.event.Event.TheVariants.{Raise, Read, ItsEnd}
use Rattle.history_turns.specs.GicCall.declared.event.Place.TheVariants.{Word}
use Rattle.history_turns.specs.GicCall.declared.event.Found.TheVariants.{Nothing, Word as FoundWord}
use Rattle.history_turns.specs.HistoryCalls.Found.{reads, telling}
use Rattle.history_commands.proofs.FoundLemmas.{same_place}
use Rattle.history_turns.specs.Signalled.{is_taken, is_given_back, raised_in, enabled_by, is_enabled_by, finds_enabled, finds_none}

abbrev pub ctlr : Place
ctlr = Word ItsCtlr

-- Single events.

pub taken_is : (event : Event) (found : Found) → is_taken event found ≡ true → (event ≡ ItsBegin) × (found ≡ Nothing)
taken_is ItsBegin Nothing h = (refl, refl)
taken_is event found h = absurd (cc)

pub given_back_is : (event : Event) (found : Found) → is_given_back event found ≡ true → (event ≡ ItsEnd) × (found ≡ Nothing)
given_back_is ItsEnd Nothing h = (refl, refl)
given_back_is event found h = absurd (cc)

some_lpi : (a b : ℕ) → ◌≡◌ {A = Option ℕ} (Some a) (Some b) → a ≡ b
some_lpi a b h = cc

pub raised_is : (event : Event) (found : Found) (id : ℕ) → raised_in event found ≡ Some id → (event ≡ Raise (Lpi id)) × (found ≡ Nothing)
raised_is (Raise (Lpi other)) Nothing id h = (ap (λ n. Raise (Lpi n)) (some_lpi other id h), refl)
raised_is event found id h = absurd (cc)

-- The last of some kind that was found.

pub last_in : (is : Event → Bool) (P : Happened → Bool) (found : Found) → ((h : Happened) → is h.event ≡ true → h.found ≡ found → P h ≡ true) → (acc : Option Found) (piece : List Happened) → fold (telling is) acc piece ≡ Some found → (acc ≡ Some found) ⊎ (list_any P piece ≡ true)
last_in is P found so acc [] h = inl h
last_in is P found so acc (x ∷ piece) h = of (is x.event) refl h (last_in is P found so (Some x.found) piece) (last_in is P found so acc piece)
  where
    found_is : (a b : Found) → ◌≡◌ {A = Option Found} (Some a) (Some b) → a ≡ b
    found_is a b k = cc

    Rest : Option Found → Type 0
    Rest o = fold (telling is) o piece ≡ Some found → (o ≡ Some found) ⊎ (list_any P piece ≡ true)

    of : (b : Bool) → is x.event ≡ b → fold (telling is) (cond (is x.event) (Some x.found) acc) piece ≡ Some found → Rest (Some x.found) → Rest acc → (acc ≡ Some found) ⊎ ((P x || list_any P piece) ≡ true)
    of true e k here rest = elim (here (ap (λ b. fold (telling is) (cond b (Some x.found) acc) piece) (sym e) ∙ k)) [
      | inl same ↦ inr (or_left (P x) (list_any P piece) (so x e (found_is x.found found same)))
      | inr any ↦ inr (or_right (P x) (list_any P piece) any)
    ]
    of false e k here rest = elim (rest (ap (λ b. fold (telling is) (cond b (Some x.found) acc) piece) (sym e) ∙ k)) [
      | inl same ↦ inl same
      | inr any ↦ inr (or_right (P x) (list_any P piece) any)
    ]

-- an element that is so, with what comes before and after it
pub record IsAt (P : Happened → Bool) (piece : List Happened) : Type 0 where
  pub before : List Happened
  pub one : Happened
  pub after : List Happened
  pub split : piece ≡ before ++ one ∷ after
  pub is : P one ≡ true

pub any_split : (P : Happened → Bool) (piece : List Happened) → list_any P piece ≡ true → IsAt P piece
any_split P [] h = absurd (cc)
any_split P (x ∷ piece) h = of (P x) refl h (any_split P piece)
  where
    of : (b : Bool) → P x ≡ b → (b || list_any P piece) ≡ true → (list_any P piece ≡ true → IsAt P piece) → IsAt P (x ∷ piece)
    of true e k rec = record { before = []; one = x; after = piece; split = refl; is = e }
    of false e k rec = let at = rec k in record { before = x ∷ at.before; one = at.one; after = at.after; split = ap (λ p. x ∷ p) at.split; is = at.is }

-- What a read of GITS_CTLR tells.

-- such a read of a word
pub record IsCtlrRead (happened : Happened) (enabled : Bool) : Type 0 where
  pub value : ℕ
  pub event : happened.event ≡ Read ctlr
  pub found : happened.found ≡ FoundWord value
  pub enables : enabled_in value ≡ enabled

reads_ctlr : (event : Event) → reads (Word ItsCtlr) event ≡ true → event ≡ Read (Word ItsCtlr)
reads_ctlr (Read other) h = ap Read (same_place other (Word ItsCtlr) h)
reads_ctlr event h = absurd (cc)

pub enabled_word : (found : Found) → is_enabled_by (Some found) ≡ true → (value : ℕ) × (found ≡ FoundWord value) × (enabled_in value ≡ true)
enabled_word (FoundWord value) h = (value, refl, h)
enabled_word found h = absurd (cc)

none_word : (lpi : Option ℕ) (found : Found) → option_map_or (λ enabled. not enabled || is_none lpi) (enabled_by found) false ≡ true → (value : ℕ) × (found ≡ FoundWord value) × ((not (enabled_in value) || is_none lpi) ≡ true)
none_word lpi (FoundWord value) h = (value, refl, h)
none_word lpi found h = absurd (cc)

pub enabled_read : (happened : Happened) → finds_enabled happened ≡ true → IsCtlrRead happened true
enabled_read happened h =
    let both = and_parts (reads (Word ItsCtlr) happened.event) (is_enabled_by (Some happened.found)) h in
    let word = enabled_word happened.found both.1 in
    record { value = word.0; event = reads_ctlr happened.event both.0; found = word.1; enables = word.2 }

-- by the maps as the call took the ITS
module _ (maps : Maps) (device event : ℕ) where
  abbrev pub lpi_of : Option ℕ
  lpi_of = translated maps true device event

  none_of : (o : Option ℕ) → is_none o ≡ true → o ≡ None
  none_of None h = refl
  none_of (Some id) h = absurd (cc)

  translated_none : (b : Bool) (o : Option ℕ) → translated maps true device event ≡ o → (not b || is_none o) ≡ true → translated maps b device event ≡ None
  translated_none false o e h = refl
  translated_none true o e h = e ∙ none_of o h

  pub record IsNoneRead (happened : Happened) : Type 0 where
    pub value : ℕ
    pub event_is : happened.event ≡ Read ctlr
    pub found : happened.found ≡ FoundWord value
    pub signals : translated maps (enabled_in value) device event ≡ None

  pub none_read : (happened : Happened) → finds_none (translated maps true device event) happened ≡ true → IsNoneRead happened
  none_read happened h =
      let both = and_parts (reads (Word ItsCtlr) happened.event) (option_map_or (λ enabled. not enabled || is_none (translated maps true device event)) (enabled_by happened.found) false) h in
      let word = none_word (translated maps true device event) happened.found both.1 in
      record { value = word.0; event_is = reads_ctlr happened.event both.0; found = word.1; signals = translated_none (enabled_in word.0) (translated maps true device event) refl word.2 }

  pub finds_none_so : (value : ℕ) → translated maps (enabled_in value) device event ≡ None → (h : Happened) → reads (Word ItsCtlr) h.event ≡ true → h.found ≡ FoundWord value → finds_none (translated maps true device event) h ≡ true
  finds_none_so value none h is found =
      and_from (reads (Word ItsCtlr) h.event) (option_map_or (λ enabled. not enabled || is_none (translated maps true device event)) (enabled_by h.found) false) is
      (ap (λ f. option_map_or (λ enabled. not enabled || is_none (translated maps true device event)) (enabled_by f) false) found ∙ of (enabled_in value) none)
    where
      of : (b : Bool) → translated maps b device event ≡ None → (not b || is_none (translated maps true device event)) ≡ true
      of true e = ap is_none e
      of false e = refl

  -- an LPI is signalled only while the ITS is enabled
  pub signals_enabled : (b : Bool) (id : ℕ) → translated maps b device event ≡ Some id → (b ≡ true) × (translated maps true device event ≡ Some id)
  signals_enabled true id h = (refl, h)
  signals_enabled false id h = absurd (none-some id h)

pub finds_enabled_so : (value : ℕ) → enabled_in value ≡ true → (h : Happened) → reads (Word ItsCtlr) h.event ≡ true → h.found ≡ FoundWord value → finds_enabled h ≡ true
finds_enabled_so value on h is found = and_from (reads (Word ItsCtlr) h.event) (is_enabled_by (Some h.found)) is (ap (λ f. is_enabled_by (Some f)) found ∙ on)

pub number_so : (n : ℕ) (o : Option ℕ) → o ≡ Some n → is_number n o ≡ true
number_so n o e = ap (is_number n) e ∙ own n
  where
    own : (m : ℕ) → is_number m (Some m) ≡ true
    own m = search rules
