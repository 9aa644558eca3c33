-- What stands outside of the events of a trace, and what it is read as.
use Rattle.std.proofs.Common.{◌≡◌, ℕ, suc, ◌+◌, ◌≤◌, ◌&&◌, not, List, [], ◌∷◌, length, map, min, Bool, true, false, Option, Some, None, Result, Ok, Err, Bor, nat_le, codes, is_some, unwrap_or, option_and_then, refl, ap, sym, ◌∙◌, subst, arith}
use Rattle.std.specs.Result.{MatchResult}
use Rattle.std.proofs.lemmas.List.Elements.{All-nil, All-cons}
use Rattle.serde_json.specs.Data.{Data, null}
use Rattle.serde_json.specs.Find.{get}
use Rattle.serde_json.specs.View.{view}
use Rattle.serde_json.specs.declared.value.Value.{Value}
use Rattle.scn_read.specs.JsonField.Field.{has_only, list_at, elements_at}
use Rattle.scn_read.specs.ScnBase.Codes.{first_code, first_met, ok_unless, both}
use Rattle.scn_read.specs.ScnBase.Words.{GuestShape}
use Rattle.scn_read.specs.ScnBase.declared.fault.Fault.{Fault}
use Rattle.scn_read.specs.GicGuest.Good.{IsGoodGuest}
use Rattle.scn_read.specs.GicGuest.declared.guest.GuestSpec.{GuestSpec}
use Rattle.scn_read.specs.declared.refusal.ReadRefusal.{ReadRefusal}
use Rattle.scn_read.specs.declared.refusal.ReadRefusal.TheVariants.{Bad, NoMemory}
use Rattle.scn_read.specs.Guest.{guest_fault, guest_of}
use Rattle.scn_read.specs.Reading.{Refuses, before_steps, step_and_rest}
use Rattle.scn_read.proofs.GoodLemmas.{good_guest}
use Rattle.scn_read.proofs.ListLemmas.{ok_parts, err_is}
use Rattle.trace_read.specs.declared.trace.TraceEvent.{TraceEvent}
use Rattle.trace_read.specs.Reading.{AreEvents, AreThere, event_fault, event_said, judged, trace_fields, own_fault, outside_fault, guest_at, guest_said, event_of, events_of, trace_or_fault, reading}

-- ---- the guest

-- what stands in the field of a guest that was read
record Guest (found : Option Data) (guest : GuestSpec) : Type 0 where
  field : Data
  there : found ≡ Some field
  clean : guest_fault field ≡ None
  is : guest ≡ guest_of field

guest_read : (found : Option Data) (guest : GuestSpec) → Ok guest ≡ guest_said found → Guest found guest
guest_read None guest e = absurd cc
guest_read (Some d) guest e =
    let parts = ok_parts (guest_fault d) (guest_of d) guest e in
    record { field = d; there = refl; clean = parts.0; is = parts.1 }

-- ---- all that stands outside of the events was read

pub record Outside (d : Data) (events : List Data) (guest : GuestSpec) : Type 0 where
  pub own : AreEvents d events
  pub guest_is : guest ≡ guest_at d
  pub none : outside_fault d ≡ None
  pub good : IsGoodGuest guest

abbrev HasFault : Data → ℕ → Type 0
HasFault d code = own_fault d ≡ Some code

abbrev Listed : Data → Bor (List Value) → Type 0
Listed d values = AreEvents d (map view values.now)

of_parts : (d : Data) (values : Bor (List Value)) (one : GuestSpec) (found : Option Data) → Listed d values → Ok one ≡ guest_said found → found ≡ get (codes "guest") d → Outside d (map view values.now) one
of_parts d values one found own e is =
    let read = guest_read found one e in
    let there : get (codes "guest") d ≡ Some read.field = sym is ∙ read.there in
    record {
      own = own;
      guest_is = read.is ∙ ap (λ (o : Option Data). guest_of (unwrap_or o null)) (sym there);
      none = (λ k. first_code (own.own k) (option_and_then guest_fault (there k))) ∙ ap (first_code None) read.clean;
      good = subst IsGoodGuest (sym read.is) (good_guest read.field read.clean);
    }

abbrev Read : Type 0
Read = Bor (List Value) × GuestSpec

-- both parts of a trace d, as they were read
pub outside_of : (d : Data) (events : Result (Bor (List Value)) ℕ) (guest : Result GuestSpec ℕ) (found : Option Data) → MatchResult events (Listed d) (HasFault d) → guest ≡ guest_said found → found ≡ get (codes "guest") d
    → (read : Read) → Ok read ≡ both events guest → Outside d (map view read.0.now) read.1
outside_of d (Err code) (Ok one) found are said is read e = absurd cc
outside_of d (Err code) (Err other) found are said is read e = absurd cc
outside_of d (Ok values) (Err other) found are said is read e = absurd cc
outside_of d (Ok values) (Ok one) found are said is read e =
    let same : read ≡ (values, one) = cc in
    subst (λ (x : Read). Outside d (map view x.0.now) x.1) (sym same) (of_parts d values one found are said is)

-- ---- a fault outside of the events

shape_first : (a b : Bool) (rest : List (Bool × ℕ)) → first_met ((not (a && false && b), 1) ∷ rest) ≡ Some 1
shape_first true b rest = refl
shape_first false b rest = refl

own_without : (d : Data) → None ≡ get (codes "guest") d → own_fault d ≡ Some 1
own_without d e = rw (← e) (shape_first (has_only trace_fields d) (is_some (list_at (codes "events") d)) ((not (nat_le (length (elements_at (codes "events") d)) 100000), 2) ∷ []))

-- the guest has a fault, beside events that have none, and beside a fault of the trace's own fields
guest_fails : (d : Data) (found : Option Data) (code : ℕ) (events : List Data) → AreEvents d events → Err code ≡ guest_said found → found ≡ get (codes "guest") d → outside_fault d ≡ Some code
guest_fails d None code events own e is =
    let there : false ≡ true = ap is_some is ∙ own.guest in
    absurd cc
guest_fails d (Some field) code events own e is = rw (own.own, ← is, err_is (guest_fault field) (guest_of field) code e) refl

both_fail : (d : Data) (found : Option Data) (code other : ℕ) → own_fault d ≡ Some code → Err other ≡ guest_said found → found ≡ get (codes "guest") d → outside_fault d ≡ Some (min code other)
both_fail d None code other own e is =
    let one : code ≡ 1 = let both = sym own ∙ own_without d is in cc in
    let same : other ≡ 1 = cc in
    rw (own, ← is, one, same) refl
both_fail d (Some field) code other own e is = rw (own, ← is, err_is (guest_fault field) (guest_of field) other e) refl

fields_fail : (d : Data) (found : Option Data) (code : ℕ) (one : GuestSpec) → own_fault d ≡ Some code → Ok one ≡ guest_said found → found ≡ get (codes "guest") d → outside_fault d ≡ Some code
fields_fail d found code one own e is =
    let read = guest_read found one e in
    let there : get (codes "guest") d ≡ Some read.field = sym is ∙ read.there in
    rw (own, there, read.clean) refl

pub fault_of : (d : Data) (events : Result (Bor (List Value)) ℕ) (guest : Result GuestSpec ℕ) (found : Option Data) → MatchResult events (Listed d) (HasFault d) → guest ≡ guest_said found → found ≡ get (codes "guest") d
    → (code : ℕ) → Err code ≡ both events guest → outside_fault d ≡ Some code
fault_of d (Ok values) (Ok one) found are said is code e = absurd cc
fault_of d (Ok values) (Err other) found are said is code e =
    let same : code ≡ other = cc in
    rw same (guest_fails d found other (map view values.now) are said is)
fault_of d (Err first) (Ok one) found are said is code e =
    let same : code ≡ first = cc in
    rw same (fields_fail d found first one are said is)
fault_of d (Err first) (Err other) found are said is code e =
    let same : code ≡ min first other = cc in
    rw same (both_fail d found first other are said is)

-- such a trace is refused
pub refused : (d : Data) (code : ℕ) → outside_fault d ≡ Some code → Refuses (reading d) (Bad (record { code = code; step = 0 }))
refused d code e = rw e refl

-- ---- what a trace is read as

more : (number n : ℕ) (first : Result TraceEvent ℕ) (rest : Result (List TraceEvent) Fault) (read : List TraceEvent) → ((r : List TraceEvent) → rest ≡ Ok r → length r ≡ n) → step_and_rest number first (λ event. rest) ≡ Ok read → length read ≡ suc n
more number n (Err code) rest read same e = absurd cc
more number n (Ok event) (Err fault) read same e = absurd cc
more number n (Ok event) (Ok r) read same e =
    let is : read ≡ event ∷ r = cc in
    ap length is ∙ ap suc (same r refl)

pub length-events_of : (shape : GuestShape) (number : ℕ) (ds : List Data) (read : List TraceEvent) → events_of shape number ds ≡ Ok read → length read ≡ length ds
length-events_of shape number [] read e =
    let is : read ≡ [] = cc in
    ap length is
length-events_of shape number (d ∷ ds) read e = more number (length ds) (event_of shape d) (events_of shape (number + 1) ds) read (length-events_of shape (number + 1) ds) e

-- what is judged to be of the guest is

abbrev IsThere : GuestShape → TraceEvent → Type 0
IsThere shape event = event_fault shape event ≡ None

judged_there : (shape : GuestShape) (said : Result TraceEvent ℕ) (event : TraceEvent) → judged shape said ≡ Ok event → IsThere shape event
judged_there shape (Err code) event e = absurd cc
judged_there shape (Ok one) event e =
    let parts = ok_parts (event_fault shape one) one event (sym e) in
    subst (IsThere shape) (sym parts.1) parts.0

all_there : (shape : GuestShape) (number : ℕ) (said : Result TraceEvent ℕ) (rest : Result (List TraceEvent) Fault) (read : List TraceEvent) → ((r : List TraceEvent) → rest ≡ Ok r → AreThere shape r)
    → (first : Result TraceEvent ℕ) → judged shape said ≡ first → step_and_rest number first (λ event. rest) ≡ Ok read → AreThere shape read
all_there shape number said rest read later (Err code) is e = absurd cc
all_there shape number said (Err fault) read later (Ok event) is e = absurd cc
all_there shape number said (Ok r) read later (Ok event) is e =
    let same : event ∷ r ≡ read = cc in
    subst (AreThere shape) same (All-cons (IsThere shape) event r (judged_there shape said event is) (later r refl))

pub are_there : (shape : GuestShape) (number : ℕ) (ds : List Data) (read : List TraceEvent) → events_of shape number ds ≡ Ok read → AreThere shape read
are_there shape number [] read e =
    let same : [] ≡ read = cc in
    subst (AreThere shape) same (All-nil (IsThere shape))
are_there shape number (d ∷ ds) read e = all_there shape number (event_said d) (events_of shape (number + 1) ds) read (are_there shape (number + 1) ds) (event_of shape d) refl e

module _ (d : Data) (ds : List Data) (guest : GuestSpec) (outside : Outside d ds guest) where
  reading_is : reading d ≡ trace_or_fault guest (events_of guest.shape 1 ds)
  reading_is =
      let inside : reading d ≡ trace_or_fault (guest_at d) (events_of (guest_at d).shape 1 (elements_at (codes "events") d)) = rw outside.none refl in
      inside ∙ (λ k. trace_or_fault (sym outside.guest_is k) (events_of (sym outside.guest_is k).shape 1 (sym outside.own.are k)))

  pub trace_is : (events : List TraceEvent) → events_of guest.shape 1 ds ≡ Ok events → reading d ≡ Ok (record { guest = guest; events = events })
  trace_is events e = reading_is ∙ rw e refl

  pub trace_few : (events : List TraceEvent) → events_of guest.shape 1 ds ≡ Ok events → length events ≤ 100000
  trace_few events e = rw (length-events_of guest.shape 1 ds events e) outside.own.few

  -- the refusal of its events is that of the trace
  pub refuses : (refusal : ReadRefusal) → Refuses (events_of guest.shape 1 ds) refusal → Refuses (reading d) refusal
  refuses (Bad fault) e = reading_is ∙ rw e refl
  refuses NoMemory e = tt
