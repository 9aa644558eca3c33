-- What a call notes further on.
use Rattle.std.proofs.Common.{◌≡◌, ℕ, zero, suc, ◌+◌, ◌<◌, not, ◌&&◌, Bool, true, false, cond, List, [], ◌∷◌, ◌++◌, map, length, fold, Contains, Option, Some, None, slice_index_or, refl, sym, ap, ◌∙◌, subst, arith, append_assoc, append-nil}
use Rattle.std.specs.List.{list_all}
use Rattle.std.proofs.Math.Path.{fun_ext}
use Rattle.std.proofs.lemmas.Bool.{and_parts}
use Rattle.std.proofs.lemmas.List.Elements.{Contains-push}
use Rattle.history_commands.specs.Words.{GuestShape, Lpi, has_interrupt, target_in}
use Rattle.history_commands.specs.Calls.{Event, Enable, Touch, ItsBegin, Done, Runs, Stalls, Found, Happened, opening_irq}
use Rattle.history_commands.specs.GicCall.declared.event.Event.TheVariants.{Queue}
use Rattle.history_commands.specs.Histories.{IdealGuest, Ideal, Call, made, seeing, targets_in, is_passed, come_to, noted as noted_by}
use Rattle.history_commands.specs.LegalLists.Legal.{Note, Made, Sees, noting}
use Rattle.history_calls.proofs.CourseLemmas.{noted_piece}
use Rattle.history_commands.specs.Mapped.{nothing_mapped}
use Rattle.history_commands.specs.Taking.{targets_of}
use Rattle.history_commands.proofs.PlainLemmas.{is_plain_event, are_plain}

abbrev pub more_of : List Note → List Happened
more_of [] = []
more_of (Made signals ideal event found ∷ notes) = (record { event = event; found = found }) ∷ more_of notes
more_of (Sees ideal ∷ notes) = more_of notes

-- Any notes.

pub record GoesOn (call later : Call) (more : List Happened) : Type 0 where
  pub operation : later.operation ≡ call.operation
  pub piece : later.piece ≡ call.piece ++ more
  pub maps : are_plain more ≡ true → later.maps ≡ call.maps
  pub extra : List (ℕ → Option ℕ)
  pub commands : later.commands ≡ call.commands ++ extra

pub made_operation : (ideal : Ideal) (event : Event) (found : Found) (call : Call) → (made ideal event found call).operation ≡ call.operation
made_operation ideal (Queue offset Runs) found call = refl
made_operation ideal (Queue offset (Done words)) found call = refl
made_operation ideal (Queue offset (Stalls fault)) found call = refl
made_operation ideal event found call = refl

pub made_maps : (ideal : Ideal) (event : Event) (found : Found) (call : Call) → is_plain_event event ≡ true → (made ideal event found call).maps ≡ call.maps
made_maps ideal ItsBegin found call h = absurd (cc)
made_maps ideal (Queue offset Runs) found call h = refl
made_maps ideal (Queue offset (Done words)) found call h = refl
made_maps ideal (Queue offset (Stalls fault)) found call h = refl
made_maps ideal event found call h = refl

made_extra : (ideal : Ideal) (event : Event) (found : Found) (call : Call) → (extra : List (ℕ → Option ℕ)) × ((made ideal event found call).commands ≡ call.commands ++ extra)
made_extra ideal ItsBegin found call = (targets_in ideal ∷ [], refl)
made_extra ideal (Queue offset Runs) found call = ([], sym (append-nil call.commands))
made_extra ideal (Queue offset (Done words)) found call = (targets_in ideal ∷ [], refl)
made_extra ideal (Queue offset (Stalls fault)) found call = (targets_in ideal ∷ [], refl)
made_extra ideal event found call = ([], sym (append-nil call.commands))

pub made_piece : (ideal : Ideal) (event : Event) (found : Found) (call : Call) → (made ideal event found call).piece ≡ call.piece ++ (record { event = event; found = found }) ∷ []
made_piece ideal event found call = ap (λ p. p ++ (record { event = event; found = found }) ∷ []) (noted_piece ideal event call)

pub goes_on_as : (notes : List Note) (call : Call) → GoesOn call (fold noting call notes) (more_of notes)
goes_on_as [] call = record { operation = refl; piece = sym (append-nil call.piece); maps = λ h. refl; extra = []; commands = sym (append-nil call.commands) }
goes_on_as (Made signals ideal event found ∷ notes) call =
    let mid : Call = made ideal event found call in
    let rest = goes_on_as notes mid in
    let one : Happened = record { event = event; found = found } in
    let first = made_extra ideal event found call in
    record {
      operation = rest.operation ∙ made_operation ideal event found call;
      piece = rest.piece ∙ ap (λ p. p ++ more_of notes) (made_piece ideal event found call) ∙ append_assoc call.piece (one ∷ []) (more_of notes);
      maps = λ h. let both = and_parts (is_plain_event event) (are_plain (more_of notes)) h in rest.maps both.1 ∙ made_maps ideal event found call both.0;
      extra = first.0 ++ rest.extra;
      commands = rest.commands ∙ ap (λ cs. cs ++ rest.extra) first.1 ∙ append_assoc call.commands first.0 rest.extra;
    }
goes_on_as (Sees ideal ∷ notes) call = let rest = goes_on_as notes (seeing ideal call) in record { operation = rest.operation; piece = rest.piece; maps = rest.maps; extra = rest.extra; commands = rest.commands }

pub index_left : {X : Type 0} (xs ys : List X) (number : ℕ) (d : X) → number < length xs → slice_index_or (xs ++ ys) number d ≡ slice_index_or xs number d
index_left [] ys number d lt = absurd (omega (arith, lt))
index_left (x ∷ xs) ys zero d lt = refl
index_left (x ∷ xs) ys (suc number) d lt = index_left xs ys number d (omega (arith, lt))

-- Notes of a guest without LPIs.

abbrev pub bare_guest : IdealGuest
bare_guest =
    record {
      shape = record { vcpus = 0; spis = 0; espis = 0; devices = 0; lpis = 0; ram = 0 };
      irqs = [];
      cpus = [];
      enables = record { group0 = false; group1 = false };
      words = [];
      offset = 0;
      is_stalled = false;
      tables = nothing_mapped;
    }

abbrev pub bare : Ideal
bare = record { guest = bare_guest; at = []; spreads = None; has_its = None }

abbrev none_for : ℕ → Option ℕ
none_for id = None

bare_target : (id : ℕ) → targets_in bare id ≡ none_for id
bare_target id = of (has_interrupt bare_guest.shape (Lpi id))
  where
    of : (b : Bool) → target_in (cond b (opening_irq false (Lpi id)) (opening_irq false (Lpi id))).route bare_guest.shape ≡ none_for id
    of true = refl
    of false = refl

bare_targets : targets_in bare ≡ none_for
bare_targets = fun_ext bare_target

push_none : (begun : List (ℕ → Option ℕ)) (last : ℕ → Option ℕ) (number : ℕ) → last ≡ none_for → slice_index_or (begun ++ last ∷ []) number none_for ≡ slice_index_or begun number none_for
push_none [] last zero e = e
push_none [] last (suc number) e = refl
push_none (x ∷ begun) last zero e = refl
push_none (x ∷ begun) last (suc number) e = push_none begun last number e

pub record GoesBare (call later : Call) (more : List Happened) : Type 0 where
  pub operation : later.operation ≡ call.operation
  pub piece : later.piece ≡ call.piece ++ more
  pub maps : later.maps ≡ call.maps
  pub targets : (number : ℕ) → targets_of later number ≡ targets_of call number
  pub place : later.place ≡ None

pub made_targets : (event : Event) (found : Found) (call : Call) (number : ℕ) → targets_of (made bare event found call) number ≡ targets_of call number
made_targets ItsBegin found call number = push_none call.commands (targets_in bare) number bare_targets
made_targets (Queue offset Runs) found call number = refl
made_targets (Queue offset (Done words)) found call number = push_none call.commands (targets_in bare) number bare_targets
made_targets (Queue offset (Stalls fault)) found call number = push_none call.commands (targets_in bare) number bare_targets
made_targets event found call number = refl

pub made_place : (event : Event) (found : Found) (call : Call) → is_plain_event event ≡ true → call.place ≡ None → (made bare event found call).place ≡ None
made_place ItsBegin found call h e = e
made_place (Enable vcpu) found call h e = absurd (cc)
made_place (Touch key touching) found call h e = ap (λ place. come_to place key) e
made_place (Queue offset Runs) found call h e = e
made_place (Queue offset (Done words)) found call h e = e
made_place (Queue offset (Stalls fault)) found call h e = e
made_place event found call h e = e

abbrev pub notes_of : List Happened → List Note
notes_of [] = Sees bare ∷ []
notes_of (one ∷ more) = Made false bare one.event one.found ∷ notes_of more

pub goes_bare : (more : List Happened) (call : Call) → are_plain more ≡ true → call.place ≡ None → GoesBare call (fold noting call (notes_of more)) more
goes_bare [] call h e = record { operation = refl; piece = sym (append-nil call.piece); maps = refl; targets = λ number. refl; place = e }
goes_bare (one ∷ more) call h e =
    let both = and_parts (is_plain_event one.event) (are_plain more) h in
    let mid : Call = made bare one.event one.found call in
    let rest = goes_bare more mid both.1 (made_place one.event one.found call both.0 e) in
    record {
      operation = rest.operation ∙ made_operation bare one.event one.found call;
      piece = rest.piece ∙ ap (λ p. p ++ more) (made_piece bare one.event one.found call) ∙ append_assoc call.piece (one ∷ []) more;
      maps = rest.maps ∙ made_maps bare one.event one.found call both.0;
      targets = λ number. rest.targets number ∙ made_targets one.event one.found call number;
      place = rest.place;
    }

-- the last of these notes sees each LPI
abbrev HasSeen : Call → Type 0
HasSeen call = (id : ℕ) → (other : Option ℕ) × Contains (call.targets id) other

sees_all : (ideal : Ideal) (call : Call) → call.place ≡ None → HasSeen (seeing ideal call)
sees_all ideal call e id =
    (targets_in ideal id, subst (λ (place : Option ℕ). Contains (cond (is_passed place id) (call.targets id) (call.targets id ++ targets_in ideal id ∷ [])) (targets_in ideal id)) (sym e) (Contains-push (call.targets id) (targets_in ideal id)))

pub bare_seen : (more : List Happened) (call : Call) → are_plain more ≡ true → call.place ≡ None → HasSeen (fold noting call (notes_of more))
bare_seen [] call h e = sees_all bare call e
bare_seen (one ∷ more) call h e =
    let both = and_parts (is_plain_event one.event) (are_plain more) h in bare_seen more (made bare one.event one.found call) both.1 (made_place one.event one.found call both.0 e)
