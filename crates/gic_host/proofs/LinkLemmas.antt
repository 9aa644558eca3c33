-- What linked list registers keep.
use Rattle.std.proofs.Common.{◌≡◌, ◌<◌, ◌≤◌, ◌+◌, ◌*◌, ◌/◌, ◌%◌, ◌^◌, ℕ, false, nat_eq, Option, Some, None, List, [], ◌∷◌, take, map, length, get_or, refl, sym, ap, ◌∙◌, subst, arith}
use Rattle.std.specs.Prelude.{if◌then◌else◌, IfSome, IsSome}
use Rattle.std.specs.Option.{option_map}
use Rattle.std.proofs.lemmas.Option.{none-some}
use Rattle.std.proofs.lemmas.List.{length-map, length-take, get_or-map, get_or-take}
use Rattle.std.proofs.lemmas.List.Elements.{All-map}
use Rattle.gic_ich.specs.Words.{HeldIrq, G0, G1, group_number, bit_of}
use Rattle.gic_ich.specs.GicWord.declared.record.Group.{Group}
use Rattle.gic_ich.specs.GicPrio.declared.cpu.CpuRec.{CpuRec}
use Rattle.gic_ich.specs.GicPrio.Interface.{InterfaceState}
use Rattle.floor_lists.specs.Lists.{LrEntry, LrState, IsEntry, Choice, Fill, HasEntries, StandFor, HasOne, Seen, seen_in, packed, unpacked, state_at, state_number, state_has_pending, state_has_active, word_of, held_as, held_of, regs_of, Invalid, Pending, Active, Both}
use Rattle.floor_lists.proofs.VcpuRefill.StandLemmas.{group_small, bit_small}
use Rattle.gic_host.specs.declared.link.Link.{Link}
use Rattle.gic_host.specs.Link.{is_to, link_to, linked_choice, linked_fill, AreLinked, HaveLinks, FitRegisters, FitsRegister, FitPlaces}
use Rattle.gic_host.proofs.ListLemmas.{find_in}

-- each has a link
pub have_links : (links : List Link) (vcpu : ℕ) (fill : Fill) → AreLinked links vcpu fill → HaveLinks (linked_fill links vcpu fill)
have_links links vcpu fill h =
    All-map (λ (place : Option Choice). IfSome place (λ choice. IsSome choice.entry.hw)) (option_map (linked_choice links vcpu)) fill.choice (λ k d less. of (get_or fill.choice k d) (h k d less))
  where
    some : (o : Option Link) → IsSome o → IsSome (option_map (λ link. link.phys) o)
    some None h = h
    some (Some link) h = refl

    of : (place : Option Choice) → IfSome place (λ choice. IsSome (link_to links vcpu choice.entry.id)) → IfSome (option_map (linked_choice links vcpu) place) (λ choice. IsSome choice.entry.hw)
    of None h = tt
    of (Some choice) h = some (link_to links vcpu choice.entry.id) h

-- a linked entry can stand in a list register
pub linked_entry : (links : List Link) (vcpu : ℕ) (choice : Choice) → FitRegisters links → IsEntry (linked_choice links vcpu choice).entry
linked_entry links vcpu choice fit = record { number = of (link_to links vcpu choice.entry.id) refl; no_eoi = none (option_map (λ link. link.phys) (link_to links vcpu choice.entry.id)) }
  where
    of : (o : Option Link) → link_to links vcpu choice.entry.id ≡ o → IfSome (option_map (λ link. link.phys) o) (λ number. number < 2 ^ 13)
    of None e = tt
    of (Some link) e = let has = (find_in (is_to vcpu choice.entry.id) links link e).0 in subst (λ (l : Link). l.phys < 2 ^ 13) has.2 (fit has.0 link has.1)

    none : (o : Option ℕ) → IfSome o (λ number. false ≡ false)
    none None = tt
    none (Some number) = refl

pub linked_entries : (links : List Link) (vcpu : ℕ) (fill : Fill) → FitRegisters links → HasEntries (linked_fill links vcpu fill).choice
linked_entries links vcpu fill fit =
    All-map (λ (place : Option Choice). IfSome place (λ choice. IsEntry choice.entry)) (option_map (linked_choice links vcpu)) fill.choice (λ k d less. of (get_or fill.choice k d))
  where
    of : (place : Option Choice) → IfSome (option_map (linked_choice links vcpu) place) (λ choice. IsEntry choice.entry)
    of None = tt
    of (Some choice) = linked_entry links vcpu choice fit

-- the parts of a word, with EOI or with a physical INTID
eoi_parts : (id prio g s e : ℕ) → id < 2 ^ 32 → prio < 2 ^ 8 → g ≤ 1 → s ≤ 3 → e ≤ 1
    → let word = id + e * 2 ^ 41 + prio * 2 ^ 48 + g * 2 ^ 60 + s * 2 ^ 62 in (word % 2 ^ 32 ≡ id) × (word / 2 ^ 48 % 2 ^ 8 ≡ prio) × (word / 2 ^ 60 % 2 ≡ g) × (word / 2 ^ 62 ≡ s)
eoi_parts id prio g s e id_fits prio_fits g_fits s_fits e_fits =
    (omega (arith, id_fits, prio_fits, g_fits, s_fits, e_fits), omega (arith, id_fits, prio_fits, g_fits, s_fits, e_fits), omega (arith, id_fits, prio_fits, g_fits, s_fits, e_fits), omega (arith, id_fits, prio_fits, g_fits, s_fits, e_fits))

hw_parts : (id prio g s n : ℕ) → id < 2 ^ 32 → prio < 2 ^ 8 → g ≤ 1 → s ≤ 3 → n < 2 ^ 13
    → let word = id + (n * 2 ^ 32 + 2 ^ 61) + prio * 2 ^ 48 + g * 2 ^ 60 + s * 2 ^ 62 in (word % 2 ^ 32 ≡ id) × (word / 2 ^ 48 % 2 ^ 8 ≡ prio) × (word / 2 ^ 60 % 2 ≡ g) × (word / 2 ^ 62 ≡ s)
hw_parts id prio g s n id_fits prio_fits g_fits s_fits n_fits =
    (omega (arith, id_fits, prio_fits, g_fits, s_fits, n_fits), omega (arith, id_fits, prio_fits, g_fits, s_fits, n_fits), omega (arith, id_fits, prio_fits, g_fits, s_fits, n_fits), omega (arith, id_fits, prio_fits, g_fits, s_fits, n_fits))

-- a word names the physical interrupt of its entry
pub hw_packed : (entry : LrEntry) (n : ℕ) → FitsRegister entry → entry.hw ≡ Some n → (unpacked (packed entry)).hw ≡ Some n
hw_packed entry n fits e =
    let small : n < 2 ^ 13 = subst (λ (hw : Option ℕ). IfSome hw (λ number. number < 2 ^ 13)) e fits.entry_is.number in
    let p = source_parts entry.id entry.prio (group_number entry.group) (state_number entry.state) n fits.id fits.prio (group_small entry.group) (state_small entry.state) small in
    ap (λ (hw : Option ℕ). (unpacked (packed (record entry { hw = hw }))).hw) e ∙ named (packed (record entry { hw = Some n })) p.0 p.1
  where
    state_small : (state : LrState) → state_number state ≤ 3
    state_small Invalid = omega arith
    state_small Pending = omega arith
    state_small Active = omega arith
    state_small Both = omega arith

    source_parts : (id prio g s n : ℕ) → id < 2 ^ 32 → prio < 2 ^ 8 → g ≤ 1 → s ≤ 3 → n < 2 ^ 13
        → let word = id + (n * 2 ^ 32 + 2 ^ 61) + prio * 2 ^ 48 + g * 2 ^ 60 + s * 2 ^ 62 in (word / 2 ^ 61 % 2 ≡ 1) × (word / 2 ^ 32 % 2 ^ 13 ≡ n)
    source_parts id prio g s n id_fits prio_fits g_fits s_fits n_fits = (omega (arith, id_fits, prio_fits, g_fits, s_fits, n_fits), omega (arith, id_fits, prio_fits, g_fits, s_fits, n_fits))

    shown : ℕ → ℕ → Option ℕ
    shown bit field = if nat_eq bit 1 then Some field else None

    named : (word : ℕ) → word / 2 ^ 61 % 2 ≡ 1 → word / 2 ^ 32 % 2 ^ 13 ≡ n → shown (word / 2 ^ 61 % 2) (word / 2 ^ 32 % 2 ^ 13) ≡ Some n
    named word f g = rw (f, g) refl

-- what an entry shows
abbrev shown_of : LrEntry → Seen
shown_of entry = record { id = entry.id; prio = entry.prio; group = entry.group; pending = state_has_pending entry.state; active = state_has_active entry.state }

-- a word shows what its entry does
pub seen_packed : (entry : LrEntry) → FitsRegister entry → seen_in (packed entry) ≡ shown_of entry
seen_packed entry fits = of entry.hw refl
  where
    shown : ℕ → ℕ → ℕ → ℕ → Seen
    shown id prio group state = record { id = id; prio = prio; group = if nat_eq group 1 then G1 else G0; pending = state_has_pending (state_at state); active = state_has_active (state_at state) }

    same_shown : (id id' prio prio' group group' state state' : ℕ) → id ≡ id' → prio ≡ prio' → group ≡ group' → state ≡ state' → shown id prio group state ≡ shown id' prio' group' state'
    same_shown id id' prio prio' group group' state state' e f g h = rw (e, f, g, h) refl

    state_small : (state : LrState) → state_number state ≤ 3
    state_small Invalid = omega arith
    state_small Pending = omega arith
    state_small Active = omega arith
    state_small Both = omega arith

    back : (group : Group) (state : LrState) → shown entry.id entry.prio (group_number group) (state_number state) ≡ record { id = entry.id; prio = entry.prio; group = group; pending = state_has_pending state; active = state_has_active state }
    back G0 Invalid = refl
    back G0 Pending = refl
    back G0 Active = refl
    back G0 Both = refl
    back G1 Invalid = refl
    back G1 Pending = refl
    back G1 Active = refl
    back G1 Both = refl

    with_hw : Option ℕ → LrEntry
    with_hw hw = record entry { hw = hw }

    of : (hw : Option ℕ) → entry.hw ≡ hw → seen_in (packed entry) ≡ shown_of entry
    of None e =
        let word = packed (with_hw None) in
        let p = eoi_parts entry.id entry.prio (group_number entry.group) (state_number entry.state) (bit_of entry.eoi) fits.id fits.prio (group_small entry.group) (state_small entry.state) (bit_small entry.eoi) in
        ap (λ (hw : Option ℕ). seen_in (packed (with_hw hw))) e
        ∙ same_shown (word % 2 ^ 32) entry.id (word / 2 ^ 48 % 2 ^ 8) entry.prio (word / 2 ^ 60 % 2) (group_number entry.group) (word / 2 ^ 62) (state_number entry.state) p.0 p.1 p.2 p.3
        ∙ back entry.group entry.state
    of (Some n) e =
        let word = packed (with_hw (Some n)) in
        let small : n < 2 ^ 13 = subst (λ (hw : Option ℕ). IfSome hw (λ number. number < 2 ^ 13)) e fits.entry_is.number in
        let p = hw_parts entry.id entry.prio (group_number entry.group) (state_number entry.state) n fits.id fits.prio (group_small entry.group) (state_small entry.state) small in
        ap (λ (hw : Option ℕ). seen_in (packed (with_hw hw))) e
        ∙ same_shown (word % 2 ^ 32) entry.id (word / 2 ^ 48 % 2 ^ 8) entry.prio (word / 2 ^ 60 % 2) (group_number entry.group) (word / 2 ^ 62) (state_number entry.state) p.0 p.1 p.2 p.3
        ∙ back entry.group entry.state

-- the word of a list register
pub word_at : (choices : List (Option Choice)) (n place : ℕ) → place < length (take n (map word_of choices)) → get_or (take n (map word_of choices)) place 0 ≡ word_of (get_or choices place None)
word_at choices n place less =
    get_or-take n (map word_of choices) place 0 (omega (arith, less, length-take n (map word_of choices)))
    ∙ get_or-map word_of choices place None 0 (omega (arith, less, length-take n (map word_of choices), length-map choices word_of))

-- linked registers stand for what the registers stand for
module _ (links : List Link) (vcpu : ℕ) (fill : Fill) (cpu : CpuRec) (n : ℕ) (interface : InterfaceState) (fit : FitPlaces fill) (numbers : FitRegisters links) (stands : StandFor (regs_of fill cpu n) (held_of fill) interface) where
  abbrev with_link : Option Choice → Option Choice
  with_link place = option_map (linked_choice links vcpu) place

  abbrev old : List ℕ
  old = take n (map word_of fill.choice)

  abbrev new : List ℕ
  new = take n (map word_of (map with_link fill.choice))

  held_same : (choices : List (Option Choice)) → map (option_map held_as) (map with_link choices) ≡ map (option_map held_as) choices
  held_same [] = refl
  held_same (None ∷ choices) = ap (λ (rest : List (Option HeldIrq)). None ∷ rest) (held_same choices)
  held_same (Some choice ∷ choices) = ap (λ (rest : List (Option HeldIrq)). Some (held_as choice) ∷ rest) (held_same choices)

  same_length : length new ≡ length old
  same_length = omega (arith, length-take n (map word_of (map with_link fill.choice)), length-take n (map word_of fill.choice), length-map (map with_link fill.choice) word_of, length-map fill.choice with_link, length-map fill.choice word_of)

  linked_at : (place : ℕ) → place < length new → get_or new place 0 ≡ word_of (with_link (get_or fill.choice place None))
  linked_at place less =
      word_at (map with_link fill.choice) n place less
      ∙ ap word_of (get_or-map with_link fill.choice place None None (omega (arith, less, length-take n (map word_of (map with_link fill.choice)), length-map (map with_link fill.choice) word_of, length-map fill.choice with_link)))

  shows : (place : Option Choice) → IfSome place (λ choice. FitsRegister choice.entry) → seen_in (word_of (with_link place)) ≡ seen_in (word_of place)
  shows None h = refl
  shows (Some choice) h =
      seen_packed (linked_choice links vcpu choice).entry (record { entry_is = linked_entry links vcpu choice numbers; id = h.id; prio = h.prio }) ∙ sym (seen_packed choice.entry h)

  within : (place : ℕ) → place < length old → place < length fill.choice
  within place less = omega (arith, less, length-take n (map word_of fill.choice), length-map fill.choice word_of)

  seen_same : (place : ℕ) → place < length old → seen_in (get_or new place 0) ≡ seen_in (get_or old place 0)
  seen_same place less =
      ap seen_in (linked_at place (omega (arith, less, same_length))) ∙ shows (get_or fill.choice place None) (fit place None (within place less)) ∙ sym (ap seen_in (word_at fill.choice n place less))

  held_at : (place : ℕ) → place < length old → get_or (held_of fill) place None ≡ option_map held_as (get_or fill.choice place None)
  held_at place less = get_or-map (option_map held_as) fill.choice place None None (within place less)

  filled : (place : ℕ) (one : HeldIrq) → place < length new → get_or (held_of fill) place None ≡ Some one → HasOne (get_or new place 0) one interface.at
  filled place one less e =
      let before = stands.places.filled place one (omega (arith, less, same_length)) e in
      record {
        entry = before.entry;
        among = before.among;
        stands = record { key = before.stands.key; seen = seen_same place (omega (arith, less, same_length)) ∙ before.stands.seen; rise = before.stands.rise; soft = before.stands.soft };
      }

  free : (place : ℕ) → place < length new → get_or (held_of fill) place None ≡ None → get_or new place 0 ≡ 0
  free place less e = linked_at place less ∙ of (get_or fill.choice place None) (sym (held_at place (omega (arith, less, same_length))) ∙ e)
    where
      of : (place : Option Choice) → option_map held_as place ≡ None → word_of (with_link place) ≡ 0
      of None e = refl
      of (Some choice) e = absurd (none-some (held_as choice) (sym e))

  pub linked_stands : StandFor (regs_of (linked_fill links vcpu fill) cpu n) (held_of (linked_fill links vcpu fill)) interface
  linked_stands =
      subst (λ (held : List (Option HeldIrq)). StandFor (regs_of (linked_fill links vcpu fill) cpu n) held interface) (sym (held_same fill.choice))
      (record {
        holds = record { enabled = stands.holds.enabled; vmcr = stands.holds.vmcr; ap0 = stands.holds.ap0; ap1 = stands.holds.ap1 };
        places = record {
          filled = filled;
          free = free;
          past = λ place more. stands.places.past place (omega (arith, more, same_length));
          each = stands.places.each;
          once = stands.places.once;
        };
      })
