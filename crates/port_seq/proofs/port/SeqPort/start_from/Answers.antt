use Rattle.std.proofs.Common.{◌≡◌, ℕ, ◌+◌, ◌<◌, List, [], ◌∷◌, ◌++◌, length, map, get_or, append_assoc, refl, sym, ap, subst, ◌∙◌}
use Rattle.std.specs.Vec.Iter.{into_iter_items}
use Rattle.std.proofs.lemmas.List.{length_push, get_or_at}
use Rattle.port_ops.specs.Opened.{no_guest}
use Rattle.port_ops.specs.PortCore.IdealGuests.Opening.{opening}
use Rattle.port_seq.specs.declared.guest.GuestPort.{GuestPort}
use Rattle.port_seq.specs.Ports.{told}
use Rattle.port_seq.specs.Told.{no_told, opening_told}
use Rattle.port_seq.proofs.GuestsLemmas.{told_push}
use Rattle.port_seq.proofs.port.SeqPort.start_from.Goals as goal

pub loop-guest-preserved : goal.loop-guest-preserved
loop-guest-preserved c =
    let at = c.loop-guest in
    let guests = c.args.guests.items in
    let guest = c.in-Some.guest in
    let port = c.in_ok-start.field-0 in
    let number = length at.yielded in
    let rest = into_iter_items c.next.new.self in
    let all : guests ≡ at.yielded ++ guest ∷ rest = sym at.invariant.rest ∙ ap (λ rest. at.yielded ++ rest) c.in-Some.ensures.steps.0 in
    let pushed : c.push.new.self.items ≡ at.ports.items ++ port ∷ [] = c.in_ok-push.ensures.items in
    let here : guest ≡ get_or guests number (opening no_guest) = sym (ap (λ l. get_or l number (opening no_guest)) all ∙ get_or_at at.yielded guest rest (opening no_guest) number refl) in
    let more : length (at.yielded ++ guest ∷ []) ≡ number + 1 = length_push at.yielded guest in
    record {
      next = tt;
      finite = tt;
      rest = append_assoc at.yielded (guest ∷ []) rest ∙ sym all;
      each = ap length pushed ∙ length_push at.ports.items port ∙ ap (λ n. n + 1) at.invariant.each ∙ sym more;
      opened =
          subst (λ ports. (n : ℕ) → n < length (at.yielded ++ guest ∷ []) → get_or (map told ports) n no_told ≡ opening_told (get_or (map told ports) n no_told).home (get_or guests n (opening no_guest)) n) (sym {A = List GuestPort} pushed)
          (subst (λ m. (n : ℕ) → n < m → get_or (map told (at.ports.items ++ port ∷ [])) n no_told ≡ opening_told (get_or (map told (at.ports.items ++ port ∷ [])) n no_told).home (get_or guests n (opening no_guest)) n) (sym more)
          (told_push (λ t n. t ≡ opening_told t.home (get_or guests n (opening no_guest)) n) at.ports.items port number at.invariant.each at.invariant.opened
          (c.in_ok-start.ensures ∙ ap (opening_told (told port).home guest) (c.len-number.ensures ∙ at.ports.ok.0 ∙ at.invariant.each) ∙ ap (λ g. opening_told (told port).home g number) here)));
    }
