-- The LPI that a message-signalled interrupt becomes (IHI 0069, "The ITS"; that a stalled queue does not stop it is an own choice).
use Rattle.std.specs.Prelude.{ℕ, ◌&&◌, not, is_some, Bool, Option, None, if◌then◌else◌}
use Rattle.its_tab.specs.Maps.{Maps, bits_of, id_of}
use Rattle.its_tab.specs.Fault.{is_past_device, is_uncollected}

-- a message passes: the ITS is enabled (GITS_CTLR.Enabled), the device is mapped, the EventID is in its range and mapped, and the event's collection is mapped
abbrev pub passes : Maps → Bool → ℕ → ℕ → Bool
passes maps enabled device event =
    enabled
    && is_some (bits_of maps device)
    && not (is_past_device maps device event)
    && not (is_uncollected maps device event)

-- the INTID of a message's LPI: that of its event, where it passes
abbrev pub translated : Maps → Bool → ℕ → ℕ → Option ℕ
translated maps enabled device event = (if passes maps enabled device event then id_of maps (device, event) else None)
