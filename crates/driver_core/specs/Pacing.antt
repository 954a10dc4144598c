-- What the settings of a device do: how long a poll may be, when its card's interrupt is deferred (`napi_complete_done`), and when busy
-- polling ends.
use Rattle.std.specs.Prelude.{ℕ, ◌+◌, ◌-◌, ◌==◌, ◌||◌, ◌&&◌, min, nat_lt, Bool, true, false, if◌then◌else◌}
use Rattle.driver_core.specs.declared.pacing.{DeviceSettings.DeviceSettings, Pacing.Pacing}

-- a device that wasn't polled yet
abbrev pub new_pacing : DeviceSettings → Pacing
new_pacing settings = record { settings = settings; deferrals = 0; empty = 0 }

-- with this weight, without deferral and without busy polling
abbrev pub plain_settings : ℕ → DeviceSettings
plain_settings weight = record { weight = weight; defer_hard_irqs = 0; gro_flush_timeout = 0; empty_polls = 0 }

-- how often the interrupt may be deferred, at a completion after a poll of this many packets: a poll with packets starts the count
abbrev pub deferrals_at : ℕ → Pacing → ℕ
deferrals_at packets p = if packets == 0 then p.deferrals else p.settings.defer_hard_irqs

-- a completion after a poll of this many packets defers the interrupt
abbrev pub defers : ℕ → Pacing → Bool
defers packets p = nat_lt 0 p.settings.gro_flush_timeout && nat_lt 0 (deferrals_at packets p)

-- the empty polls in a row, with a poll of this many packets
abbrev pub empty_at : ℕ → Pacing → ℕ
empty_at packets p = if packets == 0 then min (p.empty + 1) 4294967295 else 0

-- The instance stays scheduled after a poll of this many packets: the poll used its whole weight, or the device is busy polled, and there
-- weren't enough empty polls in a row.
abbrev pub keeps_polling : ℕ → Pacing → Bool
keeps_polling packets p = (packets == p.settings.weight) || nat_lt (empty_at packets p) p.settings.empty_polls

-- the interrupt may be deferred, or the device is busy polled
abbrev pub is_paced : DeviceSettings → Bool
is_paced settings = nat_lt 0 settings.gro_flush_timeout || nat_lt 0 settings.empty_polls

-- a poll of this many packets is counted; the flag says whether it completes
abbrev pub paced_count : Bool → ℕ → Pacing → Pacing
paced_count true packets p = record { settings = p.settings; deferrals = deferrals_at packets p - 1; empty = 0 }
paced_count false packets p = record { settings = p.settings; deferrals = p.deferrals; empty = empty_at packets p }

-- after such a poll: it is counted if the settings need that
abbrev pub paced_after : Bool → ℕ → Pacing → Pacing
paced_after completes packets p = if is_paced p.settings then paced_count completes packets p else p
