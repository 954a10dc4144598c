-- Which poller polls which station.
use Rattle.std.specs.Prelude.{ℕ, ◌-◌, ◌%◌, ◌==◌, Bool}
use Rattle.poll_engine.specs.declared.station.Station.{Station}

-- the number of the poller that polls station n: n - 1, modulo the count of pollers
abbrev pub poller_by : ℕ → ℕ → ℕ
poller_by pollers number = (number - 1) % pollers

abbrev pub is_own : ℕ → ℕ → ℕ → Bool
is_own poller pollers number = poller_by pollers number == poller

abbrev pub is_dealt : {D : Type 0} → ℕ → ℕ → Station D → Bool
is_dealt number pollers station = is_own number pollers station.number
