-- The default settings: one poller, and the kernel's budget and weight.
use Rattle.std.specs.Prelude.{ℕ, ◌≡◌}
use Rattle.text_io.specs.declared.settings.ReplaySettings.{ReplaySettings}

abbrev pub default_pollers : ℕ
default_pollers = 1

abbrev pub default_budget : ℕ
default_budget = 300

abbrev pub default_weight : ℕ
default_weight = 64

abbrev pub default_window : ℕ
default_window = 1024

pub record HasDefaults (s : ReplaySettings) : Type 0 where
  pub pollers : s.pollers ≡ default_pollers
  pub budget : s.budget ≡ default_budget
  pub weight : s.weight ≡ default_weight
  pub window : s.window ≡ default_window
