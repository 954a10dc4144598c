-- The settings of the machine for C.
use Rattle.std.specs.Prelude.{◌≡◌, ℕ}
use Rattle.machine_model.specs.Options.{IsRejected, values_of}
use Rattle.machine_model.specs.declared.settings.MachineSettings.{MachineSettings}
use Rattle.files_c.specs.declared.settings.FqMachineSettings.{FqMachineSettings}

-- these are the settings that the struct asks for
abbrev pub AsksMachine : FqMachineSettings → MachineSettings → Type 0
AsksMachine asked s = values_of s ≡ asked.values

-- the settings are rejected for the one with this number; the first setting of the struct has number 1
abbrev pub IsSettingOut : FqMachineSettings → ℕ → Type 0
IsSettingOut asked number = IsRejected asked.values number
