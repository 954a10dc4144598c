-- The order in which the devices of a driver are polled: the line of `line_of`, whose head is polled next.
use Rattle.std.specs.Prelude.{◌≡◌, ◌⊎◌, ◌≤◌, ℕ, List, [], ◌∷◌, ◌++◌, length, Some, Option, Result, ⊤, false}
use Rattle.std.specs.List.{concat}
use Rattle.poll_runs.specs.Turn.{asked_for}
use Rattle.driver_core.specs.Driver.{AsksJoined, AsksNext, DoesChore, EndsRun, IsTurn, PutsDevice, Reports, driver_devices, line_of}
use Rattle.driver_core.specs.Driver.{polled_device, weight_of}
use Rattle.driver_core.specs.declared.{todo.What.TheVariants.{Fetch}, todo.Refused.Refused}
use Rattle.driver_core.specs.declared.{device.{Chore.Chore, DriverDevice.DriverDevice, Rearm.Rearm}, driver.Driver.Driver}
use Rattle.driver_core.specs.declared.{todo.Todo.Todo}

-- One call of a driver, and the device whose poll it reported, if it reported one. The calls are `Driver::done`, `Driver::next`,
-- `Driver::interrupt`, `Driver::timer`, `Driver::open`, `Driver::stop` and `Driver::end_run`; a call that changes nothing is left out.
abbrev pub CallPolls : Driver → List ℕ → Driver → Type 0
CallPolls before polled after =
    ((packets : ℕ) × (rearm : Rearm) × Reports packets rearm before after × (polled ≡ asked_for (polled_device before)))
    ⊎ ((todo : Todo) × AsksNext before todo after × (polled ≡ []))
    ⊎ ((id : ℕ) × (to : DriverDevice) × PutsDevice id to before after × (polled ≡ []))
    ⊎ (EndsRun before after × (polled ≡ []))
    ⊎ ((id : ℕ) × (chore : Chore) × DoesChore id chore false before after × (polled ≡ []))

-- these calls in sequence lead from the one driver to the other
abbrev pub CallsPoll : Driver → List (List ℕ) → Driver → Type 0
CallsPoll before [] after = after ≡ before
CallsPoll before (polled ∷ more) after = (next : Driver) × CallPolls before polled next × CallsPoll next more after

-- Law: whatever calls are made, the devices that were polled meanwhile, and then those in the line, begin with the line as it was. So a
-- device that joins a line of n devices is polled after these, each once. The line has at most as many entries as there are devices.
pub record PolledInTurn : Type 0 where
  pub order : (before after : Driver) (polled : List (List ℕ)) → CallsPoll before polled after
      → (more : List ℕ) × (concat polled ++ line_of after ≡ line_of before ++ more)
  pub few : (driver : Driver) → length (line_of driver) ≤ length (driver_devices driver)

-- law: a turn is such calls: of interrupts, of one report, of a mask that is joined, and of a question
abbrev pub TurnsAreCalls : Type 0
TurnsAreCalls =
    (bits number packets : ℕ) (rearm : Rearm) (before after : Driver) (reported : Result ⊤ Refused) (mask : Option ℕ) (todo : Todo)
    → IsTurn bits number packets rearm before reported mask todo after → (polled : List (List ℕ)) × CallsPoll before polled after

-- law: an action that masks a card first is the fetch from that device
abbrev pub MaskedFirstIsFetched : Type 0
MaskedFirstIsFetched =
    (before after : Driver) (id : ℕ) (todo : Todo) → AsksJoined before (Some id) todo after → todo.what ≡ Fetch id (weight_of before id)
