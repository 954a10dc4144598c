-- The one-thread object: what its private fields hold, and each call as a legal step.
use Rattle.std.specs.Prelude.{◌≡◌, ℕ}
use Rattle.napi_model.specs.declared.{state.State.State, event.Operation.Operation}
use Rattle.napi_model.specs.{declared.serial.SerialNapi.SerialNapi, Step.{event, LegalStep}}

abbrev pub state_of : SerialNapi → State
state_of napi = napi.state

abbrev pub serial_controller : SerialNapi → ℕ
serial_controller napi = napi.controller

-- the caller made a legal step with this reply, and nothing else changed
pub record SerialSteps (old : SerialNapi) (caller : ℕ) (operation : Operation) (new : SerialNapi) : Type 0 where
  pub legal : LegalStep (state_of old) (event caller operation) (state_of new)
  pub controller : serial_controller new ≡ serial_controller old
