-- The fact that a thread could not be started. Only the error of the start proves it.
use Rattle.std.specs.declared.thread.SpawnError.{SpawnError}

pub IsRefused : Type 0
IsRefused = Unit {0}

pub refused_by : {F : Type 0} → SpawnError F → IsRefused
unfolding IsRefused
refused_by error = tt
