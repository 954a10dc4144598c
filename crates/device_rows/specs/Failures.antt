-- Facts that a function may conclude from an error: the reader failed, or an allocation failed.
use Rattle.std.specs.{Prelude.◌≡◌, declared.{alloc.AllocError.AllocError, io.Error.Error}}
use Rattle.csv.specs.declared.error.ErrorKind.{ErrorKind}
use Rattle.csv.specs.declared.error.ErrorKind.TheVariants.{Io, OutOfMemory}

pub HasFailed : Type 0
HasFailed = Unit {0}

pub failed_by : (kind : ErrorKind) (error : Error) → kind ≡ Io error → HasFailed
unfolding HasFailed
failed_by kind error is = tt

pub IsTraceOutOfMemory : Type 0
IsTraceOutOfMemory = Unit {0}

pub trace_out_of_memory : AllocError → IsTraceOutOfMemory
unfolding IsTraceOutOfMemory
trace_out_of_memory error = tt

pub refused_by_csv : (kind : ErrorKind) → kind ≡ OutOfMemory → IsTraceOutOfMemory
unfolding IsTraceOutOfMemory
refused_by_csv kind is = tt

pub failed_by_read : Error → HasFailed
unfolding HasFailed
failed_by_read error = tt
