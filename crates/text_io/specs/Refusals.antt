-- The fact that an allocation failed, which a function may conclude from the error of a push or of clap.
use Rattle.std.specs.{Prelude.◌≡◌, declared.alloc.AllocError.AllocError}
use Rattle.clap.specs.{Values.kind_of, declared.error.Error.Error}
use Rattle.clap.specs.declared.error.kind.ErrorKind.TheVariants.{OutOfMemory}

pub IsArgsOutOfMemory : Type 0
IsArgsOutOfMemory = Unit {0}

pub args_out_of_memory : AllocError → IsArgsOutOfMemory
unfolding IsArgsOutOfMemory
args_out_of_memory error = tt

pub refused_by_clap : (error : Error) → kind_of error ≡ OutOfMemory → IsArgsOutOfMemory
unfolding IsArgsOutOfMemory
refused_by_clap error is = tt
