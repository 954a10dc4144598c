-- The runnable tasks, in order, for a machine with threads.
use Rattle.std.specs.Prelude.{ℕ, ◌==◌, Bool, true, false, List, [], ◌∷◌, ◌++◌, sum_by, if◌then◌else◌}
use Rattle.machine_model.specs.declared.tasks.RunnableTask.{RunnableTask, TheVariants.{Application, Thread}}

abbrev pub is_application : RunnableTask → Bool
is_application Application = true
is_application (Thread number) = false

abbrev pub applications : List RunnableTask → ℕ
applications tasks = sum_by (λ task. if is_application task then 1 else 0) tasks

-- the application becomes runnable, unless it is already
unfoldable pub with_application : List RunnableTask → List RunnableTask
with_application tasks = if applications tasks == 0 then tasks ++ Application ∷ [] else tasks

-- the application is removed if it is the first task and idle
abbrev pub runnable : Bool → List RunnableTask → List RunnableTask
runnable true (Application ∷ more) = more
runnable idle tasks = tasks

-- the first task runs: the application stays the first task; a thread is put first again if it has to poll again
abbrev pub after_first : List RunnableTask → List RunnableTask
after_first (Thread number ∷ more) = more
after_first tasks = tasks
