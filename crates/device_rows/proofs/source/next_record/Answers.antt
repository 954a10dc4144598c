use Rattle.device_rows.specs.Failures.{failed_by, refused_by_csv}
use Rattle.device_rows.proofs.source.next_record.Goals as goal

pub returns-in-OutOfMemory-clause-memory : goal.returns-in-OutOfMemory-clause-memory
returns-in-OutOfMemory-clause-memory g c = λ _. refused_by_csv c.kind.result.now c.in-OutOfMemory.is

pub returns-in-Io-clause-failed : goal.returns-in-Io-clause-failed
returns-in-Io-clause-failed g c = λ _. failed_by c.kind.result.now c.in-Io.field-0 c.in-Io.is
