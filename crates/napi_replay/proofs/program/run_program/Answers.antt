use Rattle.std.proofs.Common.{◌≡◌, ap}
use Rattle.text_io.specs.{declared.fault.ReplayFault.TheVariants.OutputFailed, declared.program.ProgramFault.TheVariants.Run}
use Rattle.napi_replay.proofs.program.run_program.Goals as goal

pub returns-in-Ok-replay_in-clause-written : goal.returns-in-Ok-replay_in-clause-written
returns-in-Ok-replay_in-clause-written g c = λ _ bytes known.
    let replayed = c.in-Ok-replay_in.ensures.written bytes known in
    (replayed.0, (c.in-Ok.asked, c.in-Ok.ensures.asked, replayed.1), replayed.2)

pub returns-in-Err-replay_in-clause-failed : goal.returns-in-Err-replay_in-clause-failed
returns-in-Err-replay_in-clause-failed g c = λ _. record {
  fault = Run c.in-Err-replay_in.fault;
  why = (c.in-Ok.asked, c.in-Ok.ensures.asked, c.in-Err-replay_in.ensures.fault);
  output = (
    λ is bytes known.
        let failed : c.in-Err-replay_in.fault ≡ OutputFailed = cc is in
        let part = c.in-Err-replay_in.ensures.output.0 failed bytes known in
        (part.0, (c.in-Ok.asked, c.in-Ok.ensures.asked, part.1), part.2),
    λ other. c.in-Err-replay_in.ensures.output.1 (λ is. other (ap Run is)),
  );
  ends = c.end_by.ensures.ends;
}
