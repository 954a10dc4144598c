use Rattle.std.proofs.Common.{◌≡◌, IfErr, Ok, rules, subst, sym}
use Rattle.replay.specs.ThreadsAnswer.{threads_of}
use Rattle.text_io.specs.{Written.LeavesText, declared.mode.ReplayMode.ReplayMode}
use Rattle.napi_replay.specs.Program.{AnswersIn}
use Rattle.napi_replay.proofs.program.replay_in.Goals as goal

pub returns-in-Shared-clause-output : goal.returns-in-Shared-clause-output
returns-in-Shared-clause-output g c =
    subst (λ (mode : ReplayMode). IfErr c.replay_shared.result
    (LeavesText (λ bytes text. AnswersIn mode c.args.asked.now.1 bytes (Ok text)) (g.R.Read.remaining c.args.input)
    (g.W.Write.contents c.args.output.now) (g.W.Write.contents c.replay_shared.new.writer)))
    (sym c.in-Shared.is) c.replay_shared.ensures.output

pub returns-after-replay_threads-clause-output : goal.returns-after-replay_threads-clause-output
returns-after-replay_threads-clause-output g c =
    let leaves : IfErr c.match-replay_threads.result
    (LeavesText (λ bytes text. threads_of bytes ≡ Ok text) (g.R.Read.remaining c.args.input)
    (g.W.Write.contents c.args.output.now) (g.W.Write.contents c.replay_threads.new.writer)) = search rules in
    subst (λ (mode : ReplayMode). IfErr c.match-replay_threads.result
    (LeavesText (λ bytes text. AnswersIn mode c.args.asked.now.1 bytes (Ok text)) (g.R.Read.remaining c.args.input)
    (g.W.Write.contents c.args.output.now) (g.W.Write.contents c.replay_threads.new.writer)))
    (sym c.in-Threads.is) leaves
