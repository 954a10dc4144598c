use Rattle.std.proofs.Common.{◌≡◌, subst, sym, Ok, IfErr, OnOk}
use Rattle.machine.specs.declared.fault.MachineFault.TheVariants.{OutputFailed}
use Rattle.text_io.specs.Written.{LeavesBy, Writes}
use Rattle.napi_machine.specs.Program.{AnswersMachine, help_text, version_text}
use Rattle.napi_machine.proofs.AboutFacts.{about-output, about-written}
use Rattle.napi_machine.proofs.MachineProgramProgram.run.Goals as goal

pub returns-in-Machine-clause-output : goal.returns-in-Machine-clause-output
returns-in-Machine-clause-output g c =
    subst (λ a. IfErr c.run_machine.result (LeavesBy OutputFailed (λ bytes text. AnswersMachine a bytes (Ok text))
    (g.R.Read.remaining c.args.input)
    (g.W.Write.contents c.args.output.now) (g.W.Write.contents c.run_machine.new.writer)))
    (sym c.in-Machine.is) c.run_machine.ensures.output

pub returns-in-Help-clause-written : goal.returns-in-Help-clause-written
returns-in-Help-clause-written g c =
    subst (λ a. OnOk c.write_about.result (Writes (λ bytes text. AnswersMachine a bytes (Ok text)) (g.R.Read.remaining c.args.input)
    (g.W.Write.contents c.args.output.now) (g.W.Write.contents c.write_about.new.output))) (sym c.in-Help.is)
    (about-written c.write_about.result (g.R.Read.remaining c.args.input) (g.W.Write.contents c.args.output.now)
    (g.W.Write.contents c.write_about.new.output) help_text c.write_about.ensures.written)

pub returns-in-Help-clause-output : goal.returns-in-Help-clause-output
returns-in-Help-clause-output g c =
    subst (λ a. IfErr c.write_about.result (LeavesBy OutputFailed (λ bytes text. AnswersMachine a bytes (Ok text))
    (g.R.Read.remaining c.args.input)
    (g.W.Write.contents c.args.output.now) (g.W.Write.contents c.write_about.new.output))) (sym c.in-Help.is)
    (about-output c.write_about.result (g.R.Read.remaining c.args.input) (g.W.Write.contents c.args.output.now)
    (g.W.Write.contents c.write_about.new.output) help_text c.write_about.ensures.fault c.write_about.ensures.cut)

pub returns-in-Version-clause-written : goal.returns-in-Version-clause-written
returns-in-Version-clause-written g c =
    let w = c.write_about-in-Version in
    subst (λ a. OnOk w.result (Writes (λ bytes text. AnswersMachine a bytes (Ok text)) (g.R.Read.remaining c.args.input)
    (g.W.Write.contents c.args.output.now) (g.W.Write.contents w.new.output))) (sym c.in-Version.is)
    (about-written w.result (g.R.Read.remaining c.args.input) (g.W.Write.contents c.args.output.now)
    (g.W.Write.contents w.new.output) version_text w.ensures.written)

pub returns-in-Version-clause-output : goal.returns-in-Version-clause-output
returns-in-Version-clause-output g c =
    let w = c.write_about-in-Version in
    subst (λ a. IfErr w.result (LeavesBy OutputFailed (λ bytes text. AnswersMachine a bytes (Ok text)) (g.R.Read.remaining c.args.input)
    (g.W.Write.contents c.args.output.now) (g.W.Write.contents w.new.output))) (sym c.in-Version.is)
    (about-output w.result (g.R.Read.remaining c.args.input) (g.W.Write.contents c.args.output.now)
    (g.W.Write.contents w.new.output) version_text w.ensures.fault w.ensures.cut)
