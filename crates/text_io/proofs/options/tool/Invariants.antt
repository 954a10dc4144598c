use Rattle.std.proofs.Common.{◌≡◌, take, map}
use Rattle.clap.specs.Simple.{app_of}
use Rattle.text_io.specs.Options.{tool}
use Rattle.text_io.proofs.options.tool.Given as goal

abbrev pub invariant-loop-name : goal.invariant-loop-name
invariant-loop-name l = app_of l.command ≡ tool (map (λ s. s.now) (take l.name-index l.names))
