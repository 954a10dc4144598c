use Rattle.{std.proofs.lemmas.List.get_or-replicate, device_rows.specs.{Switch.switch_of, declared.switch.Switch.TheVariants.Unopened}}
use Rattle.device_rows.proofs.switch.Switches.new.Goals as goal

pub returns : goal.returns
unfolding switch_of
returns c place below = get_or-replicate 16 place Unopened Unopened below
