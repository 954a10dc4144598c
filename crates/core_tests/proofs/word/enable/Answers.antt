use Rattle.napi_word.proofs.Start.{new_controls, new_unmarked}
use Rattle.core_tests.proofs.word.enable.Goals as goal

pub enable_swap-requires-clause-owner : goal.enable_swap-requires-clause-owner
enable_swap-requires-clause-owner c = new_controls 2 c.requires.new.0 c.args.control.now c.requires.new.1

pub enable_swap-requires-clause-unmarked : goal.enable_swap-requires-clause-unmarked
enable_swap-requires-clause-unmarked c = new_unmarked 2 2 c.requires.new.0 c.args.control.now c.requires.new.1
