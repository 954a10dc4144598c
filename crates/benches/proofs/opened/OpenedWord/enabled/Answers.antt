use Rattle.napi_word.proofs.Start.{new_controls, new_unmarked}
use Rattle.benches.proofs.opened.OpenedWord.enabled.Goals as goal

pub enable_swap-requires-clause-owner : goal.enable_swap-requires-clause-owner
enable_swap-requires-clause-owner c = new_controls 2 c.args.ctx c.in_ok-opened.opened.control c.in_ok-opened.ensures.control

pub enable_swap-requires-clause-unmarked : goal.enable_swap-requires-clause-unmarked
enable_swap-requires-clause-unmarked c = new_unmarked 2 2 c.args.ctx c.in_ok-opened.opened.control c.in_ok-opened.ensures.control
