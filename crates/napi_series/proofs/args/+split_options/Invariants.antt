use Rattle.std.proofs.Common.{length}
use Rattle.napi_series.proofs.args.+split_options.Given as goal

abbrev pub decreases-split_options : goal.decreases-split_options
decreases-split_options l = length l.words.now
