-- What a raise has made so far, as plain values.
use Rattle.{replay_rows.specs.Played.replay_state, replay_raised.specs.Raised.Raised}
use Rattle.replay_raised.specs.declared.raised.Raising.{Raising}

abbrev pub raised_so_far : Raising → Raised
raised_so_far r = record { rows = r.rows.items; state = replay_state r.replay }
