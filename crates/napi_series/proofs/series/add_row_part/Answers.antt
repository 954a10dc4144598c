use Rattle.std.proofs.Common.{◌≡◌, ◌++◌, ℕ, Bool, List, append_assoc, sym}
use Rattle.std.specs.Prelude.{Option}
use Rattle.napi_series.specs.Series.{poll_fields}
use Rattle.device_bench.specs.declared.counts.DeviceCounts.{DeviceCounts}
use Rattle.device_rows.specs.declared.row.Row.{Row}
use Rattle.replay_rows.specs.declared.line.PollRecord.{PollRecord}
use Rattle.napi_series.proofs.series.add_row_part.Goals as goal

tells : (old new : List ℕ) (n : ℕ) (row : Row) (used used' : Bool) (counts counts' : Option DeviceCounts)
    (polled polled' : Option PollRecord)
    → new ≡ old ++ poll_fields n row used counts polled → used ≡ used' → counts ≡ counts' → polled ≡ polled'
    → new ≡ old ++ poll_fields n row used' counts' polled'
tells old new n row used used' counts counts' polled polled' told u c p = rw (sym u, sym c, sym p) told

three : (old told list end one two all : List ℕ) → one ≡ old ++ told → two ≡ one ++ list → all ≡ two ++ end
    → all ≡ old ++ (told ++ (list ++ end))
three old told list end one two all a b c = rw (c, b, a) (simp append_assoc)

pub returns : goal.returns
returns c = λ rows after.
    let s = c.args.settings.now.replay in
    let n = c.args.number in
    let told =
    tells _ _ n c.args.row.now _ _ _ _ _ _ c.in_ok-add_poll.ensures (c.uses_transmit.ensures s rows n after)
    (c.counts.ensures s rows n after)
    (c.polled.ensures s rows after) in
    three _ _ _ _ _ _ _ told (c.in_ok-add_list.ensures s rows after) (rw c.row_end.ensures at c.in_ok-push_str.ensures.bytes)
