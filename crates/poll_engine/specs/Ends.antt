-- The end of a station's run.
use Rattle.std.specs.Prelude.{◌≡◌, ◌+◌, ◌<◌, ◌≤◌, ◌^◌, length}
use Rattle.{rx_ring.specs.{Ends.{capacity_of, put_list}, ReceiveRing.{bytes_of, capped}}, napi_calls.specs.declared.kept.DropBomb.DropBomb}
use Rattle.poll_engine.specs.{declared.setup.opening.Loose.Loose, declared.station.Finished.Finished, Closings.IsCallersOf, Runs.IsEnded}

module _ {D : Type 0} where
  -- the totals are those of the station's ring, and the instance was closed with its callers
  pub record IsFinishOf (loose : Loose D) (end : Finished D) : Type 0 where
    pub same_number : end.number ≡ loose.number
    pub same_device : end.device ≡ loose.device
    pub same_asked : end.asked ≡ loose.asked
    pub put : end.totals.put ≡ capped (length (put_list loose.rx))
    pub bytes : end.totals.bytes ≡ capped (bytes_of (put_list loose.rx))
    pub sum : length (put_list loose.rx) < 2 ^ 64 → end.totals.put ≡ end.totals.polled + end.totals.left
    -- the ring holds at most its capacity
    pub few : end.totals.left ≤ capacity_of loose.rx
    pub of : IsCallersOf loose.handles loose.poller loose.thread end.closed
    pub ended : IsEnded end.closed (put_list loose.rx) end.totals

  abbrev pub IsKeptFinishOf : {R : Type 0} → DropBomb R (Loose D) → Finished D → Type 0
  IsKeptFinishOf loose end = IsFinishOf loose.value end
