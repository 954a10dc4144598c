-- The state of the input end of a ring.
use Rattle.{std.specs.Prelude.length, rx_ring.specs.{ReceiveRing.capped, Ends.{put_list, capacity_of}, declared.ends.RxIn.RxIn}}
use Rattle.c_handles.specs.declared.input.FqRingShown.{FqRingShown}

abbrev pub shown_of : RxIn → FqRingShown
shown_of end = record { size = 24; put = capped (length (put_list end)); capacity = capacity_of end }
