-- What the pointer in a handle owns: a value on the heap, or nothing.
use Rattle.std.specs.{Prelude.{Option, Some, None}, Coded.coded_option, Box.Ownership.box_owns, Global.Global}
use Rattle.{std_heap.specs.contracts.GlobalAllocator.TheImpl.ghosts, c_handles.specs.contracts.body.Object.the_row}
use base.{Fml.{Fml, ftrue}, Stored.Coded}
use denote.RawPtr.{Ptr}

abbrev pub held_owns : Global → Ptr → Option the_row.Denot → Fml
held_owns alloc p None = ftrue
held_owns alloc p (Some x) = box_owns (ghosts.dealloc_token alloc) the_row p x

abbrev pub body_coded : Coded (Option the_row.Denot)
body_coded = coded_option the_row.coded
