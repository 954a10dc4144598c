-- What a loan of the value of an owning pointer leaves there.
use Rattle.std.specs.{Prelude.Some, Borrow.{Lends, MutBor, Fml}}
use Rattle.c_handles.specs.declared.{body.Object.Object, held.OwnedPtr.OwnedPtr}
use Rattle.c_handles.specs.contracts.held.OwnedPtr.{the_row as held_row}
use Rattle.c_handles.specs.contracts.body.Object.{the_row as object_row}

-- the same pointer, to this value
abbrev pub with_body : OwnedPtr → Object → OwnedPtr
with_body h x = record { ptr = h.ptr; alloc = h.alloc; body = Some x }

-- once the loan r ends, the pointer h owns the last value that was written through r
abbrev pub LendsHeld : MutBor OwnedPtr → MutBor Object → Fml
LendsHeld h r = Lends held_row object_row h r (with_body h.now)
