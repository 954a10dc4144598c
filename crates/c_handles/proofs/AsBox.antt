-- An owning pointer (`OwnedPtr`) and a `RawBox` with the same pointer own the same memory as a `Box` does.
use mir.Syntax.{impl, tnil, dnil}
use mathlib.Core.List.{[]}
use denote.Signature.{Slot, plain}
use Rattle.{std_alloc.proofs.BoxSteps.Form.Bx, std_heap.specs.contracts.GlobalAllocator.TheImpl.{ghosts, dict}}
use Rattle.std_heap.specs.contracts.Global as Heap
use Rattle.std_heap.proofs.Global.TheLaws as heap
use Rattle.c_handles.specs.contracts.body.Object as Body
use Rattle.c_handles.proofs.body.Object.TheLaws as body
use Rattle.c_handles.specs.contracts.parts.RawBox as Parts
use Rattle.c_handles.specs.contracts.held.OwnedPtr as Held

abbrev pub E : Bx
E = record {
  row = Body.the_row;
  laws = body.the_row_laws;
  al = record { row = Heap.the_row; laws = heap.the_row_laws; g = ghosts; d = dict; drops = impl [] tnil dnil };
}

abbrev pub FromParts : Slot 0
FromParts = plain (λ _. Parts.the_row Body.the_row Heap.the_row ghosts)

abbrev pub FromHeld : Slot 0
FromHeld = plain (λ _. Held.the_row)
