-- Two contexts belong to the same ring if their rings have the same name.
use Rattle.std.proofs.Common.{◌≡◌, ap}
use Rattle.rx_ring.specs.{Ends.{RingName, ring_name, SameCtx, NamesTellRings}, declared.ends.RxCtx.RxCtx}

pub same_name : (a b : RxCtx) → ring_name b ≡ ring_name a → SameCtx a b
same_name a b e = (
  (ap (λ (n : RingName). n.0) e, ap (λ (n : RingName). n.1) e, ap (λ (n : RingName). n.2) e, ap (λ (n : RingName). n.3) e),
  ap
      (λ (n : RingName). n.4) e,
)

pub same_ring : (a b : RxCtx) → SameCtx a b → ring_name b ≡ ring_name a
same_ring a b s = λ i. (s.0.0 i, s.0.1 i, s.0.2 i, s.0.3 i, s.1 i)

pub names_tell_rings : NamesTellRings
names_tell_rings a b = (same_name a b, same_ring a b)
