-- A `Seen` has 2 ^ 7 * 3 values, so a fact about all of them is proved by a test that computes. Also: its derived `==` is
-- equality.
use Rattle.std.proofs.{Common.{◌≡◌, ◌&&◌, Bool, true, false, Option, Some, None, refl, sym, true≢false}, Math.Bool.beq}
use Rattle.std.{proofs.lemmas.Bool.and_parts, specs.Option.option_eq}
use Rattle.napi_model.specs.declared.state.{Kind.{Kind, TheVariants.{List, Thread}}, Seen.Seen}
use Rattle.napi_model.specs.contracts.state.KindPartialEq.TheImpl as kind_eq

-- ---- a test of every value

abbrev pub every_bool : (Bool → Bool) → Bool
every_bool p = p true && p false

abbrev pub every_mark : (Option Kind → Bool) → Bool
every_mark p = (p None && p (Some List)) && p (Some Thread)

abbrev pub seen_at : Bool → Bool → Bool → Bool → Bool → Bool → Bool → Option Kind → Seen
seen_at a b c d e f g m =
    record {
      flags = record { sched = a; missed = b; disable = c; npsvc = d; in_busy_poll = e; threaded = f; sched_threaded = g };
      handed = m;
    }

abbrev pub every_seen : (Seen → Bool) → Bool
every_seen p =
    every_bool
    (λ a. every_bool
    (λ b. every_bool
    (λ c. every_bool (λ d. every_bool (λ e. every_bool (λ f. every_bool (λ g. every_mark (λ m. p (seen_at a b c d e f g m)))))))))

bool_holds : (p : Bool → Bool) → every_bool p ≡ true → (b : Bool) → p b ≡ true
bool_holds p h true = (and_parts (p true) (p false) h).0
bool_holds p h false = (and_parts (p true) (p false) h).1

mark_holds : (p : Option Kind → Bool) → every_mark p ≡ true → (m : Option Kind) → p m ≡ true
mark_holds p h None = (and_parts (p None) (p (Some List)) (and_parts (p None && p (Some List)) (p (Some Thread)) h).0).0
mark_holds p h (Some List) = (and_parts (p None) (p (Some List)) (and_parts (p None && p (Some List)) (p (Some Thread)) h).0).1
mark_holds p h (Some Thread) = (and_parts (p None && p (Some List)) (p (Some Thread)) h).1

pub seen_holds : (p : Seen → Bool) → every_seen p ≡ true → (s : Seen) → p s ≡ true
seen_holds p h s =
    let a = s.flags.sched in
    let b = s.flags.missed in
    let c = s.flags.disable in
    let d = s.flags.npsvc in
    let e = s.flags.in_busy_poll in
    let f = s.flags.threaded in
    let g = s.flags.sched_threaded in
    let r1 =
    bool_holds
    (λ x. every_bool
    (λ b. every_bool
    (λ c. every_bool (λ d. every_bool (λ e. every_bool (λ f. every_bool (λ g. every_mark (λ m. p (seen_at x b c d e f g m))))))))) h a in
    let r2 =
    bool_holds
    (λ x. every_bool
    (λ c. every_bool (λ d. every_bool (λ e. every_bool (λ f. every_bool (λ g. every_mark (λ m. p (seen_at a x c d e f g m)))))))) r1 b in
    let r3 =
    bool_holds
    (λ x. every_bool (λ d. every_bool (λ e. every_bool (λ f. every_bool (λ g. every_mark (λ m. p (seen_at a b x d e f g m))))))) r2 c in
    let r4 = bool_holds (λ x. every_bool (λ e. every_bool (λ f. every_bool (λ g. every_mark (λ m. p (seen_at a b c x e f g m)))))) r3 d in
    let r5 = bool_holds (λ x. every_bool (λ f. every_bool (λ g. every_mark (λ m. p (seen_at a b c d x f g m))))) r4 e in
    let r6 = bool_holds (λ x. every_bool (λ g. every_mark (λ m. p (seen_at a b c d e x g m)))) r5 f in
    let r7 = bool_holds (λ x. every_mark (λ m. p (seen_at a b c d e f x m))) r6 g in
    mark_holds (λ x. p (seen_at a b c d e f g x)) r7 s.handed

-- ---- equality as the derived test

abbrev same_mark : Option Kind → Option Kind → Bool
same_mark = option_eq (kind_eq.eq-value).it

abbrev pub same_seen : Seen → Seen → Bool
same_seen x y =
    (beq x.flags.sched y.flags.sched
    && (beq x.flags.missed y.flags.missed
    && (beq x.flags.disable y.flags.disable
    && (beq x.flags.npsvc y.flags.npsvc
    && (beq x.flags.in_busy_poll y.flags.in_busy_poll
    && (beq x.flags.threaded y.flags.threaded && beq x.flags.sched_threaded y.flags.sched_threaded))))))
    && same_mark x.handed y.handed

bool_is : (a b : Bool) → beq a b ≡ true → a ≡ b
bool_is true false h = absurd (true≢false (sym h))
bool_is false true h = absurd (true≢false (sym h))
bool_is a b h = refl

mark_is : (a b : Option Kind) → same_mark a b ≡ true → a ≡ b
mark_is None None h = refl
mark_is (Some List) (Some List) h = refl
mark_is (Some Thread) (Some Thread) h = refl
mark_is a b h = absurd (true≢false (sym h))

pub seen_is : (x y : Seen) → same_seen x y ≡ true → x ≡ y
seen_is x y h =
    let t = and_parts _ _ h in
    let sched = and_parts _ _ t.0 in
    let missed = and_parts _ _ sched.1 in
    let disable = and_parts _ _ missed.1 in
    let npsvc = and_parts _ _ disable.1 in
    let busy = and_parts _ _ npsvc.1 in
    let threads = and_parts _ _ busy.1 in
    let e1 = bool_is x.flags.sched y.flags.sched sched.0 in
    let e2 = bool_is x.flags.missed y.flags.missed missed.0 in
    let e3 = bool_is x.flags.disable y.flags.disable disable.0 in
    let e4 = bool_is x.flags.npsvc y.flags.npsvc npsvc.0 in
    let e5 = bool_is x.flags.in_busy_poll y.flags.in_busy_poll busy.0 in
    let e6 = bool_is x.flags.threaded y.flags.threaded threads.0 in
    let e7 = bool_is x.flags.sched_threaded y.flags.sched_threaded threads.1 in
    let e8 = mark_is x.handed y.handed t.1 in
    λ i. seen_at (e1 i) (e2 i) (e3 i) (e4 i) (e5 i) (e6 i) (e7 i) (e8 i)

pub seen_same : (x : Seen) → same_seen x x ≡ true
seen_same x = seen_holds (λ s. same_seen s s) refl x
