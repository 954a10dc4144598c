-- Plans that are executed one after the other.
use Rattle.std.proofs.Common.{◌≡◌, ◌≢◌, ◌∙◌, Bool, List, [], ◌++◌, map, ap, refl, subst, append_assoc}
use Rattle.{napi_model.specs.declared.event.{Call.Call, Operation.Operation}}
use Rattle.{poll_runs.specs.Plan.{Action, Does, Follows, Plan, made, ◌>>=◌}}
use Rattle.poll_runs.specs.{Plan.{ends, asks, acts, polls}, Polling.HasLast, declared.bench.Next.{Next, TheVariants.Absent}}

pub follows-then : {P A B : Type 0} (tries : Call → Operation → List Operation → Type 0) (plan : Plan P A) (next : A → Plan P B)
    (first second : List (Action P)) (a : A) (b : B)
    → Follows tries plan first a → Follows tries (next a) second b → Follows tries (plan >>= next) (first ++ second) b
follows-then tries (ends x) next first second a b f g = rw (f.0, ← f.1) g
follows-then tries (asks c go) next first second a b f g =
    let joined = ap (λ (l : List (Action _)). l ++ second) f.6 ∙ append_assoc (map made f.1) f.2 second in
    (f.0, f.1, f.2 ++ second, f.3, f.4, follows-then tries (go f.0) next f.2 second a b f.5 g, joined)
follows-then tries (acts o plan) next first second a b f g =
    let joined = ap (λ (l : List (Action _)). l ++ second) f.4 ∙ append_assoc (map made f.0) f.1 second in
    (f.0, f.1 ++ second, f.2, follows-then tries plan next f.1 second a b f.3 g, joined)
follows-then tries (polls weight go) next first second a b f g =
    (f.0, f.1 ++ second, f.2, follows-then tries (go f.0) next f.1 second a b f.3 g, ap (λ (l : List (Action _)). l ++ second) f.4)

module _ {I P : Type 0} (tries : Call → Operation → List Operation → Type 0) (did : I → List (Action P) → I → Type 0) where
  -- executing the rest of the plan from here executes the whole plan
  abbrev pub Leads : {A : Type 0} → Plan P A → I → Plan P A → I → Type 0
  Leads {A} whole start rest now = (answer : A) (after : I) → Does tries did rest now answer after → Does tries did whole start answer after

  pub leads-from : {A : Type 0} (whole : Plan P A) (start : I) → Leads whole start whole start
  leads-from whole start answer after d = d

module _ {I P : Type 0} (tries : Call → Operation → List Operation → Type 0) (did : I → List (Action P) → I → Type 0)
    (nothing : (it : I) → did it [] it)
    (joins : (a b c : I) (first second : List (Action P)) → did a first b → did b second c → did a (first ++ second) c) where
  pub does-then : {A B : Type 0} (plan : Plan P A) (next : A → Plan P B) (s t u : I) (a : A) (b : B)
      → Does tries did plan s a t → Does tries did (next a) t b u → Does tries did (plan >>= next) s b u
  does-then plan next s t u a b d e =
      (d.0 ++ e.0, joins s t u d.0 e.0 d.1 e.1, follows-then tries plan next d.0 e.0 a b d.2 e.2)

  pub leads-on : {A B : Type 0} (whole : Plan P B) (start : I) (plan : Plan P A) (next : A → Plan P B) (now then : I) (a : A)
      → Leads tries did whole start (plan >>= next) now → Does tries did plan now a then → Leads tries did whole start (next a) then
  leads-on whole start plan next now then a l d answer after e = l answer after (does-then plan next now then after a answer d e)

  pub leads-to : {A : Type 0} (whole : Plan P A) (start now : I) (a : A) → Leads tries did whole start (ends a) now
      → Does tries did whole start a now
  leads-to whole start now a l = l a now ([], nothing now, (refl, refl))

  pub does-ends : {A : Type 0} (s : I) (a : A) → Does tries did (ends a) s a s
  does-ends s a = ([], nothing s, (refl, refl))

-- if a poll was made, its packets are the last ones
pub last-has : {B P : Type 0} (has : B → List P → Type 0) (next : Next) (before : B) (given : List P) (after : B) → next ≢ Absent
    → has after given → HasLast has next before given after
last-has has Absent before given after there h = absurd (there refl)
last-has has next before given after there h = h

-- a plan for an instance whose thread flag is known
pub does-thread : {I P A : Type 0} (tries : Call → Operation → List Operation → Type 0) (did : I → List (Action P) → I → Type 0)
    (plan : Bool → Plan P A) (s t : I) (a : A) (has is : Bool) → has ≡ is → Does tries did (plan has) s a t → Does tries did (plan is) s a t
does-thread tries did plan s t a has is e d = subst (λ (b : Bool). Does tries did (plan b) s a t) e d

pub does-from : {I P A : Type 0} (tries : Call → Operation → List Operation → Type 0) (did : I → List (Action P) → I → Type 0)
    (plan : I → Plan P A) (s s' t : I) (a : A) → s ≡ s' → Does tries did (plan s) s a t → Does tries did (plan s') s' a t
does-from tries did plan s s' t a e d = subst (λ s. Does tries did (plan s) s a t) e d
