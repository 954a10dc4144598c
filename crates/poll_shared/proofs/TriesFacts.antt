-- Plans executed on a shared instance: each makes at least one operation. What this implies for the packets.
use Rattle.std.proofs.Common.{◌≡◌, ◌≢◌, ◌∙◌, ◌==◌, ℕ, Bool, true, false, List, [], ◌∷◌, ◌++◌, length, map, if◌then◌else◌}
use Rattle.std.proofs.{Common.{ap, append-nil, refl, sym}, lemmas.List.map-append}
use Rattle.{rx_ring.specs.declared.packet.Packet.Packet, napi_word.specs.declared.table.Pass.Pass}
use Rattle.napi_calls.{specs.Made.Made, proofs.Making.more}
use Rattle.napi_model.specs.{Step.call_of, declared.{state.{Kind.Kind, Seen.Seen}, event.Call.Call}}
use Rattle.napi_model.specs.declared.event.Operation.{Operation, TheVariants.{Look, Hand, Complete, BusyTake, BusyStop}}
use Rattle.poll_runs.specs.Plan.{Answers, Action, Follows, Plan, ends, asks, acts, polls, given, made, operations, ◌>>=◌}
use Rattle.poll_runs.specs.declared.bench.Next.{Next, TheVariants.{Absent, Gone, Again, Repoll}}
use Rattle.poll_runs.specs.Polling.{Given, completed, completed_by, ended, flags_in, found, handed, is_again, is_taken, kind_for}
use Rattle.poll_runs.{specs.Polling.{let_go, makes, poll_once_plan}, proofs.PlanFacts.follows-then}
use Rattle.poll_shared.specs.Tries.{PlanMakes, Tries, TriesFor}
use Rattle.napi_model.specs.declared.event.Done.TheVariants as done
use Rattle.napi_model.specs.declared.event.Call.TheVariants as call

-- ---- a plan that begins with a call makes at least one operation

filled : (os : List Operation) (o : Operation) (ps : List Operation) → os ++ o ∷ ps ≢ []
filled [] o ps = λ e. cc
filled (b ∷ bs) o ps = λ e. cc

tried-some : (c : Call) (o : Operation) (os : List Operation) → Tries c o os → os ≢ []
tried-some c (Complete done.Released) os t = λ none. filled _ _ _ (sym t.2 ∙ none)
tried-some c (Complete done.Again) os t = λ none. filled _ _ _ (sym t.2 ∙ none)
tried-some c BusyStop os t = λ none. filled _ _ _ (sym t.2 ∙ none)
tried-some c BusyTake os t = λ none. filled _ _ _ (sym t.3 ∙ none)
tried-some call.BusyTake (Look x) os t = λ none. filled _ _ _ (sym t.1 ∙ none)
tried-some c o os t = λ none. cc (t, none)

abbrev pub IsMade : {A : Type 0} → Plan Packet A → Type 0
IsMade (asks c go) = Unit {0}
IsMade (acts o plan) = Unit {0}
IsMade plan = ⊥

made-some : (os : List Operation) (rest deeds : List (Action Packet)) → os ≢ [] → deeds ≡ map made os ++ rest → operations deeds ≢ []
made-some [] rest deeds some e = absurd (some refl)
made-some (o ∷ os) rest deeds some e = rw e (λ none. cc)

pub begun : {A : Type 0} (plan : Plan Packet A) (deeds : List (Action Packet)) (a : A) → IsMade plan → Follows Tries plan deeds a
    → operations deeds ≢ []
begun (ends a) deeds b is f = absurd is
begun (asks c go) deeds a is f = made-some f.1 f.2 deeds (tried-some c f.0 f.1 f.4) f.6
begun (acts o plan) deeds a is f = made-some f.0 f.1 deeds (tried-some _ o f.0 f.2) f.4
begun (polls weight go) deeds a is f = absurd is

pub operations-made : (os : List Operation) → operations {P = Packet} (map made os) ≡ os
operations-made [] = refl
operations-made (o ∷ os) = ap (λ (l : List Operation). o ∷ l) (operations-made os)

given-made : (os : List Operation) (rest : List (Action Packet)) → given (map made os ++ rest) ≡ given rest
given-made [] rest = refl
given-made (o ∷ os) rest = given-made os rest

pub given-none : (os : List Operation) → given {P = Packet} (map made os) ≡ []
given-none [] = refl
given-none (o ∷ os) = given-none os

-- ---- single calls

-- a single call
pub asked : {A : Type 0} (c : Call) (read : Operation → A) (o : Operation) (os : List Operation) → Answers c o → Tries c o os
    → PlanMakes (asks c (λ o. ends (read o))) os (read o)
asked c read o os a t = (o, os, [], a, t, (refl, refl), sym (append-nil (map made os)))

pub acted : (o : Operation) (os : List Operation) → Tries (call_of o) o os → PlanMakes (makes o) os tt
acted o os t = (os, [], t, (refl, refl), sym (append-nil (map made os)))

pub handed-by : (x : Seen) (k : Kind) → k ≡ kind_for x.flags → PlanMakes (handed true) (Look x ∷ Hand k ∷ []) k
handed-by x k e =
    let o = Hand (kind_for x.flags) in
    rw e (Look x, Look x ∷ [], made o ∷ [], refl, refl, (o ∷ [], [], refl, (refl, refl), refl), refl)

pub handed-some : (thread : Bool) (os : List Operation) (k : Kind) → PlanMakes (handed thread) os k → os ≢ []
handed-some false os k m = rw operations-made at (begun (handed false) (map made os) k tt m)
handed-some true os k m = rw operations-made at (begun (handed true) (map made os) k tt m)

pub completed-released : (thread : Bool) (os : List Operation) → TriesFor call.Complete (Complete done.Released ∷ []) os
    → PlanMakes (completed thread) os Gone
completed-released thread os t = (Complete done.Released, os, [], refl, t, (refl, refl), sym (append-nil (map made os)))

-- after a missed request, a completion is followed by queueing the instance
pub completed-again : (thread : Bool) (os ps : List Operation) (k : Kind) → TriesFor call.Complete (Complete done.Again ∷ []) os
    → PlanMakes (handed thread) ps k → PlanMakes (completed thread) (os ++ ps) (Again k)
completed-again thread os ps k t m = (
  Complete done.Again,
  os,
  map made ps,
  refl,
  t,
  rw append-nil at (follows-then Tries (handed thread) (λ k. ends (Again k)) (map made ps) [] k (Again k) m (refl, refl)),
  map-append made os ps,
)

-- two calls one after the other make an operation if the second one does
pub made-behind : {p q r : Pass} (os ps : List Operation) → Made p os q → Made q ps r → ps ≢ [] → Made p (os ++ ps) r
made-behind os [] m n some = absurd (some refl)
made-behind os (o ∷ ps) m n some = more o ps m n

-- ---- a poll from the list

-- the plan makes no polls, and each of its results has this property
abbrev Keeps : {A : Type 0} → (A → Type 0) → Plan Packet A → Type 0
Keeps is (ends a) = is a
Keeps is (asks c go) = (o : Operation) → Keeps is (go o)
Keeps is (acts o plan) = Keeps is plan
Keeps is (polls weight go) = ⊥

keeps-then : {A B : Type 0} (are : A → Type 0) (is : B → Type 0) (plan : Plan Packet A) (next : A → Plan Packet B) → Keeps are plan
    → ((a : A) → are a → Keeps is (next a)) → Keeps is (plan >>= next)
keeps-then are is (ends a) next k h = h a k
keeps-then are is (asks c go) next k h = λ o. keeps-then are is (go o) next (k o) h
keeps-then are is (acts o plan) next k h = keeps-then are is plan next k h
keeps-then are is (polls weight go) next k h = absurd k

kept : {A : Type 0} (is : A → Type 0) (plan : Plan Packet A) (deeds : List (Action Packet)) (a : A) → Keeps is plan
    → Follows Tries plan deeds a → (given deeds ≡ []) × is a
kept is (ends a) deeds b k f = (ap given f.0, rw f.1 k)
kept is (asks c go) deeds a k f =
    let rest = kept is (go f.0) f.2 a (k f.0) f.5 in (ap given f.6 ∙ given-made f.1 f.2 ∙ rest.0, rest.1)
kept is (acts o plan) deeds a k f =
    let rest = kept is plan f.1 a k f.3 in (ap given f.4 ∙ given-made f.0 f.1 ∙ rest.0, rest.1)
kept is (polls weight go) deeds a k f = absurd k

abbrev Is-there : Next → Type 0
Is-there next = next ≢ Absent

completed-keeps : (thread : Bool) → Keeps Is-there (completed thread)
completed-keeps thread = λ o. by thread (is_again o)
  where
    by : (thread again : Bool) → Keeps Is-there (completed_by thread again)
    by thread false = λ e. cc e
    by false true = λ e. cc e
    by true true = λ o e. cc e

ended-keeps : (thread full : Bool) → Keeps Is-there (ended thread full)
ended-keeps thread false = completed-keeps thread
ended-keeps thread true = λ o. by (flags_in o).disable
  where
    by : (off : Bool) → Keeps Is-there (if off then completed thread else ends Repoll)
    by true = completed-keeps thread
    by false = λ e. cc e

-- what the outcome of a poll says about its packets
abbrev Tells : List Packet → Given Packet → Type 0
Tells packets g = (g.packets ≡ packets) × (g.once.work ≡ length packets) × (g.once.next ≢ Absent)

let-go-keeps : (packets : List Packet) (next : Next) (g : Given Packet) → Tells packets g
    → Keeps (Tells packets) (let_go next >>= λ _. ends g)
let-go-keeps packets Repoll g t = t
let-go-keeps packets next g t = t

-- the packets of the plan are exactly those of its one poll
pub once-tells : (thread : Bool) (weight : ℕ) (deeds : List (Action Packet)) (g : Given Packet)
    → Follows Tries (poll_once_plan thread weight) deeds g
    → (given deeds ≡ g.packets) × (g.once.work ≡ length g.packets) × (g.once.next ≡ Absent → g.packets ≡ [])
once-tells thread weight deeds g f = rw (f.6, given-made) (by (is_taken f.0) f.2 f.5)
  where
    by : (taken : Bool) (rest : List (Action Packet)) → Follows Tries (found thread weight taken) rest g
        → (given rest ≡ g.packets) × (g.once.work ≡ length g.packets) × (g.once.next ≡ Absent → g.packets ≡ [])
    by false rest f = rw (f.0, f.1) (refl, refl, λ e. refl)
    by true rest f =
        let full = length f.0 == weight in
        let told : Next → Given Packet = λ next. record { once = record { work = length f.0; next = next }; packets = f.0 } in
        let k =
        kept (Tells f.0) ((ended thread full >>= λ next. ends (told next)) >>= λ g. let_go g.once.next >>= λ _. ends g) f.1 g
        (keeps-then (Tells f.0) (Tells f.0) (ended thread full >>= λ next. ends (told next)) (λ g. let_go g.once.next >>= λ _. ends g)
        (keeps-then Is-there (Tells f.0) (ended thread full) (λ next. ends (told next)) (ended-keeps thread full)
        (λ next there. (refl, refl, there))) (λ g t. let-go-keeps f.0 g.once.next g t)) f.3 in
        rw (f.4, k.0, k.1.0) (append-nil f.0, k.1.1, λ e. absurd (k.1.2 e))
