-- What a poller does with an instance and its ring, depending on the replies.
use Rattle.std.specs.Prelude.{◌≡◌, ℕ, ◌≤◌, List, [], ◌∷◌, ◌++◌, length, map}
use Rattle.napi_model.specs.{declared.event.{Call.Call, Operation.{Operation, TheVariants.{Look, Complete}}}, Step.{MayBusyTake, call_of}}
use Rattle.napi_model.specs.declared.event.Done.TheVariants.{Held}
use Rattle.napi_model.specs.declared.event.Call.TheVariants as call

-- calls and polls in sequence, until a result
pub data Plan (P A : Type 0) : Type 0 where
  ends : A → Plan P A
  -- a call, and the plan that follows, by the operation that the call results in
  asks : Call → (Operation → Plan P A) → Plan P A
  -- an operation whose call has only one reply
  acts : Operation → Plan P A → Plan P A
  -- a poll of this weight, and the plan that follows, by its packets
  polls : ℕ → (List P → Plan P A) → Plan P A

infixl 10 ◌>>=◌
abbrev pub ◌>>=◌ : {P A B : Type 0} → Plan P A → (A → Plan P B) → Plan P B
ends a >>= next = next a
asks c go >>= next = asks c (λ o. go o >>= next)
acts o plan >>= next = acts o (plan >>= next)
polls weight go >>= next = polls weight (λ packets. go packets >>= next)

-- an action: an operation, or a poll of this weight that returned these packets
pub data Action (P : Type 0) : Type 0 where
  made : Operation → Action P
  gave : ℕ → List P → Action P

-- the operations among these actions
abbrev pub operations : {P : Type 0} → List (Action P) → List Operation
operations [] = []
operations (made o ∷ deeds) = o ∷ operations deeds
operations (gave weight packets ∷ deeds) = operations deeds

-- the packets that these actions returned, concatenated
abbrev pub given : {P : Type 0} → List (Action P) → List P
given [] = []
given (made o ∷ deeds) = given deeds
given (gave weight packets ∷ deeds) = packets ++ given deeds

-- The operations that a call can result in. A take for busy polling that fails is a read that shows that the instance isn't
-- idle. A completion never results in `Held`, because a poller knows whether it busy polls.
abbrev pub Answers : Call → Operation → Type 0
Answers call.BusyTake (Look x) = ¬ MayBusyTake x.flags
Answers call.Complete (Complete Held) = ⊥
Answers c o = call_of o ≡ c

-- `tries c o os`: the call c results in o, by the operations os, the last attempt being o
module _ {P : Type 0} (tries : Call → Operation → List Operation → Type 0) where
  -- with these actions, the plan has this result
  abbrev pub Follows : {A : Type 0} → Plan P A → List (Action P) → A → Type 0
  Follows (ends a) deeds answer = (deeds ≡ []) × (answer ≡ a)
  Follows (asks c go) deeds answer =
      (o : Operation) × (os : List Operation) × (rest : List (Action P))
      × Answers c o × tries c o os × Follows (go o) rest answer × (deeds ≡ map made os ++ rest)
  Follows (acts o plan) deeds answer =
      (os : List Operation) × (rest : List (Action P))
      × tries (call_of o) o os × Follows plan rest answer × (deeds ≡ map made os ++ rest)
  Follows (polls weight go) deeds answer =
      (packets : List P) × (rest : List (Action P))
      × (length packets ≤ weight) × Follows (go packets) rest answer × (deeds ≡ gave weight packets ∷ rest)

  -- some actions lead from the one state to the other, and with them the plan has this result
  abbrev pub Does : {I A : Type 0} → (I → List (Action P) → I → Type 0) → Plan P A → I → A → I → Type 0
  Does did plan before answer after = (deeds : List (Action P)) × did before deeds after × Follows plan deeds answer
