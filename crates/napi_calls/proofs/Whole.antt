-- The table of legal steps leaves one choice open, which the flags determine. So a history that is legal for some choice is
-- legal.
use Rattle.std.proofs.Common.{◌≡◌, ◌⊎◌, ◌||◌, ℕ, Bool, true, false, List, [], ◌∷◌, inl, inr, refl, sym, ap, ◌∙◌, true≢false}
use Rattle.{std.proofs.{lemmas.Bool.or_cases, Math.Logic.∥∥₁_elim, Props.props}, napi_model.specs.Step.{after, IsLegalBy}}
use Rattle.napi_model.specs.declared.{state.{Kind.Kind, State.State}, event.{Event.Event, Prep.Prep, Done.TheVariants.Again}}
use Rattle.napi_model.specs.declared.event.Operation.{Operation, TheVariants.{Schedule, Hand, Take, Complete, MarkDisable, TakeDisable}}
use Rattle.napi_model.specs.History.{IsBy, LegalHistory}

one_or_other : {A B : Type 0} → IsProp A → IsProp B → (A → B → ⊥) → IsProp (A ⊎ B)
one_or_other a b apart (inl x) (inl y) = ap inl (a x y)
one_or_other a b apart (inl x) (inr y) = absurd (apart x y)
one_or_other a b apart (inr x) (inl y) = absurd (apart y x)
one_or_other a b apart (inr x) (inr y) = ap inr (b x y)

-- the table of legal steps, except that an attempt to take the instance may fail for any reason
abbrev pub Told : ℕ → Operation → State → Type 0
Told c (TakeDisable false) s = (s.flags.disable ≡ true) × ((s.flags.sched || s.flags.npsvc) ≡ true)
Told c o s = IsLegalBy c o s

told_prop : (c : ℕ) (o : Operation) (s : State) → IsProp (Told c o s)
told_prop c (Schedule Prep.Disabled) s = hlevel props
told_prop c (Hand Kind.List) s = one_or_other (hlevel props) (hlevel props) (λ a b. let bad = sym a ∙ b.0 in cc)
told_prop c (Take kind true) s = hlevel props
told_prop c (Complete Again) s = hlevel props
told_prop c (TakeDisable true) s = hlevel props
told_prop c o s = hlevel props

either : (a b : Bool) → (a ≡ true) ⊎ (b ≡ true) → (a || b) ≡ true
either true b t = refl
either false b (inl e) = absurd (true≢false (sym e))
either false b (inr e) = e

tells : (c : ℕ) (o : Operation) (s : State) → IsLegalBy c o s → Told c o s
tells c (Schedule Prep.Disabled) s l = l
tells c (Take kind true) s l = l
tells c (Complete Again) s l = l
tells c (TakeDisable false) s l = (l.0, either s.flags.sched s.flags.npsvc l.1)
tells c o s l = l

is_legal : (c : ℕ) (o : Operation) (s : State) → Told c o s → IsLegalBy c o s
is_legal c (Schedule Prep.Disabled) s l = l
is_legal c (Take kind true) s l = l
is_legal c (Complete Again) s l = l
is_legal c (TakeDisable false) s l = (l.0, or_cases s.flags.sched s.flags.npsvc l.1)
is_legal c o s l = l

by_prop : (k c : ℕ) (o : Operation) → IsProp (IsBy k c o)
by_prop k c MarkDisable = hlevel props
by_prop k c o = hlevel props

pub whole : (k : ℕ) (s : State) (h : List Event) → ∥ LegalHistory k s h ∥₁ → LegalHistory k s h
unfolding LegalHistory
whole k s [] t = tt
whole k s (e ∷ es) t =
    let step = ∥∥₁_elim t (told_prop e.caller e.operation s) (λ l. tells e.caller e.operation s l.0.0) in
    let by = ∥∥₁_elim t (by_prop k e.caller e.operation) (λ l. l.0.1) in
    let rest = ∥∥₁_elim t (hlevel props) (λ l. ∣ l.1 ∣₁) in
    ((is_legal e.caller e.operation s step, by), whole k (after s e) es rest)
