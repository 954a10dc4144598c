-- Appending a call to a list of calls.
use Rattle.std.proofs.Common.{◌≡◌, ℕ, ◌+◌, ◌<◌, ◌≤◌, Bool, true, false, cond, List, [], ◌∷◌, ◌++◌, length, take, get_or, Option, is_some}
use Rattle.std.proofs.Common.{Result, Ok, Err, is_err, OnOk, OnErr, fold, ap, sym, refl, subst, ◌∙◌, length-append, arith}
use Rattle.std.{specs.{Int.from_bool, Result.result_err}, proofs.lemmas.List.{take_more, Sums.fold-append}}
use Rattle.dql_core.specs.Accepted.{accepted, after_all, after_call}

pub from_bool_most : (b : Bool) → from_bool b ≤ 1
from_bool_most true = omega arith
from_bool_most false = omega arith

-- the invariant of a loop that makes the calls of a list: the state after i of them, and how many were rejected
pub record Makes {D S E F : Type 0} (fault : S → E → Option F) (after : S → E → S) (Shows : D → S → Type 0) (start now : D) (es : List E)
    (i refused : ℕ) : Type 0 where
  pub state : (s : S) → Shows start s → Shows now (after_all fault after s (take i es))
  pub count : (s : S) → Shows start s → refused + length (accepted fault after s (take i es)) ≡ i
  pub fits : refused ≤ i

module _ {S E F : Type 0} (fault : S → E → Option F) (after : S → E → S) where
  -- a list of the call if the state accepts it, else the empty list
  abbrev kept : S → E → List E
  kept s e = cond (is_some (fault s e)) [] (e ∷ [])

  accepted_push : (s : S) (es : List E) (e : E)
      → accepted fault after s (es ++ e ∷ []) ≡ accepted fault after s es ++ kept (after_all fault after s es) e
  accepted_push s [] e = refl
  accepted_push s (x ∷ es) e =
      let calls : S → List E = λ t. accepted fault after t es in
      let longer : S → List E = λ t. accepted fault after t (es ++ e ∷ []) in
      elim (is_some (fault s x)) as (λ b. cond b (longer s) (x ∷ longer (after s x))
      ≡ cond b (calls s) (x ∷ calls (after s x)) ++ kept (fold after s (cond b (calls s) (x ∷ calls (after s x)))) e) [
        | true ↦ accepted_push s es e
        | false ↦ ap (λ l. x ∷ l) (accepted_push (after s x) es e)
      ]

  fold_kept : (b : Bool) (s : S) (e : E) → fold after s (cond b [] (e ∷ [])) ≡ cond b s (after s e)
  fold_kept true s e = refl
  fold_kept false s e = refl

  length_kept : (b : Bool) (e : E) → length (cond b [] (e ∷ [])) + cond b 1 0 ≡ 1
  length_kept true e = refl
  length_kept false e = refl

  after_all_more : (s : S) (es : List E) (i : ℕ) (d : E) → i < length es
      → after_all fault after s (take (i + 1) es) ≡ after_call fault after (after_all fault after s (take i es)) (get_or es i d)
  after_all_more s es i d h =
      let t = after_all fault after s (take i es) in
      let e = get_or es i d in
      ap (after_all fault after s) (take_more es i d h)
      ∙ ap (fold after s) (accepted_push s (take i es) e)
      ∙ fold-append after s (accepted fault after s (take i es)) (kept t e)
      ∙ fold_kept (is_some (fault t e)) t e

  refused_more : (s : S) (es : List E) (i : ℕ) (d : E) (n one : ℕ) → i < length es
      → n + length (accepted fault after s (take i es)) ≡ i
      → one ≡ cond (is_some (fault (after_all fault after s (take i es)) (get_or es i d))) 1 0
      → (n + one) + length (accepted fault after s (take (i + 1) es)) ≡ i + 1
  refused_more s es i d n one h was is =
      let t = after_all fault after s (take i es) in
      let e = get_or es i d in
      let pushed : length (accepted fault after s (take (i + 1) es)) ≡ length (accepted fault after s (take i es) ++ kept t e) =
      ap (λ l. length (accepted fault after s l)) (take_more es i d h) ∙ ap length (accepted_push s (take i es) e) in
      let parts = length-append (accepted fault after s (take i es)) (kept t e) in
      let last = length_kept (is_some (fault t e)) e in
      omega arith

  -- an object that shows the state s shows the next state after a call, by the clauses of that call
  shows_after_call : {D R : Type 0} (Shows : D → S → Type 0) (old new : D) (s : S) (e : E) (r : Result R F)
      → OnOk r (Shows new (after s e)) → OnErr r (new ≡ old) → result_err r ≡ fault s e → Shows old s
      → Shows new (after_call fault after s e)
  shows_after_call Shows old new s e (Ok x) ok err same shown =
      subst (λ o. Shows new (cond (is_some o) s (after s e))) same ok
  shows_after_call Shows old new s e (Err x) ok err same shown =
      subst (λ o. Shows new (cond (is_some o) s (after s e))) same (subst (λ d. Shows d s) (sym err) shown)

  shows_more : {D R : Type 0} (Shows : D → S → Type 0) (old new : D) (s : S) (es : List E) (i : ℕ) (d : E) (r : Result R F) → i < length es
      → OnOk r (Shows new (after (after_all fault after s (take i es)) (get_or es i d))) → OnErr r (new ≡ old)
      → result_err r ≡ fault (after_all fault after s (take i es)) (get_or es i d)
      → Shows old (after_all fault after s (take i es)) → Shows new (after_all fault after s (take (i + 1) es))
  shows_more Shows old new s es i d r h ok err same shown =
      subst (Shows new) (sym (after_all_more s es i d h)) (shows_after_call Shows old new _ (get_or es i d) r ok err same shown)

  refused_of : {R : Type 0} (s : S) (e : E) (r : Result R F) → result_err r ≡ fault s e
      → from_bool (is_err r) ≡ cond (is_some (fault s e)) 1 0
  refused_of s e (Ok x) same = ap (λ o. cond (is_some o) 1 0) same
  refused_of s e (Err x) same = ap (λ o. cond (is_some o) 1 0) same

  count_more : {R : Type 0} (s : S) (es : List E) (i : ℕ) (d : E) (n : ℕ) (r : Result R F) → i < length es
      → result_err r ≡ fault (after_all fault after s (take i es)) (get_or es i d)
      → n + length (accepted fault after s (take i es)) ≡ i
      → (n + from_bool (is_err r)) + length (accepted fault after s (take (i + 1) es)) ≡ i + 1
  count_more s es i d n r h same was = refused_more s es i d n _ h was (refused_of _ _ r same)

  -- the invariant after one more call
  pub makes_more : {D R : Type 0} (Shows : D → S → Type 0) (start old new : D) (es : List E) (i : ℕ) (d : E) (n one : ℕ) (r : Result R F)
      → i < length es
      → ((s : S) → Shows old s → OnOk r (Shows new (after s (get_or es i d)))) → OnErr r (new ≡ old)
      → ((s : S) → Shows old s → result_err r ≡ fault s (get_or es i d)) → one ≡ from_bool (is_err r)
      → Makes fault after Shows start old es i n → Makes fault after Shows start new es (i + 1) (n + one)
  makes_more Shows start old new es i d n one r h ok err same is was = record {
    state = λ s shown.
        let before = was.state s shown in shows_more Shows old new s es i d r h (ok _ before) err (same _ before) before;
    count = λ s shown. rw is (count_more s es i d n r h (same _ (was.state s shown)) (was.count s shown));
    fits = rw is (omega (arith, was.fits, from_bool_most (is_err r)));
  }
