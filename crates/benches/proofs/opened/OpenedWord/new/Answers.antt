use Rattle.std.proofs.Common.{◌≡◌, List, [], ◌∷◌, ◌++◌, length, length-append, slice_get, refl, sym, ap, ◌∙◌, arith}
use Rattle.napi_word.specs.declared.table.Pass.{Pass}
use Rattle.benches.proofs.opened.OpenedWord.new.Goals as goal

-- three elements were popped from a list of three, so none is left
popped : (xs : List Pass) (a b d : Pass) → length (((xs ++ a ∷ []) ++ b ∷ []) ++ d ∷ []) ≡ 3 → xs ≡ []
popped [] a b d e = refl
popped (x ∷ xs) a b d e =
    let p = length-append (((x ∷ xs) ++ a ∷ []) ++ b ∷ []) (d ∷ []) in
    let q = length-append ((x ∷ xs) ++ a ∷ []) (b ∷ []) in
    let r = length-append (x ∷ xs) (a ∷ []) in
    absurd (omega (arith, p, q, r, e))

in_order : (all most some xs : List Pass) (a b d : Pass) → all ≡ most ++ d ∷ [] → most ≡ some ++ b ∷ [] → some ≡ xs ++ a ∷ []
    → length all ≡ 3 → all ≡ a ∷ b ∷ d ∷ []
in_order all most some xs a b d e f g three =
    let whole : all ≡ ((xs ++ a ∷ []) ++ b ∷ []) ++ d ∷ [] =
    e ∙ ap (λ (l : List Pass). l ++ d ∷ []) (f ∙ ap (λ (l : List Pass). l ++ b ∷ []) g) in
    whole ∙ ap (λ (l : List Pass). ((l ++ a ∷ []) ++ b ∷ []) ++ d ∷ [])
    (popped xs a b d (ap (λ (l : List Pass). length l) (sym whole) ∙ three))

pub returns-clause-poller : goal.returns-clause-poller
returns-clause-poller c =
    let o =
    in_order _ _ _ _ _ _ _ c.in-Some.ensures.items c.in-Some-last.ensures.items c.in-Some-last-2.ensures.items c.in-Ok.ensures.count.1 in
    c.in-Ok.ensures.new 0 c.in-Some-last-2.poller (ap (λ (l : List Pass). slice_get l 0) o)

pub returns-clause-scheduler : goal.returns-clause-scheduler
returns-clause-scheduler c =
    let o =
    in_order _ _ _ _ _ _ _ c.in-Some.ensures.items c.in-Some-last.ensures.items c.in-Some-last-2.ensures.items c.in-Ok.ensures.count.1 in
    c.in-Ok.ensures.new 1 c.in-Some-last.scheduler (ap (λ (l : List Pass). slice_get l 1) o)

pub returns-clause-control : goal.returns-clause-control
returns-clause-control c =
    let o =
    in_order _ _ _ _ _ _ _ c.in-Some.ensures.items c.in-Some-last.ensures.items c.in-Some-last-2.ensures.items c.in-Ok.ensures.count.1 in
    c.in-Ok.ensures.new 2 c.in-Some.control (ap (λ (l : List Pass). slice_get l 2) o)
