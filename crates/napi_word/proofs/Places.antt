-- The owner of the slot, determined by the place.
use Rattle.std.proofs.Common.{◌≡◌, ℕ, Bool, true, false, refl, sym, ap, ◌∙◌, true≢false}
use Rattle.napi_model.specs.{declared.state.Place.{Place, TheVariants.{Granted, Polling, Control}}, Laws.is_owner}
use Rattle.napi_word.specs.Slot.{has_at, is_out}

pub has_owner : (c : ℕ) (p : Place) → has_at c p ≡ true → is_owner c p ≡ true
has_owner c (Granted b) e = absurd (true≢false (sym e))
has_owner c p e = e

pub has_out : (c : ℕ) (p : Place) → has_at c p ≡ true → is_out p ≡ true
has_out c (Polling b) e = refl
has_out c (Control b) e = refl
has_out c p e = e

pub is_false : (b : Bool) → (b ≡ true → ⊥) → b ≡ false
is_false true h = absurd (h refl)
is_false false h = refl

pub in_no_hand : (c : ℕ) (p : Place) → is_out p ≡ false → has_at c p ≡ false
in_no_hand c p e = is_false (has_at c p) (λ h. true≢false (sym (has_out c p h) ∙ e))

-- if a step neither makes a caller an owner nor ends its ownership, the slot keeps its owner
pub has_same : (c : ℕ) (p q : Place) → is_owner c p ≡ is_owner c q → (is_owner c q ≡ true → p ≡ q) → has_at c p ≡ has_at c q
has_same c p q same stays = by (is_owner c q) refl
  where
    by : (b : Bool) → is_owner c q ≡ b → has_at c p ≡ has_at c q
    by true e = ap (has_at c) (stays e)
    by false e =
        is_false (has_at c p) (λ h. true≢false (sym (has_owner c p h) ∙ same ∙ e))
        ∙ sym (is_false (has_at c q) (λ h. true≢false (sym (has_owner c q h) ∙ e)))
