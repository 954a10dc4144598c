-- The application does its work over time, step by step.
use Rattle.std.proofs.{Common.{◌≡◌, ◌∙◌, ℕ, ◌+◌, ◌≤◌, ◌<◌, Bool, true, false, List, [], ◌∷◌, length, refl, sym, arith}}
use Rattle.std.{proofs.lemmas.Grind.common_steps, specs.{Prelude.{if◌then◌else◌}}}
use Rattle.machine_model.specs.Application.{ApplicationView, ended_by, fed, goes_on, is_awake, is_use_over, went_on, went_on_with}
use Rattle.machine_model.specs.declared.{application.Activity.{Activity, TheVariants.Asleep}, settings.MachineSettings.MachineSettings}

same-socket : (activity : Activity) (a : ApplicationView) → (ended_by activity a).socket ≡ a.socket
same-socket activity a = grind (arith, common_steps)

goes-none : (use_time : ℕ) (a : ApplicationView) → a.socket.items ≡ [] → (goes_on use_time a).activity ≡ Asleep
unfolding goes_on
goes-none use_time a is = rw is refl

goes-more : (use_time : ℕ) (a : ApplicationView) (came : ℕ) (more : List ℕ) → a.socket.items ≡ came ∷ more
    → (goes_on use_time a).socket.items ≡ more
unfolding goes_on
goes-more use_time a came more is = rw is refl

-- a sleeping application has no work that could end
asleep : (moment : ℕ) (a : ApplicationView) → a.activity ≡ Asleep → is_use_over moment a ≡ false
asleep moment a is = rw is refl

stays : (xs : List ℕ) (moment use_time : ℕ) (a : ApplicationView) → is_use_over moment a ≡ false → went_on_with xs moment use_time a ≡ a
unfolding went_on_with
stays [] moment use_time a over = rw over refl
stays (x ∷ xs) moment use_time a over = rw over refl

pub went-stays : (moment use_time : ℕ) (a : ApplicationView) → is_use_over moment a ≡ false → went_on moment use_time a ≡ a
unfolding went_on
went-stays moment use_time a over = stays a.socket.items moment use_time a over

pub went-goes : (moment use_time : ℕ) (a : ApplicationView) → is_use_over moment a ≡ true
    → went_on moment use_time a ≡ went_on moment use_time (goes_on use_time a)
unfolding went_on went_on_with
went-goes moment use_time a over = by a.socket.items refl
  where
    by : (xs : List ℕ) → a.socket.items ≡ xs → went_on_with xs moment use_time a ≡ went_on moment use_time (goes_on use_time a)
    by [] is =
        (rw over refl) ∙ sym (went-stays moment use_time (goes_on use_time a) (asleep moment (goes_on use_time a)
        (goes-none use_time a is)))
    by (came ∷ more) is = rw (over, goes-more use_time a came more is) refl

-- ---- how much work is left

unfoldable pub left_of : ApplicationView → ℕ
left_of a = length a.socket.items + (if is_awake a.activity then 1 else 0)

pub goes-less : (moment use_time : ℕ) (a : ApplicationView) → is_use_over moment a ≡ true → left_of (goes_on use_time a) < left_of a
unfolding left_of goes_on
goes-less moment use_time a h1 = grind (arith, common_steps, same-socket)

-- ---- how many packets are in the socket

goes-few : (use_time : ℕ) (a : ApplicationView) → length (goes_on use_time a).socket.items ≤ length a.socket.items
unfolding goes_on
goes-few use_time a = grind (arith, common_steps, same-socket)

went-few : (xs : List ℕ) (moment use_time : ℕ) (a : ApplicationView)
    → length (went_on_with xs moment use_time a).socket.items ≤ length a.socket.items
unfolding went_on_with
went-few [] moment use_time a = by (is_use_over moment a)
  where
    by : (b : Bool) → length (if b then goes_on use_time a else a).socket.items ≤ length a.socket.items
    by true = goes-few use_time a
    by false = omega arith
went-few (x ∷ xs) moment use_time a = by (is_use_over moment a) (went-few xs moment use_time (goes_on use_time a))
  where
    by : (b : Bool) → length (went_on_with xs moment use_time (goes_on use_time a)).socket.items
        ≤ length (goes_on use_time a).socket.items
        → length (if b then went_on_with xs moment use_time (goes_on use_time a) else a).socket.items ≤ length a.socket.items
    by true rest = omega (arith, rest, goes-few use_time a)
    by false rest = omega arith

on-few : (b : Bool) (now use_time : ℕ) (a : ApplicationView)
    → length (if b then went_on now use_time a else a).socket.items ≤ length a.socket.items
unfolding went_on
on-few true now use_time a = went-few a.socket.items now use_time a
on-few false now use_time a = omega arith

pub fed-few : (now came : ℕ) (s : MachineSettings) (a : ApplicationView)
    → length (fed now came s a).socket.items ≤ length a.socket.items + 1
unfolding fed
fed-few now came s a = grind (arith, common_steps, on-few)
