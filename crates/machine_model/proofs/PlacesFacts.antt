-- Sums over a processor's queues after one of them changed, and how many are scheduled.
use Rattle.std.proofs.{Common.{◌+◌, ◌≤◌, Bool, true, false, Option, Some, None, [], ◌∷◌, ◌++◌, length, replicate, arith, ◌≡◌, ℕ, ◌∙◌, refl}}
use Rattle.std.{proofs.lemmas.{Grind.common_steps, List.Sums.sum_by-cons}, specs.{Prelude.{◌==◌, ◌&&◌, ◌||◌, not, sum_by, if◌then◌else◌}}}
use Rattle.device_places.{proofs.PlaceFacts.below-some, specs.Places.{at, changed}}
use Rattle.machine_model.{proofs.{QueueFacts.{armed-by, completed-by, interrupted-by}, TableFacts.map_at}, specs.Device.QueueView}
use Rattle.machine_model.specs.Device.{after_packet, armed, expired, expired_phase, handled, holding, interrupted, is_napi_idle}
use Rattle.machine_model.specs.Device.{is_rescheduled, napi_completed, notified, queue_completed, queue_polled, schedules, unmasked_queue}
use Rattle.machine_model.specs.{Device.{without_held, without_next}, Devices.{QueueViews, asks_at, is_rescheduled_at, schedules_at}}
use Rattle.machine_model.specs.{Kept.{all_scheduled, is_scheduled, scheduled_at}, declared.device.NapiState.TheVariants.{Idle, Scheduled}}
use Rattle.machine_model.specs.declared.{device.Phase.Phase, settings.MachineSettings.MachineSettings}

pub sum-changed : (g : Option QueueView → ℕ) (f : QueueView → QueueView) (n : ℕ) (xs : QueueViews)
    → sum_by g (changed f n xs) + g (at n xs) ≡ sum_by g xs + g (map_at f (at n xs))
unfolding map_at
sum-changed g f n xs = grind (arith, common_steps, below-some)

-- ---- how many are scheduled

mask-same : (f : QueueView → QueueView) → ((d : QueueView) → is_scheduled (f d).phase ≡ is_scheduled d.phase) → (o : Option QueueView)
    → scheduled_at (map_at f o) ≡ scheduled_at o
unfolding map_at
mask-same f same o = grind (arith, common_steps)

pub scheduled-same : (f : QueueView → QueueView) (n : ℕ) (xs : QueueViews)
    → ((d : QueueView) → is_scheduled (f d).phase ≡ is_scheduled d.phase) → all_scheduled (changed f n xs) ≡ all_scheduled xs
scheduled-same f n xs same = omega (arith, sum-changed scheduled_at f n xs, mask-same f same (at n xs))

handled-one : (polling : Bool) (phase : Phase)
    → ◌≡◌ {A = ℕ} (if is_scheduled (handled polling phase) then 1 else 0)
    ((if is_scheduled phase then 1 else 0) + (if polling && schedules phase then 1 else 0))
handled-one polling phase = grind (arith, common_steps)

-- after an interrupt a queue is scheduled if it was before, or if the interrupt schedules it
pub interrupted-one : (until : ℕ) (polling : Bool) (d : QueueView)
    → scheduled_at (Some (interrupted until polling d)) ≡ scheduled_at (Some d) + (if polling && schedules d.phase then 1 else 0)
interrupted-one until polling d =
    interrupted-by (λ e. scheduled_at (Some e) ≡ scheduled_at (Some d) + (if polling && schedules d.phase then 1 else 0)) until polling d
    (λ fired. handled-one polling d.phase) (λ calm. handled-one polling d.phase)

scheduled-one : (until : ℕ) (polling : Bool) (o : Option QueueView) → asks_at o ≡ true
    → scheduled_at o + (if polling && schedules_at o then 1 else 0) ≤ scheduled_at (map_at (interrupted until polling) o)
unfolding map_at
scheduled-one until polling None up = cc up
scheduled-one until polling (Some d) up = omega (arith, interrupted-one until polling d)

pub scheduled-interrupted : (until : ℕ) (polling : Bool) (n : ℕ) (xs : QueueViews) → asks_at (at n xs) ≡ true
    → all_scheduled xs + (if polling && schedules_at (at n xs) then 1 else 0) ≤ all_scheduled (changed (interrupted until polling) n xs)
scheduled-interrupted until polling n xs up =
    omega (arith, sum-changed scheduled_at (interrupted until polling) n xs, scheduled-one until polling (at n xs) up)

-- the card asks for an interrupt, and the instance stays as it is
notified-same : (moment : ℕ) (s : MachineSettings) (d : QueueView) → is_scheduled (notified moment s d).phase ≡ is_scheduled d.phase
unfolding notified
notified-same moment s d = refl

armed-same : (now : ℕ) (s : MachineSettings) (d : QueueView) → is_scheduled (armed now s d).phase ≡ is_scheduled d.phase
armed-same now s d =
    armed-by (λ e. is_scheduled e.phase ≡ is_scheduled d.phase) now s d (λ owed. notified-same now s (unmasked_queue d)) (λ free. refl)

-- an instance that completes is scheduled exactly if it is scheduled again
pub completed-same : (now given : ℕ) (s : MachineSettings) (d : QueueView)
    → is_scheduled (queue_completed now given s d).phase ≡ is_rescheduled given s d
completed-same now given s d =
    completed-by (λ e. is_scheduled e.phase ≡ is_rescheduled given s d) now given s d (λ masked. state (is_rescheduled given s d))
    (λ free. armed-same now s (napi_completed now given s d) ∙ state (is_rescheduled given s d))
  where
    state : (again : Bool) → not (is_napi_idle (if again then Scheduled else Idle)) ≡ again
    state true = refl
    state false = refl

completed-one : (b c again : Bool) → c ≡ again → (if b then 1 else 0) ≤ (if c then 1 else 0) + (if again then 0 else 1)
completed-one b c again is = grind (arith, common_steps)

polled-one : (now given : ℕ) (s : MachineSettings) (o : Option QueueView)
    → scheduled_at o
    ≤ scheduled_at (map_at (queue_polled now given s) o) + (if given == s.weight || is_rescheduled_at given s o then 0 else 1)
unfolding map_at queue_polled
polled-one now given s o = grind (arith, common_steps, completed-one, completed-same)

pub scheduled-polled : (now given : ℕ) (s : MachineSettings) (n : ℕ) (xs : QueueViews)
    → all_scheduled xs
    ≤ all_scheduled (changed (queue_polled now given s) n xs) + (if given == s.weight || is_rescheduled_at given s (at n xs) then 0 else 1)
scheduled-polled now given s n xs = omega
    (arith, sum-changed scheduled_at (queue_polled now given s) n xs, polled-one now given s (at n xs))

one-most : (o : Option QueueView) → scheduled_at o ≤ 1
one-most o = grind (arith, common_steps)

pub scheduled-most : (xs : QueueViews) → all_scheduled xs ≤ length xs
scheduled-most [] = omega arith
scheduled-most (x ∷ xs) = omega (arith, sum_by-cons scheduled_at x xs, one-most x, scheduled-most xs)

-- ---- changes that schedule no queue

expired-open : (phase : Phase) → is_scheduled (expired_phase phase) ≡ is_scheduled phase
expired-open phase = grind (arith, common_steps)

pub scheduled-expired : (n : ℕ) (xs : QueueViews) → all_scheduled (changed expired n xs) ≡ all_scheduled xs
scheduled-expired n xs = scheduled-same expired n xs (λ d. expired-open d.phase)

pub same-next : (backlog : Bool) (d : QueueView) → is_scheduled (without_next backlog d).phase ≡ is_scheduled d.phase
same-next backlog d = grind (arith, common_steps)

pub same-held : (d : QueueView) → is_scheduled (without_held d).phase ≡ is_scheduled d.phase
same-held d = refl

pub same-packet : (moment : ℕ) (s : MachineSettings) (d : QueueView) → is_scheduled (after_packet moment s d).phase ≡ is_scheduled d.phase
unfolding after_packet
same-packet moment s d = grind (arith, common_steps, notified-same)

pub more-places : (xs ys : QueueViews) (count more : ℕ) → ys ≡ xs ++ replicate count None → more ≡ count + 1
    → ys ++ None ∷ [] ≡ xs ++ replicate more None
more-places xs ys count more is next = grind (arith, common_steps)
