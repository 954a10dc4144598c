-- Pollers receive their handles. (Names with "seat" are about these handles.)
use Rattle.std.proofs.Common.{◌≡◌, ◌∙◌, ℕ, ◌+◌, ◌<◌, ◌≤◌, Bool, true, false, List, [], ◌∷◌, ◌++◌, length, ap, sym, subst, get_or, arith}
use Rattle.std.proofs.{Common.{append-nil, cond, map, vec_items, All, Some, set}, lemmas.Bool.eqb-true}
use Rattle.std.proofs.{lemmas.List.{length-set, map-set, set-get_or}, lemmas.List.Elements.{All-pop, filter-append}}
use Rattle.{std.proofs.lemmas.List.Sums.{count_by-le-length, length-filter}, std.specs.{Global.Vec, Prelude.{filter, vec_capacity}}}
use Rattle.{poll_engine.proofs.{ListFacts.each_set, EndFacts.not_other}, napi_calls.specs.declared.kept.DropBomb.DropBomb}
use Rattle.poll_engine.specs.{HandleBenches.HasOneMore, declared.handle.PollHandle.PollHandle, declared.poller.Poller.Poller}
use Rattle.poll_engine.specs.{declared.list_poller.ListPoller.ListPoller, Spreads.{AreEndsOf, ArePollers, IsEndOf, IsPoller, own_seats}}
use Rattle.poll_engine.specs.{SharedLists.IsNewList, declared.list_in.ListIn.ListIn, declared.shared.SharedList.SharedList, Tasks.IsAt}
use Rattle.poll_engine.specs.{declared.setup.signals.Waker.Waker, declared.setup.context.RunContext.RunContext, Deals.{is_own, poller_by}}

-- a poller among those of a run
module _ {R G : Type 0} (context : RunContext R G) (wakers : List Waker) (count : ℕ) (sat : List (DropBomb R PollHandle))
    (pollers : List (Poller R G (ListPoller R))) (k : ℕ) (was : Poller R G (ListPoller R))
    (have : ArePollers context wakers count sat pollers) (within : k < length pollers) (there : get_or pollers k was ≡ was) where
  abbrev by : ℕ → DropBomb R PollHandle → Bool
  by n seat = is_own n (length wakers) seat.value.number

  here : IsPoller context wakers count (own_seats (length wakers) k sat) k was
  here = subst (λ p. IsPoller context wakers count (own_seats (length wakers) k sat) k p) there (have.each k was within)

  -- it has room for one more handle
  pub has_room : length sat < count → length (vec_items was.served.bench.seats) < vec_capacity was.served.bench.seats
  has_room few =
      let long = ap (λ l. length l) here.seats_are in
      let kept = length-filter (by k) sat in
      let fewer = count_by-le-length (by k) sat in
      let room = here.room in
      omega (arith, long, kept, fewer, few, room)

  -- one more handle was added to it
  pub one_more : (seat : DropBomb R PollHandle) (now : Poller R G (ListPoller R)) → is_own k (length wakers) seat.value.number ≡ true
      → HasOneMore was seat now → ArePollers context wakers count (sat ++ seat ∷ []) (set pollers k now)
  one_more seat now own one = record {
    each = each_set (λ n p. IsPoller context wakers count (own_seats (length wakers) n sat) n p)
        (λ n p. IsPoller context wakers count (own_seats (length wakers) n (sat ++ seat ∷ [])) n p) pollers k now within have.each
        (subst (λ p. IsPoller context wakers count (own_seats (length wakers) k (sat ++ seat ∷ [])) k p) (sym one.rest) (record {
          has = here.has;
          paced = one.limits ∙ here.paced;
          named = here.named;
          waker = here.waker;
          wakes = here.wakes;
          new = subst (λ (l : SharedList R). (ends : ℕ) × IsNewList ends l) (sym one.list) here.new;
          seats_are = one.seats ∙ ap (λ l. l ++ seat ∷ []) here.seats_are ∙ sym (more k true own);
          room = (let same = one.room in let room = here.room in omega (arith, same, room));
        })) (λ n p ne h. subst (λ l. IsPoller context wakers count l n p)
        (sym (more n false (not_other (length wakers) seat.value.number k n own ne) ∙ append-nil _)) h);
    as_many = length-set pollers k now ∙ have.as_many;
  }
    where
      more : (n : ℕ) (b : Bool) → is_own n (length wakers) seat.value.number ≡ b
          → own_seats (length wakers) n (sat ++ seat ∷ []) ≡ own_seats (length wakers) n sat ++ cond b (seat ∷ []) []
      more n b e = filter-append (by n) sat (seat ∷ []) ∙ ap (λ c. filter (by n) sat ++ cond c (seat ∷ []) []) e

  -- and it still has the same list
  pub same_lists : (seat : DropBomb R PollHandle) (now : Poller R G (ListPoller R)) → HasOneMore was seat now
      → map (λ (p : Poller R G (ListPoller R)). p.served.list) (set pollers k now)
      ≡ map (λ (p : Poller R G (ListPoller R)). p.served.list) pollers
  same_lists seat now one =
      let list : Poller R G (ListPoller R) → SharedList R = λ p. p.served.list in
      map-set list pollers k now ∙ ap (λ l. set (map list pollers) k l) one.list
      ∙ sym (map-set list pollers k was) ∙ ap (λ l. map list l) (ap (λ p. set pollers k p) (sym there) ∙ set-get_or pollers k was)

-- ---- the ends of lists that are taken

-- if two ends of a poller's list are taken from a vector of its ends, these and the remaining ones are ends of that list
pub ends_cut : {R : Type 0} (lists : List (SharedList R)) (ends : List (Vec (ListIn R))) (k : ℕ) (was now : Vec (ListIn R))
    (mid : List (ListIn R)) (one other : ListIn R)
    → k < length ends → get_or ends k was ≡ was → vec_items was ≡ mid ++ one ∷ [] → mid ≡ vec_items now ++ other ∷ []
    → AreEndsOf lists ends
    → IsEndOf lists k one × IsEndOf lists k other × AreEndsOf lists (set ends k now)
ends_cut {R} lists ends k was now mid one other within there whole rest each =
    let P : ℕ → Vec (ListIn R) → Type 0 = λ n own. All (IsEndOf lists n) (vec_items own) in
    let all = subst (λ v. P k v) there (each k was within) in
    let first = All-pop (IsEndOf lists k) (vec_items was) mid (Some one) whole all in
    let second = All-pop (IsEndOf lists k) mid (vec_items now) (Some other) rest first.0 in
    (first.1, second.1, each_set P P ends k now within each second.0 (λ n x ne h. h))

-- ---- the list and the waker of a station's poller

pub by_station : (pollers number k n : ℕ) → is_own k pollers number ≡ true → n ≡ number → poller_by pollers n ≡ k
by_station pollers number k n own e = ap (λ m. poller_by pollers m) e ∙ eqb-true (poller_by pollers number) k own

pub wired_end : {R : Type 0} (lists : List (SharedList R)) (k n : ℕ) (given end : ListIn R) → IsEndOf lists k given → end ≡ given → n ≡ k
    → IsEndOf lists n end
wired_end lists k n given end is same e =
    subst (λ m. IsEndOf lists m end) (sym e) (subst (λ x. IsEndOf lists k x) (sym same) is)

pub wired_waker : (wakers : List Waker) (k n : ℕ) (own waker : Waker) → IsAt wakers k own → waker ≡ own → n ≡ k → IsAt wakers n waker
wired_waker wakers k n own waker is same e = subst (λ m. IsAt wakers m waker) (sym e) (subst (λ b. IsAt wakers k b) (sym same) is)

-- ---- the counts while one more handle is added

pub ends_of : (left old ends : ℕ) → left + 1 ≡ old → old + old ≤ ends → left + left + 2 ≤ ends
ends_of left old ends e h = omega (arith, e, h)

pub count_of : (did did' left old n : ℕ) → did + old ≡ n → left + 1 ≡ old → did' ≡ did + 1 → did' + left ≡ n
count_of did did' left old n h e f = omega (arith, h, e, f)

pub same_count : (a a' b b' : ℕ) → a ≡ b → a' ≡ a + 1 → b' ≡ b + 1 → a' ≡ b'
same_count a a' b b' h e f = omega (arith, h, e, f)
