-- What the pollers of a run hold of its instances.
use Rattle.poll_engine.specs.{Outcomes.{AreSeatsAt, IsSeatWith, Outcome}, Tasks.EachAt, Deals.is_own}
use Rattle.poll_engine.specs.{declared.worker.InterruptWorker.InterruptWorker, declared.handle.PollHandle.PollHandle}
use Rattle.poll_engine.specs.{declared.poller.Poller.Poller, declared.list_poller.ListPoller.ListPoller}
use Rattle.napi_calls.specs.declared.kept.DropBomb.{DropBomb}
use Rattle.std.proofs.Common.{◌≡◌, ◌≢◌, ℕ, suc, ◌-◌, ◌%◌, ◌<◌, Bool, true, false, cond, List, [], ◌∷◌, ◌++◌, ap, ◌∙◌, subst, length}
use Rattle.std.proofs.{Common.{map, vec_items, sym, refl, append-nil, append_assoc, arith, get_or, set}, lemmas.Bool.{eqb-true, ne_eqb}}
use Rattle.std.proofs.{lemmas.List.{get_or_default, map-append}, lemmas.List.Elements.filter-append, lemmas.Slice.Zip.AllZip-long}
use Rattle.{std.specs.{List.{AllByRecursion, AllZip}, Prelude.filter}, poll_engine.proofs.ListFacts.{each_set, zip_empty}}

pub each_push : {A : Type 0} (P : A → Type 0) (xs : List A) (x : A) → AllByRecursion P xs → P x → AllByRecursion P (xs ++ x ∷ [])
each_push P [] x h p = (p, tt)
each_push P (y ∷ xs) x h p = (h.0, each_push P xs x h.1 p)

-- a station belongs to one poller only
pub not_other : (pollers number k n : ℕ) → is_own k pollers number ≡ true → n ≢ k → is_own n pollers number ≡ false
not_other pollers number k n own ne =
    ne_eqb ((number - 1) % pollers) n (λ same. ne (sym same ∙ eqb-true ((number - 1) % pollers) k own))

-- ---- the handles of a poller (names with "seat" are about them)

abbrev OwnPoller : Type 0 → Type 0 → Type 0
OwnPoller R G = Poller R G (ListPoller R)

abbrev seats : {R G : Type 0} → OwnPoller R G → List (DropBomb R PollHandle)
seats poller = vec_items poller.served.bench.seats

-- the handles of the poller with this number that were used for these instances
abbrev used : {R D G : Type 0} → ℕ → ℕ → List (Outcome R D G) → List (DropBomb R PollHandle)
used {R} {D} {G} pollers k did =
    map (λ (o : Outcome R D G). o.poller) (filter (λ (o : Outcome R D G). is_own k pollers o.worker.handler.number) did)

module _ {R D G : Type 0} (pollers : ℕ) (before : List (OwnPoller R G)) where
  -- the poller's handles were used so far for its own stations, and the remaining handles are for the remaining stations
  pub record HasGiven (did : List (Outcome R D G)) (left : List (InterruptWorker R D G)) (k : ℕ) (poller : OwnPoller R G) : Type 0 where
    pub rest : AreSeatsAt pollers left k poller
    pub gone : (d : OwnPoller R G) → used pollers k did ++ seats poller ≡ seats (get_or before k d)

  pub none_given : (left : List (InterruptWorker R D G)) → EachAt (AreSeatsAt pollers left) before → EachAt (HasGiven [] left) before
  none_given left each k d low = record {
    rest = each k d low;
    gone = λ e. ap (λ (p : OwnPoller R G). seats p) (get_or_default before k d e low);
  }

  pub given_at : (did : List (Outcome R D G)) (all left : List (InterruptWorker R D G)) (polled : List (OwnPoller R G))
      → all ≡ left → EachAt (HasGiven did all) polled → EachAt (HasGiven did left) polled
  given_at did all left polled e each k d low = subst (λ l. HasGiven did l k (get_or polled k d)) e (each k d low)

  pub all_given : (did : List (Outcome R D G)) (after : List (OwnPoller R G)) → length after ≡ length before
      → EachAt (HasGiven did []) after → EachAt (λ k poller. used pollers k did ≡ seats poller) before
  all_given did after long each k d low =
      let h = each k d (omega (arith, low, long)) in
      sym (append-nil _)
      ∙ ap (λ l. used pollers k did ++ l) (sym (zip_empty {A = InterruptWorker R D G} IsSeatWith [] (seats (get_or after k d)) h.rest refl))
      ∙ h.gone d

  module _ (did : List (Outcome R D G)) (place : InterruptWorker R D G) (left : List (InterruptWorker R D G))
      (polled : List (OwnPoller R G)) (k : ℕ) (was : OwnPoller R G) (own : is_own k pollers place.handler.number ≡ true)
      (within : k < length polled) (each : EachAt (HasGiven did (place ∷ left)) polled) (there : get_or polled k was ≡ was) where
    abbrev own_left : ℕ → List (InterruptWorker R D G)
    own_left n = filter (λ (p : InterruptWorker R D G). is_own n pollers p.handler.number) left

    here : HasGiven did (place ∷ left) k was
    here = subst (λ p. HasGiven did (place ∷ left) k p) there (each k was within)

    own_first : AllZip IsSeatWith (place ∷ own_left k) (seats was)
    own_first = subst (λ b. AllZip IsSeatWith (cond b (place ∷ own_left k) (own_left k)) (seats was)) own here.rest

    -- there is a handle for the current station, and the next one is on its instance
    pub some_left : suc (length (own_left k)) ≡ length (seats was)
    some_left = sym (AllZip-long IsSeatWith (place ∷ own_left k) (seats was) own_first)

    pub next_at : (seat : DropBomb R PollHandle) (rest : List (DropBomb R PollHandle)) → seats was ≡ seat ∷ rest → IsSeatWith place seat
    next_at seat rest first = (subst (λ l. AllZip IsSeatWith (place ∷ own_left k) l) first own_first).0

    -- the next handle belongs to the current station
    pub given_more : (o : Outcome R D G) (now : OwnPoller R G) → o.worker ≡ place → seats was ≡ o.poller ∷ seats now
        → EachAt (HasGiven (did ++ o ∷ []) left) (set polled k now)
    given_more o now same first =
        each_set (HasGiven did (place ∷ left)) (HasGiven (did ++ o ∷ []) left) polled k now within each (record {
          rest = (subst (λ l. AllZip IsSeatWith (place ∷ own_left k) l) first own_first).1;
          gone = λ d. ap (λ l. l ++ seats now) (more k true (at_place k ∙ own))
              ∙ append_assoc (used pollers k did) (o.poller ∷ []) (seats now)
              ∙ ap (λ l. used pollers k did ++ l) (sym first) ∙ here.gone d;
        }) (λ n x ne g.
        let others = not_other pollers place.handler.number k n own ne in
        record {
          rest = subst (λ b. AllZip IsSeatWith (cond b (place ∷ own_left n) (own_left n)) (seats x)) others g.rest;
          gone = λ d. ap (λ l. l ++ seats x) (more n false (at_place n ∙ others) ∙ append-nil (used pollers n did)) ∙ g.gone d;
        })
      where
        at_place : (n : ℕ) → is_own n pollers o.worker.handler.number ≡ is_own n pollers place.handler.number
        at_place n = ap (λ (w : InterruptWorker R D G). is_own n pollers w.handler.number) same

        by : ℕ → Outcome R D G → Bool
        by n o = is_own n pollers o.worker.handler.number

        more : (n : ℕ) (b : Bool) → is_own n pollers o.worker.handler.number ≡ b
            → used pollers n (did ++ o ∷ []) ≡ used pollers n did ++ map (λ (o : Outcome R D G). o.poller) (cond b (o ∷ []) [])
        more n b e =
            ap (λ l. map (λ (o : Outcome R D G). o.poller) l) (filter-append (by n) did (o ∷ []))
            ∙ map-append (λ (o : Outcome R D G). o.poller) (filter (by n) did) (cond (by n o) (o ∷ []) [])
            ∙ ap (λ c. used pollers n did ++ map (λ (o : Outcome R D G). o.poller) (cond c (o ∷ []) [])) e
