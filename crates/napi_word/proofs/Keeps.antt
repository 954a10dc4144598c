-- One more event preserves the rule of the table (`specs/Rule.antt`).
use Rattle.napi_word.proofs.{Owns.{own_mine, own_other, own_rest, begins_self, begins_more}, Deliveries.{prefix_self, has_others}}
use Rattle.napi_word.{proofs.Deliveries.{givers_snoc, More, some_is}, specs.{Events.Steps, Slot.{Content, has_at, is_out, is_given}}}
use Rattle.napi_word.specs.{Slot.one_if}
use Rattle.napi_word.specs.{Knowledge.{Knowledge, is_pass, view_number, view_controller, mine, view_ring, state_in, place_in, disable_in}}
use Rattle.napi_word.specs.{Knowledge.busy_in, declared.history.{LocalHistory.LocalHistory, Key.Key, Delivery.Delivery}}
use Rattle.napi_word.specs.Rule.{first_view, Home, Homes, Owned}
use Rattle.{napi_word.specs.Rule.{Fits, Kept, Starts, Holding}, napi_model.specs.History.{LegalHistory, IsLegalFor, state_after, own}}
use Rattle.napi_model.specs.{Laws.{IsSound, ThreadsIsHanded, IsControlled, is_owner, stand_of}, Step.{event, opening, seen_of, after}}
use Rattle.napi_model.specs.{declared.{state.{State.State as Napi, Place.Place}, event.{Event.Event, Operation.Operation}}, Word.word_of}
use Rattle.napi_model.proofs.Owners.{sound_after, opens_sound, ownership_kept, owner_kept, disable_kept, threads_after, opens_unthreaded}
use Rattle.napi_model.proofs.{Owners.{controlled_after, opens_controlled}, Histories.{state_after-snoc, state_after-append, legal_snoc}}
use Rattle.std.proofs.Common.{◌≡◌, ◌≢◌, ℕ, zero, suc, List, [], ◌∷◌, ◌++◌, get_or}
use Rattle.napi_model.proofs.Histories.{legal_front, legal_back}
use Rattle.std.proofs.Common.{set, Option, Some, None, Bool, true, false, is_some, unwrap_or, refl, sym, ap, ◌∙◌, subst, ⊎_elim, arith}
use Rattle.{std.proofs.Common.true≢false, atomic_table.{proofs.Lists.{at_set, set_again}, specs.Table.State}}
use lib.ListN.{get_elem?}
use mathlib.Core.Option as maybe

abbrev pub St : Type 0
St = State Content Knowledge

-- ---- a pass's own local history, which is the first of its view
pub record Open (v : Knowledge) : Type 0 where
  pub first : LocalHistory
  pub extra : Knowledge
  pub is : v ≡ first ∷ extra
  pub numbered : first.number ≡ Some (view_number v)

numbered_of : (n : Option ℕ) → is_some n ≡ true → n ≡ Some (unwrap_or n 0)
numbered_of (Some c) e = refl
numbered_of None e = absurd (true≢false (sym e))

pub opened : (v : Knowledge) → is_pass v ≡ true → Open v
opened [] p = absurd (true≢false (sym p))
opened (x ∷ xs) p = record { first = x; extra = xs; is = refl; numbered = numbered_of x.number p }

-- the pass's local history after its event, which follows the history h
abbrev pub grown : LocalHistory → ℕ → List Event → Operation → List Delivery → LocalHistory
grown x c h o ds = record x { seen = h ++ event c o ∷ []; mine = x.mine ++ event c o ∷ []; delivered = ds }

-- a pass exists only after the table was made
pub running : (key : Key) (s : St) → Holding key s → (id : ℕ) (v : Knowledge) → get_elem? s.views id ≡ maybe.some v → is_pass v ≡ true
    → Kept key s
running key s h id v at p = ⊎_elim
    (λ (t : Starts key s). absurd (none id (ap (λ (l : List Knowledge). get_elem? l id) (sym t.views) ∙ at)))
    (λ (r : Kept key s). r)
    h
  where
    none : (j : ℕ) → get_elem? (first_view key ∷ []) j ≡ maybe.some v → ⊥
    none zero e = true≢false (sym p ∙ ap is_pass (sym (maybe.some-injective _ _ e)))
    none (suc j) e = maybe.some-ne-none v (sym e)

-- what a pass's view implies about the current state
pub record Knows (k : ℕ) (v : Knowledge) (c : ℕ) (now : Napi) : Type 0 where
  pub number : view_number v ≡ c
  pub controller : view_controller v ≡ k
  pub sound : IsSound now
  pub threads : ThreadsIsHanded now
  pub controlled : IsControlled k now
  pub owner : is_owner c now.place ≡ is_owner c (place_in v)
  pub place : is_owner c (place_in v) ≡ true → now.place ≡ place_in v
  pub busy : is_owner c (place_in v) ≡ true → now.flags.in_busy_poll ≡ busy_in v
  pub disable : c ≡ k → now.flags.disable ≡ disable_in v

-- ---- the rule for a local history with a number: since it was updated, only other callers made events
module _ (key : Key) (s : St) (r : Kept key s) (p : ℕ × ℕ) (x : LocalHistory) (f : Fits key r.history r.deliveries r.seat p x) (c : ℕ)
    (numbered : x.number ≡ Some c) where
  abbrev state_first : Napi
  state_first = opening key.controller

  abbrev state_now : Napi
  state_now = state_after state_first r.history

  abbrev later : List Event
  later = f.begins.0

  abbrev state_seen : Napi
  state_seen = state_after state_first x.seen

  legal_parts : LegalHistory key.controller state_first (x.seen ++ later)
  legal_parts = subst (λ (l : List Event). LegalHistory key.controller state_first l) (sym f.begins.1) r.legal

  none : own c later ≡ []
  none = let o = f.owned c numbered in own_rest c x.seen later x.mine o.shown (ap (λ (l : List Event). own c l) f.begins.1 ∙ o.whole)

  parts : state_now ≡ state_after state_seen later
  parts = ap (λ (l : List Event). state_after state_first l) (sym f.begins.1) ∙ state_after-append state_first x.seen later

  sound_t : IsSound state_seen
  sound_t =
      sound_after key.controller state_first x.seen (opens_sound key.controller)
      (legal_front key.controller state_first x.seen later legal_parts)

  back : LegalHistory key.controller state_seen later
  back = legal_back key.controller state_first x.seen later legal_parts

  pub owner_since : is_owner c state_now.place ≡ is_owner c state_seen.place
  owner_since = ap (λ (u : Napi). is_owner c u.place) parts ∙ ownership_kept key.controller c state_seen later sound_t back none

  pub stand_since : is_owner c state_seen.place ≡ true → stand_of state_now ≡ stand_of state_seen
  stand_since y = ap stand_of parts ∙ owner_kept key.controller c state_seen later sound_t back none y

  pub place_since : is_owner c state_seen.place ≡ true → state_now.place ≡ state_seen.place
  place_since y = ap (λ (t : Place × Bool). t.0) (stand_since y)

  pub disable_since : c ≡ key.controller → state_now.flags.disable ≡ state_seen.flags.disable
  disable_since y = ap (λ (u : Napi). u.flags.disable) parts
      ∙ disable_kept key.controller state_seen later back (subst (λ (d : ℕ). own d later ≡ []) y none)

-- ---- one more event; other local histories of the same seat may have seen less
module _ (key : Key) (s : St) (r : Kept key s) (id : ℕ) (v : Knowledge) (at : get_elem? s.views id ≡ maybe.some v) (o : Open v) where
  abbrev c : ℕ
  c = view_number v

  abbrev h : List Event
  h = r.history

  abbrev pub now : Napi
  now = state_after (opening key.controller) h

  abbrev seen : List Event
  seen = o.first.seen

  abbrev t : Napi
  t = state_after (opening key.controller) seen

  pub own_fits : Fits key h r.deliveries r.seat (id, 0) o.first
  own_fits = r.histories id v at 0 o.first (ap (λ (l : Knowledge). get_elem? l 0) o.is)

  pub owned : Owned key h r.deliveries r.seat (id, 0) o.first c
  owned = own_fits.owned c o.numbered

  stand_now : is_owner c t.place ≡ true → stand_of now ≡ stand_of t
  stand_now = stand_since key s r (id, 0) o.first own_fits c o.numbered

  viewed : state_in v ≡ t
  viewed = ap state_in o.is ∙ ap (λ (k : ℕ). state_after (opening k) seen) own_fits.controller

  pub knows : Knows key.controller v c now
  knows = record {
    number = refl;
    controller = ap view_controller o.is ∙ own_fits.controller;
    sound = sound_after key.controller (opening key.controller) h (opens_sound key.controller) r.legal;
    threads =
        threads_after key.controller (opening key.controller) h (opens_sound key.controller) (opens_unthreaded key.controller) r.legal;
    controlled = controlled_after key.controller (opening key.controller) h (opens_controlled key.controller) r.legal;
    owner = owner_since key s r (id, 0) o.first own_fits c o.numbered ∙ ap (λ (u : Napi). is_owner c u.place) (sym viewed);
    place = λ y. ap (λ (t : Place × Bool). t.0) (stand_now (ap (λ (u : Napi). is_owner c u.place) (sym viewed) ∙ y))
        ∙ ap (λ (u : Napi). u.place) (sym viewed);
    busy = λ y. ap (λ (t : Place × Bool). t.1) (stand_now (ap (λ (u : Napi). is_owner c u.place) (sym viewed) ∙ y))
        ∙ ap (λ (u : Napi). u.flags.in_busy_poll) (sym viewed);
    disable = λ y. disable_since key s r (id, 0) o.first own_fits c o.numbered y ∙ ap (λ (u : Napi). u.flags.disable) (sym viewed);
  }

  pub found : get_or s.words 0 0 ≡ word_of (seen_of now)
  found = ap (λ (ws : List ℕ). get_or ws 0 0) r.word

  -- ---- one more event, while other local histories of the same seat may have seen it
  module _ (d : Operation) (ds : List Delivery) (tail : Knowledge) where
    abbrev e : Event
    e = event c d

    abbrev pub next : LocalHistory
    next = grown o.first c h d ds

    abbrev w : Knowledge
    w = next ∷ tail

    abbrev pub TailFits : Type 0
    TailFits = (k : ℕ) (x : LocalHistory) → get_elem? tail k ≡ maybe.some x → Fits key (h ++ e ∷ []) ds r.seat (id, suc k) x

    exact : own c (h ++ e ∷ []) ≡ o.first.mine ++ e ∷ []
    exact = own_mine c h e refl ∙ ap (λ (l : List Event). l ++ e ∷ []) owned.whole

    -- the local histories of other seats don't change
    others : IsLegalFor key.controller now e → More now e r.deliveries ds → (j k : ℕ) → j ≢ id → (x : LocalHistory)
        → Fits key h r.deliveries r.seat (j, k) x → Fits key (h ++ e ∷ []) ds r.seat (j, k) x
    others legal more j k apart x f = record {
      begins = begins_more x.seen h e f.begins;
      delivered = more.begins x.delivered f.delivered;
      owned = λ n is. let q = f.owned n is in
          let other : c ≢ n = λ same. apart (ap (λ (p : ℕ × ℕ). p.0) (sym q.here ∙ ap r.seat (sym same) ∙ owned.here)) in record {
            whole = own_other n h e other ∙ q.whole;
            shown = q.shown;
            delivers = more.others n other ∙ q.delivers;
            has = λ there.
                let before = sym (has_others key.controller n now e knows.sound legal other)
                ∙ ap (λ (u : Napi). has_at n u.place) (sym (state_after-snoc (opening key.controller) h e)) ∙ there in
                q.has before ∙ sym (more.same n other before);
            here = q.here;
            few = q.few;
          };
      controller = f.controller;
      ring = f.ring;
      begun = f.begun;
    }

    next_fits : TailFits → (k : ℕ) (x : LocalHistory) → get_elem? w k ≡ maybe.some x → Fits key (h ++ e ∷ []) ds r.seat (id, k) x
    next_fits fits zero x is = subst (Fits key (h ++ e ∷ []) ds r.seat (id, 0)) (maybe.some-injective _ _ is) record {
      begins = begins_self (h ++ e ∷ []);
      delivered = prefix_self ds;
      owned = λ n same. subst (Owned key (h ++ e ∷ []) ds r.seat (id, 0) next) (some_is (sym o.numbered ∙ same)) record {
        whole = exact;
        shown = exact;
        delivers = refl;
        has = λ there. refl;
        here = owned.here;
        few = owned.few;
      };
      controller = own_fits.controller;
      ring = own_fits.ring;
      begun = own_fits.begun;
    }
    next_fits fits (suc k) x is = fits k x is

    grows : TailFits → IsLegalFor key.controller now e → More now e r.deliveries ds → (homes : Homes)
        → (is_out (after now e).place ≡ false → Home key.ring.value ds homes)
        → Kept key record { words = word_of (seen_of (after now e)) ∷ []; homes = homes; views = set s.views id w }
    grows fits legal more homes slot = record {
      history = h ++ e ∷ [];
      deliveries = ds;
      seat = r.seat;
      legal = legal_snoc key.controller (opening key.controller) h e r.legal legal;
      word = ap (λ (u : Napi). word_of (seen_of u) ∷ []) (sym (state_after-snoc (opening key.controller) h e));
      slot = subst (λ (u : Napi). is_out u.place ≡ false → Home key.ring.value ds homes)
          (sym (state_after-snoc (opening key.controller) h e)) slot;
      histories = λ j u there k x is. ⊎_elim
          (λ (y : (j ≡ id) × (w ≡ u)). subst (λ (i : ℕ). Fits key (h ++ e ∷ []) ds r.seat (i, k) x) (sym y.0)
          (next_fits fits k x (ap (λ (z : Knowledge). get_elem? z k) y.1 ∙ is)))
          (λ (y : (j ≢ id) × (get_elem? s.views j ≡ maybe.some u)). others legal more j k y.0 x (r.histories j u y.1 k x is))
          (at_set s.views id j w u there);
      few = λ n above. own_other n h e (λ (same : c ≡ n). let low = owned.few in absurd (omega arith)) ∙ r.few n above;
      order = more.order ∙ ap (λ (l : List ℕ). l ++ one_if (is_given now e) c) r.order ∙ sym (givers_snoc (opening key.controller) h e);
      few_deliver = λ n above. more.others n (λ (same : c ≡ n). let low = owned.few in absurd (omega arith)) ∙ r.few_deliver n above;
    }

    -- the step replaces the word by f of it, and f of the word before encodes the state after the event
    pub steps : TailFits → (f : ℕ → ℕ) → f (word_of (seen_of now)) ≡ word_of (seen_of (after now e)) → IsLegalFor key.controller now e
        → More now e r.deliveries ds
        → (homes : Homes) → (is_out (after now e).place ≡ false → Home key.ring.value ds homes)
        → Kept key record { words = set s.words 0 (f (get_or s.words 0 0)); homes = homes; views = set s.views id w }
    steps fits f is legal more homes slot =
        subst (λ (ws : List ℕ). Kept key record { words = set ws 0 (f (get_or ws 0 0)); homes = homes; views = set s.views id w })
        (sym r.word)
        (subst (λ (n : ℕ). Kept key record { words = n ∷ []; homes = homes; views = set s.views id w }) (sym is)
        (grows fits legal more homes slot))

    pub grew : IsLegalFor key.controller now e → Steps v d w
    grew legal = record {
      before = h;
      begins = λ k x is. (r.histories id v at k x is).begins;
      ends = refl;
      legal =
          subst (λ (k : ℕ). LegalHistory k (opening k) (h ++ e ∷ [])) (sym knows.controller)
          (legal_snoc key.controller (opening key.controller) h e r.legal legal);
      grows = ap (λ (l : List Event). l ++ e ∷ []) (sym (ap mine o.is));
      exact = exact;
      pass = ap is_some o.numbered;
      number = ap (λ (n : Option ℕ). unwrap_or n 0) o.numbered;
      controller = sym (ap view_controller o.is);
      ring = sym (ap view_ring o.is);
      owner = subst (λ (k : ℕ). is_owner c (state_after (opening k) h).place ≡ is_owner c (place_in v)) (sym knows.controller) knows.owner;
      place =
          subst (λ (k : ℕ). is_owner c (place_in v) ≡ true → (state_after (opening k) h).place ≡ place_in v)
          (sym knows.controller) knows.place;
      busy = subst (λ (k : ℕ). is_owner c (place_in v) ≡ true → (state_after (opening k) h).flags.in_busy_poll ≡ busy_in v)
          (sym knows.controller) knows.busy;
      disable =
          λ top. subst (λ (k : ℕ). (state_after (opening k) h).flags.disable ≡ disable_in v) (sym knows.controller)
          (knows.disable (top ∙ knows.controller));
    }

  -- ---- a load that is no event and doesn't change the view
  pub again : (homes : Homes) → (is_out now.place ≡ false → Home key.ring.value r.deliveries homes)
      → Kept key record { words = set s.words 0 (get_or s.words 0 0); homes = homes; views = set s.views id v }
  again homes slot = record {
    history = h;
    deliveries = r.deliveries;
    seat = r.seat;
    legal = r.legal;
    word = subst (λ (ws : List ℕ). set ws 0 (get_or ws 0 0) ≡ word_of (seen_of now) ∷ []) (sym r.word) refl;
    slot = slot;
    histories = λ j u there. r.histories j u (ap (λ (l : List Knowledge). get_elem? l j) (sym (set_again s.views id v at)) ∙ there);
    few = r.few;
    order = r.order;
    few_deliver = r.few_deliver;
  }
