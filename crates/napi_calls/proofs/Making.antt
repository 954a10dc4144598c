-- The operations of a call, step by step, and of a sequence of calls.
use Rattle.std.proofs.Common.{◌≡◌, ◌≢◌, ℕ, List, [], ◌∷◌, ◌++◌, flat_map, Option, Some, None, false, refl, sym, ap, ◌∙◌, subst, append-nil}
use Rattle.{std.proofs.{Common.append_assoc, lemmas.List.{map-append, Concat.flat_map-append}}, napi_model.specs.declared.event.Event.Event}
use Rattle.napi_model.specs.declared.event.{Call.Call, Operation.{Operation, TheVariants.{Look, MarkDisable, TakeDisable}}}
use Rattle.napi_model.specs.{declared.state.{Seen.Seen, Place.Place}, Step.{event, opening}, History.{LegalHistory, own}}
use Rattle.napi_word.specs.{declared.table.Pass.Pass, Knowledge.Knowledge, Passes.{view_of, Keeps, Makes}, Slot.Moves}
use Rattle.napi_calls.specs.{Seats.{SameSeat, pass_number, shown, own_list}, Knows.Stands}
use Rattle.napi_calls.specs.{Made.{EndsWith, Made, ContinuesCall, Lost, WasLost}}
use Rattle.napi_calls.{specs.Made.{looks, take_attempt, events}, proofs.{Steps.{shows_more, shows_legal, prefix_trans}, Standing.shows_of}}
use Rattle.napi_calls.proofs.Steps.{delivers_more}
use mathlib.Core.List.{IsPrefix}
use Rattle.napi_word.specs.Knowledge as view

ends_one : (c : ℕ) (os : List Operation) (o : Operation) (h : List Event) → EndsWith (events c (os ++ o ∷ [])) (h ++ event c o ∷ [])
ends_one c (x ∷ y ∷ os) o h = ends_one c (y ∷ os) o h
ends_one c os o h = (h, refl)

ends_more : (c : ℕ) (os : List Operation) (o : Operation) (ps : List Operation) (h : List Event) → EndsWith (events c (o ∷ ps)) h
    → EndsWith (events c (os ++ o ∷ ps)) h
ends_more c (x ∷ y ∷ os) o ps h e = ends_more c (y ∷ os) o ps h e
ends_more c os o ps h e = e

pub seat_same : {p q r : Pass} → SameSeat p q → SameSeat q r → SameSeat p r
seat_same a b =
    record { table = b.table ∙ a.table; number = b.number ∙ a.number; controller = b.controller ∙ a.controller; ring = b.ring ∙ a.ring }

pub nothing : {r : ℕ → Place} {c : ℕ} {p : Pass} → Stands r c p → Made p [] p
nothing {r} {c} {p} st = record {
  seat = record { table = refl; number = refl; controller = refl; ring = refl };
  begins = ([], append-nil (shown p));
  first = refl;
  dealt = ([], append-nil (view.view_delivered (view_of p)));
  grown = sym (append-nil (own_list p));
  ends = tt;
  shows = shows_of st;
}

-- moving the context isn't an event
pub still : {p q r : Pass} {os : List Operation} → Made p os q → Keeps q r → Made p os r
still {p} {q} {r} {os} m k =
    let e = k.view in record {
      seat = seat_same m.seat
          (record { table = k.table; number = ap view.view_number e; controller = ap view.view_controller e; ring = ap view.view_ring e });
      begins = subst (λ (v : Knowledge). IsPrefix (shown p) (view.view_shown v)) (sym e) m.begins;
      first = ap view.first_in e ∙ m.first;
      dealt = subst (λ (v : Knowledge). IsPrefix (view.view_delivered (view_of p)) (view.view_delivered v)) (sym e) m.dealt;
      grown = ap view.mine e ∙ m.grown;
      ends = subst (λ (v : Knowledge). EndsWith (events (pass_number p) os) (view.view_shown v)) (sym e) m.ends;
      shows = record {
        legal =
            subst (λ (v : Knowledge). LegalHistory (view.view_controller v) (opening (view.view_controller v)) (view.view_shown v)) (sym e)
            m.shows.legal;
        exact = subst (λ (v : Knowledge). own (view.view_number v) (view.view_shown v) ≡ view.mine v) (sym e) m.shows.exact;
      };
    }

-- one more step of the same call
pub step : {p q r : Pass} {os : List Operation} {o : Operation} {moves : Moves} → Made p os q → Makes q o moves r → Made p (os ++ o ∷ []) r
step {p} {q} {r} {os} {o} {moves} m s =
    let c = pass_number p in
    let g = s.event in
    let num : pass_number q ≡ c = m.seat.number in record {
      seat = seat_same m.seat (record { table = s.table; number = g.number; controller = g.controller; ring = g.ring });
      begins = prefix_trans (shown p) (shown q) (shown r) m.begins (shows_more q o r g);
      first = s.packets.first ∙ m.first;
      dealt = prefix_trans (view.view_delivered (view_of p)) (view.view_delivered (view_of q)) (view.view_delivered (view_of r)) m.dealt
          (delivers_more q r s.packets);
      grown = g.grows ∙ ap (λ (n : ℕ). own_list q ++ event n o ∷ []) num ∙ ap (λ (l : List Event). l ++ event c o ∷ []) m.grown
          ∙ append_assoc (own_list p) (events c os) (event c o ∷ [])
          ∙ ap (λ (l : List Event). own_list p ++ l) (sym (map-append (event c) os (o ∷ [])));
      ends = subst (EndsWith (events c (os ++ o ∷ []))) (sym (g.ends ∙ ap (λ (n : ℕ). g.before ++ event n o ∷ []) num))
          (ends_one c os o g.before);
      shows = shows_legal q o r g;
    }

-- one call after another
pub more : {p q r : Pass} {os : List Operation} (o : Operation) (ps : List Operation) → Made p os q → Made q (o ∷ ps) r
    → Made p (os ++ o ∷ ps) r
more {p} {q} {r} {os} o ps m n =
    let c = pass_number p in
    let num : pass_number q ≡ c = m.seat.number in record {
      seat = seat_same m.seat n.seat;
      begins = prefix_trans (shown p) (shown q) (shown r) m.begins n.begins;
      first = n.first ∙ m.first;
      dealt = prefix_trans (view.view_delivered (view_of p)) (view.view_delivered (view_of q)) (view.view_delivered (view_of r)) m.dealt
          n.dealt;
      grown = n.grown ∙ ap (λ (k : ℕ). own_list q ++ events k (o ∷ ps)) num ∙ ap (λ (l : List Event). l ++ events c (o ∷ ps)) m.grown
          ∙ append_assoc (own_list p) (events c os) (events c (o ∷ ps))
          ∙ ap (λ (l : List Event). own_list p ++ l) (sym (map-append (event c) os (o ∷ ps)));
      ends = ends_more c os o ps (shown r) (subst (λ (k : ℕ). EndsWith (events k (o ∷ ps)) (shown r)) num n.ends);
      shows = n.shows;
    }

-- ---- failed attempts

pub lost : {p q : Pass} (c : Call) (x y : Seen) → ContinuesCall c x.flags → y ≢ x → Made p (Look x ∷ Look y ∷ []) q → WasLost c p q
lost c x y on differ m = (record { first = x; goes_on = on; second = y; differ = differ }, m)

pub more_lost : {p q r : Pass} {c : Call} (ts : List (Lost c)) → Made p (flat_map looks ts) q → WasLost c q r
    → (us : List (Lost c)) × Made p (flat_map looks us) r
more_lost {p} {q} {r} {c} ts m w =
    let t = w.0 in (
      ts ++ t ∷ [],
      subst (λ (os : List Operation). Made p os r) (sym (flat_map-append looks ts (t ∷ [])))
          (more (Look t.first) (Look t.second ∷ []) m w.1),
    )

-- the mark of a disable, followed by attempts that failed
abbrev pub Waited : Pass → Pass → Type 0
Waited p q = (ts : List (Option (Lost Call.TakeDisable))) × Made p (MarkDisable ∷ flat_map take_attempt ts) q

pub more_waits : {p q r : Pass} → Waited p q → WasLost Call.TakeDisable q r → Waited p r
more_waits {p} {q} {r} m w =
    let ts = m.0 in
    let t = w.0 in (
      ts ++ Some t ∷ [],
      subst (λ (os : List Operation). Made p (MarkDisable ∷ os) r) (sym (flat_map-append take_attempt ts (Some t ∷ [])))
          (more (Look t.first) (Look t.second ∷ []) m.1 w.1),
    )

pub more_busy : {p q r : Pass} → Waited p q → Made q (TakeDisable false ∷ []) r → Waited p r
more_busy {p} {q} {r} m w =
    let ts = m.0 in (
      ts ++ None ∷ [],
      subst (λ (os : List Operation). Made p (MarkDisable ∷ os) r) (sym (flat_map-append take_attempt ts (None ∷ [])))
          (more (TakeDisable false) [] m.1 w),
    )
