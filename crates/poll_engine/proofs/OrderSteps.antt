-- Each step on the queue preserves the order of all pushes: a push, a pop, making an end, returning an end, and a read.
use Rattle.std.proofs.Common.{◌≡◌, ◌≢◌, ℕ, ◌+◌, ◌<◌, Bool, true, false, true≢false, List, [], ◌∷◌, ◌++◌, length, set, cond, sym, refl}
use Rattle.std.proofs.Common.{ap, ◌∙◌, subst, inl, inr, ⊎_elim, append_assoc, length-append, lt_of_not-le, arith}
use Rattle.std.proofs.{lemmas.List.length-set, lemmas.List.Sums.sum_by_push}
use Rattle.{crossbeam_queue.specs.Fifo.{Pushes, Pops, Forks, Merges, Learns}, crossbeam_queue.proofs.Lists.{at_set, at_longer, at_last}}
use Rattle.poll_engine.specs.{declared.list_rule.Returned.Returned, declared.list_rule.EndView.EndView}
use Rattle.poll_engine.specs.PushOrder.{Push, push_of, pushes_by, returned_end, pusher, poller, spent_end, live_count, IsReturned}
use Rattle.poll_engine.specs.PushOrder.{FitsEnd, InOneOrder, KnowsOrder}
use Rattle.poll_engine.proofs.EndLists.{in_range, at_push, total_set, one_weight, two_weights, EachAt, all_set, by_mine, by_other}
use Rattle.poll_engine.proofs.EndLists.{ids_push, one_there}
use mathlib.Core.{Option.{some, some-ne-none}, Logic.dite}
use native.Mathlib.Decide.{dec_le, ℕ_discrete}
use lib.ListN.{get_elem?}

by_live : {P : Type 0} (p : ℕ) (u : EndView) → (u.live ≡ true → P) → (u.live ≡ false → P) → P
by_live {P} p u if_so if_not =
    elim u.live as (λ b. (b ≡ true → P) → (b ≡ false → P) → P) [ true ↦ (λ f g. f refl) | false ↦ (λ f g. g refl) ] if_so if_not

-- an end that wasn't returned counts as one
live_weight : (v : EndView) → v.live ≡ true → live_count v ≡ 1
live_weight v l = ap (λ (b : Bool). cond b 1 0) l

pub pushes : (n port : ℕ) (v : EndView) (x : ℕ) → v.live ≡ true
    → Pushes InOneOrder n port v x (λ w. w ≡ record v { pushed = v.pushed ++ x ∷ [] })
pushes n port v x live items views room h at =
    let w : EndView = record v { pushed = v.pushed ++ x ∷ [] } in
    let order : List Push = h.order ++ push_of port x ∷ [] in
    let mine = h.fits port v at in
    let inside = in_range views port v at in (
      w,
      record {
        order = order;
        popped = h.popped;
        returned = h.returned;
        made = h.made;
        all = ids_push h.order port x h.popped items h.all;
        sized = length-set views port w ∙ h.sized;
        fits = all_set (FitsEnd order h.popped h.returned h.made) views port w
            ((λ l. ((mine.0 l).0, ap (λ l. l ++ x ∷ []) (mine.0 l).1 ∙ sym (by_mine port x h.order))), mine.1, mine.2)
            (λ j u other e. let t = h.fits j u e in ((λ l. ((t.0 l).0, (t.0 l).1 ∙ sym (by_other j port x h.order other))), t.1, t.2));
        later = λ p k. by_other p port x h.order (λ q. let s : length views ≡ h.made = h.sized in absurd (omega arith)) ∙ h.later p k;
        kept = λ k d e.
            let t = h.kept k d e in
            let apart : d.number ≢ port = λ q. true≢false (sym live ∙ t.2 v (ap (λ i. get_elem? views i) q ∙ at)) in (
              t.0 ∙ sym (by_other d.number port x h.order apart),
              t.1,
              λ u f. ⊎_elim (λ (y : (d.number ≡ port) × (w ≡ u)). absurd (apart y.0))
                  (λ (y : (d.number ≢ port) × (get_elem? views d.number ≡ some u)). t.2 u y.1) (at_set views port d.number w u f),
            );
        counted = let s = total_set live_count views port v w at in let c = h.counted in omega arith;
      },
      refl,
    )

pub pops : (port : ℕ) (v : EndView) → v.polls ≡ true → Pops InOneOrder port v (λ x w. w ≡ record v { popped = v.popped ++ x ∷ [] })
pops port v may x items views h at =
    let w : EndView = record v { popped = v.popped ++ x ∷ [] } in
    let got : List ℕ = h.popped ++ x ∷ [] in
    let mine = h.fits port v at in (
      w,
      record {
        order = h.order;
        popped = got;
        returned = h.returned;
        made = h.made;
        all = h.all ∙ sym (append_assoc h.popped (x ∷ []) items);
        sized = length-set views port w ∙ h.sized;
        fits = all_set (FitsEnd h.order got h.returned h.made) views port w
            (mine.0, mine.1, λ p. let t = mine.2 p in (t.0, t.1, ap (λ l. l ++ x ∷ []) t.2, t.3, t.4))
            (λ j u other e. let t = h.fits j u e in (t.0, t.1, λ p. absurd (other ((t.2 p).1 ∙ sym (mine.2 may).1))));
        later = h.later;
        kept = λ k d e.
            let t = h.kept k d e in (
              t.0,
              t.1,
              λ u f. ⊎_elim
                  (λ (y : (d.number ≡ port) × (w ≡ u)). sym (ap (λ (z : EndView). z.live) y.1)
                  ∙ t.2 v (ap (λ i. get_elem? views i) y.0 ∙ at))
                  (λ (y : (d.number ≢ port) × (get_elem? views d.number ≡ some u)). t.2 u y.1) (at_set views port d.number w u f),
            );
        counted = let s = total_set live_count views port v w at in let c = h.counted in omega arith;
      },
      refl,
    )

pub begins : InOneOrder [] (poller 1 [] [] [] ∷ [])
begins =
    record {
      order = [];
      popped = [];
      returned = [];
      made = 1;
      all = refl;
      sized = refl;
      fits = λ j u e.
          ⊎_elim (λ (y : get_elem? {A = EndView} [] j ≡ some u). absurd (some-ne-none u (sym y)))
          (λ (y : (j ≡ 0) × (poller 1 [] [] [] ≡ u)). subst (λ (z : ℕ × EndView). FitsEnd [] [] [] 1 z.0 z.1) (λ i. (sym y.0 i, y.1 i))
          ((λ _. (refl, refl)), (λ f. absurd (true≢false f)), λ _. (refl, refl, refl, refl, refl)))
          (at_push [] (poller 1 [] [] []) u j e);
      later = λ p k. refl;
      kept = λ k d e. absurd (some-ne-none d (sym e));
      counted = refl;
    }

pub forks : (port : ℕ) (v : EndView) → v.polls ≡ true
    → Forks InOneOrder port v (poller (v.made + 1) v.pushed v.popped v.returned) (pusher v.made [])
forks port v may items views h at =
    let l : EndView = poller (v.made + 1) v.pushed v.popped v.returned in
    let r : EndView = pusher v.made [] in
    let mine = h.fits port v at in
    let role = mine.2 may in
    let vs : List EndView = set views port l in
    let n : length vs ≡ h.made = length-set views port l ∙ h.sized in
    let made : v.made ≡ h.made = role.4 in
    let old : EachAt (FitsEnd h.order h.popped h.returned (h.made + 1)) vs =
    all_set (FitsEnd h.order h.popped h.returned (h.made + 1)) views port l
    ((λ _. (sym role.1, (mine.0 role.0).1)), (λ f. absurd (true≢false f)), λ _. (refl, role.1, role.2, role.3, ap (λ k. k + 1) made))
    (λ j u other e. let t = h.fits j u e in (t.0, t.1, λ p. absurd (other ((t.2 p).1 ∙ sym role.1)))) in
    record {
      order = h.order;
      popped = h.popped;
      returned = h.returned;
      made = h.made + 1;
      all = h.all;
      sized = let a = length-append vs (r ∷ []) in omega arith;
      fits = λ j u e.
          ⊎_elim (λ (y : get_elem? vs j ≡ some u). old j u y)
          (λ (y : (j ≡ length vs) × (r ≡ u)). subst (λ (z : EndView). FitsEnd h.order h.popped h.returned (h.made + 1) j z) y.1
          ((λ _. (made ∙ sym n ∙ sym y.0, sym (h.later j (omega arith)))), (λ f. absurd (true≢false f)), λ f. absurd (true≢false (sym f))))
          (at_push vs r u j e);
      later = λ p k. h.later p (omega arith);
      kept = λ k d e.
          let t = h.kept k d e in
          let small = t.1 in (
            t.0,
            omega arith,
            λ u f.
                ⊎_elim (λ (y : get_elem? vs d.number ≡ some u).
                ⊎_elim (λ (z : (d.number ≡ port) × (l ≡ u)). absurd
                (true≢false (sym role.0 ∙ t.2 v (ap (λ i. get_elem? views i) z.0 ∙ at))))
                (λ (z : (d.number ≢ port) × (get_elem? views d.number ≡ some u)). t.2 u z.1) (at_set views port d.number l u y))
                (λ (y : (d.number ≡ length vs) × (r ≡ u)). let q = y.0 in absurd (omega arith))
                (at_push vs r u d.number f),
          );
      counted =
          let s = total_set live_count views port v l at in
          let one = live_weight v role.0 in
          let c = h.counted in
          let p = sum_by_push live_count vs r in
          omega arith;
    }

pub merges : (port : ℕ) (v : EndView) (other : ℕ) (u : EndView) → v.polls ≡ true → u.live ≡ true
    → Merges InOneOrder port v other u (poller v.made v.pushed v.popped (v.returned ++ returned_end u.number u.pushed ∷ [])) spent_end
merges port v other u may live items views h at two at' =
    let known : List Returned = h.returned ++ returned_end u.number u.pushed ∷ [] in
    let mine = h.fits port v at in
    let role = mine.2 may in
    let both : EndView = poller v.made v.pushed v.popped (v.returned ++ returned_end u.number u.pushed ∷ []) in
    let vs : List EndView = set views port both in
    let was : get_elem? views other ≡ some u =
    ⊎_elim (λ (y : (other ≡ port) × (both ≡ u)). absurd (two y.0)) (λ (y : (other ≢ port) × (get_elem? views other ≡ some u)). y.1)
    (at_set views port other both u at') in
    let theirs = (h.fits other u was).0 live in
    let inside = in_range views other u was in
    let Now : ℕ → EndView → Type 0 = λ j y. j ≢ other → FitsEnd h.order h.popped known h.made j y in
    let now : EachAt Now vs =
    all_set Now views port both
    (λ _. (
      (λ _. (sym role.1, (mine.0 role.0).1)),
      (λ f. absurd (true≢false f)),
      λ _.
          (refl, role.1, role.2, ap (λ (ks : List Returned). ks ++ returned_end u.number u.pushed ∷ []) role.3, role.4),
    ))
    (λ j y apart e _. let t = h.fits j y e in (
      t.0,
      (λ f. let k = t.1 f in (k.0, k.1, at_longer h.returned (returned_end u.number u.pushed ∷ []) k.0 k.1 k.2, k.3)),
      λ p. absurd
          (apart ((t.2 p).1 ∙ sym role.1)),
    )) in
    record {
      order = h.order;
      popped = h.popped;
      returned = known;
      made = h.made;
      all = h.all;
      sized = length-set vs other spent_end ∙ length-set views port both ∙ h.sized;
      fits = all_set (FitsEnd h.order h.popped known h.made) vs other spent_end (
        (λ f. absurd (true≢false (sym f))),
        (λ _. (
          length h.returned,
          returned_end u.number u.pushed,
          at_last h.returned (returned_end u.number u.pushed)
              (length h.returned) refl,
          theirs.0,
        )),
        λ f. absurd (true≢false (sym f)),
      )
          (λ j y apart e. now j y e apart);
      later = h.later;
      kept = λ k d e.
          let gone_now : (y : EndView) → get_elem? (set vs other spent_end) d.number ≡ some y → (d.number ≢ other → y.live ≡ false)
          → y.live ≡ false = λ y f else_.
          ⊎_elim (λ (z : (d.number ≡ other) × (spent_end ≡ y)). sym (ap (λ (x : EndView). x.live) z.1))
          (λ (z : (d.number ≢ other) × (get_elem? vs d.number ≡ some y)). else_ z.0) (at_set vs other d.number spent_end y f) in
          ⊎_elim (λ (y : get_elem? h.returned k ≡ some d).
          let t = h.kept k d y in (
            t.0,
            t.1,
            λ x f. gone_now x f (λ apart. ⊎_elim (λ (z : (d.number ≡ other) × (spent_end ≡ x)). absurd (apart z.0))
                (λ (z : (d.number ≢ other) × (get_elem? vs d.number ≡ some x)).
                ⊎_elim (λ (q : (d.number ≡ port) × (both ≡ x)). absurd
                (true≢false (sym role.0 ∙ t.2 v (ap (λ i. get_elem? views i) q.0 ∙ at))))
                (λ (q : (d.number ≢ port) × (get_elem? views d.number ≡ some x)). t.2 x q.1) (at_set views port d.number both x z.1))
                (at_set vs other d.number spent_end x f)),
          ))
          (λ (y : (k ≡ length h.returned) × (returned_end u.number u.pushed ≡ d)).
          let number : u.number ≡ d.number = ap (λ (x : Returned). x.number) y.1 in
          let is : d.number ≡ other = sym number ∙ theirs.0 in
          let size : length views ≡ h.made = h.sized in (
            sym (ap (λ (x : Returned). x.pushed) y.1) ∙ theirs.1 ∙ ap (λ i. pushes_by i h.order) (sym is),
            omega arith,
            λ x f. gone_now x f (λ apart. absurd (apart is)),
          ))
          (at_push h.returned (returned_end u.number u.pushed) d k e);
      counted =
          let s = total_set live_count views port v both at in
          let t = total_set live_count vs other u spent_end at' in
          let one = live_weight v role.0 in
          let two' = live_weight u live in
          let c = h.counted in
          let a = length-append h.returned (returned_end u.number u.pushed ∷ []) in
          omega arith;
    }

pub learns : (port : ℕ) (v : EndView) → v.polls ≡ true → Learns InOneOrder port v (KnowsOrder v)
learns port v may items views h at =
    let mine = h.fits port v at in
    let role = mine.2 may in
    let me = mine.0 role.0 in
    let same : v.returned ≡ h.returned = role.3 in
    let made : v.made ≡ h.made = role.4 in
    let len : length v.returned ≡ length h.returned = ap (λ (ks : List Returned). length ks) same in
    let lives = live_weight v role.0 in
    let sum = h.counted in
    record {
      order = h.order;
      all = h.all ∙ ap (λ l. l ++ items) (sym role.2);
      by_poller = me.1 ∙ ap (λ i. pushes_by i h.order) (sym me.0);
      by_others = λ k d e. (h.kept k d (ap (λ (l : List Returned). get_elem? l k) (sym same) ∙ e)).0;
      enough = let one = one_weight live_count views port v at in omega arith;
      nobody_else = λ full p. dite (dec_le h.made p)
          (λ far. inr (inr (h.later p far)))
          (λ near.
          let size : length views ≡ h.made = h.sized in
          let below : p < length views = let b = lt_of_not-le near in omega arith in
          let u = one_there views p below in
          let t = h.fits p u.0 u.1 in
          dite (ℕ_discrete p port)
          (λ q. inl (q ∙ sym me.0))
          (λ ne. by_live p u.0
          (λ l.
          let two = two_weights live_count views p port u.0 v ne u.1 at in
          let other = live_weight u.0 l in
          absurd (omega arith))
          (λ f. inr (inl (subst (λ (ks : List Returned). IsReturned p ks) (sym same) (t.1 f))))));
    }
