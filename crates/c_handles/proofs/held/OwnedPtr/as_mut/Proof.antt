-- `as_mut` lends the value that the pointer owns, and the pointer follows it.
use Rattle.std.specs.Prelude.{ℕ, Option, Some, true, is_some}
use Rattle.std_alloc.proofs.BoxSteps.{Form.{D, R, τ, word, handle}, Steps.{box_out, box_in}}
use Rattle.std.proofs.alloc.Calls.{token}
use Rattle.c_handles.{specs.{declared.{body.Object.Object, held.OwnedPtr.OwnedPtr}, contracts.held.OwnedPtr.as_mut.Key.name as #self}}
use Rattle.c_handles.{specs.Loans.{with_body}, proofs.{AsBox.E, There.there}}
use mathlib.Core.{Path.{◌≡◌, refl}, List.{List, [], ◌∷◌, ◌++◌}}
use seplogic.Ra.Ura.{Ura}
use mir.{Syntax.{Body, named, place, copy, assign, rv_opd, seq, return}, Val.{Val, vptr}, Raw.{raw as bare}}
use base.{Fraction.full_share, Logic.{SProp, ent, sep, id⊢}, Fml.{Lft, GName, Share, Fml, ftrue, flft, fsep}}
use prog.{Memory.Memory, Routine.Routine, Wp.{Env, WpFn, Tables}}
use types.Logic.{Logic, sem}
use types.Kit.{‵, raw, ◌⊛◌, some, later, at_ret, ◌$◌, ◌∵◌, !, qed, by, move, keep, drop, use1, rewrite, join, split, pick}
use types.{Kit.{fsplit, fsplit3, fjoin, fpack, group, await, frame, suffices, done}, Part.{whole, sub, look_in}}
use types.Run.{stop, fld, load, of_opd, first, blocks, exec, returns, enter, addr}
use types.ByLocal.{alloc_all, pass_all, free_all, look_at, get, through, sets}
use types.ByLocal.{env, sets_last}
use contract.{Monad.{Fun, fact}, Running.{tables, tables_of}}
use sound.WpLaws.{WpFn-mono}
use denote.{Exit.no, RattleType.owns, Memory.{part_at, mem, cell_at, part_of}, RawPtr.block_ptr, Ref.{MutRef, mut_vals, mut_Tells}}
use denote.{Signature.{plain, mut_ref_to}, Steps.{heard, nothing, opens}, Follow.{follows, Part, lends_Part}}
use denote.Triple.{Entry.on_entry, Spec.triple_of}
use denote.Triple.{Table.entered, Walked.{says, Stays, stay_dropped, walk_of, ends_at, walked, walk_Meets, Goes-spent_ref}}
use Rattle.c_handles.specs.contracts.held.OwnedPtr as Held
use Rattle.c_handles.specs.contracts.body.Object as Body
use Rattle.c_handles.specs.contracts.held.OwnedPtr.as_mut as F
use Rattle.c_handles.proofs.held.OwnedPtr.as_mut.Statement as stated
use Rattle.c_handles.proofs.held.OwnedPtr.as_mut.Code as code

abbrev rest : Body
rest = seq (assign (place 0 []) (rv_opd (copy (place 2 [])))) return

abbrev stayed : Stays (F.ended).signature.params (F.ended).kept
stayed = (stay_dropped (mut_ref_to (0 ∷ []) tt (plain (λ _. Held.the_row))) no, tt)

module _ {M : Type 1} {𝓤 : Ura M} (𝓛 : Logic 𝓤) (at_mem : Memory → SProp 𝓤) (run : Routine → Fun 𝓤) (𝓣 : Tables 𝓤 𝓛.H) where
  open 𝓛 use {H, A}

  module _ (κ : Lft) (q : Share) (rb ro : ℕ) (γ : GName) (h : OwnedPtr) where
    abbrev bound : (walk_of 𝓛 F.ended stayed (F.clauses 𝓛 at_mem run)).Ghost
    bound = (((κ, tt), (q, tt), tt, (record { ref_ptr = (rb, ro); ghost_name = γ; now = h }, tt), (vptr rb ro ∷ [], tt)), tt)

    abbrev Post : Val → SProp 𝓤
    Post = (walk_of 𝓛 F.ended stayed (F.clauses 𝓛 at_mem run)).post bound

    module _ (x : Object) (is : h.body ≡ Some x) (b o : ℕ) (hv : Val) where
      -- all of the pointer but its value
      abbrev Rest : Fml
      Rest = fsep (fsep (token E.al h.alloc (bare (τ E)) (block_ptr b o)) (handle E h.alloc hv))
          (cell_at full_share Held.the_row.mir (word E hv b o ∷ []) rb ro)

      back : h.ptr ≡ block_ptr b o → (w : Object)
          → ent 𝓤 (sep 𝓤 (sem 𝓛 ((mem Body.the_row).own_at w b o)) (sem 𝓛 Rest)) (sem 𝓛 ((mem Held.the_row).own_at (with_body h w) rb ro))
      unfolding part_of
      back at_b w =
          let v : D E = record { ptr = h.ptr; alloc = h.alloc; value = w } in
          qed 𝓛 (‵ (part_at (R E) full_share w b o) ∷ ‵ Rest ∷ []) ∵ move ! (1 ∷ []) $ fsplit ! $ fsplit ! $ move ! (3 ∷ []) $
          box_in E ! v b o w at_b refl $ move ! (1 ∷ 0 ∷ []) $
          use1 𝓛 (‵ (cell_at full_share Held.the_row.mir (word E hv b o ∷ []) rb ro)) (id⊢ 𝓤 _) $ fjoin ! $
          fpack ! (List Val) (λ us. fsep (cell_at full_share Held.the_row.mir us rb ro) (Held.the_row.own_val (with_body h w) us))
          (word E hv b o ∷ [])
          $ done !

      exits : (γ' : GName)
          → ent 𝓤 (sep 𝓤
          (sem 𝓛 ((MutRef (named 0) κ Body.the_row).own_val (record { ref_ptr = (b, o); ghost_name = γ'; now = x }) (vptr b o ∷ [])))
          (sep 𝓤 (A.lft κ q) (sem 𝓛 (follows Held.the_row Body.the_row γ γ' (with_body h))))) (Post (vptr b o))
      exits γ' =
          qed 𝓛 (‵ ((MutRef (named 0) κ Body.the_row).own_val (record { ref_ptr = (b, o); ghost_name = γ'; now = x }) (vptr b o ∷ []))
          ∷ ‵ (flft κ q) ∷ ‵ (follows Held.the_row Body.the_row γ γ' (with_body h)) ∷ []) ∵
          suffices ! _ (ends_at 𝓛 F.ended stayed (F.clauses 𝓛 at_mem run) bound (vptr b o)
          (record { ref_ptr = (b, o); ghost_name = γ'; now = x }) (tt, tt) (tt, tt)) $
          nothing ! $ nothing ! $ fjoin ! $ join ! $ nothing ! $ move ! (2 ∷ 0 ∷ []) $ join ! $ join ! $ frame ! $ says ! is $ done !

    walk : ent 𝓤 (sep 𝓤
        (on_entry 𝓛 F.signature (κ, tt) (q, tt) (record { ref_ptr = (rb, ro); ghost_name = γ; now = h }, tt) (vptr rb ro ∷ [], tt))
        (fact 𝓤 (is_some h.body ≡ true))) (WpFn 𝓤 H 𝓣.C 𝓣.Λ code.function (vptr rb ro ∷ []) Post)
    walk =
        qed 𝓛 (((‵ (flft κ q) ⊛ ‵ ftrue)
        ⊛ ‵ (owns (MutRef (named 0) κ Held.the_row ∷ []) (record { ref_ptr = (rb, ro); ghost_name = γ; now = h }, tt)
        (vptr rb ro ∷ [], tt)))
        ∷ raw (fact 𝓤 (is_some h.body ≡ true)) ∷ []) ∵ move ! (1 ∷ []) $ heard
        ! (is_some h.body ≡ true) (λ some_is.
        let x : Object = (there h.body some_is).0 in let is : h.body ≡ Some x = (there h.body some_is).1 in
        let v : D E = record { ptr = h.ptr; alloc = h.alloc; value = x } in split ! $
        enter ! 𝓣.C 𝓣.Λ code.function (vptr rb ro ∷ []) _ $
        alloc_all ! (λ l. pass_all ! refl ((tt, tt), tt) $
        let En : Env 𝓤 H = env code.function.locals l in
        move ! (1 ∷ []) $ fsplit ! $ fsplit3 ! $ drop ! $ move ! (3 ∷ []) $ split ! $ move ! (2 ∷ 3 ∷ 0 ∷ []) $
        opens ! tt Held.the_row {h = h} rb ro (λ vs. move ! (1 ∷ []) $
        rewrite ! 0 (λ (ob : Option Object). ‵ (Held.the_row.own_val (record { ptr = h.ptr; alloc = h.alloc; body = ob }) vs)) is refl $
        box_out E ! v vs (λ b o hv at_b ws fa. move ! (1 ∷ 2 ∷ []) $ fjoin ! $ move ! (1 ∷ []) $
        rewrite ! 2 (λ (us : List Val). ‵ (cell_at full_share Held.the_row.mir us rb ro)) ws refl $
        first ! $ blocks ! $
        sets ! (of_opd ! (load ! (through ! refl (fld ! refl (stop !))) (look_in ! 2 (sub ! 0 refl (whole !))))) refl (tt, tt) $
        sets ! (of_opd ! (get ! refl)) refl (tt, tt) $
        sets_last ! (addr ! (through ! refl (stop !))) refl (tt, tt) $
        exec ! 𝓣.C 𝓣.Λ En rest (at_ret En Post) $
        sets ! (of_opd ! (get ! refl)) refl (tt, tt) $
        move ! (1 ∷ 2 ∷ []) $ fjoin ! $ move ! (2 ∷ 3 ∷ 4 ∷ 1 ∷ 0 ∷ []) $ group ! 5 $
        let S : SProp 𝓤 = sem 𝓛 (Rest x is b o hv) in
        use1 𝓛 (later (some (λ (γ' : GName).
        raw (Part 𝓛 Held.the_row Body.the_row (with_body h) (named 0) κ q rb ro b o γ S (back x is b o hv at_b) x γ'))))
        (lends_Part 𝓛 Held.the_row Body.the_row (with_body h) (named 0) κ q rb ro b o γ S (back x is b o hv at_b)
        (Held.the_row.coded.code h) (Held.the_row.coded.code h) x) $ await ! tt $ pick ! (λ γ'.
        returns ! (look_at ! 0 refl) $ free_all ! refl $
        keep ! (0 ∷ []) $ by ! (exits x is b o hv γ'))))))

pub as_mut_spec : {M : Type 1} → stated.statement M
unfolding tables_of
as_mut_spec 𝓤 𝓛 𝓜 𝓡 wired =
    let 𝓣 : Tables 𝓤 𝓛.H = tables_of 𝓤 𝓛.H 𝓜 (tables 𝓤 𝓛.H 𝓜 𝓡 𝓡.env) in
    let fn = code.function in
    entered 𝓤 𝓛.H (triple_of 𝓛 F.signature (F.spec 𝓛 𝓜.mem 𝓡.returns)) 𝓣.C 𝓣.Λ #self fn (code.unfolded 𝓤 𝓛.H 𝓜 𝓡 wired)
    (walk_Meets 𝓛 F.ended stayed (Goes-spent_ref 𝓛 1 (0 ∷ []) tt (plain (λ _. Held.the_row)), tt) (F.clauses 𝓛 𝓜.mem 𝓡.returns)
    (WpFn 𝓤 𝓛.H 𝓣.C 𝓣.Λ fn) (WpFn-mono 𝓤 𝓛.H 𝓛.laws 𝓣 fn)
    (walked 𝓛 F.ended stayed (F.clauses 𝓛 𝓜.mem 𝓡.returns) (WpFn 𝓤 𝓛.H 𝓣.C 𝓣.Λ fn) (λ κs. (mut_vals, tt))
    (λ κs. (mut_Tells (named 0) κs.0 Held.the_row, tt))
    (λ κs qs bounds a g are. walk 𝓛 𝓜.mem 𝓡.returns 𝓣 κs.0 qs.0 a.0.ref_ptr.0 a.0.ref_ptr.1 a.0.ghost_name a.0.now)))
