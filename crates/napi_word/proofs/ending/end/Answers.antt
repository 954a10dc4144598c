use Rattle.std.proofs.Common.{◌≡◌, ◌-◌, ℕ, List, [], ◌∷◌, ◌++◌, slice_get, length, take, sym, ap, ◌∙◌, subst, append_assoc, arith}
use Rattle.napi_word.{specs.{declared.table.Pass.Pass, Ends.Gathered}, proofs.Closing.get_mid}
use Rattle.napi_word.proofs.ending.end.Goals as goal

pub gather-gathering-requires : goal.gather-gathering-requires
gather-gathering-requires c =
    let rest = c.pop-popped.new.self.items in
    record {
      table =
          c.requires.passes (length rest) c.in-Some.first
          (ap (λ (l : List Pass). slice_get l (length rest)) c.in-Some.ensures.items ∙ get_mid rest [] c.in-Some.first);
    }

pub join-requires : goal.join-requires
join-requires c =
    let i = c.loop-pass.invariant in
    let rest = c.pop.new.self.items in
    let pass = c.in-Some-pop.pass in
    let items : c.args.passes.items ≡ rest ++ pass ∷ i.1.0 =
    i.1.1 ∙ ap (λ (l : List Pass). l ++ i.1.0) c.in-Some-pop.ensures.items ∙ append_assoc rest (pass ∷ []) i.1.0 in
    record {
      table = i.0;
      pass = c.requires.passes (length rest) pass (ap (λ (l : List Pass). slice_get l (length rest)) items ∙ get_mid rest i.1.0 pass);
    }

pub loop-pass-preserved : goal.loop-pass-preserved
loop-pass-preserved c =
    let i = c.loop-pass.invariant in
    let rest = c.pop.new.self.items in
    let pass = c.in-Some-pop.pass in
    let items : c.args.passes.items ≡ rest ++ pass ∷ i.1.0 =
    i.1.1 ∙ ap (λ (l : List Pass). l ++ i.1.0) c.in-Some-pop.ensures.items ∙ append_assoc rest (pass ∷ []) i.1.0 in
    (c.join.ensures.table, (pass ∷ i.1.0, items, c.join.ensures.has i.1.0 i.1.2))

pub returns : goal.returns
returns c =
    let i = c.loop-pass.invariant in
    let none = c.in_default-pop.ensures in
    let rest : c.pop.new.self.items ≡ [] = none.rest ∙ ap (λ (n : ℕ). take (n - 1) c.loop-pass.passes.items) none.cases.0 in
    let empty : c.loop-pass.passes.items ≡ [] = none.items ∙ ap (λ (l : List Pass). l ++ []) rest in
    let whole : c.args.passes.items ≡ i.1.0 = i.1.1 ∙ ap (λ (l : List Pass). l ++ i.1.0) empty in
    let g = subst (λ (l : List Pass). Gathered l c.loop-pass.gathering.seat.me.0 c.loop-pass.gathering.found) (sym whole) i.1.2 in
    let count = c.requires.count in
    c.finish.ensures c.args.passes.items g (omega (arith, count))
