use Rattle.std.proofs.lemmas.Grind.{common_steps}
use Rattle.std.proofs.Common.{◌≡◌, ◌+◌, ◌≤◌, ◌++◌, is_some, length, ap, refl, sym, ◌∙◌, rules, arith, below_more}
use Rattle.poll_engine.proofs.Listings.{lists_more, lists_same, wakes_more, wakes_same}
use Rattle.poll_engine.proofs.{ActSteps.{acts-more, after_acts-more, arrivals-more, asked_more, put_more}, LedgerSteps.all_same}
use Rattle.{poll_engine.specs.{Trails.questions, Acts.{after_acts, brings}}, rx_ring.specs.Ends.{capacity_of, put_list}}
use Rattle.poll_engine.proofs.worker.InterruptHandler.make_acts.Goals as goal

pub loop-k-preserved : goal.loop-k-preserved
loop-k-preserved g c =
    let i = c.loop-k.invariant in
    let e = c.make_act-handles.ensures in
    let after = g.D.Device.after in
    let d = c.args.device.now in
    let brought = brings (g.D.Device.answer (after_acts after d c.loop-k.k) c.loop-k.k) in
    let places : capacity_of c.loop-k.rx ≡ capacity_of c.args.rx.now = search rules in
    let then : length (put_list c.loop-k.rx) + length brought ≤ capacity_of c.args.rx.now
    → put_list c.make_act-handles.new.rx ≡ put_list c.loop-k.rx ++ brought = rw (← i.made, ← places) e.put in record {
      of = e.of;
      lists = lists_more i.lists (lists_more (lists_same c.loop-k.handles.caller.pass c.loop-k.out _ refl refl) e.lists);
      wakes = wakes_more i.wakes (wakes_more (wakes_same c.loop-k.handles.caller.pass c.loop-k.out _ refl) e.wakes);
      asked = asked_more after c.args.self.now.number c.loop-k.k d c.loop-k.device _ _ _ _ i.asked i.made
          (c.stop_before.ensures.asked (search rules)) (ap questions e.asked);
      let_go = below_more _ _ i.let_go (c.stop_before.ensures.open (search rules));
      acted =
          acts-more (is_some c.args.self.now.thread) g.D.Device.answer after d c.loop-k.k c.args.handles c.loop-k.handles
          c.make_act-handles.result
          c.args.rx.now c.loop-k.rx c.make_act-handles.new.rx i.acted e.ring (rw (← i.made) e.made);
      made = e.device ∙ ap (λ x. after x c.loop-k.k) i.made ∙ sym (after_acts-more after d c.loop-k.k);
      acts = e.acts ∙ i.acts;
      ring = search rules;
      few = grind (arith, common_steps, i.few, e.few);
      put = put_more _ _ _ _ _ _ _ (arrivals-more g.D.Device.answer after d c.loop-k.k) i.put then;
    }

pub loop-k-init : goal.loop-k-init
loop-k-init g c = record {
  of = c.requires;
  lists = lists_same _ _ _ refl refl;
  wakes = wakes_same _ _ _ refl;
  asked = search rules;
  let_go = λ k below. absurd (omega (arith, below));
  acted = search rules;
  made = search rules;
  acts = search rules;
  ring = search rules;
  few = search rules;
  put = search rules;
}

pub returns-in-Some-clause-same : goal.returns-in-Some-clause-same
returns-in-Some-clause-same g c =
    all_same (is_some c.args.self.now.thread) g.D.Device.answer g.D.Device.after c.args.device.now c.loop-k.k c.args.handles
    c.loop-k.handles c.args.rx.now c.loop-k.rx c.loop-k.invariant.acted

pub returns-clause-same : goal.returns-clause-same
returns-clause-same g c =
    all_same (is_some c.args.self.now.thread) g.D.Device.answer g.D.Device.after c.args.device.now c.loop-k.k c.args.handles
    c.loop-k.handles c.args.rx.now c.loop-k.rx c.loop-k.invariant.acted
