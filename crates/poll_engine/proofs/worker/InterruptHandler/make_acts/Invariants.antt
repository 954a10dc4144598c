use Rattle.std.proofs.Common.{◌≡◌, ◌+◌, ◌≤◌, ◌++◌, is_some, length}
use Rattle.poll_engine.specs.{Asks.WasLet, Trails.questions, Acts.{after_acts, arrivals}, Calls.AllActs, Hands.{Lists, ThreadWakes}}
use Rattle.{poll_engine.specs.{Handles.AreHandlesOf, Questions.all_questions}, rx_ring.specs.Ends.{SameIn, capacity_of, put_list}}
use Rattle.poll_engine.proofs.worker.InterruptHandler.make_acts.Given as goal

abbrev pub invariant-loop-k : goal.invariant-loop-k
invariant-loop-k g l =
    let d = l.initial.device in
    let after = g.D.Device.after in
    let brought = arrivals g.D.Device.answer after d l.k in record {
      of : AreHandlesOf l.self.napi.now l.handles;
      lists : Lists l.self l.fn.handles.caller.pass l.handles.caller.pass l.initial.out l.out;
      wakes : ThreadWakes l.self l.fn.handles.caller.pass l.handles.caller.pass l.initial.out l.out;
      asked : questions l.out.asked ≡ questions l.initial.out.asked ++ all_questions after l.self.number d l.k;
      let_go : WasLet (g.G.Gate.answers l.context.gate) l.self.number l.k;
      acted : AllActs (is_some l.self.thread) g.D.Device.answer after d l.k l.fn.handles l.handles l.initial.rx l.rx;
      made : l.device ≡ after_acts after d l.k;
      acts : g.D.Device.acts l.device ≡ g.D.Device.acts d;
      ring : SameIn l.initial.rx l.rx;
      few : length (put_list l.rx) ≤ length (put_list l.initial.rx) + l.k;
      put : length (put_list l.initial.rx) + length brought ≤ capacity_of l.initial.rx → put_list l.rx ≡ put_list l.initial.rx ++ brought;
    }
