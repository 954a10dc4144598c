use Rattle.std.proofs.Common.{ℕ, subst}
use Rattle.napi_model.specs.declared.state.Kind.{Kind}
use Rattle.c_handles.specs.{Handles.CallerStep, CallerCalls.CallerHands, Status.OK}
use Rattle.napi_c.proofs.RuleFacts.{granted_hands, look_stays_granted}
use Rattle.napi_c.proofs.rules.queue_granted.Goals as goal

pub returns-clause-queues : goal.returns-clause-queues
returns-clause-queues c =
    let looked = c.look.new.self in
    let queued = c.hand.new.self in
    let kind = c.queue_of-kind.result.0 in
    let granted = look_stays_granted c.args.caller.now.state c.in-Some.seen looked.state c.in-Some.ensures.looks c.requires in
    let hands = granted_hands looked.state kind c.hand.result queued.state c.hand.ensures.0 granted in
    record {
      seen = c.in-Some.seen;
      looked = looked;
      looks = (c.in-Some.ensures.looks, c.in-Some.ensures.answers);
      queues =
          subst (λ (k : Kind). CallerStep (CallerHands k) looked OK queued) c.queue_of-kind.ensures.kind
          (subst (λ (n : ℕ). CallerStep (CallerHands kind) looked n queued) hands.0 c.hand.ensures);
      says = c.queue_of-kind.ensures.next;
    }
