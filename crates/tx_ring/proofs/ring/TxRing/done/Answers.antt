use Rattle.std.proofs.{Common.{◌≡◌, ◌&&◌, sum, take, drop, length, arith, length-drop, ap, sym, ◌∙◌}, lemmas.List.drop-drop}
use Rattle.{dql_core.specs.{Dql.Shows, Limit.after_completed}, tx_ring.specs.Queue.{oldest_bytes, is_over}}
use Rattle.tx_ring.proofs.{Done.{after_done-none, after_done-some}, Sums.sum-take-add}
use Rattle.tx_ring.proofs.ring.TxRing.done.Goals as goal

pub returns-else-bytes-gt0-clause-ok : goal.returns-else-bytes-gt0-clause-ok
returns-else-bytes-gt0-clause-ok c = λ t shown.
    let n = c.args.count in
    let bytes : oldest_bytes t n ≡ c.take_front-bytes.result =
    ap (λ l. sum (take n l)) (sym shown.held) ∙ sym c.take_front-bytes.ensures.taken in
    let held : length c.args.self.now.sizes.items ≡ length (drop t.done t.sizes) = ap length shown.held in
    let left = length-drop t.done t.sizes in
    let within = shown.within in
    let complete = shown.complete in
    let more = sum-take-add t.done n t.sizes in
    rw (after_done-none t n c.args.now (omega arith)) (record {
      capacity = c.take_front-bytes.ensures.rest.1 ∙ shown.capacity;
      held = c.take_front-bytes.ensures.rest.0 ∙ ap (drop n) shown.held ∙ drop-drop n t.done t.sizes;
      within = omega arith;
      limit = shown.limit;
      sent = shown.sent;
      complete = omega arith;
      stopped = shown.stopped;
    })

pub returns-in-Ok-clause-ok : goal.returns-in-Ok-clause-ok
returns-in-Ok-clause-ok c = λ t shown.
    let n = c.args.count in
    let bytes : oldest_bytes t n ≡ c.take_front-bytes.result =
    ap (λ l. sum (take n l)) (sym shown.held) ∙ sym c.take_front-bytes.ensures.taken in
    let held : length c.args.self.now.sizes.items ≡ length (drop t.done t.sizes) = ap length shown.held in
    let left = length-drop t.done t.sizes in
    let within = shown.within in
    let complete = shown.complete in
    let more = sum-take-add t.done n t.sizes in
    let s = after_completed t.limit (oldest_bytes t n) c.args.now in
    let limit : Shows c.completed.new.self s = rw bytes (c.in-Ok.ensures.ok t.limit shown.limit) in
    let stopped : c.stays_stopped-self.result ≡ c.args.self.now.stopped && is_over s = c.stays_stopped-self.ensures s limit in
    rw (after_done-some t n c.args.now (omega arith)) (record {
      capacity = c.take_front-bytes.ensures.rest.1 ∙ shown.capacity;
      held = c.take_front-bytes.ensures.rest.0 ∙ ap (drop n) shown.held ∙ drop-drop n t.done t.sizes;
      within = omega arith;
      limit = limit;
      sent = shown.sent;
      complete = omega arith;
      stopped = stopped ∙ ap (λ x. x && is_over s) shown.stopped;
    })
