use Rattle.std.proofs.Common.{◌≡◌, ◌∙◌, ◌+◌, ◌++◌, ℕ, List, append_assoc, append-nil, Some, suc, ap, arith, string_bytes, sym}
use Rattle.device_places.proofs.PlaceFacts.{none-of}
use Rattle.{replay_rows.specs.{Played.replay_state, Report.{reported_counts, device_lines, lines_below}}}
use Rattle.replay_rows.{specs.Report.lines_of, proofs.replay.Replay.add_devices.Goals.{then-is_attached+in_ok-add_device, else-is_attached}}
use Rattle.replay_rows.proofs.replay.Replay.add_devices.Goals as goal

pub loop-number-init : goal.loop-number-init
unfolding lines_below
loop-number-init g c = λ x all shows. sym (simp append-nil)

one-more : (old new start below here : List ℕ) → new ≡ old ++ here → old ≡ start ++ below → new ≡ start ++ (below ++ here)
one-more old new start below here more before = more ∙ rw before (append_assoc start below here)

pub loop-number-preserved : goal.loop-number-preserved
unfolding lines_below
loop-number-preserved g c = λ x all shows.
    let number = c.loop-number.number in
    let version = c.args.version in
    let next : number + 1 ≡ suc number = omega arith in
    let before = c.loop-number.invariant x all shows in
    elim c.if-is_attached.branch [
      | then-is_attached+in_ok-add_device w ↦
          let here : device_lines version number w.uses_transmit-used.result (Some w.counts.result)
          ≡ lines_of version (replay_state c.args.self.now) all number =
          ap (λ o. device_lines version number w.uses_transmit-used.result o) (w.counts.ensures.devices x all shows)
          ∙ ap (λ used. device_lines version number used
          (reported_counts (replay_state c.args.self.now) all number))
          (w.uses_transmit-used.ensures all shows) in
          rw (next, w.text-is)
          (one-more _ _ _ _ _ (w.in_ok-add_device.ensures ∙ ap (λ (l : List ℕ). string_bytes c.loop-number.text ++ l) here) before)
      | else-is_attached w ↦
          rw (next, w.text-is, before, none-of _ (sym c.is_attached.ensures.devices ∙ w.if-is_attached.false)) (simp append-nil)
    ]
