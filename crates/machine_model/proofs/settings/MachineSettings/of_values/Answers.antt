use Rattle.std.proofs.Common.{◌≡◌, ◌∙◌, ◌<◌, ℕ, slice_index_or, arith, refl, sym}
use Rattle.std.specs.Prelude.{true}
use Rattle.machine_model.specs.declared.settings.TheConstants.{OPTION_COUNT}
use Rattle.machine_model.specs.Options.{machine_options}
use Rattle.machine_model.proofs.OptionFacts.{below, flag, in_range_at, is_plain, listed, no_option, own_in, own_is, plain_at}
use Rattle.machine_model.proofs.settings.MachineSettings.of_values.Goals as goal

pub invariant_of-result : goal.invariant_of-result
unfolding machine_options
invariant_of-result c =
    let values = c.args.values.now in
    let at = λ (k : ℕ) (l : k < OPTION_COUNT) (is : is_plain (slice_index_or machine_options k no_option) ≡ true).
    plain_at values k c.requires.in_range l is in
    let timer = own_in (slice_index_or values 23 0) (in_range_at values 23 no_option 0 c.requires.in_range (omega arith)) in
    let timer_wake = own_in (slice_index_or values 24 0) (in_range_at values 24 no_option 0 c.requires.in_range (omega arith)) in
    record {
      processors_in = at 0 (omega arith) refl;
      queues_in = at 1 (omega arith) refl;
      ring_in = at 2 (omega arith) refl;
      socket_in = at 3 (omega arith) refl;
      budget_in = (at 5 (omega arith) refl).1;
      weight_in = at 6 (omega arith) refl;
      window_in = at 7 (omega arith) refl;
      time_limit_in = at 8 (omega arith) refl;
      rx_nsecs_in = (at 9 (omega arith) refl).1;
      rx_frames_in = (at 10 (omega arith) refl).1;
      defer_hard_irqs_in = (at 11 (omega arith) refl).1;
      gro_flush_timeout_in = (at 12 (omega arith) refl).1;
      app_wake_in = (at 15 (omega arith) refl).1;
      interrupt_in = (at 16 (omega arith) refl).1;
      poll_in = (at 17 (omega arith) refl).1;
      packet_in = (at 18 (omega arith) refl).1;
      use_in = (at 19 (omega arith) refl).1;
      wake_in = (at 20 (omega arith) refl).1;
      rx_gap_in = (at 22 (omega arith) refl).1;
      timer_in = λ time is. timer time (sym c.own_cost.ensures ∙ is);
      timer_wake_in = λ time is. timer_wake time (sym c.own_cost-2.ensures ∙ is);
      latched_in = (at 25 (omega arith) refl).1;
      gro_batch_in = (at 26 (omega arith) refl).1;
      take_in = below (slice_index_or values 27 0) (slice_index_or values 18 0) c.requires.fit;
      early_in = (at 28 (omega arith) refl).1;
      poll_wake_in = (at 29 (omega arith) refl).1;
      arm_in = (at 30 (omega arith) refl).1;
    }

pub returns : goal.returns
unfolding machine_options
returns c =
    let values = c.args.values.now in
    let backlog = flag (slice_index_or values 4 0) (plain_at values 4 c.requires.in_range (omega arith) refl).1 in
    let threaded = flag (slice_index_or values 13 0) (plain_at values 13 c.requires.in_range (omega arith) refl).1 in
    let apart = flag (slice_index_or values 14 0) (plain_at values 14 c.requires.in_range (omega arith) refl).1 in
    let heedless = flag (slice_index_or values 21 0) (plain_at values 21 c.requires.in_range (omega arith) refl).1 in
    let all = listed values c.requires.in_range in
    let timer = own_is (slice_index_or values 23 0) in
    let timer_wake = own_is (slice_index_or values 24 0) in
    cc (backlog, threaded, apart, heedless, timer, timer_wake, c.own_cost.ensures, c.own_cost-2.ensures, all)
