-- One run over the poll list (`net_rx_action`): the function that `poll_runs` defines, on the devices.
use Rattle.{std.specs.Prelude.{ℕ, List}, device_bench.specs.Bench.{BenchDevices, polled_at}, poll_runs.specs.Function.Progress}
use Rattle.poll_runs.specs.Function.{run_of as run_by}
use Rattle.text_io.specs.declared.settings.ReplaySettings.{ReplaySettings}

abbrev pub replay_run : ReplaySettings → BenchDevices → List ℕ → Progress BenchDevices × List ℕ
replay_run s devices list = run_by polled_at s.budget s.weight s.window devices list
