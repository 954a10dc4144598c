-- The report of a replay with threads, as a function of the rows: what arrived at each device, and its transmit side. It
-- doesn't depend on polls, and so not on the threads. See docs/FORMATS.md, "The report".
use Rattle.replay_rows.specs.TransmitLine.{tx_lines}
use Rattle.std.specs.Prelude.{ℕ, Bool, List, [], ◌∷◌, ◌++◌, Option, Some, None, codes, decimal, filter, flat_map, is_some, length}
use Rattle.{std.specs.{Prelude.sum_by, List.range_with_len}, device_rows.specs.declared.row.Row.Row}
use Rattle.{device_bench.specs.Transmit.{TransmitView, tx_counts}, text_io.specs.Lines.{with_newline, words}}
use Rattle.replay.specs.Script.{opening_of, rx_of, script_of, side_after}

abbrev pub is_opened : List Row → ℕ → Bool
is_opened rows device = is_some (opening_of device rows)

-- the devices that the rows open, by increasing number
unfoldable pub opened_devices : List Row → List ℕ
opened_devices rows = filter (is_opened rows) (range_with_len 1 16)

-- ---- packets

-- how many packets arrive at a device, and their bytes
abbrev pub arrived : ℕ → List Row → ℕ
arrived device rows = length (rx_of (script_of device rows))

abbrev pub bytes : ℕ → List Row → ℕ
bytes device rows = sum_by (λ row. row.value) (rx_of (script_of device rows))

abbrev pub arrived_line : ℕ → ℕ → ℕ → List ℕ
arrived_line device count sum = words (codes "device" ∷ decimal device ∷ codes "arrived" ∷ decimal count ∷ codes "bytes" ∷ decimal sum ∷ [])

-- ---- the transmit side

abbrev pub side_lines : ℕ → TransmitView → List ℕ
side_lines device side = tx_lines device side.used (tx_counts side)

abbrev pub side_lines_by : ℕ → Option Row → List Row → List ℕ
side_lines_by device None rows = []
side_lines_by device (Some opening) rows = side_lines device (side_after opening rows)

-- ---- the report

abbrev pub threads_device_lines : List Row → ℕ → List ℕ
threads_device_lines rows device = with_newline (arrived_line device (arrived device rows) (bytes device rows))
    ++ side_lines_by device (opening_of device rows) (script_of device rows)

abbrev pub threads_total_line : ℕ → List ℕ
threads_total_line devices = words (codes "total" ∷ codes "devices" ∷ decimal devices ∷ [])

unfoldable pub threads_report : List Row → List ℕ
threads_report rows = flat_map (threads_device_lines rows) (opened_devices rows)
    ++ with_newline (threads_total_line (length (opened_devices rows)))
