-- The report's line of a device's transmit side. See docs/FORMATS.md, "The report".
use Rattle.std.specs.{Prelude.{ℕ, Bool, List, [], ◌∷◌, codes, decimal, if◌then◌else◌}, Fmt.signed_decimal}
use Rattle.{device_bench.specs.declared.transmit.TxCounts.TxCounts, text_io.specs.Lines.{words, with_newline, flag}}

-- the line of a device's transmit side
abbrev pub tx_line : ℕ → TxCounts → List ℕ
tx_line number counts = words (codes "tx" ∷ decimal number ∷ codes "sent" ∷ decimal counts.sent ∷ codes "held" ∷ decimal counts.held
    ∷ codes "done" ∷ decimal counts.done ∷ codes "denied" ∷ decimal counts.denied ∷ codes "limit" ∷ decimal counts.state.limit
    ∷ codes "avail" ∷ signed_decimal counts.state.avail ∷ codes "stopped" ∷ decimal (flag counts.state.stopped) ∷ [])

-- that line, only if the transmit side had a tx or done row
abbrev pub tx_lines : ℕ → Bool → TxCounts → List ℕ
tx_lines number used counts = if used then with_newline (tx_line number counts) else []
