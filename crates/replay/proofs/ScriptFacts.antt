-- How one more act advances a script, and what all its acts deliver.
use Rattle.std.proofs.Common.{[], ◌∷◌, ◌++◌, length, length-append, take, get_or, ap, refl, sym, arith, ◌≡◌, ◌∙◌, ℕ, zero, suc, ◌+◌}
use Rattle.std.proofs.{Common.{◌<◌, ◌≤◌, List}, lemmas.Bool.eq-eqb, lemmas.Grind.common_steps, lemmas.List.take_more}
use Rattle.{std.proofs.{lemmas.List.Sums.sum_by-append, lemmas.List.Elements.filter-append}, std.specs.Prelude.sum_by}
use Rattle.device_rows.proofs.Accepted.{get-at}
use Rattle.device_rows.specs.{declared.row.Row.Row, declared.event.RowEvent.RowEvent, declared.event.RowEvent.TheVariants.Opened}
use Rattle.{poll_engine.specs.{Acts.{after_acts, arrivals, brings}, declared.acts.Act.Act}, replay.proofs.Rows.filter-long}
use Rattle.rx_ring.specs.{declared.packet.Packet.Packet, ReceiveRing.bytes_of}
use Rattle.device_bench.specs.{declared.transmit.Transmit.Transmit, Transmit.{ShowsTransmit, TransmitView}}
use Rattle.replay.specs.ScriptShown.{IsScriptKept, Script, script_after, answer}
use Rattle.replay.specs.Script.{act_at, act_of, rx_of, transmit_after, transmit_by}

-- the row that is returned for an index out of range
abbrev pub none : Row
none = record { moment = 0; device = 0; event = Opened; value = 0 }

transmit_after-push : (rows : List Row) (row : Row) (t : TransmitView)
    → transmit_after (rows ++ row ∷ []) t ≡ transmit_by row.event row (transmit_after rows t)
transmit_after-push [] row t = refl
transmit_after-push (r ∷ rows) row t = transmit_after-push rows row (transmit_by r.event r t)

rx_of-more : (rows : List Row) (k : ℕ) (d : Row) → k < length rows
    → rx_of (take (k + 1) rows) ≡ rx_of (take k rows) ++ rx_of (get_or rows k d ∷ [])
rx_of-more rows k d below = ap (λ (l : List Row). rx_of l) (take_more rows k d below) ∙ filter-append _ (take k rows) (get_or rows k d ∷ [])

-- one more row of the script was processed
pub kept-more : (opening : Row) (rows : List Row) (k packets counted : ℕ) (row : Row) (old new : Transmit)
    → IsScriptKept opening rows k packets old → k < length rows → get_or rows k row ≡ row
    → ((view : TransmitView) → ShowsTransmit old view → ShowsTransmit new (transmit_by row.event row view))
    → counted ≡ packets + length (rx_of (row ∷ [])) → IsScriptKept opening rows (k + 1) counted new
kept-more opening rows k packets counted row old new kept below here shows more = grind (arith, common_steps, transmit_after-push)

pub few-packets : (opening : Row) (rows : List Row) (k packets : ℕ) (side : Transmit) → IsScriptKept opening rows k packets side
    → packets ≤ 100000
few-packets opening rows k packets side kept = grind (arith, common_steps, filter-long)

-- the act of the row at this index
pub act-at : (rows : List Row) (k : ℕ) (d : Row) → k < length rows
    → act_at rows k ≡ act_of (length (rx_of (take k rows)) + 1) (get_or rows k d).event (get_or rows k d).value
act-at rows k d below = rw (get-at rows k d below) refl

pub answer-in-turn : (s : Script) (k packets : ℕ) (row : Row) (act : Act) → k ≡ s.made → k < length s.rows → get_or s.rows k row ≡ row
    → packets ≡ length (rx_of (take s.made s.rows))
    → act ≡ act_of (packets + 1) row.event row.value → act ≡ answer s k
answer-in-turn s k packets row act turn below here counted is = grind (arith, common_steps, act-at)

-- ---- all acts of a script

pub acts-made : (s : Script) (n : ℕ) → s.made ≡ 0 → after_acts script_after s n ≡ record s { made = n }
acts-made s zero e = ap (λ (m : ℕ). record s { made = m }) e
acts-made s (suc n) e = grind (arith, common_steps, acts-made s n e)

-- the packet that a row's act delivers, if it is an rx row
brought-count : (e : RowEvent) (n : ℕ) (row : Row) → row.event ≡ e
    → length (brings (act_of n row.event row.value)) ≡ length (rx_of (row ∷ []))
brought-count e n row h = grind (arith, common_steps)

brought-bytes : (e : RowEvent) (n : ℕ) (row : Row) → row.event ≡ e
    → bytes_of (brings (act_of n row.event row.value)) ≡ sum_by (λ (r : Row). r.value) (rx_of (row ∷ []))
brought-bytes e n row h = grind (arith, common_steps)

bytes_of-append : (xs ys : List Packet) → bytes_of (xs ++ ys) ≡ bytes_of xs + bytes_of ys
bytes_of-append xs ys = grind (arith, common_steps)

-- the first n acts of a script deliver the packets of the rx rows among its first n rows
abbrev pub AreArrivals : Script → ℕ → Type 0
AreArrivals s n = (length (arrivals answer script_after s n) ≡ length (rx_of (take n s.rows)))
    × (bytes_of (arrivals answer script_after s n) ≡ sum_by (λ (row : Row). row.value) (rx_of (take n s.rows)))

one-more : (s : Script) (n : ℕ) (d : Row) → s.made ≡ 0 → n < length s.rows → AreArrivals s n → AreArrivals s (suc n)
one-more s n d e below before =
    let row : Row = get_or s.rows n d in
    let act : answer (after_acts script_after s n) n ≡ act_of (length (rx_of (take n s.rows)) + 1) row.event row.value =
    rw (acts-made s n e, eq-eqb n n refl) (act-at s.rows n d below) in
    let next : suc n ≡ n + 1 = omega arith in
    let rows : rx_of (take (suc n) s.rows) ≡ rx_of (take n s.rows) ++ rx_of (row ∷ []) = rw next (rx_of-more s.rows n d below) in
    let now = arrivals answer script_after s n in
    let new = brings (act_of (length (rx_of (take n s.rows)) + 1) row.event row.value) in (
      rw (act, rows)
          (length-append now new ∙ rw (before.0, brought-count row.event (length (rx_of (take n s.rows)) + 1) row refl)
          (sym (length-append (rx_of (take n s.rows)) (rx_of (row ∷ []))))),
      rw (act, rows)
          (bytes_of-append now new ∙ rw (before.1, brought-bytes row.event (length (rx_of (take n s.rows)) + 1) row refl)
          (sym (sum_by-append (λ (r : Row). r.value) (rx_of (take n s.rows)) (rx_of (row ∷ []))))),
    )

pub arrivals-are : (s : Script) (n : ℕ) → s.made ≡ 0 → n ≤ length s.rows → AreArrivals s n
arrivals-are s zero e within = (refl, refl)
arrivals-are s (suc n) e within = one-more s n none e (omega (arith, within)) (arrivals-are s n e (omega (arith, within)))
