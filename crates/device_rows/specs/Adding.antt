-- Appending a row to the vector of rows.
use Rattle.std.specs.Prelude.{◌≡◌, ◌≤◌, ◌+◌, ◌-◌, ℕ, List, [], Ok, Result, Vec, length, vec_capacity, vec_items, vec_len}
use Rattle.csv.specs.{Reading.{default_config, records_from}, declared.parser.State.State}
use Rattle.device_rows.specs.{Switch.Tracks, Trace.{AcceptedAfter, rows_after, with_row}}
use Rattle.device_rows.specs.declared.{fault.TraceFault.TraceFault, row.Row.Row, switch.Switch.Switch}

-- the rows so far, in a vector with room for all, and the table of the switches after them
pub record IsSoFar {A : Type 0} (table : List Switch) (rows : Vec Row A) : Type 0 where
  pub room : 100000 ≤ vec_capacity rows
  pub filled : vec_len rows ≡ length (vec_items rows)
  pub few : length (vec_items rows) ≤ 100000
  pub tracks : Tracks table (vec_items rows)
  pub accepted : AcceptedAfter [] (vec_items rows)

-- the row with these fields was appended; it is allowed after the rows before it
pub record AddsNext {A : Type 0} (version : ℕ) (fields : List (List ℕ)) (table : List Switch) (before after : Vec Row A) : Type 0 where
  pub rows : with_row version (vec_items before) fields ≡ Ok (vec_items after)
  pub count : length (vec_items after) ≡ length (vec_items before) + 1
  pub so_far : IsSoFar table after

-- the rows so far and those of the bytes after them, or the first error among these
abbrev pub rows_with : ℕ → List Row → State → List ℕ → Result (List Row) TraceFault
rows_with version rows state bytes = rows_after version rows (records_from default_config (100001 - length rows) state bytes)
