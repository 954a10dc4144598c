-- The progress of busy polling, round by round, and its end.
use Rattle.std.proofs.Common.{ℕ, zero, suc, Bool, true, List, [], ◌++◌, length}
use Rattle.{std.specs.Prelude.nat_lt, napi_model.specs.declared.event.{Call.Call, Operation.{Operation, TheVariants.BusyStop}}}
use Rattle.poll_runs.specs.{Plan.{Action, Does, Plan, ends, ◌>>=◌}, declared.bench.{BusyReport.BusyReport, Next.Next}}
use Rattle.poll_runs.specs.Polling.{BusyPolls, and_poll, busily_from, busy_takes, gives, left_by, makes, no_report, busy_poll_plan, round}
use Rattle.poll_runs.{specs.Polling.{rounds_on}, proofs.PlanFacts.{Leads, leads-from, leads-on, leads-to}}

module _ {I P : Type 0} (tries : Call → Operation → List Operation → Type 0) (did : I → List (Action P) → I → Type 0)
    (nothing : (it : I) → did it [] it)
    (joins : (a b c : I) (first second : List (Action P)) → did a first b → did b second c → did a (first ++ second) c)
    (bytes : List P → ℕ) (thread : Bool) (weight count : ℕ) (start : I) where
  abbrev whole : Plan P (BusyPolls P)
  whole = busy_poll_plan bytes thread weight count

  pub begins : (now : I) → Does tries did busy_takes start true now
      → Leads tries did whole start (rounds_on bytes thread weight count no_report) now
  begins now d =
      leads-on tries did nothing joins whole start busy_takes (busily_from bytes thread weight count) start now true
      (leads-from tries did whole start) d

  pub goes-on : (now after : I) (left : ℕ) (report report' : BusyReport)
      → Leads tries did whole start (rounds_on bytes thread weight (suc left) report) now
      → Does tries did (round bytes thread weight report) now report' after
      → Leads tries did whole start (rounds_on bytes thread weight left report') after
  unfolding rounds_on
  goes-on now after left report report' l d =
      leads-on tries did nothing joins whole start (round bytes thread weight report) (rounds_on bytes thread weight left) now after
      report' l d

  -- all rounds are done: the stop and the last poll follow
  pub stops : (now at given after : I) (report : BusyReport) (last : List P) (next : Next)
      → Leads tries did whole start (rounds_on bytes thread weight zero report) now → Does tries did (makes BusyStop) now tt at
      → Does tries did (gives weight) at last given → Does tries did (left_by thread (nat_lt (length last) weight)) given next after
      → Does tries did whole start (record { report = record (and_poll bytes report last) { next = next }; packets = last }) after
  unfolding rounds_on
  stops now at given after report last next l s p e =
      let end : List P → Next → Plan P (BusyPolls P) =
      λ packets n. ends (record { report = record (and_poll bytes report packets) { next = n }; packets = packets }) in
      let behind : List P → Plan P (BusyPolls P) = λ packets. left_by thread (nat_lt (length packets) weight) >>= end packets in
      let stop = leads-on tries did nothing joins whole start (makes BusyStop) (λ _. gives weight >>= behind) now at tt l s in
      let poll = leads-on tries did nothing joins whole start (gives weight) behind at given last stop p in
      let left =
      leads-on tries did nothing joins whole start (left_by thread (nat_lt (length last) weight)) (end last) given after next poll e in
      leads-to tries did nothing joins whole start after
      (record { report = record (and_poll bytes report last) { next = next }; packets = last }) left
