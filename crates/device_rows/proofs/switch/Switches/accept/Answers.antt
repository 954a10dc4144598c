use Rattle.std.proofs.Common.{◌≡◌, ◌∙◌, ◌+◌, length, Some, Ok, true, rules, sym}
use Rattle.std.specs.Prelude.{Result, Err, MatchResult}
use Rattle.std.specs.Result.{is_ok}
use Rattle.device_rows.specs.{Row.{device_fits, value_fits}, Switch.{refusal, switch_of}}
use Rattle.device_rows.proofs.SwitchFacts.{tracks-same}
use Rattle.device_rows.proofs.switch.Switches.accept.Goals as goal

pub returns-then-pass-clause-accepted : goal.returns-then-pass-clause-accepted
returns-then-pass-clause-accepted c met earlier tracks number =
    let passes = c.pass.ensures c.if-pass.true c.args.row.moment in
    record { device = passes.device; value = passes.value; in_turn = passes.in_turn earlier tracks (length earlier + 1) }

pub returns-then-pass-clause-tracks : goal.returns-then-pass-clause-tracks
returns-then-pass-clause-tracks c met earlier tracks =
    let passes = c.pass.ensures c.if-pass.true c.args.row.moment in
    tracks-same c.args.self.now.of earlier c.args.row passes.sets tracks

pub returns-then-fits-clause-accepted : goal.returns-then-fits-clause-accepted
returns-then-fits-clause-accepted c met earlier tracks number =
    let device : device_fits c.args.row.event c.args.row.device ≡ true = search rules in
    let value : value_fits c.args.row.event c.args.row.value ≡ true = search rules in
    let ok : is_ok c.admit.result ≡ true = sym c.is_ok.ensures.value ∙ met in
    record {
      device = device;
      value = value;
      in_turn = rw (sym number) (taken c.admit.result _
          (λ fault. refusal c.args.number c.args.row.event (switch_of c.args.row.device earlier) ≡ Some fault)
          (c.admit.ensures.admits earlier tracks) ok);
    }
  where
    taken : {A E : Type 0} (r : Result A E) (P : Type 0) (Q : E → Type 0) → MatchResult r (λ _. P) Q → is_ok r ≡ true → P
    taken (Ok x) P Q h e = h
    taken (Err f) P Q h e = cc e
