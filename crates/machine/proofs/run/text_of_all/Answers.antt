use Rattle.{std.proofs.{lemmas.Result.err_from_is_err_and}}
use Rattle.machine.proofs.run.text_of_all.Goals as goal

pub returns-in_err-take_all-clause-fault : goal.returns-in_err-take_all-clause-fault
returns-in_err-take_all-clause-fault g c =
    let p = err_from_is_err_and c.from_residual-in_err-take_all.result c.from_residual-in_err-take_all.ensures.1 in
    rw (p.1, p.2) (λ bytes known. c.in_err-take_all.ensures.fault _ (c.in_ok-arrivals.ensures.start bytes known))

pub returns-clause-text : goal.returns-clause-text
returns-clause-text g c = λ bytes known.
    let (given, are, taken) = c.in_ok-take_all.ensures.taken _ (c.in_ok-arrivals.ensures.start bytes known) in
    record {
      arrivals = given;
      read = are;
      behind = c.take_all.new.machine;
      taken = rw c.in_ok-machine.ensures.machine at taken;
      finished = c.finish.new.self;
      finishes = c.in_ok-finish.ensures.finishes;
      told = c.in_ok-text.ensures;
    }
