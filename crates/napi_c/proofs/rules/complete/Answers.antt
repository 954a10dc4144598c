use Rattle.std.proofs.Common.{refl, arith}
use Rattle.napi_c.proofs.rules.complete.Goals as goal

pub returns-in-21-clause-makes : goal.returns-in-21-clause-makes
returns-in-21-clause-makes c = record {
  said = c.repeat.result;
  completed = c.repeat.new.it;
  completes = c.repeat.ensures;
  ends = record {
    released = λ _. (refl, c.requires, refl);
    again = λ is. absurd (omega (arith, is, c.in-21.is));
    other = λ no _. absurd (no c.in-21.is);
  };
}

pub returns-in-22-clause-makes : goal.returns-in-22-clause-makes
returns-in-22-clause-makes c = record {
  said = c.repeat.result;
  completed = c.repeat.new.it;
  completes = c.repeat.ensures;
  ends = record {
    released = λ is. absurd (omega (arith, is, c.in-22.is));
    again = λ _. (refl, c.queue_granted.ensures.queues);
    other = λ _ no. absurd (no c.in-22.is);
  };
}

pub returns-in_default-clause-makes : goal.returns-in_default-clause-makes
returns-in_default-clause-makes c = record {
  said = c.repeat.result;
  completed = c.repeat.new.it;
  completes = c.repeat.ensures;
  ends = record {
    released = λ is. absurd (omega (arith, is, c.in_default));
    again = λ is. absurd (omega (arith, is, c.in_default));
    other = λ _ _. (refl, c.requires, refl);
  };
}
