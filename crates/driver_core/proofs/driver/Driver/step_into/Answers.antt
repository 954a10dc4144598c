use Rattle.driver_core.proofs.driver.Driver.step_into.Goals as goal

pub returns-in-Ok-clause-steps : goal.returns-in-Ok-clause-steps
returns-in-Ok-clause-steps g c =
    let done = c.in-Ok.ensures in
    record {
      between = c.done.new.self;
      reports = record {
        when = done.when;
        ok = done.ok;
        free = done.free;
        len = done.len;
        going = done.going;
        err = done.err;
        many = done.many;
      };
      asks = c.ask_into.ensures.asks;
    }

pub returns-in-Err-NotDue-clause-steps : goal.returns-in-Err-NotDue-clause-steps
returns-in-Err-NotDue-clause-steps g c =
    let done = c.in-Err-NotDue.ensures in
    record {
      between = c.done.new.self;
      reports = record {
        when = done.when;
        ok = done.ok;
        free = done.free;
        len = done.len;
        going = done.going;
        err = done.err;
        many = rw c.in-Err-NotDue.field-0-is at done.many;
      };
      asks = c.next_into.ensures.asks;
    }

pub returns-in-Err-TooMany-clause-steps : goal.returns-in-Err-TooMany-clause-steps
returns-in-Err-TooMany-clause-steps g c =
    let done = c.in-Err-TooMany.ensures in
    record {
      between = c.done.new.self;
      reports = record {
        when = done.when;
        ok = done.ok;
        free = done.free;
        len = done.len;
        going = done.going;
        err = done.err;
        many = rw c.in-Err-TooMany.field-0-is at done.many;
      };
      asks = c.again_into.ensures.asks;
    }
