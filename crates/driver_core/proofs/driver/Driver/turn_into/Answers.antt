use Rattle.std.proofs.Common.{◌≡◌, refl}
use Rattle.driver_core.proofs.driver.Driver.turn_into.Goals as goal

pub returns-in-Ok-clause-turns : goal.returns-in-Ok-clause-turns
returns-in-Ok-clause-turns g c =
    let done = c.in-Ok.ensures in
    record {
      interrupted = c.report_interrupts.new.self;
      interrupts = c.report_interrupts.ensures.reports;
      between = c.done.new.self;
      reports = record {
        when = done.when;
        ok = done.ok;
        free = done.free;
        len = done.len;
        going = done.going;
        err = done.err;
        many = done.many;
      };
      asks = λ _. record {
        free = λ _. c.ask_joined_into-mask.ensures.asks;
        busy = λ busy. absurd (busy (c.report_interrupts.ensures.free done.free));
      };
      refused = λ bad. absurd (cc bad);
    }

pub returns-in-Err-NotDue-clause-turns : goal.returns-in-Err-NotDue-clause-turns
returns-in-Err-NotDue-clause-turns g c =
    let done = c.in-Err-NotDue.ensures in
    record {
      interrupted = c.report_interrupts-in-Err-NotDue.new.self;
      interrupts = c.report_interrupts-in-Err-NotDue.ensures.reports;
      between = c.done.new.self;
      reports = record {
        when = done.when;
        ok = done.ok;
        free = done.free;
        len = done.len;
        going = done.going;
        err = done.err;
        many = rw c.in-Err-NotDue.field-0-is at done.many;
      };
      asks = λ _. c.next_joined_into-mask.ensures.asks;
      refused = λ bad. absurd (cc bad);
    }

pub returns-in-Err-TooMany-clause-turns : goal.returns-in-Err-TooMany-clause-turns
returns-in-Err-TooMany-clause-turns g c =
    let done = c.in-Err-TooMany.ensures in
    record {
      interrupted = c.report_interrupts-in-Err-TooMany.new.self;
      interrupts = c.report_interrupts-in-Err-TooMany.ensures.reports;
      between = c.done.new.self;
      reports = record {
        when = done.when;
        ok = done.ok;
        free = done.free;
        len = done.len;
        going = done.going;
        err = done.err;
        many = rw c.in-Err-TooMany.field-0-is at done.many;
      };
      asks = λ good. absurd (good refl);
      refused = λ _. (c.again_into.ensures.asks, refl);
    }
