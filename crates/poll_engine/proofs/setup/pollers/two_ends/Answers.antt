use Rattle.{std.proofs.Common.{sym, vec_items}, poll_engine.proofs.PollerFacts.ends_cut}
use Rattle.poll_engine.proofs.setup.pollers.two_ends.Goals as goal

pub returns-clause-own : goal.returns-clause-own
returns-clause-own g c lists each =
    ends_cut lists _ c.args.poller c.index_mut-own.result.now c.pop-2.new.self (vec_items c.pop.new.self) c.in-Some.one
    c.in-Some-pop.other c.requires.within (sym c.index_mut-own.ensures.value) c.in-Some.ensures.items c.in-Some-pop.ensures.items each
