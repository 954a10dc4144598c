use Rattle.driver_core.proofs.driver.Driver.ask_joined_into.Goals as goal

pub returns-clause-asks : goal.returns-clause-asks
returns-clause-asks g c = record { masked = c.join-mask.new.self; joins = c.join-mask.ensures.joins; asks = c.ask_into-todo.ensures.asks }
