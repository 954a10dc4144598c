mod Outside
mod MessageFacts
mod OutsideFacts
