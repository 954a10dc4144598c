pub mod RunListFacts
