pub mod RaisedFacts
