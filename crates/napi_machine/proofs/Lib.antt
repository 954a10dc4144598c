mod AboutFacts
