mod ClaimFacts
mod LineFacts
