mod ReasonFacts
mod ModelFacts
mod LeastFacts
