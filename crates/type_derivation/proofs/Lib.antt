mod HeadSteps
mod InOrder
mod Listed
mod RuleOrder
mod TreeSteps
mod TypeRows
