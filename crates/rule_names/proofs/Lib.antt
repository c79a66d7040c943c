mod TermLaws
mod HeadLaws
mod RuleLaws
