-- Laws of lists of rules, and of a refusal that is passed on.
pub mod RuleLaws
pub mod Passed
