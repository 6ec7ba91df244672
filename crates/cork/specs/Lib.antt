-- What the counter makes of its words before it asks the box.
pub mod CommandLine
