-- Laws of codes and their tables.
pub mod Codes
pub mod LabelLaws
pub mod Table
