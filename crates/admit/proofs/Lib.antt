-- Laws of admission.
pub mod AdmitLaws
pub mod Accepted
pub mod LetIn
