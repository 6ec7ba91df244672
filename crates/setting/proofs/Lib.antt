-- Laws of settings.
pub mod ReadyLaws
pub mod EditionLaws
