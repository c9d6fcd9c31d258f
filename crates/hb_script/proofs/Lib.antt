pub mod PlainLemmas
pub mod ReadableLemmas
pub mod RowLemmas
pub mod SpellingLemmas
pub mod ValueLemmas
