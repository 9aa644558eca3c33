pub use Rattle.law_lines_translate.proofs as LawLinesTranslate
pub mod LineWords
pub mod LineSteps
pub mod UnmapLemmas
pub mod LineRuns
pub mod FillLemmas
pub mod WorkedGuest
pub mod WorkedLemmas
pub mod WorkedPostLemmas
