pub use Rattle.law_lines_translate.specs.Calls
pub use Rattle.law_lines_translate.specs.Core
pub use Rattle.law_lines_translate.specs.Histories
pub use Rattle.law_lines_translate.specs.Registers
pub use Rattle.law_lines_translate.specs.Words
pub use Rattle.law_lines_translate.specs as LawLinesTranslate
pub mod StayOut
pub mod Fills
pub mod Worked
pub mod WorkedPost
