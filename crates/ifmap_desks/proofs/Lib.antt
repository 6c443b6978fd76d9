pub mod HoldingLaws
pub mod FittingAnswers
pub mod LogLaws
pub mod TellingTurns
pub mod Growing
pub mod BookTurns
pub mod PassTurns
pub mod Recalling
