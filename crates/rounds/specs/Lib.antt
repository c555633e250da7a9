pub mod Rows
pub mod Rounds
pub mod NextRows
pub mod Moments
pub mod RoundEnd
