pub mod Complements
pub mod Checked
pub mod Turns
pub mod Bodies
pub mod Card
pub mod Placing
pub mod Calls
pub mod RoundTrip
