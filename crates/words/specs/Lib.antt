pub mod Reading
pub mod Numbers
pub mod Options
pub mod Programs
pub mod Calls
pub mod Commands
pub mod Texts
pub mod Views
