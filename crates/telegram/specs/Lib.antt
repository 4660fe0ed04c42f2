pub mod Numbers
pub mod Telegram
pub mod Carried
